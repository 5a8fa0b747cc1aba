-- Two partners between whom a retarget is owed.
use Rattle.std.specs.Prelude.{if◌then◌else◌}
use Rattle.std.specs.Option.{option_map}
use Rattle.l4_model.specs.Words.{GlobalId, GlobalThread, is_id_of}
use Rattle.l4_model.specs.World.{Name, Receive, Send, Owed}

-- What an owed retarget does to its originator depends on its partners alone. The name of the send
-- and the originator do not matter.
abbrev pub owed_between : (send : Name) → (originator old_partner new_partner : GlobalId) → Owed
owed_between send originator old_partner new_partner =
    record {
      send = send;
      originator = originator;
      old_partner = old_partner;
      new_partner = new_partner;
    }

-- A receive phase, and that of a send, is for the new partner where it was for the old one alone.
abbrev pub turned_from : (old_partner new_partner : GlobalId) → Receive → Receive
turned_from old_partner new_partner receive = if is_id_of receive.from old_partner
    then record receive { from = GlobalThread new_partner } else receive

abbrev pub send_turned_from : (old_partner new_partner : GlobalId) → Send → Send
send_turned_from old_partner new_partner send =
    record send { receive = option_map (turned_from old_partner new_partner) send.receive }
