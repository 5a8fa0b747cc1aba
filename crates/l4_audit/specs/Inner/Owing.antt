-- Owed retargets as the program has them.
use Rattle.std.specs.Prelude.{Bool, ◌&&◌}
use Rattle.l4_model.specs.Words.{GlobalId, Id, same_id, is_id_of}
use Rattle.l4_model.specs.World.{Name, same_name}
use Rattle.l4_types.specs.declared.owed.Owed.{Owed}

abbrev pub is_of_name : Name → Owed → Bool
is_of_name name o = same_name name o.send

-- This owed retarget holds up a send of this thread to this destination.
abbrev pub holds_up : (sender : GlobalId) → (to : Id) → Owed → Bool
holds_up sender to o = same_id sender o.new_partner && is_id_of to o.originator
