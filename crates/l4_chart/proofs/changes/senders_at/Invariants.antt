use Rattle.std.proofs.Common.{◌≡◌, ◌++◌}
use Rattle.std.specs.String.{string_bytes}
use Rattle.l4_model.specs.World.{list_at}
use Rattle.l4_chart.specs.Changes.{sender_words}
use Rattle.l4_chart.proofs.changes.senders_at.Given as goal

-- With the senders that are left it has all.
abbrev pub invariant-loop-sender : goal.invariant-loop-sender
invariant-loop-sender l =
    string_bytes l.senders ++ sender_words l.world.machine l.sender-iterator ≡ sender_words l.world.machine (list_at l.world.world.waiting l.place)
