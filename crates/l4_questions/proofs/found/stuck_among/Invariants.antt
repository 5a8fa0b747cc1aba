use Rattle.std.proofs.Common.{◌≡◌, take}
use Rattle.l4_questions.specs.Inner.Found.{stuck_among}
use Rattle.l4_questions.proofs.found.stuck_among.Given as goal

abbrev pub invariant-loop-waiting : goal.invariant-loop-waiting
invariant-loop-waiting l = l.stuck.items ≡ stuck_among (take l.waiting-index l.waits)
