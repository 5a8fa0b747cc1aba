use Rattle.std.proofs.Common.{take}
use Rattle.l4_endings.specs.Inner.Walked.{IsWalked}
use Rattle.l4_endings.proofs.walks.walk_to.Given as goal

-- The choices before the next one were made.
abbrev pub invariant-loop-number : goal.invariant-loop-number
invariant-loop-number l = IsWalked l.aims (take l.number-index l.numbers) l.walk
