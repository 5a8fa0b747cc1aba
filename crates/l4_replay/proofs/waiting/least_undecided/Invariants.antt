use Rattle.std.proofs.Common.{take}
use Rattle.std.specs.List.{AllByRecursion}
use Rattle.l4_replay.specs.Inner.Homes.{IsNotBelow}
use Rattle.l4_replay.proofs.waiting.least_undecided.Given as goal

abbrev pub invariant-loop-send : goal.invariant-loop-send
invariant-loop-send l = AllByRecursion (IsNotBelow l.least) (take l.send-index l.sends)
