use Rattle.std.proofs.Common.{◌≡◌, ◌≤◌, take}
use Rattle.l4_replay.specs.Inner.Waiting.{count_undecided}
use Rattle.l4_replay.proofs.waiting.count_undecided.Given as goal

abbrev pub invariant-loop-send : goal.invariant-loop-send
invariant-loop-send l = (l.count ≡ count_undecided (take l.send-index l.sends)) × (l.count ≤ l.send-index)
