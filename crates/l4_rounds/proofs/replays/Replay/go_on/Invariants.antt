use Rattle.std.proofs.Common.{◌≡◌, ◌-◌}
use Rattle.l4_rounds.proofs.Replaying.{most_of, IsGoing}
use Rattle.l4_rounds.proofs.replays.Replay.go_on.Given as goal

abbrev pub invariant-loop-done : goal.invariant-loop-done
invariant-loop-done l = record {
  going : IsGoing l.initial.self l.turns (l.turns - l.done) l.self;
  most : l.most ≡ most_of l.initial.self l.turns;
}
