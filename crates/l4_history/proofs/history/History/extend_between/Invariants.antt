use Rattle.std.proofs.Common.{◌≡◌, ◌++◌, drop, take}
use Rattle.l4_history.specs.Inner.Rows.{HasMore}
use Rattle.l4_history.proofs.history.History.extend_between.Given as goal

abbrev pub invariant-loop-place : goal.invariant-loop-place
invariant-loop-place l = record {
  rest : l.self.steps ++ drop l.place (take l.end l.other.steps) ≡ l.initial.self.steps ++ drop l.start (take l.end l.other.steps);
  more : HasMore l.initial.self.steps l.self.steps;
}
