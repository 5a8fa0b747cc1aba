use Rattle.std.proofs.Common.{◌≡◌, ◌≤◌}
use Rattle.l4_questions.proofs.placed_walked.asked_walk.Given as goal

abbrev pub invariant-loop : goal.invariant-loop
invariant-loop l = record {
  same : l.walks ≡ l.fn.machine;
  few : l.too_long ≤ l.counter;
}
