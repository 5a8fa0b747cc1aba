use Rattle.std.proofs.Common.{true}
use Rattle.l4_explore.specs.Search.{Seen}
use Rattle.l4_explore.proofs.Telling.{GoesOn}
use Rattle.l4_explore.proofs.search.tell.Given as goal

-- The listener was told of the ends before the next place.
abbrev pub invariant-loop-place : goal.invariant-loop-place
invariant-loop-place g l = record {
  told : GoesOn g.L.Listener.hears l.fn.listener l.listener l.found l.from l.place true;
  same : (s : Seen) → g.L.Listener.may_hear l.fn.listener s → g.L.Listener.may_hear l.listener s;
}
