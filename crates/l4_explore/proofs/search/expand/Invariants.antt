use Rattle.std.proofs.Common.{◌≤◌, length, map}
use Rattle.l4_explore.specs.Search.{seen_at}
use Rattle.l4_explore.specs.Inner.Told.{AreMore}
use Rattle.l4_explore.specs.Inner.Views.{next_from}
use Rattle.l4_explore.proofs.Trying.{GoingOn}
use Rattle.l4_explore.proofs.search.expand.Given as goal

-- What was found so far, and the choices that are left.
abbrev pub invariant-loop-choice : goal.invariant-loop-choice
invariant-loop-choice g l = record {
  going : GoingOn (g.T.Tries.state_of l.fn.tries) (g.T.Tries.offers l.fn.tries) l.found l.next
      (seen_at l.fn.found l.next) (map next_from l.choice-iterator.rest.items);
  more : AreMore l.fn.found l.found;
  few : length l.found ≤ l.most;
}
