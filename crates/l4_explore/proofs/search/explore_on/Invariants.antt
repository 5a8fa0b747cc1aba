use Rattle.std.proofs.Common.{ℕ, ◌≡◌, ◌<◌, ◌≤◌, ◌-◌, length, true}
use Rattle.l4_explore.specs.Search.{seen_at, AreWithin, IsSearched, OfferTheSame, Seen}
use Rattle.l4_explore.specs.Told.{ends_among}
use Rattle.l4_explore.proofs.search.explore_on.Given as goal

abbrev pub invariant-loop-next : goal.invariant-loop-next
invariant-loop-next g l = record {
  searched : IsSearched (g.T.Tries.state_of l.fn.tries) (g.T.Tries.offers l.fn.tries) l.found l.next;
  same_states : g.T.Tries.state_of l.tries ≡ g.T.Tries.state_of l.fn.tries;
  same_offers : OfferTheSame (g.T.Tries.offers l.fn.tries) (g.T.Tries.offers l.tries);
  few : length l.found ≤ l.most;
  deep : AreWithin l.found l.depth;
  shallow : (i : ℕ) → i < l.next → length (seen_at l.found i).schedule < l.depth;
  told : g.L.Listener.hears l.fn.listener l.listener (ends_among l.found) true;
  may : (s : Seen) → g.L.Listener.may_hear l.fn.listener s → g.L.Listener.may_hear l.listener s;
}

abbrev pub decreases-loop-next : goal.decreases-loop-next
decreases-loop-next g l = l.most - l.next
