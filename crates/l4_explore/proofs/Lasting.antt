-- What is tried stays the same while a search goes on.
use Rattle.std.proofs.Common.{◌≡◌, ℕ, Option, List, subst}
use Rattle.l4_explore.specs.Tries.{State}
use Rattle.l4_explore.specs.Search.{Offers, Seen, AreFound, IsGoneOn, IsSearched, IsStopped, OfferTheSame}

pub same : (a : Offers) → OfferTheSame a a
same a before seen choices = ((λ h. h), (λ h. h))

pub back : (a b : Offers) → OfferTheSame a b → OfferTheSame b a
back a b h before seen choices = ((h before seen choices).1, (h before seen choices).0)

pub after : (a b c : Offers) → OfferTheSame a b → OfferTheSame b c → OfferTheSame a c
after a b c h k before seen choices = (
  (λ x. (k before seen choices).0 ((h before seen choices).0 x)),
  (λ x. (h before seen choices).1 ((k before seen choices).1 x)),
)

pub gone_on_as : (a b : Offers) (found : List Seen) (i : ℕ) → OfferTheSame a b → IsGoneOn a found i → IsGoneOn b found i
gone_on_as a b found i same h = record { choices = h.choices; offered = (same _ _ _).0 h.offered; all_met = h.all_met }

module _ (f g : List ℕ → Option State) (a b : Offers) (found : List Seen) (next : ℕ) (is : f ≡ g) (same : OfferTheSame a b) where
  searched_by : IsSearched f a found next → IsSearched f b found next
  searched_by h = record { all = h.all; within = h.within; gone_on = λ i lt. gone_on_as a b found i same (h.gone_on i lt); before = h.before }

  pub searched_as : IsSearched f a found next → IsSearched g b found next
  searched_as h = subst (λ x. IsSearched x b found next) is (searched_by h)

  stopped_by : IsStopped f a found next → IsStopped f b found next
  stopped_by h = record {
    inside = h.inside;
    gone_on = λ i lt. gone_on_as a b found i same (h.gone_on i lt);
    first = h.first;
    one_more = h.one_more;
    others = h.others;
    offered = (same _ _ _).0 h.offered;
    all_met = h.all_met;
    leads = h.leads;
    new = h.new;
    before = h.before;
  }

  pub stopped_as : IsStopped f a found next → IsStopped g b found next
  stopped_as h = subst (λ x. IsStopped x b found next) is (stopped_by h)
