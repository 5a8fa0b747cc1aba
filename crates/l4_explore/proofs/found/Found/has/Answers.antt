use Rattle.std.proofs.Common.{◌≡◌, ◌<◌, ℕ, List, length, Option, None, Some, is_some, IfSome, IfNone, sym, ◌∙◌}
use Rattle.l4_explore.specs.Inner.Codes.{code_at}
use Rattle.l4_explore.specs.Search.{has_code}
use Rattle.l4_explore.specs.Inner.Grown.{seen_of}
use Rattle.l4_explore.specs.Inner.Views.{all_arrived, nodes_from, AreArrivals, Arrived}
use Rattle.l4_explore.proofs.Growing.{has_found, has_none}
use Rattle.l4_explore.proofs.found.Found.has.Goals as goal

module _ (codes : List (List ℕ)) (arrivals : List Arrived) (are : AreArrivals codes arrivals)
    (code : List ℕ) where
  is_found : (found : Option ℕ) →
      IfSome found (λ place. (place < length codes) × (code_at codes place ≡ code)) →
      IfNone found ((place : ℕ) → place < length codes → code_at codes place ≡ code → ⊥) →
      is_some found ≡ has_code (seen_of (nodes_from codes arrivals)) code
  is_found None there absent = sym (has_none codes arrivals are code absent)
  is_found (Some place) there absent =
      sym (has_found codes arrivals are code place there.0 there.1)

pub returns : goal.returns
returns c = rw (← c.self.view_is)
    (c.is_some.ensures
    ∙ is_found c.self.inside.codes (all_arrived c.self.inside.arrivals.items c.self.inside.ends.items)
    c.self.invariant.are c.args.code.now
    c.find.result c.find.ensures.found c.find.ensures.absent)
