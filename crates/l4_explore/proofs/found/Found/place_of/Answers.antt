use Rattle.std.proofs.Common.{◌≡◌, ◌<◌, ℕ, false, List, length, Option, None, Some, IfSome, IfNone, ◌∙◌, arith}
use Rattle.l4_explore.specs.Inner.Codes.{code_at}
use Rattle.l4_explore.specs.Search.{has_code, seen_at}
use Rattle.l4_explore.specs.Inner.Grown.{seen_of}
use Rattle.l4_explore.specs.Inner.Views.{all_arrived, nodes_from, AreArrivals, Arrived}
use Rattle.l4_explore.proofs.Growing.{code_there, has_none, length-seen}
use Rattle.l4_explore.proofs.found.Found.place_of.Goals as goal

module _ (codes : List (List ℕ)) (arrivals : List Arrived) (are : AreArrivals codes arrivals)
    (code : List ℕ) where
  at : (found : Option ℕ) →
      IfSome found (λ place. (place < length codes) × (code_at codes place ≡ code)) →
      IfSome found (λ place. (place < length (seen_of (nodes_from codes arrivals)))
      × ((seen_at (seen_of (nodes_from codes arrivals)) place).state.code ≡ code))
  at None there = there
  at (Some place) there = (
    omega (arith, there.0, length-seen codes arrivals are),
    code_there codes arrivals are place there.0 ∙ there.1,
  )

  nowhere : (found : Option ℕ) →
      IfNone found ((place : ℕ) → place < length codes → code_at codes place ≡ code → ⊥) →
      IfNone found (has_code (seen_of (nodes_from codes arrivals)) code ≡ false)
  nowhere None absent = has_none codes arrivals are code absent
  nowhere (Some place) absent = absent

pub returns-clause-found : goal.returns-clause-found
returns-clause-found c = rw (← c.self.view_is)
    (at c.self.inside.codes (all_arrived c.self.inside.arrivals.items c.self.inside.ends.items)
    c.self.invariant.are c.args.code.now
    c.find.result c.find.ensures.found)

pub returns-clause-absent : goal.returns-clause-absent
returns-clause-absent c = rw (← c.self.view_is)
    (nowhere c.self.inside.codes (all_arrived c.self.inside.arrivals.items c.self.inside.ends.items)
    c.self.invariant.are c.args.code.now
    c.find.result c.find.ensures.absent)
