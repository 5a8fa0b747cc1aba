use Rattle.std.proofs.Common.{◌≡◌, ◌++◌, ◌∷◌, [], length, ap, ◌∙◌, arith}
use Rattle.l4_explore.specs.Inner.Grown.{seen_of}
use Rattle.l4_explore.specs.Inner.Views.{all_arrived, nodes_from}
use Rattle.l4_explore.specs.declared.found.Arrival.{Arrival}
use Rattle.l4_explore.proofs.Growing.{kept_more, length-seen, seen_kept}
use Rattle.l4_explore.proofs.found.Found.add.Goals as goal

abbrev arrival : goal.After-drop-reached-2 → Arrival
arrival c = record { from = c.args.from; entry = c.args.entry }

pub push-requires : goal.push-requires
push-requires c = omega (
  arith,
  c.requires.few,
  ap length c.self.view_is,
  length-seen c.self.inside.codes
      (all_arrived c.self.inside.arrivals.items c.self.inside.ends.items) c.self.invariant.are,
)

codes_are : (c : goal.After-drop-reached-2) →
    c.push.new.self ≡ c.self.inside.codes ++ c.args.reached.code.items ∷ []
codes_are c = c.in_ok-push.ensures.ok
    ∙ ap (λ code. c.self.inside.codes ++ code ∷ []) c.deref.ensures.value

arrivals_are : (c : goal.After-drop-reached-2) →
    c.push_reserved.new.self.items ≡ c.self.inside.arrivals.items ++ arrival c ∷ []
arrivals_are c = c.push_reserved.ensures.items
    ∙ ap (λ arrivals. arrivals ++ arrival c ∷ []) c.reserve.ensures.items

ends_are : (c : goal.After-drop-reached-2) →
    c.push_reserved-2.new.self.items ≡ c.self.inside.ends.items ++ c.args.reached.is_end ∷ []
ends_are c = c.push_reserved-2.ensures.items
    ∙ ap (λ ends. ends ++ c.args.reached.is_end ∷ []) c.reserve-2.ensures.items

pub invariant_of-self-2 : goal.invariant_of-self-2
invariant_of-self-2 c =
    rw (codes_are c) (rw (arrivals_are c) (rw (ends_are c)
    (kept_more c.self.inside.codes c.self.inside.arrivals.items c.self.inside.ends.items
    c.self.invariant c.args.reached.code.items (arrival c) c.args.reached.is_end
    (rw c.self.view_is c.requires.from))))

pub returns-clause-ok : goal.returns-clause-ok
returns-clause-ok c =
    rw (← c.self.view_is)
    (ap (λ codes. seen_of (nodes_from codes
    (all_arrived c.push_reserved.new.self.items c.push_reserved-2.new.self.items))) (codes_are c)
    ∙ ap (λ arrivals. seen_of (nodes_from (c.self.inside.codes ++ c.args.reached.code.items ∷ [])
    (all_arrived arrivals c.push_reserved-2.new.self.items))) (arrivals_are c)
    ∙ ap (λ ends. seen_of (nodes_from (c.self.inside.codes ++ c.args.reached.code.items ∷ [])
    (all_arrived (c.self.inside.arrivals.items ++ arrival c ∷ []) ends))) (ends_are c)
    ∙ seen_kept c.self.inside.codes c.self.inside.arrivals.items c.self.inside.ends.items
    c.self.invariant c.args.reached.code.items (arrival c) c.args.reached.is_end
    (rw c.self.view_is c.requires.from))
