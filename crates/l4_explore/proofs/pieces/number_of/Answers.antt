use Rattle.std.proofs.Common.{◌≡◌, ℕ, Option, None, Some, inl, inr, is_some, false, not, IfNone, ap, ◌∙◌}
use Rattle.l4_explore.proofs.pieces.number_of.Goals.{then-is_none+in_ok-push, else-is_none}
use Rattle.l4_explore.proofs.pieces.number_of.Goals as goal

is_new : (known : Option ℕ) (P : Type 0) → is_some known ≡ false → IfNone known P → P
is_new None P is absent = absent
is_new (Some place) P is absent = cc

pub returns-clause-kept : goal.returns-clause-kept
returns-clause-kept c = elim c.if-is_none.branch [
  | then-is_none+in_ok-push w ↦ inr (
    w.codes-is ∙ w.in_ok-push.ensures.ok,
    is_new c.find-known.result _ (c.is_none.ensures ∙ ap not w.if-is_none.true)
        c.find-known.ensures.absent,
  )
  | else-is_none w ↦ inl w.codes-is
]
