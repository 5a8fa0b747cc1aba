use Rattle.std.proofs.Common.{◌≡◌, ℕ, List, length, take, true, false, sym, ap, ◌∙◌}
use Rattle.std.specs.Str.{bytes_eq}
use Rattle.std.proofs.lemmas.Slice.Eq.{bytes_eq-Decides}
use Rattle.l4_explore.proofs.Parted.{taken}
use Rattle.l4_explore.proofs.pieces.behind.Goals as goal

never : (a b : List ℕ) → bytes_eq a b ≡ false → a ≡ b → ⊥
never a b is e = let equal : bytes_eq a b ≡ true = (bytes_eq-Decides a b).1 e in cc

pub returns-else-eq-clause-none : goal.returns-else-eq-clause-none
returns-else-eq-clause-none c = λ rest e.
    never c.split_at.result.0.now c.args.part.now (sym c.eq.ensures ∙ c.if-eq.false)
    (c.split_at.ensures.front ∙ ap (take (length c.args.part.now)) (sym e)
    ∙ taken c.args.part.now rest)
