use Rattle.std.proofs.Common.{◌≡◌, ◌<◌, ℕ, Bool, true, false, List, length, get_or, ◌≤◌, ◌⊎◌, inl, inr, sym, ap, subst, ◌∙◌, arith}
use Rattle.std.specs.Str.{bytes_eq}
use Rattle.std.proofs.lemmas.Slice.Eq.{bytes_eq-Decides}
use Rattle.std.proofs.lemmas.Bool.{cases_lt}
use Rattle.std.proofs.lemmas.Grind.{get_or_default_zero}
use Rattle.l4_explore.specs.Inner.Codes.{bucket_of, code_at}
use Rattle.l4_explore.proofs.Chains.{IsComeTo, come_to_last, come_to_before, before_lower}
use Rattle.l4_explore.proofs.row_table.RowTable.find.Goals as goal

-- What a test of two codes tells
same : (a b : List ℕ) (t : Bool) → t ≡ bytes_eq a b → t ≡ true → a ≡ b
same a b t is e = (bytes_eq-Decides a b).0 (sym is ∙ e)

other : (a b : List ℕ) (t : Bool) → t ≡ bytes_eq a b → t ≡ false → a ≡ b → ⊥
other a b t is e h =
    let equal : bytes_eq a b ≡ true = (bytes_eq-Decides a b).1 h in
    cc

pub loop-self-init : goal.loop-self-init
loop-self-init c =
    let lasts = c.self.inside.lasts.items in
    let code = c.args.code.now in
    let count : c.len.result ≡ length lasts = c.len.ensures ∙ c.self.inside.lasts.ok.0 in
    let is : c.bucket.result ≡ bucket_of (length lasts) code =
    c.bucket.ensures.bucket ∙ ap (λ n. bucket_of n code) count in
    let low = c.bucket.ensures.inside in
    subst (IsComeTo (length lasts) c.self.inside.codes code)
    (sym (c.index.ensures
    ∙ get_or_default_zero lasts c.bucket.result c.index.result.now (omega (arith, low, count))
    ∙ ap (λ b. get_or lasts b 0) is))
    (come_to_last c.self.inside.codes lasts c.self.inside.befores.items code c.self.invariant
    (omega (arith, low, count, is)))

pub is_at-requires : goal.is_at-requires
is_at-requires c = rw (← c.self.view_is) c.loop-self.invariant.inside

pub returns-then-place-eq0-clause-absent : goal.returns-then-place-eq0-clause-absent
returns-then-place-eq0-clause-absent c =
    rw (← c.self.view_is)
    (none c.self.inside.codes c.args.code.now c.loop-self.place c.if-place-eq0.true
    c.loop-self.invariant
    (λ e. other (code_at c.args.self.now c.loop-self.place) c.args.code.now c.is_at.result
    c.is_at.ensures c.loop-self-test.true
    (sym (ap (λ (codes : List (List ℕ)). code_at codes c.loop-self.place) c.self.view_is) ∙ e)))
  where
    none : {count : ℕ} → (codes : List (List ℕ)) (code : List ℕ) (place : ℕ) → place ≡ 0 →
        IsComeTo count codes code place → (code_at codes place ≡ code → ⊥) →
        (i : ℕ) → i < length codes → code_at codes i ≡ code → ⊥
    none codes code place is a differs i l e = by (cases_lt place i)
      where
        by : (place < i) ⊎ (i ≤ place) → ⊥
        by (inl m) = a.passed i m l e
        by (inr m) =
            let first : place ≡ i = omega (arith, is) in
            differs (ap (code_at codes) first ∙ e)

pub index-requires-in-loop-self : goal.index-requires-in-loop-self
index-requires-in-loop-self c =
    let l = c.loop-self.invariant.inside in
    omega (arith, l, c.self.invariant.each, c.self.inside.befores.ok.0)

positive : (place : ℕ) → (place ≡ 0 → ⊥) → 0 < place
positive place n = omega (arith, n)

before_is : (c : goal.After-row_known-in-loop-self-1) → c.index-in-loop-self.result.now
    ≡ get_or c.self.inside.befores.items c.loop-self.place 0
before_is c =
    c.index-in-loop-self.ensures
    ∙ get_or_default_zero c.self.inside.befores.items c.loop-self.place
    c.index-in-loop-self.result.now
    (let l = c.loop-self.invariant.inside in omega (arith, l, c.self.invariant.each))

pub loop-self-smaller : goal.loop-self-smaller
loop-self-smaller c =
    let lower = before_lower c.self.inside.codes c.self.inside.lasts.items
    c.self.inside.befores.items c.args.code.now c.self.invariant c.loop-self.place
    c.loop-self.invariant (positive c.loop-self.place c.if-place-eq0.false) in
    omega (arith, lower, before_is c)

pub loop-self-preserved : goal.loop-self-preserved
loop-self-preserved c =
    subst (IsComeTo (length c.self.inside.lasts.items) c.self.inside.codes c.args.code.now)
    (sym (before_is c))
    (come_to_before c.self.inside.codes c.self.inside.lasts.items c.self.inside.befores.items
    c.args.code.now c.self.invariant c.loop-self.place c.loop-self.invariant
    (positive c.loop-self.place c.if-place-eq0.false)
    (λ e. other (code_at c.args.self.now c.loop-self.place) c.args.code.now c.is_at.result
    c.is_at.ensures c.loop-self-test.true
    (sym (ap (λ (codes : List (List ℕ)). code_at codes c.loop-self.place) c.self.view_is) ∙ e)))

pub returns-clause-found : goal.returns-clause-found
returns-clause-found c = (
  rw (← c.self.view_is) c.loop-self.invariant.inside,
  same (code_at c.args.self.now c.loop-self.place) c.args.code.now c.is_at.result c.is_at.ensures
      c.loop-self-test.false,
)
