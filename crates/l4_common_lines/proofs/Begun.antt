-- The sends that wait after a core run are those that its threads have.
use Rattle.std.proofs.Common.{◌≡◌, ◌⊎◌, inl, inr, ℕ, ◌+◌, ◌<◌, ◌≤◌, Bool, true, false, cond, Option, Some, None, List, [], ◌∷◌, refl, ap, sym, subst, ◌∙◌, arith}
use Rattle.std.specs.Prelude.{is_some}
use Rattle.std.specs.List.{cons_option}
use Rattle.std.proofs.lemmas.List.Sums.{sum_by-cons}
use Rattle.l4_model.specs.Words.{Id}
use Rattle.l4_model.specs.Machine.{Machine}
use Rattle.l4_model.specs.World.{Name, World, opening}
use Rattle.l4_model.specs.Steps.{Step, next}
use Rattle.l4_model.specs.Conditions.{◌>>=◌, Pending, undecided}
use Rattle.l4_model.specs.History.{begun_name, reached, run, waiting}
use Rattle.l4_model.specs.Laws.{begins_of, names, same_name}
use Rattle.l4_model.proofs.Accounted.{opening_pending, pending_is, step_balance}
use Rattle.l4_model.proofs.Chains.{bind_then, some_is}
use Rattle.l4_model.proofs.Places.{same_name_is}
use Rattle.l4_model.proofs.Sends.{effect}
use Rattle.l4_model.proofs.Sound.{AreSound, opening_sound, step_sound}

-- One of these is that one.
abbrev pub Has : {A : Type 0} → A → List A → Type 0
Has x [] = ⊥
Has x (y ∷ ys) = (y ≡ x) ⊎ Has x ys

abbrev counted : Machine → World → Name → ℕ
counted m w s = cond (is_some (undecided m w s)) 1 0

-- What is undecided in the end has begun, or was undecided before.
begun_or_before : (m : Machine) (s : Name) (h : List Step) (w v : World) → run m w h ≡ Some v →
    AreSound m w → counted m v s ≤ begins_of s h + counted m w s
begun_or_before m s [] w v r sound =
    let same : counted m v s ≡ counted m w s = ap (λ x. counted m x s) (sym (some_is w v r)) in
    omega (arith, same)
begun_or_before m s (step ∷ h) w v r sound =
    bind_then (next m w step) (λ u. run m u h) v r λ u is rest.
    let first = step_balance m w u s step (effect m w u step is) sound in
    let others = begun_or_before m s h u v rest (step_sound m w u step is sound) in
    let begun : begins_of s (step ∷ h) ≡ cond (names s (begun_name step)) 1 0 + begins_of s h
    = sum_by-cons (λ x. cond (names s (begun_name x)) 1 0) step h in
    let before = pending_is m w s in
    let after = pending_is m u s in
    omega (arith, first, others, begun, before, after)

begun : (m : Machine) (s : Name) (h : List Step) (w : World) (p : Pending) →
    reached m h ≡ Some w → undecided m w s ≡ Some p → 0 < begins_of s h
begun m s h w p r is =
    let all = begun_or_before m s h (opening m) w r (opening_sound m) in
    let none : counted m (opening m) s ≡ 0 = pending_is m (opening m) s ∙ opening_pending m s in
    let one : counted m w s ≡ 1 = ap (λ (o : Option Pending). cond (is_some o) 1 0) is in
    omega (arith, all, none, one)

-- A send that is undecided and has begun is in the list.
listed : (m : Machine) (w : World) (s : Name) (p : Pending) (h : List Step) →
    undecided m w s ≡ Some p → 0 < begins_of s h → Has (s, p.send.to) (waiting m w h)
listed m w s p [] is some = absurd (omega (arith, some))
listed m w s p (step ∷ h) is some =
    by (begun_name step) refl (listed m w s p h is)
    (sum_by-cons (λ x. cond (names s (begun_name x)) 1 0) step h)
  where
    named : (t : Name) (b : Bool) → same_name s t ≡ b → (o : Option Pending) →
        undecided m w t ≡ o → (0 < begins_of s h → Has (s, p.send.to) (waiting m w h)) →
        begins_of s (step ∷ h) ≡ cond b 1 0 + begins_of s h →
        Has (s, p.send.to) (cons_option (o >>= λ q. Some (t, q.send.to)) (waiting m w h))
    named t true same o at rest count =
        let found : o ≡ Some p = sym at ∙ ap (undecided m w) (sym (same_name_is s t same)) ∙ is in
        subst (λ (o : Option Pending).
        Has (s, p.send.to) (cons_option (o >>= λ q. Some (t, q.send.to)) (waiting m w h)))
        (sym found)
        (inl (ap (λ (n : Name). (n, p.send.to)) (sym (same_name_is s t same))))
    named t false same None at rest count = rest (omega (arith, some, count))
    named t false same (Some q) at rest count = inr (rest (omega (arith, some, count)))

    by : (o : Option Name) → begun_name step ≡ o → (0 < begins_of s h → Has (s, p.send.to) (waiting m w h)) →
        begins_of s (step ∷ h) ≡ cond (names s o) 1 0 + begins_of s h →
        Has (s, p.send.to)
        (cons_option (o >>= λ t. undecided m w t >>= λ q. Some (t, q.send.to)) (waiting m w h))
    by None none rest count = rest (omega (arith, some, count))
    by (Some t) its rest count = named t (same_name s t) refl (undecided m w t) refl rest count

pub is_listed : (m : Machine) (w : World) (s : Name) (p : Pending) (h : List Step) →
    reached m h ≡ Some w → undecided m w s ≡ Some p → Has (s, p.send.to) (waiting m w h)
is_listed m w s p h r is = listed m w s p h is (begun m s h w p r is)

-- What is in the list is undecided.
pub record IsPending (m : Machine) (w : World) (x : Name × Id) : Type 0 where
  pub p : Pending
  pub undecided_is : undecided m w x.0 ≡ Some p
  pub to : p.send.to ≡ x.1

pub is_pending : (m : Machine) (w : World) (h : List Step) (x : Name × Id) →
    Has x (waiting m w h) → IsPending m w x
is_pending m w [] x has = absurd has
is_pending m w (step ∷ h) x has = by (begun_name step) (is_pending m w h x) has
  where
    named : (t : Name) (o : Option Pending) → undecided m w t ≡ o → (Has x (waiting m w h) → IsPending m w x) →
        Has x (cons_option (o >>= λ q. Some (t, q.send.to)) (waiting m w h)) → IsPending m w x
    named t None at rest has = rest has
    named t (Some q) at rest (inl same) = record {
      p = q;
      undecided_is = ap (λ (y : Name × Id). undecided m w y.0) (sym same) ∙ at;
      to = ap (λ (y : Name × Id). y.1) same;
    }
    named t (Some q) at rest (inr has) = rest has

    by : (o : Option Name) → (Has x (waiting m w h) → IsPending m w x) →
        Has x (cons_option (o >>= λ t. undecided m w t >>= λ q. Some (t, q.send.to))
        (waiting m w h)) → IsPending m w x
    by None rest has = rest has
    by (Some t) rest has = named t (undecided m w t) refl rest has
