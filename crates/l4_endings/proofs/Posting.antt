-- Who may post to whom, found out one by one.
use Rattle.std.proofs.Common.{◌≡◌, ℕ, ◌+◌, ◌/◌, ◌<◌, ◌≤◌, ◌⊎◌, inl, inr, Bool, true, false, ◌||◌, List, length, ap, sym, ◌∙◌, arith}
use Rattle.std.specs.Prelude.{◌==◌, slice_index_or}
use Rattle.std.proofs.lemmas.Bool.{cases_lt, eq-eqb}
use Rattle.l4_model.specs.Machine.{Machine}
use Rattle.l4_parts.specs.declared.parts.Part.{Part}
use Rattle.l4_sets.specs.Inner.Sets.{has, IsClosedUnder}
use Rattle.l4_sets.proofs.Gathering.{or_left, or_right}
use Rattle.l4_endings.specs.Inner.Posted.{may_post_in, IsClosedIn}
use Rattle.l4_endings.specs.Inner.Tried.{is_of}

-- Whether a choice is of the set
pub is_inside : (m : Machine) (set number cpus cpu : ℕ) (in_set b : Bool) → cpus ≡ m.cpus →
    cpu ≡ number / (cpus + 2) → in_set ≡ has set cpu → in_set ≡ b → is_of m set number ≡ b
is_inside m set number cpus cpu in_set b same is told are =
    ap (λ n. has set (number / (n + 2))) (sym same) ∙ ap (has set) (sym is) ∙ sym told ∙ are

-- One more processor that may post
pub with_poster : (may : ℕ → Bool) (old one new from : ℕ) →
    ((cpu : ℕ) → has new cpu ≡ (has old cpu || has one cpu)) →
    ((other : ℕ) → has one other ≡ (from == other)) →
    ((k : ℕ) → k < from → may k ≡ true → has old k ≡ true) → (k : ℕ) → k < from + 1 →
    may k ≡ true → has new k ≡ true
with_poster may old one new from union is before k inside h = union k ∙ by (cases_lt k from)
  where
    by : (k < from) ⊎ (from ≤ k) → (has old k || has one k) ≡ true
    by (inl less) = or_left (has old k) (has one k) (before k less h)
    by (inr least) =
        or_right (has old k) (has one k) (is k ∙ eq-eqb from k (omega (arith, inside, least)))

-- .. or one that may not
pub without_poster : (may : ℕ → Bool) (old from : ℕ) → may from ≡ false →
    ((k : ℕ) → k < from → may k ≡ true → has old k ≡ true) → (k : ℕ) → k < from + 1 →
    may k ≡ true → has old k ≡ true
without_poster may old from none before k inside h = by (cases_lt k from)
  where
    by : (k < from) ⊎ (from ≤ k) → has old k ≡ true
    by (inl less) = before k less h
    by (inr least) =
        let same : k ≡ from = omega (arith, inside, least) in
        let no = sym h ∙ ap may same ∙ none in cc

pub closed_in : (parts : List Part) (row posters : List ℕ) (cpus set : ℕ) → cpus < 17 →
    length posters ≡ cpus →
    ((to from : ℕ) → to < cpus → from < cpus → may_post_in parts row cpus from to ≡ true →
    has (slice_index_or posters to 0) from ≡ true) →
    IsClosedUnder posters set → IsClosedIn parts row cpus set
closed_in parts row posters cpus set few long each closed from to lf lt inside may =
    closed from to (omega (arith, lt, long)) (omega (arith, lf, few)) inside (each to from lt lf may)
