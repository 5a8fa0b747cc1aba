-- The sends that are sought among steps.
use Rattle.std.proofs.Common.{◌≡◌, ℕ, zero, suc, ◌+◌, ◌-◌, ◌<◌, ◌≤◌, false, Option, Some, None, List, [], ◌∷◌, ◌++◌, refl, drop, take, length, append_assoc, append-nil, ap, sym, ◌∙◌, subst, inl, inr, ◌⊎◌, arith}
use Rattle.std.specs.Prelude.{IfSome, filter_map, get_or, is_some, slice_get}
use Rattle.std.specs.Option.{option_to_list}
use Rattle.std.specs.List.{cons_option}
use Rattle.std.proofs.lemmas.Option.{slice_get_cases}
use Rattle.l4_model.specs.Steps.{Step}
use Rattle.l4_core_model.specs.Runs.{told, Event}
use Rattle.l4_history.proofs.Read.{take_next}
use Rattle.l4_model.proofs.Chains.{some_is}

-- One step more is read.
pub more_found : {A : Type 0} (f : Step → Option A) (h : List Step) (end place : ℕ) (olds news : List A) (o : Option A) (all : List A) →
    end ≤ length h → place < end → IfSome (slice_get h place) (λ step. o ≡ f step) → news ≡ olds ++ option_to_list o →
    olds ++ filter_map f (drop place (take end h)) ≡ all → news ++ filter_map f (drop (place + 1) (take end h)) ≡ all
more_found {A} f h end place olds news o all within before found grown so_far = by (slice_get_cases h place).1
  where
    rest : List A
    rest = filter_map f (drop (place + 1) (take end h))

    one : (o : Option A) → (olds ++ option_to_list o) ++ rest ≡ olds ++ cons_option o rest
    one None = ap (λ (xs : List A). xs ++ rest) (append-nil olds)
    one (Some x) = append_assoc olds (x ∷ []) rest

    by : ((x : Step) × (place < length h) × (slice_get h place ≡ Some x) × (get_or h place x ≡ x)) ⊎ ((length h ≤ place) × (slice_get h place ≡ None)) →
        news ++ rest ≡ all
    by (inl (x, _, at, is)) =
        let told : o ≡ f x = subst (λ (s : Option Step). IfSome s (λ step. o ≡ f step)) at found in
        ap (λ (xs : List A). xs ++ rest) grown ∙ one o ∙ ap (λ (o : Option A). olds ++ cons_option o rest) told
        ∙ ap (λ (steps : List Step). olds ++ filter_map f steps) (sym (take_next h end place x within before at)) ∙ so_far
    by (inr past) = let least : length h ≤ place = past.0 in absurd (omega arith)

pub none_found : {A : Type 0} (o : Option A) → is_some o ≡ false → [] ≡ option_to_list o
none_found None none = refl
none_found (Some x) none = absurd cc

-- What one event more leaves of a log.

pub one_less : (es : List Event) (n : ℕ) (e : Event) → slice_get es n ≡ Some e → drop n es ≡ e ∷ drop (n + 1) es
one_less [] n e at = absurd cc
one_less (x ∷ es) zero e at = ap (λ x. x ∷ es) (some_is x e at)
one_less (x ∷ es) (suc n) e at =
    let next : suc (n + 1) ≡ suc n + 1 = omega arith in
    one_less es n e at ∙ ap (λ k. e ∷ drop k (x ∷ es)) next
