-- The line at two places.
use Rattle.std.proofs.Common.{◌≡◌, ℕ, Option, Some, None, List, map, option_and_then, refl, sym, ap, ◌∙◌}
use Rattle.std.specs.Prelude.{option_map, slice_get}
use Rattle.std.proofs.lemmas.Option.{slice_get-map}

through : {V : Type 0} (view : V → List ℕ) (o : Option V) (place : ℕ) →
    option_and_then (λ v. slice_get (view v) place) o ≡ option_and_then (λ lines. slice_get lines place) (option_map view o)
through view None place = refl
through view (Some v) place = refl

pub line_at : {V : Type 0} (view : V → List ℕ) (scripts : List V) (lines : List (List ℕ)) (thread place : ℕ) → lines ≡ map view scripts →
    option_and_then (λ v. slice_get (view v) place) (slice_get scripts thread) ≡ option_and_then (λ ls. slice_get ls place) (slice_get lines thread)
line_at view scripts lines thread place e =
    through view (slice_get scripts thread) place
    ∙ ap (option_and_then (λ ls. slice_get ls place)) (sym (slice_get-map view scripts thread) ∙ ap (λ l. slice_get l thread) (sym e))
