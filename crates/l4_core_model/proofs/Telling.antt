-- What events tell, one after another.
use Rattle.std.proofs.Common.{[], ◌≡◌, Option, Some, None, List, ◌∷◌, ◌++◌, refl, ap, sym, ◌∙◌, append_assoc}
use Rattle.l4_model.specs.Machine.{Machine}
use Rattle.l4_model.specs.World.{World}
use Rattle.l4_model.specs.Steps.{Step, next}
use Rattle.l4_model.specs.Conditions.{◌>>=◌}
use Rattle.l4_model.specs.History.{run}
use Rattle.l4_core_model.specs.Runs.{Event, told}

-- A core run so far
pub run-append : (m : Machine) (xs ys : List Step) (w : World) → run m w (xs ++ ys) ≡ (run m w xs >>= λ v. run m v ys)
run-append m [] ys w = refl
run-append m (x ∷ xs) ys w = by (next m w x) (λ v. run-append m xs ys v)
  where
    by : (o : Option World) → ((v : World) → run m v (xs ++ ys) ≡ (run m v xs >>= λ u. run m u ys)) → (o >>= λ v. run m v (xs ++ ys)) ≡ ((o >>= λ v. run m v xs) >>= λ v. run m v ys)
    by None rest = refl
    by (Some v) rest = rest v

append_nil : {A : Type 0} (xs : List A) → xs ++ [] ≡ xs
append_nil [] = refl
append_nil (x ∷ xs) = ap (λ ys. x ∷ ys) (append_nil xs)

pub told-last : (es : List Event) (e : Event) → told (es ++ e ∷ []) ≡ told es ++ e.steps
told-last [] e = append_nil e.steps
told-last (x ∷ es) e = ap (λ ys. x.steps ++ ys) (told-last es e) ∙ sym (append_assoc x.steps (told es) e.steps)
