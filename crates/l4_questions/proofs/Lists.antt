-- The endings that a search lists, and its last lines.
use Rattle.std.proofs.Common.{◌≡◌, ℕ, Bool, true, false, List, [], ◌∷◌, refl, Global}
use Rattle.std.specs.Prelude.{Vec}
use Rattle.std.specs.List.{AllByRecursion}
use Rattle.l4_model.specs.Machine.{Machine}
use Rattle.l4_all_endings.specs.Tried.{schedules_from, AreLed}
use Rattle.l4_questions.specs.Answers.{last_lines}
use Rattle.l4_questions.specs.Inner.Counted.{has_any, last_lines_if}
use Rattle.l4_questions.specs.Inner.Found.{IsLed}

pub all_led : (m : Machine) (endings : List (Vec ℕ Global)) → AreLed m (schedules_from endings) →
    AllByRecursion (IsLed m) endings
all_led m [] led = tt
all_led m (e ∷ endings) led = (led.0, all_led m endings led.1)

-- What was listed says whether there is any.
pub last_lines_are : {A : Type 0} (endings : List A) (worlds depth : ℕ) (is_whole : Bool) →
    last_lines_if (has_any endings) worlds depth is_whole ≡ last_lines endings worlds depth is_whole
last_lines_are [] worlds depth true = refl
last_lines_are [] worlds depth false = refl
last_lines_are (e ∷ endings) worlds depth is_whole = refl
