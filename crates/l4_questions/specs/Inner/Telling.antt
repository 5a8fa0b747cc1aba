-- What is known of endings that were told.
use Rattle.std.specs.Prelude.{Bool, true, false, not, ◌||◌, ◌≡◌, ◌+◌, ◌≤◌, ◌++◌, ℕ, Option, List, length, take}
use Rattle.l4_expect.specs.Expected.{Expected}
use Rattle.l4_questions.specs.Asked.{asked_of}
use Rattle.l4_questions.specs.Beside.{Shown}
use Rattle.l4_questions.specs.Endings.{Ending}
use Rattle.l4_questions.specs.Inner.Counted.{has_any}
use Rattle.l4_questions.specs.Printed.{ending_text, numbered_text, unmet_of}
use Rattle.l4_questions.specs.Told.{Takes}
use Rattle.l4_questions.specs.declared.judged.Told.{Told}
use Rattle.l4_questions.specs.declared.question.Question.{Question}

-- The texts of those that are asked for, behind so many others.
abbrev pub text_behind : (text_of : (number : ℕ) → Ending → List ℕ) → Question → (count : ℕ) →
    List Ending → List ℕ
text_behind text_of q count endings = numbered_text text_of (count + 1) (asked_of q endings)

-- All of these were told.
pub record AllAreTold (takes : Takes) (q : Question) (shown : Shown)
    (expected : Option (List Expected)) (old new : Told) (endings : List Ending) : Type 0 where
  pub taken : takes (text_behind (ending_text shown) q old.count endings) true
  pub unmet :
      new.unmet.items ≡ old.unmet.items ++ text_behind (unmet_of expected) q old.count endings
  pub count : new.count ≡ old.count + length (asked_of q endings)
  pub any : new.is_any ≡ (old.is_any || has_any endings)
  pub whole : new.is_refused ≡ false

-- The first so many were. Not all of that was taken where it is noted.
pub record SomeAreTold (takes : Takes) (q : Question) (shown : Shown) (old new : Told)
    (endings : List Ending) : Type 0 where
  pub count : ℕ
  pub within : count ≤ length endings
  pub taken :
      takes (text_behind (ending_text shown) q old.count (take count endings)) (not new.is_refused)

abbrev pub AreTold : Takes → Question → Shown → (expected : Option (List Expected)) →
    (old new : Told) → List Ending → (more : Bool) → Type 0
AreTold takes q shown expected old new endings true =
    AllAreTold takes q shown expected old new endings
AreTold takes q shown expected old new endings false = SomeAreTold takes q shown old new endings
