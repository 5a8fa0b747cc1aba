-- What was told of all endings is the answer, with the lines behind them.
use Rattle.std.proofs.Common.{◌≡◌, ◌+◌, ℕ, Bool, true, cond, Option, List, [], ◌∷◌, ◌++◌, length, refl, ap, ap₂, sym, ◌∙◌, append-nil}
use Rattle.std.specs.Prelude.{◌==◌}
use Rattle.l4_expect.specs.Expected.{Expected}
use Rattle.l4_expect.specs.Unmet.{expected_status}
use Rattle.l4_questions.specs.Asked.{asked_of, is_asked}
use Rattle.l4_questions.specs.Beside.{Shown}
use Rattle.l4_questions.specs.Endings.{Ending}
use Rattle.l4_questions.specs.Inner.Counted.{IsCounted}
use Rattle.l4_questions.specs.Inner.Telling.{text_behind}
use Rattle.l4_questions.specs.Printed.{ending_text, endings_text, numbered_text, status_of_asked, unmet_of, IsTold}
use Rattle.l4_questions.specs.declared.judged.Told.{Told}
use Rattle.l4_questions.specs.declared.question.Question.{Question}
use Rattle.l4_questions.proofs.Statuses.{none_told}

pub finished : (q : Question) (shown : Shown) (expected : Option (List Expected))
    (endings : List Ending) (t : Told) (last unmet : List ℕ) (is_whole : Bool) (asked status : ℕ) →
    IsCounted q expected endings t → unmet ≡ t.unmet.items →
    asked ≡ status_of_asked q.wanted (asked_of q endings) is_whole →
    status ≡ expected_status (length unmet == 0) asked →
    IsTold q shown expected endings last is_whole (endings_text shown q endings ++ last) unmet status
finished q shown expected endings t last unmet is_whole asked status had same by is =
    let told = same ∙ had.unmet in
    record {
      lines_are = refl;
      unmet_are = told;
      status_is =
          is
          ∙ ap₂ expected_status
          (ap (λ (told : List ℕ). length told == 0) told
          ∙ none_told expected 1 (asked_of q endings)) by;
    }

-- One ending alone
module _ (q : Question) (e : Ending) (asked : is_asked q e ≡ true) where
  asked_one : asked_of q (e ∷ []) ≡ e ∷ []
  asked_one = ap (λ (b : Bool). cond b (e ∷ []) []) asked

  pub one_behind : (text_of : ℕ → Ending → List ℕ) (count : ℕ) →
      text_of (count + 1) e ≡ text_behind text_of q count (e ∷ [])
  one_behind text_of count =
      sym (append-nil (text_of (count + 1) e))
      ∙ ap (λ es. numbered_text text_of (count + 1) es) (sym asked_one)

  pub one_text : (shown : Shown) → ending_text shown 1 e ≡ endings_text shown q (e ∷ [])
  one_text shown =
      sym (append-nil (ending_text shown 1 e))
      ∙ ap (λ es. numbered_text (ending_text shown) 1 es) (sym asked_one)

  pub one_counted : (expected : Option (List Expected)) (t : Told) →
      t.unmet.items ≡ unmet_of expected 1 e → t.count ≡ 1 → IsCounted q expected (e ∷ []) t
  one_counted expected t unmet count = record {
    unmet =
        unmet ∙ sym (append-nil (unmet_of expected 1 e))
        ∙ ap (λ es. numbered_text (unmet_of expected) 1 es) (sym asked_one);
    count = count ∙ sym (ap length asked_one);
  }
