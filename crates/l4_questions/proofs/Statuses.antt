-- What status 0 says, and what it says that nothing is told of what is not met.
use Rattle.std.proofs.Common.{◌≡◌, ℕ, zero, suc, ◌+◌, Bool, true, false, Option, None, Some, List, [], ◌∷◌, ◌++◌, length, refl, ap, sym, ◌∙◌, arith}
use Rattle.std.specs.Prelude.{◌==◌, ◌&&◌, if◌then◌else◌}
use Rattle.std.specs.List.{list_all}
use Rattle.std.proofs.lemmas.Bool.Decides.{nat_tests}
use Rattle.l4_expect.specs.Expected.{Expected}
use Rattle.l4_expect.specs.Unmet.{are_met, expected_status}
use Rattle.l4_questions.specs.Answers.{endings_after, IsAnswer}
use Rattle.l4_questions.specs.Asked.{asked_of}
use Rattle.l4_questions.specs.Endings.{Ending}
use Rattle.l4_questions.specs.Printed.{all_unmet, answer_status, meets, numbered_text, status_of_asked, status_of_search, told_unmet, unmet_of}
use Rattle.l4_questions.specs.Stuck.{is_any, stuck_status}
use Rattle.l4_questions.specs.declared.question.Question.{Question}
use Rattle.l4_questions.specs.declared.question.Wanted.{Wanted}
use Rattle.l4_questions.specs.declared.question.Wanted.TheVariants.{AnEnding, NoEnding, Whatever}
use Rattle.l4_questions.specs.Beside.{Shown}
use Rattle.l4_model.specs.Machine.{Machine}

none : (met : Bool) (asked : List Ending) (is_whole : Bool) →
    0 ≡ expected_status met (status_of_asked NoEnding asked is_whole) →
    (asked ≡ []) × (is_whole ≡ true)
none true [] true is = (refl, refl)
none true [] false is = absurd (omega (arith, is))
none true (e ∷ asked) is_whole is = absurd (omega (arith, is))
none false asked is_whole is = absurd (omega (arith, is))

all_met : (met is_whole : Bool) → 0 ≡ expected_status met (status_of_search is_whole) →
    (met ≡ true) × (is_whole ≡ true)
all_met true true is = (refl, refl)
all_met true false is = absurd (omega (arith, is))
all_met false is_whole is = absurd (omega (arith, is))

some : (met : Bool) (asked : List Ending) (is_whole : Bool) →
    0 ≡ expected_status met (status_of_asked AnEnding asked is_whole) →
    (e : Ending) × ((others : List Ending) × (asked ≡ e ∷ others))
some true (e ∷ asked) is_whole is = (e, (asked, refl))
some true [] true is = absurd (omega (arith, is))
some true [] false is = absurd (omega (arith, is))
some false asked is_whole is = absurd (omega (arith, is))

-- Of the endings that a question asks for

module _ (q : Question) (expected : Option (List Expected)) (endings : List Ending)
    (is_whole : Bool) (zero_is : 0 ≡ answer_status expected q endings is_whole) where
  of : (wanted : Wanted) → q.wanted ≡ wanted →
      0 ≡ expected_status (list_all (meets expected) (asked_of q endings))
      (status_of_asked wanted (asked_of q endings) is_whole)
  of wanted is =
      zero_is ∙ ap (λ (w : Wanted). expected_status (list_all (meets expected) (asked_of q endings))
      (status_of_asked w (asked_of q endings) is_whole)) is

  pub none_by_status : q.wanted ≡ NoEnding → (asked_of q endings ≡ []) × (is_whole ≡ true)
  none_by_status is = none _ (asked_of q endings) is_whole (of NoEnding is)

  pub met_by_status : q.wanted ≡ Whatever →
      (list_all (meets expected) (asked_of q endings) ≡ true) × (is_whole ≡ true)
  met_by_status is = all_met _ is_whole (of Whatever is)

  pub some_by_status : q.wanted ≡ AnEnding →
      (e : Ending) × ((others : List Ending) × (asked_of q endings ≡ e ∷ others))
  some_by_status is = some _ (asked_of q endings) is_whole (of AnEnding is)

-- Of threads that are stuck for ever: it is the status without them too, and where there should be
-- none, there is none, and the search for them was whole.

without : (wanted : Wanted) (is_any is_whole : Bool) (status : ℕ) →
    0 ≡ stuck_status wanted is_any is_whole status → 0 ≡ status
without NoEnding true is_whole status is = absurd (omega (arith, is))
without NoEnding false true status is = is
without NoEnding false false zero is = refl
without NoEnding false false (suc status) is = is
without Whatever is_any true status is = is
without Whatever is_any false zero is = refl
without Whatever is_any false (suc status) is = is
without AnEnding is_any is_whole status is = is

pub status_told : {m : Machine} {q : Question} {shown : Shown} {expected : Option (List Expected)}
    {lines unmet : List ℕ} → (a : IsAnswer m q shown expected lines unmet 0) →
    0 ≡ answer_status expected q (endings_after m a.traces) a.is_whole
status_told {m} {q} a =
    without q.wanted (is_any a.stuck) a.is_stuck_whole a.told_status a.status_is
    ∙ a.told.status_is

pub nobody : (is_any is_whole : Bool) (status : ℕ) →
    0 ≡ stuck_status NoEnding is_any is_whole status → (is_any ≡ false) × (is_whole ≡ true)
nobody true is_whole status is = absurd (omega (arith, is))
nobody false true status is = (refl, refl)
nobody false false zero is = absurd (omega (arith, is))
nobody false false (suc status) is = absurd (omega (arith, is))

-- Nothing is told exactly where all meet what is expected.

above : (n : ℕ) → (suc n == 0) ≡ false
above n = grind (arith, nat_tests)

pub none_told : (expected : Option (List Expected)) (number : ℕ) (endings : List Ending) →
    (length (numbered_text (unmet_of expected) number endings) == 0)
    ≡ list_all (meets expected) endings
none_told expected number [] = refl
none_told None number (e ∷ endings) = none_told None (number + 1) endings
none_told (Some expected) number (e ∷ endings) =
    by (are_met e.report expected) (none_told (Some expected) (number + 1) endings)
  where
    rest : List ℕ
    rest = numbered_text (unmet_of (Some expected)) (number + 1) endings

    by : (met : Bool) → (length rest == 0) ≡ list_all (meets (Some expected)) endings →
        (length ((if met then [] else told_unmet expected number e) ++ rest) == 0)
        ≡ (met && list_all (meets (Some expected)) endings)
    by true others = others
    by false others = above _

pub all_told : (expected : Option (List Expected)) (q : Question) (endings : List Ending) →
    [] ≡ all_unmet expected q endings → list_all (meets expected) (asked_of q endings) ≡ true
all_told expected q endings told =
    sym (none_told expected 1 (asked_of q endings))
    ∙ ap (λ (told : List ℕ). length told == 0) (sym told)
