-- What is so of the endings that were found is so of each one that a listed one stands for.
use Rattle.std.proofs.Common.{◌≡◌, ℕ, zero, suc, Bool, true, false, not, cond, Option, Some, None, Ok, Err, List, [], ◌∷◌, refl, ap, ap₂, subst, sym, ◌∙◌}
use Rattle.std.specs.Prelude.{◌&&◌, filter, is_none, slice_get}
use Rattle.std.specs.List.{list_all, list_any}
use Rattle.std.specs.Option.{option_copied, option_map}
use Rattle.std.proofs.lemmas.Bool.{and_parts}
use Rattle.l4_model.specs.Words.{GlobalId}
use Rattle.l4_model.specs.Machine.{Machine}
use Rattle.l4_model.specs.World.{World}
use Rattle.l4_model.specs.Steps.{Step}
use Rattle.l4_model.specs.History.{reached}
use Rattle.l4_model.proofs.Chains.{some_is}
use Rattle.l4_common_lines.specs.CommonLines.{may_be_asked, HaveLinesInCommon}
use Rattle.l4_common_lines.proofs.Expected.{met_alike}
use Rattle.l4_common_lines.proofs.Lines.{lines_in_common}
use Rattle.l4_expect.specs.Expected.{Expected}
use Rattle.l4_expect.specs.Columns.{may_be_line}
use Rattle.l4_expect.specs.Judging.{has_early_rest, wrong_by, wrong_of_ending, wrong_of_words}
use Rattle.l4_expect.specs.declared.judging.Scope.TheVariants.{Endings}
use Rattle.l4_expect.specs.declared.judging.Wrong.{Wrong}
use Rattle.l4_expect.specs.declared.judging.Wrong.TheVariants.{BadLine}
use Rattle.l4_expect.specs.Unmet.{are_met}
use Rattle.l4_bisimilar.specs.InCommon.{HaveInCommon}
use Rattle.l4_lines.specs.Lines.{line_fault}
use Rattle.l4_lines.specs.declared.lines.LineFault.{LineFault}
use Rattle.l4_lines.specs.declared.lines.LineFault.TheVariants as line
use Rattle.l4_script.specs.Judged.{Judged}
use Rattle.l4_script.specs.Lines.{line_of}
use Rattle.l4_types.specs.declared.reports.Ending.TheVariants.{Quiet}
use Rattle.l4_words.specs.Words.{words_in}
use Rattle.l4_questions.specs.Answers.{ending_after, ending_in, ending_or_none}
use Rattle.l4_questions.specs.Asked.{asked_of, has_asked, if_stuck, is_asked, lacks_asked}
use Rattle.l4_questions.specs.Endings.{Ending}
use Rattle.l4_questions.specs.Limits.{first_fault, limits_fault, line_fault_at, lines_fault, question_fault}
use Rattle.l4_questions.specs.Printed.{meets}
use Rattle.l4_questions.specs.Resting.{counts, stuck_in}
use Rattle.l4_questions.specs.Runs.{AsksForLines, may_ask}
use Rattle.l4_questions.specs.declared.question.Question.{Question}
use Rattle.l4_questions.specs.declared.question.QuestionFault.{QuestionFault}
use Rattle.l4_questions.specs.declared.question.QuestionFault.TheVariants.{Line}

-- Two endings whose reports have lines in common, and that are stuck alike
pub record AreLike (e f : Ending) : Type 0 where
  pub common : HaveLinesInCommon e.report f.report
  pub stuck : e.stuck ≡ f.stuck

-- So are those of worlds that have in common what is told of them.
pub worlds_like : (m : Machine) (h k : List Step) (w v : World) → reached m h ≡ Some w →
    reached m k ≡ Some v → HaveInCommon m w v → stuck_in m w ≡ stuck_in m v →
    AreLike (ending_in m h w) (ending_after m k)
worlds_like m h k w v here there alike stuck =
    subst (AreLike (ending_in m h w)) (sym (ap (ending_or_none m k) there)) (record {
      common = lines_in_common m w v alike h k Quiet here there;
      stuck = stuck;
    })

no_fault : (fault : Option LineFault) → is_none fault ≡ true → fault ≡ None
no_fault None is = refl
no_fault (Some fault) is = cc

-- A question asks for both of them, or for neither.
module _ (e f : Ending) (like : AreLike e f) where
  has_alike : (o : Option (List ℕ)) → may_ask o ≡ true →
      has_asked o e.report ≡ has_asked o f.report
  has_alike None may = refl
  has_alike (Some line) may = like.common line (no_fault (line_fault line) may)

  lacks_alike : (o : Option (List ℕ)) → may_ask o ≡ true →
      lacks_asked o e.report ≡ lacks_asked o f.report
  lacks_alike None may = refl
  lacks_alike (Some line) may = ap not (like.common line (no_fault (line_fault line) may))

  pub asked_alike : (q : Question) → AsksForLines q → is_asked q e ≡ is_asked q f
  asked_alike q may =
      ap₂ (λ (lines none : Bool). lines && none)
      (ap₂ (λ (stuck : List GlobalId) (some : Bool). if_stuck q.stuck (list_any (counts q) stuck) && some) like.stuck
      (has_alike (option_copied q.with_line) may.with_line))
      (lacks_alike (option_copied q.never) may.never)

-- A question without a fault asks for lines that may be asked for.

by_fault : (may_be : Bool) (fault : Option LineFault) → wrong_by Endings may_be fault ≡ None → is_none fault ≡ true
by_fault may_be (Some line.Unknown) none = cc
by_fault true (Some line.Deleted) none = cc
by_fault false (Some line.Deleted) none = cc
by_fault true (Some line.Number) none = cc
by_fault false (Some line.Number) none = cc
by_fault may_be None none = refl

of_line : (early may_be : Bool) (fault : Option LineFault) →
    cond early (Some BadLine) (wrong_by Endings may_be fault) ≡ None → is_none fault ≡ true
of_line true may_be fault none = cc
of_line false may_be fault none = by_fault may_be fault none

of_words : (words : Judged (Option (List (List ℕ)))) (asked : List ℕ) → wrong_of_words words asked ≡ None →
    is_none (line_fault asked) ≡ true
of_words (Ok (Some words)) asked none =
    of_line (has_early_rest (words_in asked)) (may_be_line (words_in asked)) (line_fault asked) none
of_words (Ok None) asked none = cc
of_words (Err kind) asked none = cc

none_mapped : (number : ℕ) (wrong : Option Wrong) → option_map (Line number) wrong ≡ None → wrong ≡ None
none_mapped number None none = refl
none_mapped number (Some wrong) none = cc

line_may : (number : ℕ) (asked : Option (List ℕ)) → line_fault_at number asked ≡ None → may_ask asked ≡ true
line_may number None none = refl
line_may number (Some asked) none =
    of_words (line_of asked) asked (none_mapped number (wrong_of_ending asked) none)

both_none : (one other : Option QuestionFault) → first_fault one other ≡ None → (one ≡ None) × (other ≡ None)
both_none None other none = (refl, none)
both_none (Some fault) other none = absurd (let bad = none in cc)

lines_may : (with_line never : Option (List ℕ)) → lines_fault with_line never ≡ None →
    (may_ask with_line ≡ true) × (may_ask never ≡ true)
lines_may None never none = (refl, line_may 1 never none)
lines_may (Some asked) never none =
    let all = both_none (line_fault_at 1 (Some asked)) (line_fault_at 2 never) none in
    (line_may 1 (Some asked) all.0, line_may 2 never all.1)

pub asks_for_lines : (q : Question) → question_fault q ≡ None → AsksForLines q
asks_for_lines q lawful =
    let with_line = option_copied q.with_line in
    let never = option_copied q.never in
    let may = lines_may with_line never (both_none (lines_fault with_line never) (limits_fault q) lawful).0 in
    record { with_line = may.0; never = may.1 }

-- What is so of all elements that pass a test is so of the one at a place, if it passes.
all_at : {A : Type 0} (p is_so : A → Bool) (xs : List A) (i : ℕ) (x : A) →
    slice_get xs i ≡ Some x → list_all is_so (filter p xs) ≡ true → p x ≡ true → is_so x ≡ true
all_at p is_so [] i x at all passes = cc
all_at {A} p is_so (y ∷ xs) i x at all passes = by i at (p y) refl all (all_at p is_so xs)
  where
    others : List A
    others = filter p xs

    by : (i : ℕ) → slice_get (y ∷ xs) i ≡ Some x → (b : Bool) → p y ≡ b →
        list_all is_so (cond b (y ∷ others) others) ≡ true →
        ((i : ℕ) (x : A) → slice_get xs i ≡ Some x → list_all is_so others ≡ true →
        p x ≡ true → is_so x ≡ true) → is_so x ≡ true
    by zero at true is all rest =
        ap is_so (sym (some_is y x at)) ∙ (and_parts (is_so y) (list_all is_so others) all).0
    by zero at false is all rest =
        absurd (let bad : false ≡ true = sym is ∙ ap p (some_is y x at) ∙ passes in cc)
    by (suc i) at true is all rest =
        rest i x at (and_parts (is_so y) (list_all is_so others) all).1 passes
    by (suc i) at false is all rest = rest i x at all passes

never : (b : Bool) → (b ≡ true → false ≡ true) → b ≡ false
never true is = sym (is refl)
never false is = refl

-- A listed ending stands for this one.
pub record IsLikeOne (endings : List Ending) (e : Ending) : Type 0 where
  pub place : ℕ
  pub listed : Ending
  pub at : slice_get endings place ≡ Some listed
  pub like : AreLike e listed

module _ (q : Question) (may : AsksForLines q) (endings : List Ending) (e : Ending)
    (one : IsLikeOne endings e) where
  same : is_asked q e ≡ is_asked q one.listed
  same = asked_alike e one.listed one.like q may

  pub none_asked : asked_of q endings ≡ [] → is_asked q e ≡ false
  none_asked none =
      same ∙ never (is_asked q one.listed) (all_at (is_asked q) (λ f. false) endings one.place
      one.listed one.at (ap (list_all (λ f. false)) none))

  pub each_met : (expected : List Expected) → may_be_asked expected ≡ true →
      list_all (meets (Some expected)) (asked_of q endings) ≡ true → is_asked q e ≡ true →
      are_met e.report expected ≡ true
  each_met expected lines met asked =
      met_alike e.report one.listed.report one.like.common expected lines
      ∙ all_at (is_asked q) (meets (Some expected)) endings one.place one.listed one.at met
      (sym same ∙ asked)
