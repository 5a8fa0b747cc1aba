-- What is expected of one of two reports is met where it is met by the other.
use Rattle.std.proofs.Common.{◌≡◌, ℕ, ◌+◌, Bool, true, false, not, cond, Option, None, Some, List, [], ◌∷◌, ◌++◌, refl, ap, ap₂, sym, ◌∙◌}
use Rattle.std.specs.Prelude.{◌&&◌, is_none, length, ◌==◌, Result, Ok, Err}
use Rattle.std.proofs.lemmas.Bool.{and_parts, and_from}
use Rattle.std.proofs.lemmas.List.Folds.{list_all-append}
use Rattle.l4_words.specs.Lines.{parts_of}
use Rattle.l4_words.specs.Words.{words_in}
use Rattle.l4_lines.specs.Lines.{has_line, line_fault}
use Rattle.l4_lines.specs.declared.lines.LineFault.{LineFault}
use Rattle.l4_lines.specs.declared.lines.LineFault.TheVariants as line_faults
use Rattle.l4_script.specs.Judged.{Judged}
use Rattle.l4_script.specs.Lines.{line_of}
use Rattle.l4_expect.specs.Columns.{may_be_line}
use Rattle.l4_expect.specs.Expected.{Expected, after_asked, after_line, after_words, asked_in, expectations_of, expected_in, led_on, read, unless_wrong}
use Rattle.l4_expect.specs.Judging.{has_early_rest, wrong_asked, wrong_by}
use Rattle.l4_expect.specs.Unmet.{are_met, is_met}
use Rattle.l4_expect.specs.declared.expectations.ExpectFault.{ExpectFault}
use Rattle.l4_expect.specs.declared.expectations.ExpectFault.TheVariants.{Line}
use Rattle.l4_expect.specs.declared.judging.Scope.TheVariants.{Endings}
use Rattle.l4_expect.specs.declared.judging.Wrong.{Wrong}
use Rattle.l4_expect.specs.declared.judging.Wrong.TheVariants.{BadLine}
use Rattle.l4_common_lines.specs.CommonLines.{may_be_asked, HaveLinesInCommon}

no_fault : (fault : Option LineFault) → is_none fault ≡ true → fault ≡ None
no_fault None is = refl
no_fault (Some fault) is = cc

module _ (one other : List ℕ) (common : HaveLinesInCommon one other) where
  one_alike : (e : Expected) → is_none (line_fault e.asked) ≡ true →
      is_met one e ≡ is_met other e
  one_alike e may = by e.never (common e.asked (no_fault (line_fault e.asked) may))
    where
      by : (never : Bool) → has_line e.asked one ≡ has_line e.asked other →
          cond never (not (has_line e.asked one)) (has_line e.asked one)
          ≡ cond never (not (has_line e.asked other)) (has_line e.asked other)
      by true same = ap not same
      by false same = same

  pub met_alike : (expected : List Expected) → may_be_asked expected ≡ true →
      are_met one expected ≡ are_met other expected
  met_alike [] may = refl
  met_alike (e ∷ expected) may =
      let parts = and_parts (is_none (line_fault e.asked)) (may_be_asked expected) may in
      ap₂ (λ (a b : Bool). a && b) (one_alike e parts.0) (met_alike expected parts.1)

-- What a text expects of endings

not_wrong : (may : Bool) (fault : Option LineFault) → wrong_by Endings may fault ≡ None →
    is_none fault ≡ true
not_wrong may None is = refl
not_wrong true (Some line_faults.Unknown) is = cc
not_wrong true (Some line_faults.Deleted) is = cc
not_wrong true (Some line_faults.Number) is = cc
not_wrong false (Some line_faults.Unknown) is = cc
not_wrong false (Some line_faults.Deleted) is = cc
not_wrong false (Some line_faults.Number) is = cc

asked_may : (asked : List ℕ) → wrong_asked Endings asked ≡ None →
    is_none (line_fault asked) ≡ true
asked_may asked is = by (has_early_rest (words_in asked)) is
  where
    by : (early : Bool) →
        cond early (Some BadLine)
        (wrong_by Endings (may_be_line (words_in asked)) (line_fault asked)) ≡ None →
        is_none (line_fault asked) ≡ true
    by true is = cc
    by false is = not_wrong (may_be_line (words_in asked)) (line_fault asked) is

ok_is : (found more : List Expected) → ◌≡◌ {A = Result (List Expected) ExpectFault} (Ok found) (Ok more) →
    found ≡ more
ok_is found more is = cc

one_more : (number : ℕ) (line : List ℕ) (found more : List Expected) →
    after_asked Endings number line found ≡ Ok more → may_be_asked found ≡ true →
    may_be_asked more ≡ true
one_more number line found more is may =
    by (wrong_asked Endings (asked_in line)) refl is
  where
    by : (o : Option Wrong) → wrong_asked Endings (asked_in line) ≡ o →
        unless_wrong number o (found ++ expected_in number line ∷ []) ≡ Ok more →
        may_be_asked more ≡ true
    by (Some wrong) judged is = cc
    by None judged is =
        let next : is_none (line_fault (asked_in line)) ≡ true = asked_may (asked_in line) judged in
        ap may_be_asked (sym (ok_is _ more is))
        ∙ list_all-append (λ (e : Expected). is_none (line_fault e.asked)) found
        (expected_in number line ∷ [])
        ∙ and_from _ _ may (and_from _ _ next refl)

line_more : (number : ℕ) (line : List ℕ) (found more : List Expected) →
    after_line Endings number line found ≡ Ok more → may_be_asked found ≡ true →
    may_be_asked more ≡ true
line_more number line found more is may = by (line_of line) is
  where
    by : (words : Judged (Option (List (List ℕ)))) →
        after_words Endings number line found words ≡ Ok more → may_be_asked more ≡ true
    by (Err kind) is = cc
    by (Ok None) is = ap may_be_asked (sym (ok_is found more is)) ∙ may
    by (Ok (Some words)) is = one_more number line found more is may

parts_more : (parts : List (List ℕ)) (number : ℕ) (found more : List Expected) →
    read Endings parts number found ≡ Ok more → may_be_asked found ≡ true →
    may_be_asked more ≡ true
parts_more [] number found more is may = ap may_be_asked (sym (ok_is found more is)) ∙ may
parts_more (last ∷ []) number found more is may = by (length last == 0) is
  where
    by : (none : Bool) → cond none (Ok found) (Err (Line number BadLine)) ≡ Ok more →
        may_be_asked more ≡ true
    by true is = ap may_be_asked (sym (ok_is found more is)) ∙ may
    by false is = cc
parts_more (line ∷ next ∷ parts) number found more is may =
    by (after_line Endings number line found) refl is
    (λ then led now. parts_more (next ∷ parts) (number + 1) then more led now)
  where
    by : (o : Result (List Expected) ExpectFault) → after_line Endings number line found ≡ o →
        led_on o (λ then. read Endings (next ∷ parts) (number + 1) then) ≡ Ok more →
        ((then : List Expected) → read Endings (next ∷ parts) (number + 1) then ≡ Ok more →
        may_be_asked then ≡ true → may_be_asked more ≡ true) → may_be_asked more ≡ true
    by (Err fault) judged is rest = cc
    by (Ok then) judged is rest = rest then is (line_more number line found then judged may)

pub text_may : (text : List ℕ) (expected : List Expected) →
    expectations_of Endings text ≡ Ok expected → may_be_asked expected ≡ true
text_may text expected is = parts_more (parts_of text) 1 [] expected is refl
