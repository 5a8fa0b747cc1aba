-- Nothing of a text of expectations is lost.
use Rattle.std.proofs.Common.{◌≡◌, ℕ, ◌+◌, ◌==◌, Bool, true, false, List, [], ◌∷◌, ◌++◌, length, drop, cond, refl, ap, sym, ◌∙◌}
use Rattle.std.specs.Prelude.{Option, Some, None, Result, Ok, Err, codes}
use Rattle.std.proofs.lemmas.Bool.Decides.{Decides-eqb}
use Rattle.std.proofs.lemmas.List.{append_assoc, append-nil}
use Rattle.std.proofs.lemmas.Slice.Eq.{starts_is}
use Rattle.l4_words.specs.Lines.{parts_of}
use Rattle.l4_lines.specs.Lines.{lines_of, without_last}
use Rattle.l4_script.specs.Judged.{Judged}
use Rattle.l4_script.specs.Lines.{line_of}
use Rattle.l4_expect.specs.declared.expectations.ExpectFault.{ExpectFault}
use Rattle.l4_expect.specs.declared.expectations.ExpectFault.TheVariants.{Line}
use Rattle.l4_expect.specs.declared.judging.Scope.{Scope}
use Rattle.l4_expect.specs.declared.judging.Wrong.{Wrong}
use Rattle.l4_expect.specs.declared.judging.Wrong.TheVariants.{BadLine}
use Rattle.l4_expect.specs.Expected.{Expected, after_line, after_words, asked_in, expectations_of, expected_by, expected_from, expected_in, is_never, led_on, line_again, read, unless_wrong}
use Rattle.l4_expect.specs.Judging.{wrong_asked}

-- A line without a fault adds what it says.
unless_wrong_adds : (number : ℕ) (wrong : Option Wrong) (all new : List Expected) →
    unless_wrong number wrong all ≡ Ok new → new ≡ all
unless_wrong_adds number None all new is = cc
unless_wrong_adds number (Some wrong) all new is = absurd cc

words_add : (scope : Scope) (number : ℕ) (line : List ℕ) (found new : List Expected)
    (words : Judged (Option (List (List ℕ)))) →
    after_words scope number line found words ≡ Ok new → new ≡ found ++ expected_by number line words
words_add scope number line found new (Err kind) is = absurd cc
words_add scope number line found new (Ok None) is =
    let same : found ≡ new = cc in
    sym (append-nil found ∙ same)
words_add scope number line found new (Ok (Some words)) is =
    unless_wrong_adds number (wrong_asked scope (asked_in line))
    (found ++ expected_in number line ∷ []) new is

-- So do the lines behind it.
all_read : (scope : Scope) (parts : List (List ℕ)) (number : ℕ) (found expected : List Expected) →
    read scope parts number found ≡ Ok expected →
    expected ≡ found ++ expected_from number (without_last parts)
all_read scope [] number found expected is =
    let same : found ≡ expected = cc in
    sym (append-nil found ∙ same)
all_read scope (last ∷ []) number found expected is = by (length last == 0) is
  where
    by : (empty : Bool) →
        cond empty (Ok found) (Err (Line number BadLine)) ≡ Ok expected → expected ≡ found ++ []
    by true is =
        let same : found ≡ expected = cc in
        sym (append-nil found ∙ same)
    by false is = absurd cc
all_read scope (line ∷ next ∷ parts) number found expected is =
    by (after_line scope number line found) refl is
    (λ (more : List Expected) (e : read scope (next ∷ parts) (number + 1) more ≡ Ok expected).
    all_read scope (next ∷ parts) (number + 1) more expected e)
  where
    by : (after : Result (List Expected) ExpectFault) → after_line scope number line found ≡ after →
        led_on after (λ more. read scope (next ∷ parts) (number + 1) more) ≡ Ok expected →
        ((more : List Expected) → read scope (next ∷ parts) (number + 1) more ≡ Ok expected →
        expected ≡ more ++ expected_from (number + 1) (without_last (next ∷ parts))) →
        expected
        ≡ found ++ (expected_by number line (line_of line)
        ++ expected_from (number + 1) (without_last (next ∷ parts)))
    by (Err fault) after is behind = absurd cc
    by (Ok more) after is behind =
        behind more is
        ∙ ap (λ (all : List Expected). all ++ expected_from (number + 1) (without_last (next ∷ parts)))
        (words_add scope number line found more (line_of line) after)
        ∙ append_assoc found (expected_by number line (line_of line))
        (expected_from (number + 1) (without_last (next ∷ parts)))

pub nothing_lost : (scope : Scope) (text : List ℕ) (expected : List Expected) →
    expectations_of scope text ≡ Ok expected → expected ≡ expected_from 1 (lines_of text)
nothing_lost scope text expected is = all_read scope (parts_of text) 1 [] expected is

-- `never` is written again in front of what followed it.
pub told_again : (number : ℕ) (line : List ℕ) → line_again (expected_in number line) ≡ line
told_again number line = by (is_never line) refl
  where
    by : (never : Bool) → is_never line ≡ never →
        cond never (codes "never " ++ cond never (drop 6 line) line) (cond never (drop 6 line) line)
        ≡ line
    by true is = sym ((starts_is Decides-eqb line (codes "never ") true (sym is)).0 refl)
    by false is = refl
