-- Lines of a condition are lines that worlds as good as each other tell alike.
use Rattle.std.proofs.Common.{◌≡◌, map, Bool, true, false, ℕ, Option, Some, None, List, [], ◌∷◌, ◌++◌, refl, ap, ◌∙◌, cond}
use Rattle.std.proofs.lemmas.List.{map-append}
use Rattle.std.specs.Prelude.{◌&&◌, is_none, Ok, Err}
use Rattle.std.specs.Borrow.{Bor}
use Rattle.std.specs.List.{list_all}
use Rattle.l4_words.specs.Words.{words_in}
use Rattle.l4_lines.specs.Lines.{line_fault}
use Rattle.l4_lines.specs.declared.lines.LineFault.{LineFault}
use Rattle.l4_lines.specs.declared.lines.LineFault.TheVariants as line
use Rattle.l4_script.specs.Judged.{Judged}
use Rattle.l4_script.specs.Lines.{line_of}
use Rattle.l4_expect.specs.Columns.{may_be_told}
use Rattle.l4_expect.specs.Conditions.{may_be_judged}
use Rattle.l4_expect.specs.Judging.{has_early_rest, wrong_by, wrong_by_words, wrong_in_world, wrong_told}
use Rattle.l4_expect.specs.declared.judging.Scope.TheVariants.{Endings}
use Rattle.l4_expect.specs.declared.judging.Wrong.{Wrong}
use Rattle.l4_expect.specs.declared.judging.Wrong.TheVariants.{BadLine}

by_fault : (may_be : Bool) (fault : Option LineFault) → wrong_by Endings may_be fault ≡ None → is_none fault ≡ true
by_fault may_be (Some line.Unknown) none = cc
by_fault true (Some line.Deleted) none = cc
by_fault false (Some line.Deleted) none = cc
by_fault true (Some line.Number) none = cc
by_fault false (Some line.Number) none = cc
by_fault may_be None none = refl

in_world : (early may_be : Bool) (fault : Option LineFault) → cond early (Some BadLine) (wrong_by Endings may_be fault) ≡ None → is_none fault ≡ true
in_world true may_be fault none = cc
in_world false may_be fault none = by_fault may_be fault none

by_words : (words : Judged (Option (List (List ℕ)))) (asked : List ℕ) → wrong_by_words words asked ≡ None → is_none (line_fault asked) ≡ true
by_words (Ok (Some words)) asked none = in_world (has_early_rest (words_in asked)) (may_be_told (words_in asked)) (line_fault asked) none
by_words (Ok None) asked none = cc
by_words (Err kind) asked none = cc

all_and : (lines : List (List ℕ)) (asked : List ℕ) → may_be_judged lines ≡ true → is_none (line_fault asked) ≡ true → may_be_judged (lines ++ asked ∷ []) ≡ true
all_and [] asked all one = ap (λ b. b && true) one
all_and (line ∷ lines) asked all one = by (is_none (line_fault line)) all (λ rest. all_and lines asked rest one)
  where
    by : (b : Bool) → (b && may_be_judged lines) ≡ true → (may_be_judged lines ≡ true → may_be_judged (lines ++ asked ∷ []) ≡ true) → (b && may_be_judged (lines ++ asked ∷ [])) ≡ true
    by true all more = more all
    by false all more = cc

one_more : (lines : List (List ℕ)) (asked : List ℕ) → may_be_judged lines ≡ true → wrong_told asked ≡ None → may_be_judged (lines ++ asked ∷ []) ≡ true
one_more lines asked all none = all_and lines asked all (by_words (line_of asked) asked none)

abbrev lines_now : List (Bor (List ℕ)) → List (List ℕ)
lines_now xs = map (λ (line : Bor (List ℕ)). line.now) xs

pub one_more_line : (old new : List (Bor (List ℕ))) (x : Bor (List ℕ)) → new ≡ old ++ x ∷ [] → may_be_judged (lines_now old) ≡ true → wrong_told x.now ≡ None → may_be_judged (lines_now new) ≡ true
one_more_line old new x more all none =
    ap (λ xs. may_be_judged (lines_now xs)) more
    ∙ ap may_be_judged (map-append (λ (line : Bor (List ℕ)). line.now) old (x ∷ []))
    ∙ one_more (lines_now old) x.now all none
