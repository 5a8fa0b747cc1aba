-- The doubts of a text, line by line.
use Rattle.std.proofs.Common.{◌≡◌, ℕ, ◌+◌, List, [], ◌∷◌, ◌++◌, length, refl, ap, sym, ◌∙◌, arith}
use Rattle.std.specs.Prelude.{◌==◌, count_by}
use Rattle.std.proofs.lemmas.List.{append_assoc}
use Rattle.std.proofs.lemmas.List.Splits.{length-slice_split}
use Rattle.l4_model.specs.Machine.{Machine}
use Rattle.l4_words.specs.Lines.{parts_of}
use Rattle.l4_script.specs.Second.Texts.{Stage}
use Rattle.l4_lint.specs.Doubts.{Doubtful, begun_behind, doubts_from, place_behind, second_doubts_from, second_line_doubts, stage_behind, thread_after, words_doubts}
use Rattle.l4_lint.specs.Lines.{lines_of, without_last}
use Rattle.l4_lint.specs.Second.Parts.{parts_of as parts_in_line}

-- The first line of a text comes before the lines of what follows it.
pub first_line : (line rest text : List ℕ) → parts_of text ≡ line ∷ parts_of rest →
    lines_of text ≡ line ∷ lines_of rest
first_line line rest text is =
    ap without_last is
    ∙ by (parts_of rest) refl (length-slice_split (λ byte. byte == 10) rest)
  where
    by : (parts : List (List ℕ)) → parts_of rest ≡ parts →
        length (parts_of rest) ≡ count_by (λ byte. byte == 10) rest + 1 →
        without_last (line ∷ parts) ≡ line ∷ without_last parts
    by [] none count = absurd (omega (arith, count, ap length none))
    by (next ∷ parts) some count = refl

-- The doubts of a line are found before those of the lines that follow it.
pub one_more : (m : Machine) (begun place number : ℕ) (found new whole : List Doubtful)
    (line rest text : List ℕ) → parts_of text ≡ line ∷ parts_of rest →
    new ≡ found ++ words_doubts m (thread_after m begun) place number line line →
    found ++ doubts_from m (lines_of text) begun place number ≡ whole →
    new ++ doubts_from m (lines_of rest) (begun_behind begun line) (place_behind place line) (number + 1) ≡ whole
one_more m begun place number found new whole line rest text is adds all =
    let here = words_doubts m (thread_after m begun) place number line line in
    let behind = doubts_from m (lines_of rest) (begun_behind begun line) (place_behind place line) (number + 1) in
    ap (λ (all : List Doubtful). all ++ behind) adds
    ∙ append_assoc found here behind
    ∙ ap (λ (lines : List (List ℕ)). found ++ doubts_from m lines begun place number)
    (sym (first_line line rest text is))
    ∙ all

pub one_more_of_second : (m : Machine) (stage : Stage) (place number : ℕ) (found new whole : List Doubtful)
    (line rest text : List ℕ) → parts_of text ≡ line ∷ parts_of rest →
    new ≡ found ++ second_line_doubts m (stage_behind number stage line) (lines_of rest) place number (parts_in_line line) →
    found ++ second_doubts_from m (lines_of text) stage place number ≡ whole →
    new ++ second_doubts_from m (lines_of rest) (stage_behind number stage line) (place_behind place (parts_in_line line).words) (number + 1) ≡ whole
one_more_of_second m stage place number found new whole line rest text is adds all =
    let after = stage_behind number stage line in
    let here = second_line_doubts m after (lines_of rest) place number (parts_in_line line) in
    let behind = second_doubts_from m (lines_of rest) after (place_behind place (parts_in_line line).words) (number + 1) in
    ap (λ (all : List Doubtful). all ++ behind) adds
    ∙ append_assoc found here behind
    ∙ ap (λ (lines : List (List ℕ)). found ++ second_doubts_from m lines stage place number)
    (sym (first_line line rest text is))
    ∙ all
