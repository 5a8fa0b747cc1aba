-- Reading a text line by line.
use Rattle.std.proofs.Common.{◌≡◌, ℕ, ◌+◌, List, [], ◌∷◌, ◌++◌, length, Some, None, Result, Err, sym, ap, ◌∙◌}
use Rattle.l4_model.specs.Steps.{Step}
use Rattle.l4_trace.specs.Reading.{step_of_line, or_line, read_parts}
use Rattle.l4_words.specs.Lines.{parts_of}
use Rattle.l4_words.proofs.Parts.{has_part}

read_first : (part : List ℕ) (parts : List (List ℕ)) (first : List ℕ) (others : List (List ℕ)) (steps : List Step) → parts ≡ first ∷ others
    → read_parts steps (part ∷ parts) ≡ or_line (length steps + 1) (step_of_line part) (λ step. read_parts (steps ++ step ∷ []) parts)
read_first part parts first others steps e =
    ap (λ (ps : List (List ℕ)). read_parts steps (part ∷ ps)) e ∙ ap (λ (ps : List (List ℕ)). or_line (length steps + 1) (step_of_line part) (λ step. read_parts (steps ++ step ∷ []) ps)) (sym e)

-- A line that is ended is read, and then the rest.
pub read_line : (line rest : List ℕ) (parts : List (List ℕ)) (steps : List Step) → parts ≡ line ∷ parts_of rest
    → read_parts steps parts ≡ or_line (length steps + 1) (step_of_line line) (λ step. read_parts (steps ++ step ∷ []) (parts_of rest))
read_line line rest parts steps e =
    let more = has_part rest in
    ap (read_parts steps) e ∙ read_first line (parts_of rest) more.0 more.1 steps more.2

module _ (line rest : List ℕ) (parts : List (List ℕ)) (steps : List Step) (total : Result (List Step) ℕ) (cut : parts ≡ line ∷ parts_of rest) (so_far : read_parts steps parts ≡ total) where
  pub goes_on : (step : Step) → step_of_line line ≡ Some step → read_parts (steps ++ step ∷ []) (parts_of rest) ≡ total
  goes_on step e =
      sym (ap (λ o. or_line (length steps + 1) o (λ step. read_parts (steps ++ step ∷ []) (parts_of rest))) e) ∙ sym (read_line line rest parts steps cut) ∙ so_far

  pub stops : step_of_line line ≡ None → total ≡ Err (length steps + 1)
  stops e =
      sym so_far ∙ read_line line rest parts steps cut ∙ ap (λ o. or_line (length steps + 1) o (λ step. read_parts (steps ++ step ∷ []) (parts_of rest))) e
