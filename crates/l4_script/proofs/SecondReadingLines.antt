-- Reading a text of version 2 line by line.
use Rattle.std.proofs.Common.{◌≡◌, ℕ, ◌+◌, List, ◌∷◌, Result, Ok, Err, sym, ap, ◌∙◌, inl, inr}
use Rattle.l4_model.specs.Machine.{Machine}
use Rattle.l4_script.specs.declared.text.fault.TextFault.{TextFault}
use Rattle.l4_script.specs.Judged.{Judged}
use Rattle.l4_script.specs.Faults.{fault_at}
use Rattle.l4_words.specs.Lines.{parts_of}
use Rattle.l4_words.proofs.Parts.{has_part}
use Rattle.l4_script.specs.Texts.{Reads}
use Rattle.l4_script.specs.Second.Texts.{Stage, after_line, judged_at, read}

read_first : (part : List ℕ) (parts : List (List ℕ)) (first : List ℕ) (others : List (List ℕ)) (stage : Stage) (line : ℕ) → parts ≡ first ∷ others
    → read (part ∷ parts) stage line ≡ judged_at line (after_line line stage part) (λ next. read parts next (line + 1))
read_first part parts first others stage line e =
    ap (λ (ps : List (List ℕ)). read (part ∷ ps) stage line) e ∙ ap (λ (ps : List (List ℕ)). judged_at line (after_line line stage part) (λ next. read ps next (line + 1))) (sym e)

pub read_line : (line rest : List ℕ) (parts : List (List ℕ)) (stage : Stage) (number : ℕ) → parts ≡ line ∷ parts_of rest
    → read parts stage number ≡ judged_at number (after_line number stage line) (λ next. read (parts_of rest) next (number + 1))
read_line line rest parts stage number e =
    let more = has_part rest in
    ap (λ (ps : List (List ℕ)). read ps stage number) e ∙ read_first line (parts_of rest) more.0 more.1 stage number more.2

judged_ok : (line : ℕ) (part : Judged Stage) (next : Stage) → judged_at {X = Stage} line part (λ s. Ok s) ≡ Ok next → part ≡ Ok next
judged_ok line (Ok s) next e = let same : s ≡ next = cc in ap (λ (x : Stage). Ok x) same
judged_ok line (Err kind) next e = absurd cc

judged_err : {X : Type 0} (line : ℕ) (part : Judged Stage) (rest : Stage → Result X TextFault) (fault : TextFault) → judged_at {X = Stage} line part (λ s. Ok s) ≡ Err fault → judged_at line part rest ≡ Err fault
judged_err line (Ok s) rest fault e = absurd cc
judged_err line (Err kind) rest fault e = let same : fault_at line kind ≡ fault = cc in ap (λ (f : TextFault). Err f) same

module _ (line rest : List ℕ) (parts : List (List ℕ)) (stage : Stage) (number : ℕ) (total : Result Machine TextFault) (cut : parts ≡ line ∷ parts_of rest) (so_far : read parts stage number ≡ total) where
  pub goes_on : (next : Stage) → judged_at {X = Stage} number (after_line number stage line) (λ s. Ok s) ≡ Ok next → read (parts_of rest) next (number + 1) ≡ total
  goes_on next e =
      let good = judged_ok number (after_line number stage line) next e in
      let one = read_line line rest parts stage number cut ∙ ap (λ (part : Judged Stage). judged_at number part (λ s. read (parts_of rest) s (number + 1))) good in
      sym one ∙ so_far

  pub stops : (fault : TextFault) → Reads {X = Stage} (Err fault) (judged_at number (after_line number stage line) (λ s. Ok s)) → Reads (Err fault) total
  stops fault (inl e) = inl e
  stops fault (inr e) = inr (sym so_far ∙ read_line line rest parts stage number cut ∙ judged_err number (after_line number stage line) (λ s. read (parts_of rest) s (number + 1)) fault e)
