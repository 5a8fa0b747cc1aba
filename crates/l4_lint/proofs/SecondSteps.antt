-- Reading a text with scripts of version 2 line by line.
use Rattle.std.proofs.Common.{◌≡◌, ℕ, ◌+◌, Bool, cond, List, [], ◌∷◌, ◌++◌, sym, ap, ◌∙◌}
use Rattle.l4_words.specs.Lines.{parts_of}
use Rattle.l4_words.proofs.Parts.{has_part}
use Rattle.l4_lint.specs.Found.{Fault}
use Rattle.l4_lint.specs.Second.Faults.{step, followed, faults_from}
use Rattle.l4_lint.specs.Second.Reading.{Reader}

faults_first : (whole : List (List ℕ)) (line : List ℕ) (parts : List (List ℕ)) (next : List ℕ) (others : List (List ℕ)) (r : Reader) (number : ℕ) → parts ≡ next ∷ others
    → faults_from whole (line ∷ parts) r number ≡ followed (step whole number r line) (λ after. faults_from whole parts after (number + 1))
faults_first whole line parts next others r number e =
    ap (λ (ps : List (List ℕ)). faults_from whole (line ∷ ps) r number) e
    ∙ ap (λ (ps : List (List ℕ)). followed (step whole number r line) (λ after. faults_from whole ps after (number + 1))) (sym e)

pub faults_next : (whole : List (List ℕ)) (line rest : List ℕ) (parts : List (List ℕ)) (r : Reader) (number : ℕ) → parts ≡ line ∷ parts_of rest
    → faults_from whole parts r number ≡ followed (step whole number r line) (λ after. faults_from whole (parts_of rest) after (number + 1))
faults_next whole line rest parts r number e =
    let more = has_part rest in
    ap (λ (ps : List (List ℕ)). faults_from whole ps r number) e ∙ faults_first whole line (parts_of rest) more.0 more.1 r number more.2

-- What was found, and what follows, behind one more line.
pub going : (whole : List (List ℕ)) (line rest : List ℕ) (parts : List (List ℕ)) (r r' : Reader) (number : ℕ) (found found' total : List Fault) (on : Bool)
    → parts ≡ line ∷ parts_of rest → found ++ faults_from whole parts r number ≡ total
    → ((follow : Reader → List Fault) → found' ++ cond on (follow r') [] ≡ found ++ followed (step whole number r line) follow)
    → found' ++ cond on (faults_from whole (parts_of rest) r' (number + 1)) [] ≡ total
going whole line rest parts r r' number found found' total on cut so_far said =
    said (λ after. faults_from whole (parts_of rest) after (number + 1))
    ∙ ap (λ (fs : List Fault). found ++ fs) (sym (faults_next whole line rest parts r number cut))
    ∙ so_far
