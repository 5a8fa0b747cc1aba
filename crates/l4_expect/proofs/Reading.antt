-- A text of expectations that is read line by line.
use Rattle.std.proofs.Common.{◌≡◌, ◌⊎◌, inl, inr, ℕ, ◌+◌, ◌==◌, List, [], ◌∷◌, length, refl, ap, sym, ◌∙◌, arith}
use Rattle.std.specs.Prelude.{count_by, Result, Ok, Err}
use Rattle.std.proofs.lemmas.List.Splits.{length-slice_split}
use Rattle.l4_words.specs.Lines.{parts_of}
use Rattle.l4_expect.specs.declared.expectations.ExpectFault.{ExpectFault}
use Rattle.l4_expect.specs.declared.expectations.ExpectFault.TheVariants.{NoMemory}
use Rattle.l4_expect.specs.declared.judging.Scope.{Scope}
use Rattle.l4_expect.specs.Expected.{Expected, after_line, led_on, read}

abbrev Found : Type 0
Found = Result (List Expected) ExpectFault

-- The first line of a text is read before those that follow it.
step : (scope : Scope) (number : ℕ) (found : List Expected) (line rest text : List ℕ) →
    parts_of text ≡ line ∷ parts_of rest →
    read scope (parts_of text) number found
    ≡ led_on (after_line scope number line found) (λ more. read scope (parts_of rest) (number + 1) more)
step scope number found line rest text is =
    ap (λ (parts : List (List ℕ)). read scope parts number found) is
    ∙ by (parts_of rest) refl (length-slice_split (λ byte. byte == 10) rest)
  where
    by : (parts : List (List ℕ)) → parts_of rest ≡ parts →
        length (parts_of rest) ≡ count_by (λ byte. byte == 10) rest + 1 →
        read scope (line ∷ parts) number found
        ≡ led_on (after_line scope number line found) (λ more. read scope parts (number + 1) more)
    by [] none count = absurd (omega (arith, count, ap length none))
    by (next ∷ parts) some count = refl

pub goes_on : (scope : Scope) (number : ℕ) (found new : List Expected) (line rest text : List ℕ)
    (whole : Found) → parts_of text ≡ line ∷ parts_of rest →
    read scope (parts_of text) number found ≡ whole →
    after_line scope number line found ≡ Ok new →
    read scope (parts_of rest) (number + 1) new ≡ whole
goes_on scope number found new line rest text whole is reads after =
    sym (step scope number found line rest text is
    ∙ ap (λ (f : Found). led_on f (λ more. read scope (parts_of rest) (number + 1) more)) after)
    ∙ reads

pub stops : (scope : Scope) (number : ℕ) (found : List Expected) (line rest text : List ℕ)
    (whole : Found) (fault : ExpectFault) → parts_of text ≡ line ∷ parts_of rest →
    read scope (parts_of text) number found ≡ whole →
    (fault ≡ NoMemory) ⊎ (after_line scope number line found ≡ Err fault) →
    (fault ≡ NoMemory) ⊎ (whole ≡ Err fault)
stops scope number found line rest text whole fault is reads (inl none) = inl none
stops scope number found line rest text whole fault is reads (inr after) =
    inr (sym reads ∙ step scope number found line rest text is
    ∙ ap (λ (f : Found). led_on f (λ more. read scope (parts_of rest) (number + 1) more)) after)
