-- Reading a text forward.
use Rattle.std.proofs.Common.{◌≡◌, ℕ, ◌+◌, Bool, true, false, cond, List, [], ◌∷◌, ◌++◌, length, Option, Some, None, Result, Ok, Err, refl, sym, ap, ◌∙◌, append-nil, append_assoc, arith, subst}
use Rattle.std.specs.Prelude.{◌==◌}
use Rattle.std.proofs.lemmas.List.{length-append}
use Rattle.l4_model.specs.Steps.{Step}
use Rattle.l4_types.specs.declared.step_ref.DeliveryRef.{DeliveryRef}
use Rattle.l4_types.specs.declared.steps.Step.{Step as StepRef}
use Rattle.l4_types.specs.StepView.{seen}
use Rattle.l4_trace.specs.Inner.Forward.{Ahead, IsNext, ReadsNext}
use Rattle.l4_trace.specs.Reading.{step_of_line, or_line, read_parts, steps_of}
use Rattle.l4_words.specs.Lines.{parts_of}
use Rattle.l4_trace.proofs.ReadingLines.{goes_on}

abbrev stops : ℕ → Result (List Step) ℕ
stops number = Err number

-- What reading the rest of a text comes to, behind steps that were read.
abbrev pub onto : (before : List Step) → Result (List Step) ℕ → Result (List Step) ℕ
onto before (Ok steps) = Ok (before ++ steps)
onto before (Err number) = Err (length before + number)

one_behind : (before read : List Step) →
    length (before ++ read) + 1 ≡ length before + (length read + 1)
one_behind before read = omega (arith, length-append before read)

read_behind : (parts : List (List ℕ)) (before read : List Step) →
    read_parts (before ++ read) parts ≡ onto before (read_parts read parts)
read_behind [] before read = ap stops (one_behind before read)
read_behind (part ∷ []) before read = by (length part == 0)
  where
    by : (b : Bool) →
        cond b (Ok (before ++ read)) (Err (length (before ++ read) + 1))
        ≡ onto before (cond b (Ok read) (Err (length read + 1)))
    by true = refl
    by false = ap stops (one_behind before read)
read_behind (part ∷ next ∷ parts) before read =
    by (step_of_line part)
    (λ step. ap (λ (ss : List Step). read_parts ss (next ∷ parts)) (append_assoc before read (step ∷ []))
    ∙ read_behind (next ∷ parts) before (read ++ step ∷ []))
  where
    by : (o : Option Step) →
        ((step : Step) → read_parts ((before ++ read) ++ step ∷ []) (next ∷ parts)
        ≡ onto before (read_parts (read ++ step ∷ []) (next ∷ parts))) →
        or_line (length (before ++ read) + 1) o
        (λ step. read_parts ((before ++ read) ++ step ∷ []) (next ∷ parts))
        ≡ onto before (or_line (length read + 1) o (λ step. read_parts (read ++ step ∷ []) (next ∷ parts)))
    by None rest = ap stops (one_behind before read)
    by (Some step) rest = rest step

pub rest_behind : (before : List Step) (rest : List ℕ) →
    read_parts before (parts_of rest) ≡ onto before (steps_of rest)
rest_behind before rest =
    ap (λ (ss : List Step). read_parts ss (parts_of rest)) (sym (append-nil before))
    ∙ read_behind (parts_of rest) before []

-- From one place of a text to another, these steps were read.
pub record IsAhead (from : Ahead) (steps : List Step) (to : Ahead) : Type 0 where
  pub counted : to.read ≡ from.read + length steps
  pub so_far : read_parts steps (parts_of to.rest) ≡ steps_of from.rest

pub here : (from : Ahead) → IsAhead from [] from
here from = record { counted = omega arith; so_far = refl }

pub one_more : (from old new : Ahead) (steps : List Step) (step : Step) → IsAhead from steps old →
    IsNext old step new → IsAhead from (steps ++ step ∷ []) new
one_more from old new steps step read next = record {
  counted = omega (arith, read.counted, next.counted, length-append steps (step ∷ []));
  so_far = goes_on next.line new.rest (parts_of old.rest) steps (steps_of from.rest) next.cut read.so_far step next.spelled;
}

pub rest_is : (from to : Ahead) (steps : List Step) → IsAhead from steps to →
    steps_of from.rest ≡ onto steps (steps_of to.rest)
rest_is from to steps read = sym read.so_far ∙ rest_behind steps to.rest

pub ended : (from to : Ahead) (steps : List Step) → IsAhead from steps to →
    steps_of to.rest ≡ Ok [] → steps_of from.rest ≡ Ok steps
ended from to steps read none =
    rest_is from to steps read ∙ ap (onto steps) none ∙ ap (λ (ss : List Step). Ok ss) (append-nil steps)

pub stopped : (from to : Ahead) (steps : List Step) (number : ℕ) → IsAhead from steps to →
    steps_of to.rest ≡ Err number → steps_of from.rest ≡ Err (length steps + number)
stopped from to steps number read faulty = rest_is from to steps read ∙ ap (onto steps) faulty

-- What was read in the forms in which code has it.

pub next_line : (old new : Ahead) (found : Option (StepRef DeliveryRef))
    (step : StepRef DeliveryRef) →
    ReadsNext old (Ok found) new → found ≡ Some step → IsNext old (seen step) new
next_line old new found step reads is =
    subst (λ (o : Option (StepRef DeliveryRef)). ReadsNext old (Ok o) new) is reads

pub none_left : (old new : Ahead) (found : Option (StepRef DeliveryRef)) →
    ReadsNext old (Ok found) new → found ≡ None → steps_of old.rest ≡ Ok []
none_left old new found reads is =
    (subst (λ (o : Option (StepRef DeliveryRef)). ReadsNext old (Ok o) new) is reads).0

pub stays : (old new : Ahead) (found : Option (StepRef DeliveryRef)) →
    ReadsNext old (Ok found) new → found ≡ None → new ≡ old
stays old new found reads is =
    (subst (λ (o : Option (StepRef DeliveryRef)). ReadsNext old (Ok o) new) is reads).1

-- The next line of a text that is read from its first line on is faulty.
pub line_faulty : (text : List ℕ) (to : Ahead) (steps : List Step) →
    IsAhead (record { read = 0; rest = text }) steps to → steps_of to.rest ≡ Err 1 →
    steps_of text ≡ Err (to.read + 1)
line_faulty text to steps read faulty =
    stopped (record { read = 0; rest = text }) to steps 1 read faulty
    ∙ ap (λ n. stops (n + 1)) (let counted = read.counted in omega arith)
