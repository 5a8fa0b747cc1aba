-- The steps of a text are judged as they are read.
use Rattle.std.proofs.Common.{◌≡◌, ℕ, ◌+◌, false, Option, Some, None, Result, Ok, Err, List, [], ◌∷◌, ◌++◌, length, refl, ap, subst, sym, inl, inr, ◌∙◌, arith}
use Rattle.std.specs.Prelude.{◌⊎◌}
use Rattle.std.proofs.lemmas.List.{length-append}
use Rattle.l4_model.specs.Machine.{Machine}
use Rattle.l4_model.specs.World.{World, opening}
use Rattle.l4_model.specs.Steps.{Step, next}
use Rattle.l4_model.specs.Conditions.{◌>>=◌}
use Rattle.l4_model.specs.History.{run, reached, place_or_rest, refused_from}
use Rattle.l4_model.proofs.Chains.{some_is}
use Rattle.l4_core_model.proofs.Changed.{run-last}
use Rattle.l4_audit.specs.declared.reasons.StepFault.{StepFault}
use Rattle.l4_audit.specs.declared.reasons.StepFault.TheVariants.{NoMemory, Refused}
use Rattle.l4_audit.specs.Inner.Auditing.{Auditing, IsPassed, begins}
use Rattle.l4_audit.specs.Inner.Taking.{Explains}
use Rattle.l4_audit.proofs.Reasoning.{is_impossible}
use Rattle.l4_trace.specs.Inner.Forward.{Ahead, IsNext}
use Rattle.l4_trace.specs.Lines.{IsTraceOf}
use Rattle.l4_trace.specs.Reading.{steps_of}
use Rattle.l4_trace.specs.declared.fault.TraceFault.{TraceFault}
use Rattle.l4_trace.specs.declared.fault.TraceFault.TheVariants.{Line}
use Rattle.l4_trace.proofs.ReadTexts.{first_fault, written}
use Rattle.l4_trace.proofs.ReadingOn.{IsAhead, onto, here, one_more, rest_is, ended, line_faulty as faulty_line}
use Rattle.l4_jobs.specs.Audits.{IsFaultOfTrace, fault_behind, fault_of_reading, fault_of_rest}
use Rattle.l4_jobs.specs.declared.fault.Fault.{Fault}
use Rattle.l4_jobs.specs.declared.fault.Fault.TheVariants as fault

abbrev stops : ℕ → Result (List Step) ℕ
stops number = Err number

abbrev start : List ℕ → Ahead
start text = record { read = 0; rest = text }

-- All steps that were read of a text were passed.
pub record IsJudged (m : Machine) (text : List ℕ) (ahead : Ahead) (a : Auditing) : Type 0 where
  pub steps : List Step
  pub read : IsAhead (start text) steps ahead
  pub machine : a.at.machine ≡ m
  pub reached_by : reached m steps ≡ Some a.at.world

pub opened : (m : Machine) (text : List ℕ) (ahead : Ahead) (a : Auditing) → ahead ≡ start text →
    a ≡ begins m → IsJudged m text ahead a
opened m text ahead a first begun =
    rw (first, begun) (record { steps = []; read = here (start text); machine = refl; reached_by = refl })

counted : (m : Machine) (text : List ℕ) (ahead : Ahead) (a : Auditing)
    (j : IsJudged m text ahead a) → ahead.read ≡ length j.steps
counted m text ahead a j = omega (arith, j.read.counted)

pub went_on : (m : Machine) (text : List ℕ) (old new : Ahead) (a b : Auditing) (step : Step) →
    IsJudged m text old a → IsNext old step new → IsPassed a step b → IsJudged m text new b
went_on m text old new a b step j next_line passed =
    let possible : next m a.at.world step ≡ Some b.at.world = ap (λ y. next y a.at.world step) (sym j.machine) ∙ passed.taken.possible in
    record {
      steps = j.steps ++ step ∷ [];
      read = one_more (start text) old new j.steps step j.read next_line;
      machine = passed.taken.machine ∙ j.machine;
      reached_by = run-last m (opening m) j.steps step ∙ ap (λ o. o >>= λ v. next m v step) j.reached_by ∙ possible;
    }

-- A line that is faulty.
pub line_faulty : (m : Machine) (text : List ℕ) (ahead : Ahead) (a : Auditing)
    (found : TraceFault) (f : Fault) →
    IsJudged m text ahead a → found ≡ Line (ahead.read + 1) → steps_of ahead.rest ≡ Err 1 →
    f ≡ fault_of_reading found → IsFaultOfTrace false m text f
line_faulty m text ahead a found f j is faulty from =
    inl (ahead.read + 1, from ∙ ap fault_of_reading is, (first_fault text (ahead.read + 1)).0 (faulty_line text ahead j.steps j.read faulty))

-- A refused step is the first that is not possible, whatever follows it.
refused_here : (m : Machine) (h : List Step) (step : Step) (more : List Step) (v w : World)
    (place : ℕ) →
    run m v h ≡ Some w → next m w step ≡ None →
    refused_from m v place ((h ++ step ∷ []) ++ more) ≡ Some (place + length h)
refused_here m [] step more v w place r impossible =
    ap (λ o. place_or_rest o place (λ u. refused_from m u (place + 1) more)) (ap (λ x. next m x step) (some_is v w r) ∙ impossible)
    ∙ ap Some (omega arith)
refused_here m (first ∷ h) step more v w place r impossible =
    by (next m v first) (λ u r. refused_here m h step more u w (place + 1) r impossible ∙ ap Some (omega arith)) r
  where
    by : (o : Option World) →
        ((u : World) → run m u h ≡ Some w →
        refused_from m u (place + 1) ((h ++ step ∷ []) ++ more) ≡ Some (place + length (first ∷ h))) →
        (o >>= λ u. run m u h) ≡ Some w →
        place_or_rest o place (λ u. refused_from m u (place + 1) ((h ++ step ∷ []) ++ more))
        ≡ Some (place + length (first ∷ h))
    by None rest r = cc
    by (Some u) rest r = rest u r

fault_is : (m : Machine) (text : List ℕ) (h : List Step) (step : Step) (w : World) (place : ℕ) →
    reached m h ≡ Some w → next m w step ≡ None → place ≡ length (h ++ step ∷ []) →
    (rest : Result (List Step) ℕ) → steps_of text ≡ onto (h ++ step ∷ []) rest →
    IsFaultOfTrace false m text (fault_of_rest place rest)
fault_is m text h step w place r impossible is (Ok more) reads =
    inr (
      place,
      refl,
      refl,
      (
        (h ++ step ∷ []) ++ more,
        written text ((h ++ step ∷ []) ++ more) reads,
        refused_here m h step more (opening m) w 1 r impossible ∙ ap Some (omega (arith, is, length-append h (step ∷ []))),
      ),
    )
fault_is m text h step w place r impossible is (Err behind) reads =
    inl (place + behind, refl, (first_fault text (place + behind)).0 (reads ∙ ap (λ n. stops (n + behind)) (sym is)))

step_refused : (m : Machine) (text : List ℕ) (old new : Ahead) (a : Auditing) (step : Step) →
    IsJudged m text old a → IsNext old step new → next a.at.machine a.at.world step ≡ None →
    IsFaultOfTrace false m text (fault_of_rest new.read (steps_of new.rest))
step_refused m text old new a step j next_line impossible =
    let read = one_more (start text) old new j.steps step j.read next_line in
    fault_is m text j.steps step a.at.world new.read j.reached_by (ap (λ y. next y a.at.world step) (sym j.machine) ∙ impossible) (omega (arith, read.counted))
    (steps_of new.rest) (rest_is (start text) new (j.steps ++ step ∷ []) read)

pub not_taken : (m : Machine) (text : List ℕ) (old new : Ahead) (a : Auditing) (step : Step)
    (found : StepFault) (f : Fault) →
    IsJudged m text old a → IsNext old step new → Explains a.at step found →
    f ≡ fault_behind new.read (steps_of new.rest) found → (f ≡ fault.NoMemory) ⊎ IsFaultOfTrace false m text f
not_taken m text old new a step NoMemory f j next_line why is = inl is
not_taken m text old new a step (Refused reason) f j next_line why is =
    inr (subst (IsFaultOfTrace false m text) (sym is) (step_refused m text old new a step j next_line (is_impossible a.at.machine a.at.world step reason why)))

pub all_read : (m : Machine) (text : List ℕ) (ahead : Ahead) (a : Auditing)
    (j : IsJudged m text ahead a) →
    steps_of ahead.rest ≡ Ok [] → IsTraceOf text j.steps
all_read m text ahead a j none = written text j.steps (ended (start text) ahead j.steps j.read none)

pub all_counted : (m : Machine) (text : List ℕ) (ahead : Ahead) (a : Auditing)
    (j : IsJudged m text ahead a) (count : ℕ) →
    count ≡ ahead.read → count ≡ length j.steps
all_counted m text ahead a j count is = is ∙ counted m text ahead a j
