-- What is read of a trace, by the lines that spell its steps.
use Rattle.std.proofs.Common.{◌≡◌, ℕ, Bool, true, false, Option, Some, None, Result, Ok, Err, List, ap, sym, inl, inr, ◌∙◌}
use Rattle.std.specs.Prelude.{◌⊎◌, IfErr}
use Rattle.l4_model.specs.Machine.{Machine}
use Rattle.l4_model.specs.Steps.{Step}
use Rattle.l4_model.specs.History.{refused_place}
use Rattle.l4_trace.specs.Lines.{IsTraceOf}
use Rattle.l4_trace.specs.Reading.{HasFaultAt, Reads, steps_of}
use Rattle.l4_trace.specs.declared.fault.TraceFault.{TraceFault}
use Rattle.l4_trace.specs.declared.fault.TraceFault.TheVariants as trace_fault
use Rattle.l4_trace.proofs.ReadTexts.{first_fault, one_spelling, read_back}
use Rattle.l4_jobs.specs.Audits.{IsFaultOfTrace, IsRefusedAt, fault_of_reading}
use Rattle.l4_jobs.specs.declared.fault.Fault.{Fault}
use Rattle.l4_jobs.specs.declared.fault.Fault.TheVariants as fault

-- A text spells one list of steps, or has a faulty line.

pub one_trace : (text : List ℕ) (h g : List Step) → IsTraceOf text h → IsTraceOf text g → h ≡ g
one_trace text h g is other = one_spelling h g is.0 other.0 (is.1 ∙ sym other.1)

never_both : (text : List ℕ) (steps : List Step) (line : ℕ) → IsTraceOf text steps → HasFaultAt text line → ⊥
never_both text steps line is faulty =
    absurd (let bad : Ok steps ≡ Err line = sym (read_back steps is.0) ∙ ap steps_of is.1 ∙ (first_fault text line).1 faulty in cc)

pub same_place : (m : Machine) (text : List ℕ) (steps : List Step) (number : Option ℕ) → IsTraceOf text steps → IsRefusedAt m text number →
    refused_place m steps ≡ number
same_place m text steps number is (others, spelled, place) = ap (refused_place m) (one_trace text steps others is spelled) ∙ place

-- A trace whose steps are told of, or are possible, has no fault.
pub trace_right : (tells : Bool) (m : Machine) (text : List ℕ) (steps : List Step) (f : Fault) → IsTraceOf text steps →
    (tells ≡ true) ⊎ (refused_place m steps ≡ None) → IsFaultOfTrace tells m text f → ⊥
trace_right tells m text steps f is right (inl (line, at, faulty)) = never_both text steps line is faulty
trace_right tells m text steps f is (inl told) (inr (number, at, untold, refused)) = absurd (let bad : true ≡ false = sym told ∙ untold in cc)
trace_right tells m text steps f is (inr none) (inr (number, at, untold, refused)) =
    absurd (let bad : None ≡ Some number = sym none ∙ same_place m text steps (Some number) is refused in cc)

-- The fault of reading a trace is that of its first line that spells no step.
pub line_fault : {X : Type 0} (tells : Bool) (m : Machine) (text : List ℕ) (r : Result X Fault) (e : TraceFault) →
    IfErr r (λ f. f ≡ fault_of_reading e) → Reads {X = List Step} (λ steps. steps) (Err e) (steps_of text) → IfErr r (λ f. (f ≡ fault.NoMemory) ⊎ IsFaultOfTrace tells m text f)
line_fault tells m text (Ok x) e is reads = tt
line_fault tells m text (Err f) trace_fault.NoMemory is reads = inl is
line_fault tells m text (Err f) (trace_fault.Line line) is reads = inr (inl (line, is, (first_fault text line).0 reads))
