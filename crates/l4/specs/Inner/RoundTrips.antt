-- A run whose trace is read back and audited.
use Rattle.std.specs.Prelude.{◌≡◌, Ok, List, map}
use Rattle.l4_model.specs.Machine.{Machine}
use Rattle.l4_model.specs.Steps.{Step}
use Rattle.l4_types.specs.StepView.{step_of}
use Rattle.l4_audit.specs.Audits.{Passes}
use Rattle.l4_machine.specs.declared.outcome.Outcome.{Outcome}
use Rattle.l4_trace.specs.Lines.{trace_of}
use Rattle.l4_trace.specs.Reading.{steps_of}
use Rattle.l4.specs.declared.round_trips.AuditedOutcome.{AuditedOutcome}

abbrev pub history_of : Outcome → List Step
history_of o = map step_of o.history.items

-- The trace is that of the outcome's history, it is read as the same steps, and these pass the
-- audit.
pub record IsAudited (m : Machine) (a : AuditedOutcome) : Type 0 where
  pub written : a.trace.items ≡ trace_of (history_of a.outcome)
  pub read : steps_of a.trace.items ≡ Ok (history_of a.outcome)
  pub passes : Passes m (history_of a.outcome) a.audit
