-- What an audit tells of a trace.
use Rattle.std.specs.Prelude.{ℕ, ◌≡◌, ◌+◌, ◌↔◌, Bool, true, false, Some, List, map, filter_map}
use Rattle.l4_model.specs.Machine.{Machine}
use Rattle.l4_model.specs.World.{World}
use Rattle.l4_model.specs.Steps.{Step}
use Rattle.l4_model.specs.History.{reached, begun_name, IsFirstFault, view, waiting}
use Rattle.l4_model.specs.Still.{IsStill}
use Rattle.l4_types.specs.declared.reports.Ending.{Ending}
use Rattle.l4_types.specs.declared.reports.Ending.TheVariants.{Quiet, Spent}
use Rattle.l4_types.specs.ReportView.{report_of_view}
use Rattle.l4_audit.specs.declared.audit.Audit.{Audit}
use Rattle.l4_audit.specs.declared.audit.AuditFault.{AuditFault}
use Rattle.l4_audit.specs.declared.audit.AuditFault.TheVariants.{NoMemory, Refused}
use Rattle.l4_audit.specs.declared.reasons.StepFault.{StepFault}
use Rattle.l4_audit.specs.declared.reasons.StepFault.TheVariants.{NoMemory as Wanting, Refused as Refuses}
use Rattle.l4_audit.specs.Inner.Auditing.{Auditing}

abbrev pub is_quiet : Ending → Bool
is_quiet Quiet = true
is_quiet Spent = false

-- The steps are a history, and this is what its world shows.
pub record Passes (m : Machine) (h : List Step) (audit : Audit) : Type 0 where
  pub world : World
  pub reached_by : reached m h ≡ Some world
  pub threads : map report_of_view audit.threads.items ≡ view m world
  pub waiting_are : audit.waiting.items ≡ waiting m world h
  pub ending : (is_quiet audit.ending ≡ true) ↔ IsStill m world

-- A refused place is that of the first fault.
abbrev pub Blames : Machine → List Step → AuditFault → Type 0
Blames m h NoMemory = Unit {0}
Blames m h (Refused place) = IsFirstFault m h place

-- The fault of the step that comes after `taken` others.
abbrev pub fault_at : (taken : ℕ) → StepFault → AuditFault
fault_at taken Wanting = NoMemory
fault_at taken (Refuses reason) = Refused (taken + 1)

-- The audit that passed these steps.
pub record IsReached (m : Machine) (h : List Step) (a : Auditing) : Type 0 where
  pub machine : a.at.machine ≡ m
  pub reached_by : reached m h ≡ Some a.at.world
  pub begun : a.begun ≡ filter_map begun_name h
