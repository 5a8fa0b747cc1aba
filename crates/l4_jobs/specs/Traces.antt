-- A printed trace, as an audit reads it.
use Rattle.std.specs.Prelude.{◌≡◌, ◌↔◌, ℕ, true, false, Some, List, length}
use Rattle.l4_model.specs.Machine.{Machine}
use Rattle.l4_machine.specs.Outcomes.{Findings}
use Rattle.l4_trace.specs.Lines.{IsTraceOf}
use Rattle.l4_commands.specs.declared.job.TheConstants.{NO_EXTRAS, TRACE_ALONE}
use Rattle.l4_commands.specs.declared.job.Judged.{Judged}
use Rattle.l4_commands.specs.declared.job.Printed.{Printed}
use Rattle.l4_jobs.specs.Audits.{IsPassed, passed_line}
use Rattle.l4_types.specs.declared.reports.Ending.{Ending}
use Rattle.l4_audit.specs.Audits.{is_quiet}
use Rattle.l4_model.specs.Still.{IsStill}
use Rattle.l4_model.specs.World.{World}
use Rattle.l4_model.specs.History.{reached}

-- An audit without options.
abbrev pub plain : Judged
plain = record { report = false; explain = false; extras = NO_EXTRAS }

-- What is printed of a run or a replay of which nothing but the objects of its steps is asked for.
abbrev pub objects_alone : Printed
objects_alone = record TRACE_ALONE { json = true }

-- These lines spell the history, and the line of an audit that passes fits them, whichever ending
-- is that of the world.
pub record IsTraceThatPasses (m : Machine) (o : Findings) (lines : List ℕ) : Type 0 where
  pub spells : IsTraceOf lines o.history
  pub passes : (ending : Ending) →
      ((w : World) → reached m o.history ≡ Some w → (is_quiet ending ≡ true) ↔ IsStill m w) →
      IsPassed plain m lines (passed_line (length o.history) ending)
