-- The processors of a machine at work together, and the run in rounds that they have come to.
use Rattle.std.specs.Prelude.{◌≡◌, ◌⊎◌, ◌↔◌, ℕ, ◌≤◌, ◌*◌, false, IsTrue, Option, Some, List, length, map, slice_get}
use Rattle.std.specs.Option.{option_map}
use Rattle.std.specs.List.Sorted.{IsPermutation}
use Rattle.l4_model.specs.Words.{period_limit}
use Rattle.l4_model.specs.Machine.{Machine}
use Rattle.l4_core_model.specs.Runs.{Run}
use Rattle.l4_core_model.specs.Turns.{is_busy}
use Rattle.l4_core_model.specs.Schedules.{earliest_of}
use Rattle.l4_merge.specs.LocalTraces.{LocalTrace, all_events}
use Rattle.l4_merge.specs.Merges.{EndsAt}
use Rattle.l4_core_model.specs.Laws.{IsCoreRun}
use Rattle.l4_merge.specs.Rounds.{IsInRounds}
use Rattle.l4_mail.specs.Ports.{AreWhole}
use Rattle.l4_proc.specs.Rests.{HaveHandledAll}
use Rattle.l4_proc.specs.Working.{past, HasTicked}
use Rattle.l4_proc.specs.declared.processor.Processor.{Processor}
use Rattle.l4_machine.specs.Gathers.{AreOfOne}
use Rattle.l4_machine.specs.declared.team.Team.{Team}

abbrev pub pasts : List Processor → List LocalTrace
pasts ps = map past ps

-- How many events there were.
abbrev pub count_events : List Processor → ℕ
count_events ps = length (all_events (pasts ps))

-- All processors of a machine, in the order of their numbers.
pub record AreInOrder (m : Machine) (ps : List Processor) : Type 0 where
  pub for_each : length ps ≡ m.cpus
  pub numbers : (i : ℕ) (p : Processor) → slice_get ps i ≡ Some p → p.worker.core.cpu ≡ i
  pub of_one : AreOfOne m ps

-- The processors have come to where this core run ends, and their logs have its events. No clock is
-- above 2^42 times the number of events.
pub record HaveCome (m : Machine) (ps : List Processor) (r : Run) : Type 0 where
  pub in_order : AreInOrder m ps
  pub core_run : IsCoreRun m r
  pub ends : EndsAt r (pasts ps)
  pub events : IsPermutation (all_events (pasts ps)) r.events
  pub clocks : (i : ℕ) (p : Processor) → slice_get ps i ≡ Some p →
      p.worker.core.local.clock ≤ count_events ps * period_limit

-- A team between rounds, with the run in rounds that it has come to.
pub record IsTeam (t : Team) : Type 0 where
  pub run : Run
  pub come : HaveCome t.machine.now t.processors.items run
  pub rounds : IsInRounds t.machine.now t.turns run
  pub whole : AreWhole (map (λ p. p.port) t.processors.items)
  pub handled : IsTrue t.all_handled ↔ HaveHandledAll t.processors.items

-- No processor has a duty, due timeout or ready thread.
abbrev pub AreIdle : List Processor → Type 0
AreIdle ps = (i : ℕ) (p : Processor) → slice_get ps i ≡ Some p →
    is_busy p.worker.core.machine p.worker.core.cpu p.worker.core.local ≡ false

-- The least deadline that a thread of a processor is armed for, and that of all.
abbrev pub deadline_of : Processor → Option ℕ
deadline_of p = option_map (λ e. e.0) (slice_get p.worker.core.local.lists.armed 0)

abbrev pub first_deadline : List Processor → Option ℕ
first_deadline ps = earliest_of (map deadline_of ps)

-- The clock of a processor went on to this value, unless it stood there or later already.
abbrev pub HasComeTo : (clock : ℕ) → (old new : Processor) → Type 0
HasComeTo clock old new = ((clock ≤ old.worker.core.local.clock) × (new ≡ old)) ⊎
    HasTicked clock old new

-- The clock of each processor went on to this value, unless it stood there or later already.
pub record HaveComeTo (clock : ℕ) (olds news : List Processor) : Type 0 where
  pub for_each : length news ≡ length olds
  pub each : (i : ℕ) (old new : Processor) → slice_get olds i ≡ Some old →
      slice_get news i ≡ Some new → HasComeTo clock old new
