-- What the outcome of a run says.
use Rattle.std.specs.Prelude.{◌≡◌, ◌↔◌, ◌⊎◌, ℕ, ◌+◌, ◌<◌, ◌≤◌, true, Some, List, map, length}
use Rattle.l4_model.specs.Words.{Id}
use Rattle.l4_model.specs.Machine.{Machine}
use Rattle.l4_model.specs.Steps.{Step}
use Rattle.l4_model.specs.World.{Name, World}
use Rattle.l4_model.specs.History.{IsHistory, Report, reached, view, waiting as undecided_sends}
use Rattle.l4_model.specs.Laws.{IsLawful}
use Rattle.l4_model.specs.Still.{IsStill}
use Rattle.l4_core_model.specs.Runs.{IsMachine, Run, merged, told, at_rest}
use Rattle.l4_core_model.specs.Schedules.{run, replay, Entry, replay_entries}
use Rattle.l4_merge.specs.Rounds.{IsInRounds}
use Rattle.l4_refines.specs.Laws.{IsKnownAtHome, IsStateOfOne}
use Rattle.l4_types.specs.declared.reports.Ending.{Ending}
use Rattle.l4_types.specs.declared.reports.Ending.TheVariants.{Quiet}
use Rattle.l4_types.specs.StepView.{step_of}
use Rattle.l4_types.specs.ReportView.{report_of_view}
use Rattle.l4_machine.specs.Gathers.{merged_steps}
use Rattle.l4_machine.specs.declared.run_history.RunHistory.{RunHistory}
use Rattle.l4_machine.specs.declared.run_history.RunHistory.TheVariants.{Steps, Logs}
use Rattle.l4_machine.specs.declared.outcome.CompactOutcome.{CompactOutcome}
use Rattle.l4_machine.specs.declared.outcome.Outcome.{Outcome}

-- What an outcome tells of a run, however it keeps the history.
pub record Findings : Type 0 where
  pub history : List Step
  pub waiting : List (Name × Id)
  pub threads : List Report
  pub ending : Ending
  pub turns : ℕ

abbrev pub findings_of : Outcome → Findings
findings_of o = record {
  history = map step_of o.history.items;
  waiting = o.waiting.items;
  threads = map report_of_view o.threads.items;
  ending = o.ending;
  turns = o.turns;
}

-- The steps of a history: those that it has, or those of all logs, merged.
abbrev pub steps_of : RunHistory → List Step
steps_of (Steps history) = history.steps
steps_of (Logs logs) = merged_steps logs.machine.now logs.processors.items

abbrev pub compact_findings_of : CompactOutcome → Findings
compact_findings_of o = record {
  history = steps_of o.history;
  waiting = o.waiting.items;
  threads = map report_of_view o.threads.items;
  ending = o.ending;
  turns = o.turns;
}

-- These findings are true of the machine. Nothing here names a run of processors.
pub record IsTrueOf (m : Machine) (o : Findings) : Type 0 where
  -- each of its steps is possible at the world that the earlier ones reach from the opening world
  pub possible : IsHistory m o.history
  -- each send is delivered at most once and unaltered, one sender's messages reach one receiver in
  -- sending order, a receive takes its first acceptable waiting sender, a deleted thread receives
  -- nothing, and every other begun send is refused, dropped or waiting
  pub lawful : IsLawful m o.history
  -- the undecided sends are those of the world that the history reaches, in order of beginning
  pub waiting : (w : World) → reached m o.history ≡ Some w →
      o.waiting ≡ undecided_sends m w o.history
  -- the threads are those of that world, in order of declaration
  pub threads : (w : World) → reached m o.history ≡ Some w → o.threads ≡ view m w
  -- if the ending is quiet, nothing but clocks can go on in that world
  pub still : o.ending ≡ Quiet → (w : World) → reached m o.history ≡ Some w → IsStill m w

-- These are the findings of this core run of the machine.
pub record IsOutcomeOf (m : Machine) (r : Run) (o : Findings) : Type 0 where
  -- they are true of the machine
  pub is_true : IsTrueOf m o
  -- the history is what the events of the run tell, in order
  pub history : o.history ≡ told r.events
  -- the turns are the events of the run
  pub turns : o.turns ≡ length r.events
  -- the ending is quiet exactly if the run ends at rest, and else spent
  pub quiet : (o.ending ≡ Quiet) ↔ (at_rest m r.system ≡ true)

-- A core run with its events in order of stamp, and of equal ones by processor.
abbrev pub in_order : Run → Run
in_order r = record r { events = merged r.events }

-- A run of a machine for this many turns, whichever processor goes first.
pub record IsRunFor (m : Machine) (most : ℕ) (r : Run) : Type 0 where
  -- it goes in rounds: turns in any order, of each processor at most its share; the clocks go on,
  -- to the least deadline, only if nothing else is to be done
  pub rounds : IsInRounds m most r
  -- it ends at rest, or has used up its turns
  pub least : (most ≤ length r.events) ⊎ (at_rest m r.system ≡ true)
  -- it has fewer turns than these and one more for each processor
  pub fewer : length r.events < most + m.cpus
  -- on one processor there is one such run
  pub alone : m.cpus ≡ 1 → r ≡ run m most

-- The findings of such a run. Its history is in order of stamp.
pub record IsFoundFor (m : Machine) (most : ℕ) (o : Findings) : Type 0 where
  pub run : Run
  pub is : IsRunFor m most run
  pub outcome : IsOutcomeOf m (in_order run) o

abbrev pub IsOutcome : Machine → (most : ℕ) → Outcome → Type 0
IsOutcome m most o = IsFoundFor m most (findings_of o)

abbrev pub IsCompactOutcome : Machine → (most : ℕ) → CompactOutcome → Type 0
IsCompactOutcome m most o = IsFoundFor m most (compact_findings_of o)

-- The outcome of a run of this machine by a schedule. Its history is in the order told.
abbrev pub IsReplayed : Machine → (schedule : List ℕ) → Outcome → Type 0
IsReplayed m schedule o = IsOutcomeOf m (replay m schedule) (findings_of o)

-- The outcome of a run of this machine by entries, which may name each choice. Its history is in
-- the order told.
abbrev pub IsCompactReplay : Machine → List Entry → CompactOutcome → Type 0
IsCompactReplay m entries o = IsOutcomeOf m (replay_entries m entries) (compact_findings_of o)

-- What the laws say of a core run in any order.
pub record IsSound (m : Machine) (r : Run) : Type 0 where
  pub machine : IsMachine m
  pub at_home : IsKnownAtHome m r
  pub of_one : IsStateOfOne m r
  pub possible : IsHistory m (told r.events)
  pub lawful : IsLawful m (told r.events)
  pub still : at_rest m r.system ≡ true → (w : World) →
      reached m (told r.events) ≡ Some w → IsStill m w
