-- What may happen next behind a schedule, and why nothing is told of it.
use Rattle.std.specs.Prelude.{◌≡◌, ◌⊎◌, ℕ, true, Some, None, Ok, List, []}
use Rattle.std.specs.Option.{option_map}
use Rattle.l4_model.specs.Machine.{Machine}
use Rattle.l4_core_model.specs.Schedules.{Entry, replay_entries}
use Rattle.l4_commands.specs.Files.{list_name}
use Rattle.l4_next.specs.Nexts.{Next, are_spelled, nexts, nexts_fault, nexts_text}
use Rattle.l4_jobs.specs.Inputs.{Gives, IsRead}
use Rattle.l4_jobs.specs.Outputs.{Output}
use Rattle.l4_jobs.specs.Schedules.{IsReplayFault, asked_schedule, fault_of_run}
use Rattle.l4_jobs.specs.declared.fault.Fault.{Fault}

-- What may happen next behind the replay of these entries.
abbrev pub nexts_behind : Machine → List Entry → List Next
nexts_behind m entries = nexts m (replay_entries m entries).system

-- All of that is printed, and nothing else.
pub record IsNextDone (m : Machine) (list text : List ℕ) (o : Output) : Type 0 where
  pub entries : List Entry
  pub asked : asked_schedule m list text ≡ Ok entries
  pub lines_are : o.lines ≡ nexts_text (nexts_behind m entries)
  pub lawful : nexts_fault m entries ≡ None
  -- each step has a line of its own
  pub spelled : are_spelled (nexts_behind m entries) ≡ true
  pub said : o.said ≡ []
  pub status_is : o.status ≡ 0
  pub unrecorded : o.list ≡ None

-- The fault of the schedule, or else that nothing may follow, as it is as long as there may be any.
pub record IsNoNext (m : Machine) (list : List ℕ) (gives : Gives) (f : Fault) : Type 0 where
  pub text : List ℕ
  pub read : IsRead (list_name list) gives text
  pub entries : List Entry
  pub asked : asked_schedule m list text ≡ Ok entries
  pub faulty : option_map fault_of_run (nexts_fault m entries) ≡ Some f

abbrev pub IsNextFault : Machine → (list : List ℕ) → Gives → Fault → Type 0
IsNextFault m list gives f =
    IsReplayFault m None list gives f ⊎ IsNoNext m list gives f
