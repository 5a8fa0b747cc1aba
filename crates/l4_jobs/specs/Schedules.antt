-- The schedule that a job asks for, and the run of a machine by it.
use Rattle.std.specs.Prelude.{◌≡◌, ◌⊎◌, ℕ, Option, Some, None, IsSomeAnd, Result, Ok, Err, List}
use Rattle.std.specs.Option.{option_map}
use Rattle.l4_model.specs.Machine.{Machine}
use Rattle.l4_core_model.specs.Runs.{Run as CoreRun}
use Rattle.l4_core_model.specs.Schedules.{Entry, replay_entries}
use Rattle.l4_replay.specs.Entries.{turns_fault}
use Rattle.l4_machine.specs.Outcomes.{IsRunFor, in_order}
use Rattle.l4_replay.specs.declared.fault.RunFault.{RunFault}
use Rattle.l4_replay.specs.declared.fault.RunFault.TheVariants as run_fault
use Rattle.l4_rounds.specs.ThenRest.{rest_fault, then_rest}
use Rattle.l4_schedules.specs.InFiles.{schedule_in_file}
use Rattle.l4_schedules.specs.Items.{schedule_of}
use Rattle.l4_commands.specs.Files.{list_name}
use Rattle.l4_jobs.specs.Inputs.{FailsWith, Gives, IsRead}
use Rattle.l4_jobs.specs.declared.fault.Fault.{Fault}
use Rattle.l4_jobs.specs.declared.fault.Fault.TheVariants as fault

-- A run of a machine for so many turns, its events in order of stamp. Several processors may have
-- more than one run.
pub record IsRunAsked (m : Machine) (turns : ℕ) (r : CoreRun) : Type 0 where
  pub lawful : turns_fault turns ≡ None
  pub run : CoreRun
  pub is : IsRunFor m turns run
  pub sorted : r ≡ in_order run

-- The schedule that is asked for: that of the list, or that of the text in the file which the list
-- names.
abbrev pub named_schedule : Machine → (name : Option (List ℕ)) → (list text : List ℕ) →
    Result (List Entry) RunFault
named_schedule m None list text = schedule_of m list
named_schedule m (Some name) list text = schedule_in_file m text

abbrev pub asked_schedule : Machine → (list text : List ℕ) → Result (List Entry) RunFault
asked_schedule m list text = named_schedule m (list_name list) list text

-- The core run of a machine by entries, and by so many more turns where it goes on; or why there is
-- none.
abbrev pub unless_fault : Option RunFault → CoreRun → Result CoreRun RunFault
unless_fault None r = Ok r
unless_fault (Some fault) r = Err fault

abbrev pub continued_run : Machine → (rest : Option ℕ) → List Entry → Result CoreRun RunFault
continued_run m None entries = Ok (replay_entries m entries)
continued_run m (Some turns) entries =
    unless_fault (rest_fault m entries turns) (then_rest m entries turns)

abbrev pub run_of_schedule : Machine → (rest : Option ℕ) → Result (List Entry) RunFault →
    Result CoreRun RunFault
run_of_schedule m rest (Ok entries) = continued_run m rest entries
run_of_schedule m rest (Err fault) = Err fault

abbrev pub run_by_list : Machine → (rest : Option ℕ) → (list text : List ℕ) →
    Result CoreRun RunFault
run_by_list m rest list text = run_of_schedule m rest (asked_schedule m list text)

abbrev pub IsReplayAsked : Machine → (rest : Option ℕ) → (list text : List ℕ) → CoreRun → Type 0
IsReplayAsked m rest list text r = run_by_list m rest list text ≡ Ok r

-- The faults of turns and of schedules.

-- No job gathers processors, so `Strangers` never comes.
abbrev pub fault_of_run : RunFault → Fault
fault_of_run run_fault.NoMemory = fault.NoMemory
fault_of_run run_fault.Strangers = fault.NoMemory
fault_of_run run_fault.Turns = fault.Turns
fault_of_run (run_fault.Schedule place) = fault.Schedule place

abbrev pub fault_of_turns : (turns : ℕ) → Option Fault
fault_of_turns turns = option_map fault_of_run (turns_fault turns)

abbrev pub fault_of_result : Result CoreRun RunFault → Option Fault
fault_of_result (Ok r) = None
fault_of_result (Err f) = Some (fault_of_run f)

-- The fault of a schedule in a file, which is read only where there is a machine to judge it on.
abbrev pub IsListFault : Machine → (name : List ℕ) → Gives → Fault → Type 0
IsListFault m name gives f =
    FailsWith name gives f
    ⊎ ((text : List ℕ) × gives (Ok text)
    × (fault_of_result (run_of_schedule m None (schedule_in_file m text)) ≡ Some f))

-- The fault of a schedule, or else of the further turns.
pub record IsRunFault (m : Machine) (rest : Option ℕ) (list : List ℕ) (gives : Gives)
    (f : Fault) : Type 0 where
  pub text : List ℕ
  pub read : IsRead (list_name list) gives text
  pub faulty : fault_of_result (run_by_list m rest list text) ≡ Some f

-- That of a replay: the list that it names can't be read, or the run by it has this fault.
abbrev pub IsReplayFault : Machine → (rest : Option ℕ) → (list : List ℕ) → Gives → Fault → Type 0
IsReplayFault m rest list gives f =
    IsSomeAnd (list_name list) (λ name. FailsWith name gives f) ⊎ IsRunFault m rest list gives f
