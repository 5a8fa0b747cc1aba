-- How a machine grows as its text is read.
use Rattle.std.specs.Prelude.{ℕ, ◌≡◌, ◌<◌, ◌-◌, ◌≤◌, Bool, ◌==◌, Option, Some, List, [], ◌∷◌, ◌++◌, length, slice_set}
use Rattle.std.specs.List.{list_any}
use Rattle.l4_model.specs.Machine.{Instr, Declaration, Machine, most_processors, most_threads}
use Rattle.l4_core_model.specs.Local.{declared}
use Rattle.l4_core_model.specs.Runs.{IsMachine}

-- A machine by its parts: of profile 2 where it retargets, else of profile 1.
abbrev pub machine_with : (retargeting : Bool) → (cpus : ℕ) → List Declaration → Machine
machine_with retargeting cpus threads = record {
  retargeting = retargeting;
  cpus = cpus;
  threads = threads;
}

-- A machine as a text declares it.
pub record IsLawful (m : Machine) : Type 0 where
  pub machine : IsMachine m
  pub some : 1 ≤ m.cpus
  pub limit : m.cpus ≤ most_processors
  pub threads : length m.threads ≤ most_threads

-- Each thread stands at the place of its number, and no other number has a place.
pub record AreFound (places : ℕ → Option ℕ) (m : Machine) : Type 0 where
  pub each : (i : ℕ) → i < length m.threads → places (declared m i).id.number ≡ Some i
  pub only : (number i : ℕ) → places number ≡ Some i →
      (i < length m.threads) × ((declared m i).id.number ≡ number)

abbrev pub has_number : ℕ → Declaration → Bool
has_number number d = d.id.number == number

-- A thread of this number is declared, with any version.
abbrev pub is_taken : ℕ → Machine → Bool
is_taken number m = list_any (has_number number) m.threads

abbrev pub with_instruction : Instr → Declaration → Declaration
with_instruction instr d = record d { script = d.script ++ instr ∷ [] }

abbrev pub with_thread : Declaration → Machine → Machine
with_thread d m = record m { threads = m.threads ++ d ∷ [] }

-- The thread that was declared last.
abbrev pub last_place : Machine → ℕ
last_place m = length m.threads - 1

abbrev pub last_thread : Machine → Declaration
last_thread m = declared m (last_place m)

-- Its script has one more instruction.
abbrev pub extended : Instr → Machine → Machine
extended instr m = record m {
  threads = slice_set m.threads (last_place m)
      (with_instruction instr (last_thread m));
}

-- Its script is this one.
abbrev pub with_last_script : List Instr → Machine → Machine
with_last_script script m = record m {
  threads = slice_set m.threads (last_place m) (record (last_thread m) { script = script });
}
