-- What a lint prints for a machine text, and for a list of items for its machine.
use Rattle.std.specs.Prelude.{◌≡◌, ◌==◌, ◌++◌, ℕ, Option, Some, None, if◌then◌else◌, List, [], length}
use Rattle.std.specs.Borrow.{Bor}
use Rattle.l4_model.specs.Machine.{Machine}
use Rattle.l4_lint.specs.Doubts.{lint_text}
use Rattle.l4_lint.specs.Faults.{faults_of}
use Rattle.l4_lint.specs.Spelling.{status_of}
use Rattle.l4_schedules.specs.Faulty.{Fault as ListFault, faults_text, file_faults, list_faults}
use Rattle.l4_commands.specs.Files.{list_name}
use Rattle.l4_jobs.specs.Outputs.{Output}

-- A line for each fault, or where there is none, for each doubt, with the name of the file where
-- that is shown. The status tells whether there is a fault.
pub record IsLinted (file : Option (List ℕ)) (text : List ℕ) (o : Output) : Type 0 where
  pub lines_are : o.lines ≡ lint_text file text
  pub status_is : o.status ≡ status_of (faults_of text)
  pub said : o.said ≡ []
  pub unrecorded : o.list ≡ None

-- The faults of a list, or of the list in a file.

abbrev pub named_faults : Machine → (name : Option (List ℕ)) → (list text : List ℕ) → List ListFault
named_faults m None list text = list_faults m list
named_faults m (Some name) list text = file_faults m text

abbrev pub asked_faults : Machine → (schedule : Option (Bor (List ℕ))) → (text : List ℕ) →
    List ListFault
asked_faults m None text = []
asked_faults m (Some list) text = named_faults m (list_name list.now) list.now text

abbrev pub status_of_list : List ListFault → ℕ
status_of_list found = if length found == 0 then 0 else 1

-- Of a text that declares a machine, the doubts are printed, and behind them the faults of the
-- list, where one is given. The status tells whether the list has a fault.
pub record IsListLinted (file : Option (List ℕ)) (text : List ℕ) (m : Machine)
    (schedule : Option (Bor (List ℕ))) (list : List ℕ) (o : Output) : Type 0 where
  pub lines_are : o.lines ≡ lint_text file text ++ faults_text (asked_faults m schedule list)
  pub status_is : o.status ≡ status_of_list (asked_faults m schedule list)
  pub said : o.said ≡ []
  pub unrecorded : o.list ≡ None
