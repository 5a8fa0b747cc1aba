-- What is read of a machine text.
use Rattle.std.specs.Prelude.{◌≡◌, ℕ, Ok, List}
use Rattle.l4_model.specs.Machine.{Machine}
use Rattle.l4_script.specs.Versions.{machine_of_text}
use Rattle.l4_lint.specs.Doubts.{doubts_of}
use Rattle.l4_lint.specs.Excerpts.{fault_shown}
use Rattle.l4_lint.specs.Faults.{faults_of}

-- What was read of a text has the same machine, faults and doubts as all of it, and its first fault
-- is shown in the same way. A text that declares a machine was read whole.
pub record IsReadAs (read all : List ℕ) : Type 0 where
  pub machine : machine_of_text read ≡ machine_of_text all
  pub faults : faults_of read ≡ faults_of all
  pub doubts : doubts_of read ≡ doubts_of all
  pub shown : (file : List ℕ) → fault_shown file read ≡ fault_shown file all
  pub whole : (m : Machine) → machine_of_text all ≡ Ok m → read ≡ all
