-- What is expected of a report, and what of it does not hold.
use Rattle.std.specs.Prelude.{◌≡◌, ℕ, Bool, true, Option, Some, None, Ok, List, []}
use Rattle.l4_expect.specs.Expected.{Expected, expectations_of}
use Rattle.l4_expect.specs.Unmet.{are_met, expected_status, unmet_text}
use Rattle.l4_expect.specs.declared.expectations.ExpectFault.{ExpectFault}
use Rattle.l4_expect.specs.declared.expectations.ExpectFault.TheVariants as expect_fault
use Rattle.l4_expect.specs.declared.judging.Scope.{Scope}
use Rattle.l4_expect.specs.declared.judging.Scope.TheVariants as scope
use Rattle.l4_commands.specs.declared.job.Job.{Job}
use Rattle.l4_commands.specs.declared.job.Job.TheVariants.{Endings}
use Rattle.l4_jobs.specs.Inputs.{Gives}
use Rattle.l4_jobs.specs.declared.fault.Fault.{Fault}
use Rattle.l4_jobs.specs.declared.fault.Fault.TheVariants as fault

-- Runs to one ending may differ in parts of their reports, so a search can't expect these.
abbrev pub scope_of : Job → Scope
scope_of (Endings search) = scope.Endings
scope_of _ = scope.OneRun

-- What is expected: what the text of the file asks for, where a file is named.
abbrev pub IsExpected : (name : Option (List ℕ)) → Scope → Gives → Option (List Expected) → Type 0
IsExpected None scope gives expected = expected ≡ None
IsExpected (Some name) scope gives expected =
    (text : List ℕ) × (lines : List Expected) × gives (Ok text)
    × (expectations_of scope text ≡ Ok lines) × (expected ≡ Some lines)

-- The fault of that text.
abbrev pub fault_of_expect : ExpectFault → Fault
fault_of_expect expect_fault.NoMemory = fault.NoMemory
fault_of_expect (expect_fault.Line line wrong) = fault.Expectation line wrong

-- What does not hold of a report, and the exit status by that of the run.

abbrev pub unmet_by : Option (List Expected) → (report : List ℕ) → List ℕ
unmet_by None report = []
unmet_by (Some expected) report = unmet_text report expected

abbrev pub is_met_by : Option (List Expected) → (report : List ℕ) → Bool
is_met_by None report = true
is_met_by (Some expected) report = are_met report expected

abbrev pub status_by : Option (List Expected) → (report : List ℕ) → (status : ℕ) → ℕ
status_by expected report status = expected_status (is_met_by expected report) status
