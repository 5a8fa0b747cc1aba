-- What makes runs for jobs.
use Rattle.std.specs.Prelude.{◌≡◌, ◌⊎◌, ℕ, Option, Some, Result, MatchResult, List}
use Rattle.std.specs.Borrow.{Bor}
use Rattle.std.specs.Option.{option_copied}
use Rattle.l4_model.specs.Machine.{Machine}
use Rattle.l4_expect.specs.Expected.{Expected}
use Rattle.l4_commands.specs.declared.job.RunJob.{RunJob}
use Rattle.l4_jobs.specs.Outputs.{output_of}
use Rattle.l4_jobs.specs.Runs.{IsRunJobDone}
use Rattle.l4_jobs.specs.Schedules.{fault_of_turns}
use Rattle.l4_jobs.specs.declared.done.Done.{Done}
use Rattle.l4_jobs.specs.declared.fault.Fault.{Fault}
use Rattle.l4_jobs.specs.declared.fault.Fault.TheVariants as fault

-- What is made is the run that is asked for, or the fault that memory was refused or of its turns.
abbrev pub IsRunMade : RunJob → (text : List ℕ) → Machine → Option (List Expected) →
    Result Done Fault → Type 0
IsRunMade run text m expected made =
    MatchResult made
    (λ done. IsRunJobDone run text m expected (output_of done))
    (λ f. (f ≡ fault.NoMemory) ⊎ (fault_of_turns run.turns ≡ Some f))

-- Whatever may be made of what is handed over is such a run or such a fault. This text declares the
-- machine.
abbrev pub MakesRuns : (text : List ℕ) → (Bor Machine → RunJob → Option (Bor (List Expected)) →
    Result Done Fault → Type 0) → Type 0
MakesRuns text makes =
    (m : Bor Machine) (run : RunJob) (expected : Option (Bor (List Expected)))
    (made : Result Done Fault) → makes m run expected made →
    IsRunMade run text m.now (option_copied expected) made
