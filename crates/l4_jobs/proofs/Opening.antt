-- The last of three files can't be opened.
use Rattle.std.proofs.Common.{List, ℕ, Some, Result, inr}
use Rattle.std.specs.declared.io.ErrorKind.{ErrorKind}
use Rattle.l4_commands.specs.Files.{expected_of, file_of, second_file_of}
use Rattle.l4_commands.specs.declared.job.Job.{Job}
use Rattle.l4_jobs.specs.Performing.{AreUnopened, IsOpened, IsUnopened}
use Rattle.l4_jobs.specs.declared.fault.Fault.{Fault}
use Rattle.l4_streams.specs.declared.streams.Given.{Given}

pub last_unopened : {File : Type 0} (opens : List ℕ → Result File ErrorKind → Type 0) (job : Job)
    (machine second : Given File) (f : Fault) → IsOpened opens (Some (file_of job)) machine →
    IsOpened opens (second_file_of job) second → IsUnopened opens (expected_of job) f →
    AreUnopened opens job f
last_unopened opens job machine second f one two three =
    inr (machine, one, inr (second, two, three))
