-- What a replay of a record prints.
use Rattle.std.specs.Prelude.{◌≡◌, ℕ, Option, None, List}
use Rattle.l4_model.specs.Machine.{Machine}
use Rattle.l4_expect.specs.Expected.{Expected}
use Rattle.l4_commands.specs.declared.job.Printed.{Printed}
use Rattle.l4_jobs.specs.Outputs.{Output}
use Rattle.l4_jobs.specs.Runs.{IsRunDone}
use Rattle.l4_jobs.specs.Schedules.{IsReplayAsked}

abbrev pub unrecorded : Output → Output
unrecorded o = record o { list = None }

-- A replay of this list in a file, which has these items, comes to this output but for its record,
-- and to no other.
pub record IsRepeatedBy (printed : Printed) (text : List ℕ) (m : Machine) (list items : List ℕ)
    (expected : Option (List Expected)) (o : Output) : Type 0 where
  pub again :
      IsRunDone printed text m (IsReplayAsked m None list items) None expected (unrecorded o)
  pub alone :
      (other : Output) →
      IsRunDone printed text m (IsReplayAsked m None list items) None expected other →
      other ≡ unrecorded o
