-- What is printed, told as objects of JSON where that is asked for.
use Rattle.std.specs.Prelude.{◌≡◌, ℕ, Bool, true, false, if◌then◌else◌, List}
use Rattle.l4_model.specs.Machine.{Machine}
use Rattle.l4_model.specs.Steps.{Step}
use Rattle.l4_model.specs.World.{opening}
use Rattle.l4_json.specs.Lines.{json_text}
use Rattle.l4_json.specs.Scripts.{script_lines}
use Rattle.l4_json.specs.Steps.{steps_text}
use Rattle.l4_trace.specs.Lines.{trace_of}
use Rattle.l4_commands.specs.declared.job.Job.{Job}
use Rattle.l4_commands.specs.declared.job.Job.TheVariants.{Run, Replay, Next, Audit, Chart, Endings, Lint, Step as Session}
use Rattle.l4_jobs.specs.Outputs.{Output}

-- Lines as they are, or the object of each.
abbrev pub told : (json : Bool) → (lines : List ℕ) → List ℕ
told json lines = if json then json_text lines else lines

-- The lines of the steps of a history, or their objects, which tell more.
abbrev pub told_steps : (json : Bool) → (text : List ℕ) → Machine → List Step → List ℕ
told_steps true text m history = steps_text m (script_lines text) (opening m) history
told_steps false text m history = trace_of history

-- Whether all lines of a job are told as objects once they are there. Those of a run or a replay
-- are told one part after the other, and a chart has none.
abbrev pub is_retold : Job → Bool
is_retold (Run run) = false
is_retold (Replay replay) = false
is_retold (Next next) = next.json
is_retold (Audit audit) = audit.json
is_retold (Chart chart) = false
is_retold (Endings search) = search.json
is_retold (Lint lint) = lint.json
is_retold (Session step) = false

-- The lines of an output are these, which are those of such an output, or the objects of these.
pub record IsTold (json : Bool) (IsInLines : Output → Type 0) (o : Output) : Type 0 where
  pub lines : List ℕ
  pub in_lines : IsInLines (record o { lines = lines })
  pub told_are : o.lines ≡ told json lines
