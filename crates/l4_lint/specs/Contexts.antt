-- What the lines before a line say about it.
use Rattle.std.specs.Prelude.{ℕ, Bool, not, ◌||◌, ◌==◌, if◌then◌else◌, length}
use Rattle.l4_model.specs.Words.{Format, W64}
use Rattle.l4_script.specs.Texts.{Stage, Start, Processors, Threads}
use Rattle.l4_lint.specs.declared.hints.Lines.{Lines}
use Rattle.l4_lint.specs.declared.hints.Lines.TheVariants as these

-- Which lines may stand there, the format of words, and the number of processors.
pub record Context : Type 0 where
  pub lines : Lines
  pub format : Format
  pub cpus : ℕ

abbrev pub context : Lines → Format → (cpus : ℕ) → Context
context which format cpus = record { lines = which; format = format; cpus = cpus }

abbrev pub lines_in : (begun : Bool) → Lines
lines_in begun = if begun then these.Script else these.Thread

-- An instruction may stand behind a `thread` line, even a faulty one. The first two lines have no
-- words of a format.
abbrev pub context_at : Stage → (lost : Bool) → Context
context_at Start lost = context these.Format W64 0
context_at (Processors heading) lost = context these.Processors heading.format 0
context_at (Threads r) lost =
    context (lines_in (lost || not (length r.machine.threads == 0))) r.format r.machine.cpus
