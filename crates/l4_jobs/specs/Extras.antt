-- What is printed behind a trace, a report or the line of an audit.
use Rattle.std.specs.Prelude.{ℕ, Bool, if◌then◌else◌, List, [], ◌++◌}
use Rattle.l4_model.specs.Machine.{Machine}
use Rattle.l4_model.specs.World.{World}
use Rattle.l4_model.specs.Steps.{Step}
use Rattle.l4_counts.specs.Lines.{counts_text}
use Rattle.l4_waits.specs.Lines.{waits_text}
use Rattle.l4_commands.specs.declared.job.Extras.{Extras}

abbrev pub text_where : (asked : Bool) → (text : List ℕ) → List ℕ
text_where asked text = if asked then text else []

-- Who waits for whom in a world, and what each thread did in the steps that lead there, each where
-- it is asked for.
abbrev pub behind : Extras → Machine → World → (history : List Step) → List ℕ
behind e m w h = text_where e.waits (waits_text m w) ++ text_where e.counts (counts_text m h)
