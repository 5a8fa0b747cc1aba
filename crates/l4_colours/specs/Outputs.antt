-- Which outputs show colours.
use Rattle.std.specs.Prelude.{Bool, true, false, ◌&&◌, not}
use Rattle.l4_commands.specs.Files.{may_be_painted}
use Rattle.l4_commands.specs.declared.job.Colours.{Colours}
use Rattle.l4_commands.specs.declared.job.Colours.TheVariants.{Auto, Always, Never}
use Rattle.l4_commands.specs.declared.words.Asked.{Asked}
use Rattle.l4_colours.specs.declared.outputs.Output.{Output}

abbrev pub shows_colours : Colours → Output → Bool
shows_colours Auto o = o.is_terminal && not o.is_uncoloured
shows_colours Always o = true
shows_colours Never o = false

abbrev pub is_painted : Asked → Output → Bool
is_painted asked o = may_be_painted asked.job && shows_colours asked.colours o
