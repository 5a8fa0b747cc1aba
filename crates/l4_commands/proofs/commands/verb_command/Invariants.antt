use Rattle.std.proofs.Common.{◌≡◌, false, take}
use Rattle.std.specs.Prelude.{fold}
use Rattle.clap.specs.Words.{app_of, new_app}
use Rattle.clap.specs.declared.builder.command.Command.TheViews.{out-Command}
use Rattle.l4_commands.proofs.Chains.{with_row}
use Rattle.l4_commands.proofs.commands.verb_command.Given as goal

abbrev pub invariant-loop-row : goal.invariant-loop-row
invariant-loop-row l = (app_of l.command ≡ fold with_row (new_app l.verb.name.now) (take l.row-index l.verb.arguments.now))
    × ((out-Command l.command).has_globals ≡ false)
