-- Adding an argument or a subcommand to a command keeps what is known of it.
use Rattle.std.proofs.Common.{◌≡◌, false, ap, ap₂, ◌∙◌, refl}
use Rattle.clap.specs.Words.{AddsArg, AddsSubcommand, App, Rule, app_of, rule_of, with_rule, with_subcommand}
use Rattle.clap.specs.declared.builder.arg.Arg.{Arg}
use Rattle.clap.specs.declared.builder.command.Command.{Command}
use Rattle.clap.specs.declared.builder.command.Command.TheViews.{out-Command}
use Rattle.l4_commands.specs.Commands.{rule_of_row, with_command}
use Rattle.l4_commands.specs.declared.options.Argument.{Argument}

abbrev pub with_row : App → Argument → App
with_row app row = with_rule app (rule_of_row row)

pub gains : {old new : Command} {arg : Arg} {a : App} {r : Rule} → app_of old ≡ a → rule_of arg ≡ r → arg.global ≡ false → AddsArg old arg new →
    app_of new ≡ with_rule a r
gains app rule local adds = adds.shape local ∙ ap₂ with_rule app rule

pub stays_local : {old new : Command} {arg : Arg} → (out-Command old).has_globals ≡ false → arg.global ≡ false → AddsArg old arg new →
    (out-Command new).has_globals ≡ false
stays_local old local adds = adds.globals ∙ rw (old, local) refl

pub gains_below : {old sub new : Command} {a b : App} → app_of old ≡ a → app_of sub ≡ b → (out-Command sub).has_globals ≡ false →
    AddsSubcommand old sub new → app_of new ≡ with_subcommand a b.top
gains_below app below local adds = adds.shape local ∙ ap₂ with_subcommand app (ap (λ (a : App). a.top) below)

pub then : {old new a b c : App} → old ≡ a → b ≡ c → new ≡ with_command old b → new ≡ with_command a c
then old below new = new ∙ ap₂ with_command old below
