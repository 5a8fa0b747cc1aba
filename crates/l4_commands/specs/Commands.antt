-- The commands of the program, as a parse of words reads them.
use Rattle.std.specs.Prelude.{true, Option, Some, None, List, [], ◌∷◌, codes, fold, map}
use Rattle.std.specs.Borrow.{Bor}
use Rattle.clap.specs.Words.{App, Rule, Text, new_app, new_rule, with_rule, with_subcommand, fault_of}
use Rattle.clap.specs.Kinds.{Kinds}
use Rattle.clap.specs.declared.builder.action.ArgAction.TheVariants.{SetTrue}
use Rattle.clap.specs.declared.builder.value_parser.ValueParser.TheVariants.{Unsigned}
use Rattle.l4_commands.specs.declared.options.Argument.{Argument}
use Rattle.l4_commands.specs.declared.options.Takes.{Takes}
use Rattle.l4_commands.specs.declared.options.Takes.TheVariants as takes
use Rattle.l4_commands.specs.declared.options.Verb.{Verb}

-- FILE or TRACE, in its place
abbrev pub place : (name : Text) → Rule
place name = record (new_rule name) { value_names = 1; required = true }

-- `--name`, `--name VALUE` that may be left out, and that has to be given
abbrev pub flag : (name : Text) → Rule
flag name = record (new_rule name) { long = Some name; action = Some SetTrue }

abbrev pub value : (name : Text) → Rule
value name = record (new_rule name) { long = Some name; value_names = 1 }

abbrev pub needed : (name : Text) → Rule
needed name = record (value name) { required = true }

-- `--name N`, a number below 2^64, and where it is left out these
abbrev pub number : (name : Text) → (defaults : List Text) → Rule
number name defaults =
    record (value name) { parser = Some (Unsigned 0 18446744073709551615); defaults = defaults }

-- The arguments of each command, in the order of its help. `run` takes no schedule, and a text of
-- its own says so; so clap has to know the option. `--turns` of a replay and `--trace` of endings
-- have no default, so that it shows whether they were given.
abbrev pub run_rules : List Rule
run_rules =
    place (codes "file")
    ∷ number (codes "turns") (codes "100000" ∷ [])
    ∷ flag (codes "report")
    ∷ flag (codes "chart")
    ∷ flag (codes "registers")
    ∷ flag (codes "waits")
    ∷ flag (codes "counts")
    ∷ flag (codes "json")
    ∷ value (codes "color")
    ∷ value (codes "record")
    ∷ value (codes "expect")
    ∷ value (codes "schedule")
    ∷ []

abbrev pub replay_rules : List Rule
replay_rules =
    place (codes "file")
    ∷ needed (codes "schedule")
    ∷ flag (codes "then-rest")
    ∷ number (codes "turns") []
    ∷ flag (codes "next")
    ∷ flag (codes "report")
    ∷ flag (codes "chart")
    ∷ flag (codes "registers")
    ∷ flag (codes "waits")
    ∷ flag (codes "counts")
    ∷ flag (codes "json")
    ∷ value (codes "color")
    ∷ value (codes "record")
    ∷ value (codes "expect")
    ∷ []

abbrev pub audit_rules : List Rule
audit_rules =
    place (codes "file")
    ∷ place (codes "trace")
    ∷ flag (codes "report")
    ∷ flag (codes "explain")
    ∷ flag (codes "waits")
    ∷ flag (codes "counts")
    ∷ flag (codes "json")
    ∷ value (codes "color")
    ∷ []

abbrev pub chart_rules : List Rule
chart_rules =
    place (codes "file")
    ∷ place (codes "trace")
    ∷ number (codes "from") (codes "1" ∷ [])
    ∷ number (codes "to") (codes "18446744073709551615" ∷ [])
    ∷ value (codes "threads")
    ∷ flag (codes "registers")
    ∷ flag (codes "fold")
    ∷ number (codes "width") (codes "0" ∷ [])
    ∷ flag (codes "ascii")
    ∷ flag (codes "svg")
    ∷ flag (codes "html")
    ∷ flag (codes "mermaid")
    ∷ value (codes "color")
    ∷ []

abbrev pub endings_rules : List Rule
endings_rules =
    place (codes "file")
    ∷ number (codes "depth") (codes "1000" ∷ [])
    ∷ number (codes "states") (codes "1000000" ∷ [])
    ∷ number (codes "memory") (codes "2048" ∷ [])
    ∷ value (codes "with")
    ∷ value (codes "never")
    ∷ flag (codes "stuck")
    ∷ value (codes "rests")
    ∷ flag (codes "none")
    ∷ flag (codes "some")
    ∷ value (codes "always")
    ∷ flag (codes "chart")
    ∷ flag (codes "registers")
    ∷ flag (codes "waits")
    ∷ value (codes "expect")
    ∷ number (codes "trace") []
    ∷ flag (codes "placed")
    ∷ flag (codes "json")
    ∷ value (codes "color")
    ∷ []

abbrev pub lint_rules : List Rule
lint_rules =
    place (codes "file") ∷ value (codes "schedule") ∷ flag (codes "json") ∷ value (codes "color") ∷ []

abbrev pub step_rules : List Rule
step_rules = place (codes "file") ∷ flag (codes "registers") ∷ value (codes "color") ∷ []

abbrev pub command : (name : Text) → List Rule → App
command name rules = fold with_rule (new_app name) rules

abbrev pub commands : List App
commands =
    command (codes "run") run_rules
    ∷ command (codes "replay") replay_rules
    ∷ command (codes "audit") audit_rules
    ∷ command (codes "chart") chart_rules
    ∷ command (codes "endings") endings_rules
    ∷ command (codes "lint") lint_rules
    ∷ command (codes "step") step_rules
    ∷ []

-- The program itself takes `--version` and needs a command.
abbrev pub top_app : App
top_app = let a = new_app (codes "l4run") in record a {
  top =
      record a.top { has_version = true; subcommand_required = true };
}

abbrev pub with_command : App → App → App
with_command program command = with_subcommand program command.top

unfoldable pub l4run_app : App
l4run_app = fold with_command top_app commands

-- All faults that clap may report of the words, among them requests for help.
abbrev pub faults_of : (words : List Text) → Kinds
faults_of words = fault_of l4run_app words

-- What a row of the program's table says to clap.
abbrev pub defaults_of : Option (Bor Text) → List Text
defaults_of None = []
defaults_of (Some text) = text.now ∷ []

abbrev pub rule_for : Takes → (name : Text) → Rule
rule_for (takes.Input shown) name = place name
rule_for takes.Nothing name = flag name
rule_for (takes.File shown) name = value name
rule_for (takes.Text shown) name = value name
rule_for (takes.NeededText shown) name = needed name
rule_for (takes.RefusedText shown) name = value name
rule_for (takes.Number default is_told) name = number name (defaults_of default)

abbrev pub rule_of_row : Argument → Rule
rule_of_row row = rule_for row.takes row.name.now

abbrev pub command_of : Verb → App
command_of verb = command verb.name.now (map rule_of_row verb.arguments.now)
