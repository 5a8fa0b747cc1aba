use Rattle.std.proofs.Common.{rules, ◌<◌, ◌≤◌, length, sym, ap, ◌∙◌, fold, take_all}
use Rattle.std.proofs.lemmas.List.Folds.{fold-map}
use Rattle.std.proofs.lemmas.List.Sums.{fold_more}
use Rattle.clap.specs.Words.{new_app, with_rule}
use Rattle.l4_commands.specs.Commands.{rule_of_row}
use Rattle.l4_commands.proofs.Chains.{gains, stays_local, with_row}
use Rattle.l4_commands.proofs.commands.verb_command.Goals as goal

pub loop-row-preserved : goal.loop-row-preserved
loop-row-preserved c =
    let at = c.loop-row in
    let rows = c.args.verb.now.arguments.now in
    let before : at.row-index < length rows = c.loop-row-test.true in (
      gains at.invariant.0 c.argument.ensures.rule c.argument.ensures.local c.in_ok-command.ensures
          ∙ sym (fold_more with_row (new_app c.args.verb.now.name.now) rows at.row-index _ before),
      stays_local at.invariant.1 c.argument.ensures.local c.in_ok-command.ensures,
    )

pub returns-clause-app : goal.returns-clause-app
returns-clause-app c =
    let at = c.loop-row in
    let rows = c.args.verb.now.arguments.now in
    let start = new_app c.args.verb.now.name.now in
    let all : length rows ≤ at.row-index = search rules in
    at.invariant.0 ∙ ap (fold with_row start) (take_all at.row-index rows all) ∙ sym (fold-map with_rule rule_of_row start rows)
