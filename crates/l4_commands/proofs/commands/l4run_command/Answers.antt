use Rattle.std.proofs.Common.{rules, ◌≡◌}
use Rattle.std.proofs.lemmas.Result.{IfOk-weaker}
use Rattle.clap.specs.Words.{app_of}
use Rattle.l4_commands.specs.Commands.{l4run_app, top_app}
use Rattle.l4_commands.proofs.Chains.{then}
use Rattle.l4_commands.proofs.commands.l4run_command.Goals as goal

pub returns : goal.returns
unfolding l4run_app
returns c =
    let top : app_of c.subcommand_required-top.result ≡ top_app = search rules in
    let one = then top c.run.ensures c.in_ok-one.ensures in
    let two = then one c.replay.ensures c.in_ok-two.ensures in
    let three = then two c.audit.ensures c.in_ok-three.ensures in
    let four = then three c.chart.ensures c.in_ok-four.ensures in
    let five = then four c.endings.ensures c.in_ok-five.ensures in
    let six = then five c.lint.ensures c.in_ok-six.ensures in
    IfOk-weaker c.with_verb-7.result _ _ (λ r h. then six c.step.ensures h) c.with_verb-7.ensures
