use Rattle.std.proofs.Common.{refl}
use Rattle.std.proofs.lemmas.Result.{IfOk-weaker}
use Rattle.l4_commands.proofs.Chains.{gains_below}
use Rattle.l4_commands.proofs.commands.with_verb.Goals as goal

pub returns : goal.returns
returns c = IfOk-weaker c.subcommand.result _ _ (λ r h. gains_below refl c.in_ok-command.ensures.app c.in_ok-command.ensures.local h) c.subcommand.ensures
