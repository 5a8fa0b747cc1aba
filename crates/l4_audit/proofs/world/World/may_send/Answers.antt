use Rattle.std.proofs.Common.{◌∙◌}
use Rattle.l4_audit.proofs.Stilling.{may_send_is}
use Rattle.l4_audit.proofs.world.World.may_send.Goals as goal

pub returns-in-Some : goal.returns-in-Some
returns-in-Some c = c.may_decide.ensures ∙ may_send_is c.args.self.now.machine c.args.self.now.world c.args.thread.now c.args.thread.now.now.send c.in-Some.pending c.in-Some.ensures
