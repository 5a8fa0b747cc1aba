use Rattle.std.proofs.Common.{◌∙◌, sym}
use Rattle.l4_audit.proofs.Stilling.{still_is}
use Rattle.l4_audit.proofs.world.World.is_still_thread.Goals as goal

pub returns : goal.returns
returns c = c.is_still_found.ensures ∙ sym (still_is c.args.self.now.machine c.args.self.now.world c.args.id c.in-Some.thread (sym c.in-Some.ensures) c.requires)
