use Rattle.std.proofs.Common.{sym, ◌∙◌}
use Rattle.l4_audit.proofs.Quieting.{owes_none}
use Rattle.l4_audit.proofs.world.World.is_still.Goals as goal

pub are_still-requires : goal.are_still-requires
are_still-requires c = owes_none c.args.self.now.world.owed (sym c.owes_nothing.ensures ∙ c.if-owes_nothing.true)
