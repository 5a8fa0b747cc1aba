use Rattle.std.proofs.Common.{subst}
use Rattle.l4_core.specs.Inner.Parts.{AreCore}
use Rattle.l4_core.proofs.Handling.{split_free}
use Rattle.l4_core.proofs.processor.Core.end_split.Goals as goal

pub apply_change-requires-clause-free : goal.apply_change-requires-clause-free
apply_change-requires-clause-free c = split_free c.args.self.now c.args.place (subst AreCore c.self.view_is c.facts.ensures.core) c.requires
