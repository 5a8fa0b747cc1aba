use Rattle.std.proofs.Common.{subst, sym}
use Rattle.l4_core.specs.Inner.Parts.{AreCore}
use Rattle.l4_core.specs.Processor.{Processor}
use Rattle.l4_core.specs.Inner.Turning.{IsOwnOf}
use Rattle.l4_core.proofs.Dues.{due_armed}
use Rattle.l4_core.proofs.processor.Core.do_due.Goals as goal

pub time_out-requires-clause-own : goal.time_out-requires-clause-own
time_out-requires-clause-own g c =
    let core = subst AreCore c.self.view_is c.facts.ensures.core in
    subst (λ (p : Processor). IsOwnOf p c.args.place) (sym c.pop_due.ensures) (core.settled.armed c.args.place (due_armed c.args.self.now.local.clock c.args.self.now.local.lists.armed c.args.place c.requires.due))
