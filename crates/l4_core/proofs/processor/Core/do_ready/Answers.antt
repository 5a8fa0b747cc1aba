use Rattle.std.proofs.Common.{◌≡◌, ◌<◌, true, subst, sym}
use Rattle.l4_core_model.specs.Local.{is_own, thread}
use Rattle.l4_core.specs.Inner.Parts.{AreCore}
use Rattle.l4_core.specs.Processor.{Processor}
use Rattle.l4_core.proofs.Turning.{taken_at_hand}
use Rattle.l4_core.proofs.processor.Core.do_ready.Goals as goal

pub act-requires-clause-hand : goal.act-requires-clause-hand
act-requires-clause-hand g c =
    let core = subst AreCore c.self.view_is c.facts.ensures.core in
    taken_at_hand c.args.self.now c.pop_ready.new.self c.args.place core c.requires.first (c.pop_ready.ensures.gone c.args.place c.requires.first) c.pop_ready.ensures.rest

pub act-requires-clause-count : goal.act-requires-clause-count
act-requires-clause-count g c =
    let core = subst AreCore c.self.view_is c.facts.ensures.core in
    let hand = taken_at_hand c.args.self.now c.pop_ready.new.self c.args.place core c.requires.first (c.pop_ready.ensures.gone c.args.place c.requires.first) c.pop_ready.ensures.rest in
    subst (λ (p : Processor). is_own p.machine p.cpu c.args.place ≡ true → (thread p.local c.args.place).context.begun < p.local.stamp) (sym c.pop_ready.ensures.rest) c.requires.count hand.own.own
