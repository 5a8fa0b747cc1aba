use Rattle.std.proofs.Common.{◌≡◌, ◌<◌, ◌≤◌, ap, ◌∙◌, arith}
use Rattle.l4_model.specs.Words.{clock_limit}
use Rattle.l4_core_model.specs.Turns.{clock_is}
use Rattle.l4_core.specs.Processor.{Processor, with_local}
use Rattle.l4_core.proofs.Arriving.{covered-clocked}
use Rattle.l4_core.proofs.Settling.{settled-clocked}
use Rattle.l4_core.proofs.Writing.{kept-settled, state}
use Rattle.l4_core.proofs.processor.Core.advance_into.Goals as goal

pub invariant_of-known : goal.invariant_of-known
invariant_of-known g c =
    let s = c.known.inside in
    let same : s.clock ≡ c.args.self.now.local.clock = ap (λ (p : Processor). p.local.clock) (c.known.view_is ∙ c.self.view_is ∙ c.open-stamp.ensures.state) in
    let later : s.clock ≤ c.args.to = (let is = c.clock.ensures.value in let above = c.if-to-clock.false in omega arith) in
    let fits : c.args.to < clock_limit = (let below = c.if-to-ge-CLOCKS.false in omega arith) in
    kept-settled s _ _ _ _ _ c.known.invariant (settled-clocked s.machine.now s.cpu (state s) c.args.to later fits c.known.invariant.core.settled)

pub invariant_of-self : goal.invariant_of-self
invariant_of-self g c =
    let w = c.self.inside in
    covered-clocked w.duties w.zeros w.known _ c.args.to c.self.invariant (ap (λ (p : Processor). with_local p (clock_is c.args.to p.local)) c.known.view_is)
