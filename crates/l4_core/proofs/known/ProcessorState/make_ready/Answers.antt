use Rattle.std.proofs.Common.{◌≡◌, sym, subst}
use Rattle.l4_model.specs.World.{Ready}
use Rattle.l4_core_model.specs.Local.{thread}
use Rattle.l4_core.specs.Processor.{Processor}
use Rattle.l4_core.specs.Inner.Turning.{IsOwnOf}
use Rattle.l4_core.proofs.Writing.{kept-settled, state}
use Rattle.l4_core.proofs.Settling.{settled-readied}
use Rattle.l4_core.proofs.known.ProcessorState.make_ready.Goals as goal

pub invariant_of-self : goal.invariant_of-self
invariant_of-self c =
    let s = c.self.inside in
    let own = subst (λ (p : Processor). IsOwnOf p c.args.place) (sym c.self.view_is) c.requires.own in
    let phase = subst (λ (p : Processor). (thread p.local c.args.place).phase ≡ Ready) (sym c.self.view_is) c.requires.ready in
    let lists = c.push_ready.ensures in
    rw lists (kept-settled s _ _ _ _ _ c.self.invariant (settled-readied s.machine.now s.cpu (state s) c.args.place own phase c.self.invariant.core.settled))
