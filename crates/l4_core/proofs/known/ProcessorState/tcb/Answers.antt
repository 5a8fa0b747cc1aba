use Rattle.std.proofs.Common.{sym, ap, ◌∙◌, subst, ◌<◌, length}
use Rattle.l4_core.specs.Processor.{Processor}
use Rattle.l4_core_model.specs.Local.{declared, thread}
use Rattle.l4_core.proofs.Starting.{block_id}
use Rattle.l4_core.proofs.Writing.{block_thread}
use Rattle.l4_core.proofs.known.ProcessorState.tcb.Goals as goal

pub returns-clause-thread : goal.returns-clause-thread
returns-clause-thread c =
    let s = c.self.inside in
    let within = subst (λ (p : Processor). c.args.place < length p.machine.threads) (sym c.self.view_is) c.requires in
    block_thread s c.args.place c.index.result.now c.self.invariant within c.index.ensures ∙ ap (λ (p : Processor). thread p.local c.args.place) c.self.view_is

pub returns-clause-id : goal.returns-clause-id
returns-clause-id c =
    let s = c.self.inside in
    let within = subst (λ (p : Processor). c.args.place < length p.machine.threads) (sym c.self.view_is) c.requires in
    block_id s c.args.place c.index.result.now c.self.invariant within c.index.ensures ∙ ap (λ (p : Processor). (declared p.machine c.args.place).id) c.self.view_is
