use Rattle.std.proofs.Common.{◌≡◌, ◌∙◌, ⊎_elim, arith, false, refl, subst, sym}
use Rattle.std.proofs.lemmas.Bool.Decides.{eqb_tells}
use Rattle.std.proofs.lemmas.Option.{get_or_from_slice_get, slice_get_within}
use Rattle.l4_core.specs.Processor as cores
use Rattle.l4_core_model.specs.Turns.{is_busy}
use Rattle.l4_proc.specs.declared.processor.Processor.{Processor}
use Rattle.l4_machine.proofs.team.are_idle.Goals as goal

pub loop-processor-preserved : goal.loop-processor-preserved
loop-processor-preserved c i p before at = ⊎_elim
    (λ t.
    let here = rw (t.1) at at in
    let same : c.processor-item.result ≡ p = c.processor-item.is ∙ get_or_from_slice_get c.args.processors.now c.loop-processor.processor-index p c.processor-item.result here in
    let idle = sym c.busy.ensures ∙ c.if-busy.false in
    subst (λ (q : Processor). is_busy q.worker.core.machine q.worker.core.cpu q.worker.core.local ≡ false) same
    (subst (λ (q : cores.Processor). is_busy q.machine q.cpu q.local ≡ false) c.core.ensures idle))
    (λ t. let other = t.1 in c.loop-processor.invariant i p (omega arith) at)
    (eqb_tells i c.loop-processor.processor-index)

pub returns : goal.returns
returns c = (
  λ _ i p at. let end = c.loop-processor-test.false in let within = slice_get_within c.args.processors.now i p at in c.loop-processor.invariant i p (omega arith) at,
  λ idle. refl,
)
