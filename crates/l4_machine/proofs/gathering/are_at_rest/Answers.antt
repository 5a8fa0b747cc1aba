use Rattle.std.proofs.Common.{◌≡◌, true, Some, sym, ◌∙◌, subst, arith, rules}
use Rattle.std.specs.Prelude.{slice_get}
use Rattle.std.proofs.lemmas.Option.{slice_get_within, get_or_from_slice_get}
use Rattle.l4_merge.specs.Merges.{is_at_rest}
use Rattle.l4_proc.specs.declared.processor.Processor.{Processor}
use Rattle.l4_replay.proofs.Inboxes.{below_next}
use Rattle.l4_machine.proofs.gathering.are_at_rest.Goals as goal

abbrev AtRest : Processor → Type 0
AtRest p = is_at_rest p.worker.core.machine p.worker.core.cpu p.worker.core.local ≡ true

pub loop-processor-preserved : goal.loop-processor-preserved
loop-processor-preserved c = λ i p lt at.
    let resting : AtRest c.processor-item.result = sym c.is_at_rest.ensures ∙ search rules in
    below_next (λ k. (p : Processor) → slice_get c.args.processors.now k ≡ Some p → AtRest p) c.loop-processor.processor-index i
    (λ k below p at. c.loop-processor.invariant k p below at)
    (λ p at. subst AtRest (c.processor-item.is ∙ get_or_from_slice_get c.args.processors.now c.loop-processor.processor-index p _ at) resting) lt p at

pub returns : goal.returns
returns c = (λ e i p at. c.loop-processor.invariant i p (let within = slice_get_within c.args.processors.now i p at in omega arith) at, λ rest. search rules)
