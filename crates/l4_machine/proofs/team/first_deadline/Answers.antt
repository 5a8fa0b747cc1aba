use Rattle.std.proofs.Common.{◌≡◌, ℕ, ◌+◌, ◌<◌, Some, drop, ap, sym, ◌∙◌, subst, arith}
use Rattle.std.specs.Prelude.{slice_get, IfSome}
use Rattle.std.specs.Option.{option_map}
use Rattle.std.proofs.lemmas.Option.{slice_get-get_or}
use Rattle.l4_model.specs.Words.{period_limit}
use Rattle.l4_core_model.specs.Schedules.{earliest}
use Rattle.l4_core.specs.Processor.{Processor as Core}
use Rattle.l4_proc.specs.declared.processor.Processor.{Processor}
use Rattle.l4_machine.specs.Inner.Teams.{deadline_of, first_deadline}
use Rattle.l4_replay.proofs.Endings.{deadline_assoc}
use Rattle.l4_machine.proofs.Ticked.{both_near, first_and_rest, nearer}
use Rattle.l4_machine.proofs.team.first_deadline.Goals as goal

pub loop-processor-preserved : goal.loop-processor-preserved
loop-processor-preserved c =
    let ps = c.args.processors.now in
    let k = c.loop-processor.processor-index in
    let p = c.processor-item.result in
    let first = c.loop-processor.first in
    let own = c.least_deadline.result in
    let rest = first_deadline (drop (k + 1) ps) in
    let its : own ≡ deadline_of p =
    c.least_deadline.ensures.value ∙ ap (λ (core : Core). option_map (λ (e : ℕ × ℕ). e.0) (slice_get core.local.lists.armed 0)) c.core.ensures in
    let clock = ap (λ (core : Core). core.local.clock) c.core.ensures in
    record {
      value =
          c.loop-processor.invariant.value
          ∙ ap (earliest first) (first_and_rest ps k _ c.loop-processor-test.true ∙ ap (λ (q : Processor). earliest (deadline_of q) rest) (sym c.processor-item.is))
          ∙ sym (deadline_assoc first (deadline_of p) rest) ∙ ap (λ o. earliest (earliest first o) rest) (sym its)
          ∙ ap (λ o. earliest o rest) (sym c.earliest-first.ensures);
      near = λ last low.
          let here = low k p (slice_get-get_or ps k _ c.loop-processor-test.true ∙ ap Some (sym c.processor-item.is)) in
          subst (λ o. IfSome o (λ deadline. deadline < last + period_limit)) (sym c.earliest-first.ensures)
          (both_near first own (last + period_limit) (c.loop-processor.invariant.near last low)
          (nearer own (c.core.result.now.local.clock + period_limit) (last + period_limit) (omega arith) c.least_deadline.ensures.near));
    }
