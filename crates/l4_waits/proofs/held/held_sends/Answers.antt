use Rattle.std.proofs.Common.{ap, ◌∙◌, ◌++◌, arith}
use Rattle.std.specs.Option.{option_to_list}
use Rattle.l4_model.specs.Machine.{Declaration}
use Rattle.l4_waits.specs.Held.{held_of}
use Rattle.l4_waits.proofs.Holding.{held_more}
use Rattle.l4_waits.proofs.held.held_sends.Goals as goal

pub loop-declared-preserved : goal.loop-declared-preserved
loop-declared-preserved c =
    let w = c.args.world.now in
    held_more (λ (d : Declaration). held_of w.machine w.world d.id) c.threads-declared-items.result.now c.loop-declared.sends.items _ c.loop-declared.declared-index c.declared-item.result (omega (arith, c.loop-declared-test.true)) c.declared-item.is c.loop-declared.invariant
    (c.in_ok-push_held.ensures ∙ ap (λ i. c.loop-declared.sends.items ++ option_to_list (held_of w.machine w.world i)) c.id.ensures)
