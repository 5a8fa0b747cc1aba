use Rattle.std.proofs.Common.{ap, ◌∙◌, ◌++◌, map, arith}
use Rattle.std.specs.Prelude.{flat_map}
use Rattle.l4_model.specs.Machine.{Declaration}
use Rattle.l4_model.specs.Conditions.{found}
use Rattle.l4_types.specs.StepView.{step_of}
use Rattle.l4_audit.specs.Inner.Audited.{Audited}
use Rattle.l4_audit.specs.Possible.{possible_of}
use Rattle.l4_audit.proofs.Listing.{possible_more}
use Rattle.l4_audit.proofs.Replaying.{take_whole}
use Rattle.l4_audit.proofs.world.World.possible.Goals as goal

pub loop-declared-preserved : goal.loop-declared-preserved
loop-declared-preserved c =
    let a = c.args.self.now in
    let l = c.loop-declared in
    let g = λ (d : Declaration). possible_of a.machine a.world (found a.machine a.world d.id) in
    possible_more g _ (map step_of l.steps.items) _ l.declared-index c.declared-item.result (omega (arith, c.loop-declared-test.true)) c.declared-item.is l.invariant
    (c.in_ok-push_possible_of.ensures ∙ ap (λ id. map step_of l.steps.items ++ possible_of a.machine a.world (found a.machine a.world id)) c.id.ensures)

pub returns : goal.returns
returns c =
    let a = c.args.self.now in
    let l = c.loop-declared in
    l.invariant ∙ ap (flat_map (λ (d : Declaration). possible_of a.machine a.world (found a.machine a.world d.id))) (take_whole _ l.declared-index (omega arith) ∙ c.threads-declared-items.ensures.value ∙ ap (λ (x : Audited). x.machine.threads) c.self.view_is)
