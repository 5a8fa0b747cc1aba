use Rattle.std.proofs.Common.{refl, sym, ◌∙◌}
use Rattle.l4_types.specs.StepView.{seen}
use Rattle.l4_audit.proofs.Auditing.{are_placed, begun_is, judges_silent, stays_under_way}
use Rattle.l4_audit.proofs.auditor.Auditor.step.Goals as goal

pub take-requires : goal.take-requires
take-requires c = are_placed c.self.inside.world c.self.inside.begun.items c.self.invariant

pub invariant_of-self : goal.invariant_of-self
invariant_of-self c =
    let i = c.self.inside in
    stays_under_way i.world c.take.new.self i.begun.items (seen c.args.step.now) c.take.result c.self.invariant (sym c.begun_name.ensures ∙ c.in-None.is) c.take.ensures

pub returns-in-None : goal.returns-in-None
returns-in-None c =
    let i = c.self.inside in
    judges_silent i.world c.take.new.self i.begun.items (seen c.args.step.now) c.take.result c.args.self.now _ c.self.view_is refl (sym c.begun_name.ensures ∙ c.in-None.is) c.take.ensures

pub returns-in-Some : goal.returns-in-Some
returns-in-Some c = rw (begun_is (seen c.args.step.now) c.in-Some.name (sym c.begun_name.ensures ∙ c.in-Some.is)) c.begin.ensures
