use Rattle.std.proofs.Common.{◌≡◌, arith, ap, length, ◌-◌, List}
use Rattle.std.proofs.lemmas.Grind.{common_steps}
use Rattle.l4_model.specs.Steps as steps
use Rattle.l4_history.specs.Inner.Rows.{Told}
use Rattle.l4_history.proofs.Pushed.{wide-step-told}
use Rattle.l4_history.proofs.history.History.push_wide.Goals as goal

pub returns : goal.returns
returns c =
    let place : c.len.result ≡ length c.self.inside.wide.items = grind (arith, common_steps) in
    rw (← c.self.view_is)
    (ap {B = Told} (λ (told : List steps.Step). record { steps = told; room = c.self.inside.room - 1 })
    (wide-step-told c.self.inside.threads.slots.items c.self.inside.records.items _ c.self.inside.heads.items c.self.inside.wide.items _ c.self.inside.words.items _ c.len.result c.args.step c.self.invariant.0 c.at.ensures place
    c.requires.no_delivery c.push_reserved.ensures.items c.push_reserved-2.ensures.items))
