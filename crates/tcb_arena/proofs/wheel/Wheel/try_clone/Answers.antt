use Rattle.std.specs.List.{each_same}
use Rattle.std.proofs.Common.{◌≡◌, ap, ◌∙◌}
use Rattle.tcb_arena.specs.Inner.Due.{shown_due}
use Rattle.tcb_arena.proofs.wheel.Wheel.try_clone.Goals as goal

pub returns : goal.returns
returns c =
    let f = c.self.inside in
    let same : c.in_ok-clone.field-0.items ≡ f.deadlines.items = each_same f.deadlines.items c.in_ok-clone.field-0.items c.in_ok-clone.ensures.cases.0 in
    ap (λ ds. shown_due ds c.in_ok-try_clone.field-0) same ∙ ap (shown_due f.deadlines.items) c.in_ok-try_clone.ensures ∙ c.self.view_is
