use Rattle.std.specs.Prelude.{slice_get}
use Rattle.std.proofs.Common.{◌∙◌, ap, sym}
use Rattle.tcb_arena.specs.Inner.Due.{Due, armed_of}
use Rattle.tcb_arena.proofs.Ordered.{floor-first, floor-none}
use Rattle.tcb_arena.proofs.Wheels.{wheel-raised}
use Rattle.tcb_arena.proofs.wheel.Wheel.look.Goals as goal

pub invariant_of-self : goal.invariant_of-self
invariant_of-self c =
    let f = c.self.inside in
    wheel-raised f.deadlines.items f.latest.items f.rings f.order f.floor c.in-Some.deadline c.self.invariant
    (floor-first f.deadlines.items f.rings f.order (c.in-Some.deadline, c.in-Some.field-0-1) c.self.invariant.ordered
    (ap (λ (v : Due). slice_get (armed_of v) 0) c.self.view_is ∙ sym c.first_armed-found.ensures.first ∙ c.in-Some.is))

pub invariant_of-self-in-None : goal.invariant_of-self-in-None
invariant_of-self-in-None c =
    let f = c.self.inside in
    wheel-raised f.deadlines.items f.latest.items f.rings f.order f.floor _ c.self.invariant
    (floor-none f.deadlines.items f.rings f.order _ c.self.invariant.ordered
    (ap (λ (v : Due). slice_get (armed_of v) 0) c.self.view_is ∙ sym c.first_armed-found.ensures.first ∙ c.in-None.is))
