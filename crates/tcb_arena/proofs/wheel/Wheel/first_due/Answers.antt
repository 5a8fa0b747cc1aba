use Rattle.std.proofs.Common.{◌∙◌, ap, sym}
use Rattle.l4_core_model.specs.Plain.{due_block}
use Rattle.tcb_arena.specs.Inner.Due.{Due, armed_of}
use Rattle.tcb_arena.proofs.Floors.{floor-armed_in, none-due}
use Rattle.tcb_arena.proofs.Once.{within-shown}
use Rattle.tcb_arena.proofs.wheel.Wheel.first_due.Goals as goal

pub returns-then-now-self-clause-due : goal.returns-then-now-self-clause-due
returns-then-now-self-clause-due c =
    let f = c.self.inside in
    sym (ap (λ (v : Due). due_block c.args.now (armed_of v)) (sym c.self.view_is)
    ∙ none-due f.floor c.args.now _ (floor-armed_in f.floor f.deadlines.items f.rings.lists c.self.invariant.whole_floor) c.if-now-self.true)

pub returns-then-deadline-now-clause-within : goal.returns-then-deadline-now-clause-within
returns-then-deadline-now-clause-within c =
    let f = c.self.inside in
    within-shown 64 f.deadlines.items f.rings c.args.self.now c.self.invariant.placed c.self.view_is 0 (c.in_ok-deadline.deadline, c.in_ok-deadline.block) (sym c.look.ensures.first ∙ c.in_ok-deadline.was)
