use Rattle.std.proofs.Common.{length, ap, sym, ◌∙◌, arith}
use Rattle.tcb_arena.specs.Inner.Due.{armed_of}
use Rattle.tcb_arena.proofs.Leaving.{left-armed_step}
use Rattle.tcb_arena.proofs.Once.{any-get}
use Rattle.tcb_arena.proofs.iter.ArmedBlocksIterator.next.Goals as goal

pub after-self-inside-requires : goal.after-self-inside-requires
after-self-inside-requires c =
    let at = c.self.invariant in
    any-get (armed_of c.self.inside.wheel.now) at.place (c.in_ok-deadline.deadline, c.in_ok-deadline.block) (sym at.next_is ∙ c.in_ok-deadline.was)

pub returns-clause-steps : goal.returns-clause-steps
returns-clause-steps c =
    let f = c.self.inside in
    let at = c.self.invariant in
    sym c.self.view_is
    ∙ left-armed_step f.wheel.now f.next c.after-self-inside.result at.place (c.in_ok-deadline.deadline, c.in_ok-deadline.block) at.once at.next_is c.in_ok-deadline.was
    (c.after-self-inside.ensures at.place c.in_ok-deadline.deadline (sym at.next_is ∙ c.in_ok-deadline.was))

pub returns-clause-goes : goal.returns-clause-goes
returns-clause-goes c =
    let fewer = ap length (returns-clause-steps c) in
    record { on = λ _. (tt, tt, omega (arith, fewer)); keeps = tt; rests = λ _. tt }
