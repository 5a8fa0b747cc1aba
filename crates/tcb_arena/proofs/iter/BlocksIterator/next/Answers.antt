use Rattle.std.specs.Prelude.{slice_get, Some}
use Rattle.std.proofs.Common.{◌≡◌, length, ap, sym, ◌∙◌, arith}
use Rattle.tcb_arena.proofs.Leaving.{left-step}
use Rattle.tcb_arena.proofs.iter.BlocksIterator.next.Goals as goal

pub returns-clause-steps : goal.returns-clause-steps
returns-clause-steps c =
    let f = c.self.inside in
    let at = c.self.invariant in
    let block = c.in_ok-block.block in
    let here : slice_get _ at.place ≡ Some block = sym at.next_is ∙ c.in_ok-block.was in
    let behind = c.after-self-inside.ensures.after at.head at.place here in
    sym c.self.view_is
    ∙ left-step f.rings.now f.next c.after-self-inside.result at.head at.place block at.sound at.next_is c.in_ok-block.was behind

pub returns-clause-goes : goal.returns-clause-goes
returns-clause-goes c =
    let fewer = ap length (returns-clause-steps c) in
    record { on = λ _. (tt, tt, omega (arith, fewer)); keeps = tt; rests = λ _. tt }
