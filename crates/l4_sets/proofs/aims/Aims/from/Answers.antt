use Rattle.std.proofs.Common.{◌≤◌, length, subst, arith}
use Rattle.l4_model.specs.Machine.{Machine, most_instructions}
use Rattle.l4_core_model.specs.Local.{declared}
use Rattle.l4_sets.proofs.Aiming.{aim_within}
use Rattle.l4_sets.proofs.aims.Aims.from.Goals as goal

pub returns-then-thread-len-clause-short : goal.returns-then-thread-len-clause-short
returns-then-thread-len-clause-short c = λ k aim h.
    let m = c.args.self.now in
    let short = subst (λ (n : Machine). length (declared n c.args.thread).script ≤ most_instructions)
    c.self.view_is (c.self.invariant.short c.args.thread) in
    omega (arith, short, aim_within m aim (declared m c.args.thread).script k h)

pub returns-else-thread-len-clause-short : goal.returns-else-thread-len-clause-short
returns-else-thread-len-clause-short c = λ k aim h.
    let m = c.args.self.now in
    let short = subst (λ (n : Machine). length (declared n c.args.thread).script ≤ most_instructions)
    c.self.view_is (c.self.invariant.short c.args.thread) in
    omega (arith, short, aim_within m aim (declared m c.args.thread).script k h)
