use Rattle.std.proofs.Common.{arith}
use Rattle.l4_types.specs.Inner.OwedView.{owed_of}
use Rattle.l4_outlooks.proofs.Leading.{owed_few}
use Rattle.l4_outlooks.proofs.outlook.Outlook.entry_count.Goals as goal

pub overflow_cast-result-2 : goal.overflow_cast-result-2
overflow_cast-result-2 c =
    let i = c.self.inside in
    let few = owed_few owed_of i.world.machine i.world.world i.taken c.owed.result.now c.self.invariant c.owed.ensures in
    omega (arith, few)

pub overflow_add-result : goal.overflow_add-result
overflow_add-result c =
    let i = c.self.inside in
    let few = owed_few owed_of i.world.machine i.world.world i.taken c.owed.result.now c.self.invariant c.owed.ensures in
    omega (arith, few, c.threads-threads.ensures.limit)
