use Rattle.std.proofs.Common.{ap}
use Rattle.l4_core_model.specs.Local.{Local}
use Rattle.l4_core.proofs.Opening.{opened-kept, opened-is}
use Rattle.l4_core.proofs.known.ProcessorState.new.Goals as goal

pub invariant_of-result : goal.invariant_of-result
invariant_of-result c =
    opened-kept c.args.machine.now c.args.cpu c.in_ok-threads.threads.items c.in_ok-lists.lists c.in_ok-notified.notified.items _ c.in_ok-threads.ensures.machine c.requires c.in_ok-threads.ensures.few
    c.in_ok-threads.ensures.threads c.in_ok-threads.ensures.ids c.in_ok-lists.ensures c.in_ok-notified.ensures c.in_ok-owed.ensures

pub returns : goal.returns
returns c =
    ap (λ (l : Local). record { machine = c.args.machine.now; cpu = c.args.cpu; local = l }) (opened-is c.args.machine.now c.args.cpu c.in_ok-threads.threads.items c.in_ok-lists.lists c.in_ok-notified.notified.items _ c.in_ok-threads.ensures.threads c.in_ok-lists.ensures c.in_ok-notified.ensures c.in_ok-owed.ensures)
