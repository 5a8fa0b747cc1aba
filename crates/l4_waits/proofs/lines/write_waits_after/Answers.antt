use Rattle.l4_waits.proofs.After.{on_ok, text_after}
use Rattle.l4_waits.proofs.lines.write_waits_after.Goals as goal

pub returns-in-Ok-clause-ok : goal.returns-in-Ok-clause-ok
returns-in-Ok-clause-ok c =
    on_ok c.write_waits.result (text_after c.args.machine.now c.args.history.now.steps c.in-Ok.auditor c.args.out.now.items c.write_waits.new.out.items c.in-Ok.ensures.reached)
    c.write_waits.ensures.ok
