use Rattle.std.proofs.Common.{refl}
use Rattle.l4_proc.proofs.Turning.{still_stopped}
use Rattle.l4_proc.proofs.processor.Processor.work.Goals as goal

pub invariant_of-self : goal.invariant_of-self
invariant_of-self g c =
    let is = c.take_turns-stop.new.self.whole in
    record { whole = record { port_of = is.port_of; log_of = is.log_of; closed = is.closed; hand = is.hand } }

pub returns-clause-on : goal.returns-clause-on
returns-clause-on g c =
    let on = c.take_turns-stop.ensures.on in
    record { machine = on.machine; cpu = on.cpu; place = on.place; worked = on.worked }

pub returns-clause-stopped : goal.returns-clause-stopped
returns-clause-stopped g c = still_stopped c.take_turns-stop.new.self _ _ refl refl refl c.take_turns-stop.ensures.stopped

pub returns-clause-first : goal.returns-clause-first
returns-clause-first g c =
    let mail = c.take_turns-stop.ensures.first in
    record { turned = mail.turned; many = mail.many; first = mail.first }
