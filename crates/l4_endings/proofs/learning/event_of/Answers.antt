use Rattle.std.proofs.Common.{subst}
use Rattle.l4_endings.specs.Inner.Learned.{Reads}
use Rattle.l4_endings.proofs.Finding.{found_again}
use Rattle.l4_endings.proofs.learning.event_of.Goals as goal

pub returns-in-Some-clause-event : goal.returns-in-Some-clause-event
returns-in-Some-clause-event c =
    found_again c.args.aims.now c.cpus.ensures.lawful c.args.schedule.now c.args.parts.now.parts.items
    c.args.row.now c.requires.row c.args.number c.requires.number c.parts_read-part.result
    c.args.events.now.events.items c.in-Some.event
    (subst (λ n. Reads c.args.row.now n c.args.number c.parts_read-part.result) c.cpus.ensures.value
    c.parts_read-part.ensures) c.in-Some.ensures
