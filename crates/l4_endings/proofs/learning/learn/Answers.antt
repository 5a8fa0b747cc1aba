use Rattle.std.proofs.Common.{subst}
use Rattle.l4_parts.proofs.Knowing.{behind_longer}
use Rattle.l4_endings.specs.Inner.Learned.{Reads}
use Rattle.l4_endings.proofs.Finding.{event_of_it, event_true, known_more}
use Rattle.l4_endings.proofs.learning.learn.Goals as goal

pub returns-in_err-add-clause-known : goal.returns-in_err-add-clause-known
returns-in_err-add-clause-known c =
    known_more c.args.aims.now c.row_after.new.parts.parts.items c.row_after.new.events.events.items
    c.add.new.self.events.items c.in_ok-event.event c.row_after.ensures.known
    (event_true c.args.aims.now c.cpus.ensures.lawful c.args.schedule.now c.row_after.new.parts.parts.items
    c.args.row.now (behind_longer c.args.aims.now c.args.schedule.now c.args.parts.now.parts.items
    c.row_after.new.parts.parts.items c.args.row.now c.row_after.ensures.longer c.requires.row) c.args.number c.requires.number c.parts_read-read.result c.in_ok-new.new
    c.in_ok-event.event c.row_after.ensures.known.parts_are c.requires.short
    (subst (λ n. Reads c.args.row.now n c.args.number c.parts_read-read.result) c.cpus.ensures.value c.parts_read-read.ensures)
    c.in_ok-new.ensures.found c.in_ok-event.ensures)
    c.add.ensures.kept

pub returns-clause-known : goal.returns-clause-known
returns-clause-known c =
    known_more c.args.aims.now c.row_after.new.parts.parts.items c.row_after.new.events.events.items
    c.add.new.self.events.items c.in_ok-event.event c.row_after.ensures.known
    (event_true c.args.aims.now c.cpus.ensures.lawful c.args.schedule.now c.row_after.new.parts.parts.items
    c.args.row.now (behind_longer c.args.aims.now c.args.schedule.now c.args.parts.now.parts.items
    c.row_after.new.parts.parts.items c.args.row.now c.row_after.ensures.longer c.requires.row) c.args.number c.requires.number c.parts_read-read.result c.in_ok-new.new
    c.in_ok-event.event c.row_after.ensures.known.parts_are c.requires.short
    (subst (λ n. Reads c.args.row.now n c.args.number c.parts_read-read.result) c.cpus.ensures.value c.parts_read-read.ensures)
    c.in_ok-new.ensures.found c.in_ok-event.ensures)
    c.add.ensures.kept

pub returns-clause-event : goal.returns-clause-event
returns-clause-event c = record {
  event = c.in_ok-event.event;
  at = c.in_ok-add.ensures.number;
  of = event_of_it c.args.aims.now c.cpus.ensures.lawful c.args.schedule.now
      c.row_after.new.parts.parts.items c.args.row.now
      (behind_longer c.args.aims.now c.args.schedule.now c.args.parts.now.parts.items
      c.row_after.new.parts.parts.items c.args.row.now c.row_after.ensures.longer c.requires.row) c.args.number c.requires.number c.parts_read-read.result c.in_ok-new.new
      c.in_ok-event.event
      (subst (λ n. Reads c.args.row.now n c.args.number c.parts_read-read.result) c.cpus.ensures.value c.parts_read-read.ensures)
      c.in_ok-new.ensures.found c.in_ok-event.ensures;
}
