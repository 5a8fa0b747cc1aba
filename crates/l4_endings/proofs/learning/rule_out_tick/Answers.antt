use Rattle.std.proofs.Common.{◌+◌, ◌*◌, ◌<◌, ap, subst, sym, ◌∙◌}
use Rattle.l4_model.specs.Machine.{Machine}
use Rattle.l4_endings.specs.Inner.Learned.{Reads}
use Rattle.l4_endings.proofs.Finding.{ruled_out}
use Rattle.l4_endings.proofs.learning.rule_out_tick.Goals as goal

pub event_from-requires-clause-long : goal.event_from-requires-clause-long
event_from-requires-clause-long c = λ row is. cc

pub returns-in_err-add : goal.returns-in_err-add
returns-in_err-add c = λ m s parts machine walked row short known.
    let same = c.requires.cpus ∙ ap (λ (n : Machine). n.cpus) walked.is.machine in
    ruled_out m machine s parts c.args.row.now row (c.args.number + 1)
    (subst (λ n. c.args.number + 1 < n * (n + 2)) same (c.is_turn.ensures.more c.if-not-is_turn.false))
    c.args.walk.now walked short c.parts_read-read.result c.in_ok-event.event
    (subst (λ n. Reads c.args.row.now n (c.args.number + 1) c.parts_read-read.result) same c.parts_read-read.ensures)
    (sym (c.is_possible.ensures.value m walked.run walked.is) ∙ c.if-is_possible.false)
    c.in_ok-event.ensures c.args.events.now.events.items c.add.new.self.events.items c.add.ensures.kept known

pub returns : goal.returns
returns c = λ m s parts machine walked row short known.
    let same = c.requires.cpus ∙ ap (λ (n : Machine). n.cpus) walked.is.machine in
    ruled_out m machine s parts c.args.row.now row (c.args.number + 1)
    (subst (λ n. c.args.number + 1 < n * (n + 2)) same (c.is_turn.ensures.more c.if-not-is_turn.false))
    c.args.walk.now walked short c.parts_read-read.result c.in_ok-event.event
    (subst (λ n. Reads c.args.row.now n (c.args.number + 1) c.parts_read-read.result) same c.parts_read-read.ensures)
    (sym (c.is_possible.ensures.value m walked.run walked.is) ∙ c.if-is_possible.false)
    c.in_ok-event.ensures c.args.events.now.events.items c.add.new.self.events.items c.add.ensures.kept known
