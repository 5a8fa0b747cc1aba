use Rattle.std.proofs.Common.{◌++◌, ℕ, drop, map, ap, sym, ◌∙◌}
use Rattle.l4_replay.specs.Entries.{entry_from}
use Rattle.l4_trace.specs.Lines.{trace_of}
use Rattle.std.specs.List.{list_all}
use Rattle.l4_trace.specs.Lines.{has_line}
use Rattle.l4_next.proofs.Telling.{one_spelled, one_written}
use Rattle.l4_next.proofs.nexts.write_next.Goals as goal

pub returns-clause-lines : goal.returns-clause-lines
returns-clause-lines c =
    let told = c.in_ok-after.after.steps in
    one_written c.args.machine.now (map entry_from c.args.entries.now) (entry_from c.args.entry)
    c.args.before.now.steps told c.args.lines.now.items c.write_item.new.lines.items c.write_steps.new.lines.items
    c.requires.possible c.requires.before c.in_ok-after.ensures c.in_ok-write_item.ensures
    (c.in_ok-write_steps.ensures.lines ∙ ap (λ (n : ℕ). c.write_item.new.lines.items ++ trace_of (drop n told)) c.len.ensures.value)

pub returns-clause-spelled : goal.returns-clause-spelled
returns-clause-spelled c =
    let told = c.in_ok-after.after.steps in
    one_spelled c.args.machine.now (map entry_from c.args.entries.now) (entry_from c.args.entry)
    c.args.before.now.steps told c.requires.possible c.requires.before c.in_ok-after.ensures
    (ap (λ (n : ℕ). list_all has_line (drop n told)) (sym c.len.ensures.value) ∙ c.in_ok-write_steps.ensures.spelled)
