use Rattle.std.proofs.Common.{map, ap, ◌∙◌}
use Rattle.std.specs.List.{list_all}
use Rattle.l4_replay.specs.Entries.{entry_from, is_entry}
use Rattle.l4_steps.proofs.Listed.{own_possible}
use Rattle.l4_steps.proofs.possible.write_choices.Goals as goal

pub write_each-requires-clause-own : goal.write_each-requires-clause-own
write_each-requires-clause-own c =
    ap (list_all (is_entry c.args.machine.now)) (ap (map entry_from) c.as_slice.ensures.value ∙ c.in_ok-possible.ensures)
    ∙ own_possible c.args.machine.now (map entry_from c.args.entries.now)
