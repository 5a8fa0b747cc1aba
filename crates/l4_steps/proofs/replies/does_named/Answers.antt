use Rattle.std.proofs.Common.{map, ap, sym, ◌∙◌}
use Rattle.std.specs.Option.{option_map}
use Rattle.l4_replay.specs.Entries.{entry_from}
use Rattle.l4_steps.proofs.Named.{own_named}
use Rattle.l4_steps.proofs.replies.does_named.Goals as goal

pub does-requires-clause-own : goal.does-requires-clause-own
does-requires-clause-own c =
    own_named c.args.machine.now (map entry_from c.args.entries.now) c.args.word.now (entry_from c.in-Some.entry)
    (sym c.in_ok-entry.ensures ∙ ap (option_map entry_from) c.in-Some.is)
