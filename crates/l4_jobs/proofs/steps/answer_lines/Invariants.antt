use Rattle.std.specs.Prelude.{map}
use Rattle.l4_replay.specs.Entries.{entry_from}
use Rattle.l4_jobs.specs.Inner.Holding.{IsBehind}
use Rattle.l4_jobs.proofs.steps.answer_lines.Given as goal

abbrev pub invariant-loop : goal.invariant-loop
invariant-loop g l =
    IsBehind l.machine l.listing l.form (g.R.Read.remaining l.initial.input) (g.R.Read.remaining l.input) (g.W.Sink.takes l.initial.out l.out)
    (map entry_from l.entries.items)
