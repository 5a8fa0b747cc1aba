use Rattle.std.proofs.Common.{map, subst}
use Rattle.l4_replay.specs.Entries.{entry_from}
use Rattle.l4_machine.specs.Outcomes.{IsCompactReplay}
use Rattle.l4.proofs.round_trips.replayed_run.Goals as goal

pub returns-clause-same : goal.returns-clause-same
returns-clause-same g c =
    c.law_one_outcome.ensures _ _ _ _
    (subst (λ es. IsCompactReplay c.args.machine.now (map entry_from es) c.in_ok-again.again) c.as_slice.ensures.value c.in_ok-again.ensures)
    c.in_ok-outcome.ensures.replayed
