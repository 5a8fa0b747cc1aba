use Rattle.std.proofs.Common.{ℕ, Option, List, Some, map, ap, sym, ◌∙◌}
use Rattle.l4_replay.specs.Entries.{entry_from}
use Rattle.l4_replay.specs.declared.entries.Entry.{Entry}
use Rattle.l4_jobs.specs.Schedules.{continued_run}
use Rattle.l4_jobs.proofs.Making.{both_ok}
use Rattle.l4_jobs.proofs.Running.{rest_is}
use Rattle.l4_jobs.proofs.schedules.with_asked_rest.Goals as goal

pub returns-in-Some-clause-ok : goal.returns-in-Some-clause-ok
returns-in-Some-clause-ok c =
    let m = c.args.machine.now in
    both_ok c.with_rest.result _ _ _
    (λ all rest lawful.
    ap (λ (r : Option ℕ). continued_run m r (map entry_from c.args.entries.items)) c.in-Some.is
    ∙ ap (λ (es : List Entry). continued_run m (Some c.in-Some.turns) (map entry_from es)) (sym c.as_slice.ensures.value)
    ∙ rest_is m (map entry_from c.as_slice.result.now) (map entry_from all.items) c.in-Some.turns rest lawful)
    c.with_rest.ensures.ok c.with_rest.ensures.lawful
