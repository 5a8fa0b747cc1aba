use Rattle.std.proofs.Common.{◌≡◌, List, map, ap, sym, ◌∙◌, subst}
use Rattle.l4_core_model.specs.Runs.{Run}
use Rattle.l4_core_model.specs.Schedules.{Entry, replay_entries, numbered}
use Rattle.l4_replay.specs.declared.entries.Entry as code
use Rattle.l4_replay.specs.Entries.{entry_from}
use Rattle.l4_machine.specs.Outcomes.{Findings, IsOutcomeOf, findings_of}
use Rattle.l4_replay.proofs.Replays.{numbers_replayed}
use Rattle.l4_machine.proofs.schedules.replay.Goals as goal

pub returns-clause-ok : goal.returns-clause-ok
returns-clause-ok c =
    let m = c.args.machine.now in
    let entries : List Entry = map entry_from c.as_slice.result.now in
    let read : entries ≡ map numbered c.args.schedule.now =
    ap (λ (es : List code.Entry). map entry_from es) c.as_slice.ensures.value
    ∙ c.in_ok-entries.ensures in
    let o : Findings = findings_of c.in_ok-into_outcome.field-0 in
    subst (λ (r : Run). IsOutcomeOf m r o) (numbers_replayed m c.args.schedule.now entries read)
    (subst (λ (f : Findings). IsOutcomeOf m (replay_entries m entries) f)
    (sym c.in_ok-into_outcome.ensures) c.in_ok-outcome.ensures.ok)
