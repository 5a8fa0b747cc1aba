use Rattle.std.proofs.Common.{◌∙◌, List, Option, ap, map, subst}
use Rattle.std.specs.Option.{option_copied}
use Rattle.l4_core_model.specs.Schedules.{replay_entries}
use Rattle.l4_replay.specs.Entries.{entry_from}
use Rattle.l4_replay.specs.declared.entries.Entry.{Entry}
use Rattle.l4_machine.specs.Outcomes.{IsOutcomeOf}
use Rattle.l4_told.specs.Told.{findings_with}
use Rattle.l4_jobs.specs.declared.done.Kept.{Kept}
use Rattle.l4_jobs.specs.Outputs.{list_of}
use Rattle.l4_jobs.specs.Runs.{list_for}
use Rattle.l4_jobs.proofs.Running.{asked_replay_done, is_recorded}
use Rattle.l4_jobs.proofs.Telling.{told_anew}
use Rattle.l4_jobs.proofs.runs.replay_done.Goals as goal

pub returns-then-is_told-clause-ok : goal.returns-then-is_told-clause-ok
returns-then-is_told-clause-ok g c =
    let asked = c.in_ok-entries.ensures.ok in
    let on = c.in_ok-all.ensures in
    let told = c.in-Ok.ensures.ok in
    let done = c.in_ok-told_done.ensures in
    let steps = c.new-steps.ensures in
    let m = c.args.machine.now in
    let replay = c.args.replay.now in
    let name = option_copied replay.record_to in
    let replayed : IsOutcomeOf m (replay_entries m (map entry_from c.in_ok-all.all.items)) (findings_with told.0 c.in-Ok.state) =
    subst (λ (es : List Entry). IsOutcomeOf m (replay_entries m (map entry_from es)) (findings_with told.0 c.in-Ok.state))
    c.as_slice.ensures.value told.1 in
    let list =
    ap (λ (list : Option Kept). list_of list) done.list
    ∙ c.in_ok-list.ensures
    ∙ ap (λ (es : List Entry). list_for name (map entry_from es)) c.as_slice-then-is_told.ensures.value in (
      asked.0,
      asked.1,
      asked_replay_done replay.printed c.args.text.now m replay.then_rest replay.schedule.now asked.0 _ name
          (option_copied c.args.expected) _ (findings_with told.0 c.in-Ok.state) _ asked.2 on.ok replayed
          (record {
            written =
                done.lines c.args.text.now m told.0 replayed.is_true.possible
                (told_anew replay.printed.report _ _ _ told.0 steps.lines steps.printed told.2.1);
            said = done.said;
            status_is = done.status;
            recorded = is_recorded m _ _ name _ c.facts.ensures.limit replayed on.lawful list;
          }),
    )

pub returns-clause-ok : goal.returns-clause-ok
returns-clause-ok g c =
    let asked = c.in_ok-entries.ensures.ok in
    let on = c.in_ok-whole.ensures in
    let done = c.in_ok-outcome_done.ensures in
    let replay = c.args.replay.now in
    let name = option_copied replay.record_to in
    let list =
    ap (λ (list : Option Kept). list_of list) done.list
    ∙ c.in_ok-list-2.ensures
    ∙ ap (λ (es : List Entry). list_for name (map entry_from es)) c.as_slice-2.ensures.value in (
      asked.0,
      asked.1,
      asked_replay_done replay.printed c.args.text.now c.args.machine.now replay.then_rest replay.schedule.now asked.0 _ name (option_copied c.args.expected) _ _ _
          asked.2 on.ok on.replayed
          (record {
            written = done.lines;
            said = done.said;
            status_is = done.status;
            recorded = is_recorded c.args.machine.now _ _ name _ c.facts.ensures.limit on.replayed on.lawful list;
          }),
    )
