use Rattle.std.proofs.Common.{◌∙◌, List, Option, ap, map}
use Rattle.std.specs.Option.{option_copied, option_map}
use Rattle.l4_replay.specs.Entries.{entry_from}
use Rattle.l4_replay.specs.declared.entries.Entry.{Entry}
use Rattle.l4_schedules.specs.Written.{recorded_text}
use Rattle.l4_told.specs.Told.{findings_with}
use Rattle.l4_jobs.specs.Outputs.{list_of}
use Rattle.l4_jobs.specs.declared.done.Kept.{Kept}
use Rattle.l4_jobs.proofs.Running.{asked_run_done, is_record}
use Rattle.l4_jobs.proofs.Telling.{told_anew}
use Rattle.l4_jobs.proofs.runs.run_done.Goals as goal

pub returns-then-is_told_of_run-clause-ok : goal.returns-then-is_told_of_run-clause-ok
returns-then-is_told_of_run-clause-ok g c =
    let m = c.args.machine.now in
    let run = c.args.run.now in
    let found = c.in_ok-state.ensures in
    let done = c.in_ok-told_done.ensures in
    let steps = c.new-steps.ensures in
    asked_run_done run.printed c.args.text.now m run.turns (option_copied run.record_to) (option_copied c.args.expected)
    (findings_with found.ok.0 c.in_ok-state.state) _ (λ refused. absurd (let err = found.range.1 refused in cc)) found.ok.1
    (record {
      written =
          done.lines c.args.text.now m found.ok.0 found.ok.1.outcome.is_true.possible
          (told_anew run.printed.report _ _ _ found.ok.0 steps.lines steps.printed found.ok.2.1);
      said = done.said;
      status_is = done.status;
      recorded = rw c.in_default.is (ap (λ (list : Option Kept). list_of list) done.list);
    })

pub returns-in_default-clause-ok : goal.returns-in_default-clause-ok
returns-in_default-clause-ok g c =
    let m = c.args.machine.now in
    let run = c.args.run.now in
    let found = c.in_ok-outcome.ensures in
    let done = c.in_ok-outcome_done.ensures in
    asked_run_done run.printed c.args.text.now m run.turns (option_copied run.record_to) (option_copied c.args.expected) _ _
    (λ refused. absurd (let err = found.range.1 refused in cc)) found.ok
    (record {
      written = done.lines;
      said = done.said;
      status_is = done.status;
      recorded = rw c.in_default.is (ap (λ (list : Option Kept). list_of list) done.list);
    })

pub returns-clause-ok : goal.returns-clause-ok
returns-clause-ok g c =
    let m = c.args.machine.now in
    let run = c.args.run.now in
    let found = c.in_ok-outcome-2.ensures in
    let done = c.in_ok-outcome_done-2.ensures in
    let text = c.in_ok-recorded_text.ensures ∙ ap (λ (es : List Entry). recorded_text (map entry_from es)) c.as_slice.ensures.value in
    asked_run_done run.printed c.args.text.now m run.turns (option_copied run.record_to) (option_copied c.args.expected) _ _
    (λ refused. absurd (let err = found.range.1 refused in cc)) found.ok
    (record {
      written = done.lines;
      said = done.said;
      status_is = done.status;
      recorded = rw c.in-Some.is (
        _,
        ap (λ (list : Option Kept). option_map (λ (kept : Kept). (kept.name.now, kept.text.items)) list) done.list,
        is_record m _ _ _ c.facts.ensures.limit found.replayed found.lawful text,
      );
    })
