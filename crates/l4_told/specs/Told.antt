-- What a run or a replay comes to whose history is told and not kept.
use Rattle.std.specs.Prelude.{List, map}
use Rattle.l4_model.specs.Steps.{Step}
use Rattle.l4_types.specs.ReportView.{report_of_view}
use Rattle.l4_machine.specs.Outcomes.{Findings}
use Rattle.l4_told.specs.declared.final_state.FinalState.{FinalState}

-- The findings of a run that ended so, with the history that was told.
abbrev pub findings_with : List Step → FinalState → Findings
findings_with history s = record {
  history = history;
  waiting = s.waiting.items;
  threads = map report_of_view s.threads.items;
  ending = s.ending;
  turns = s.turns;
}
