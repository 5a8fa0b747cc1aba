use Rattle.l4_core_model.specs.Schedules.{replay_entries}
use Rattle.l4_schedules.proofs.ReadBack.{read_back}
use Rattle.l4_replay.specs.Entries.{most_entries}
use Rattle.l4_steps.proofs.Done.{within_list}
use Rattle.l4_steps.proofs.Reported.{report_is}
use Rattle.l4_steps.proofs.laws.law_replay.Goals as goal

pub returns-clause-list : goal.returns-clause-list
returns-clause-list c = λ m es few s. read_back most_entries m es few (within_list m es s)

pub returns-clause-report : goal.returns-clause-report
returns-clause-report c = λ m es o is. report_is m (replay_entries m es) o is
