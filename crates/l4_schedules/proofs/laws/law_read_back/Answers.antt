use Rattle.l4_replay.specs.Entries.{most_entries}
use Rattle.l4_schedules.proofs.ReadBack.{read_back, recorded_back}
use Rattle.l4_schedules.proofs.laws.law_read_back.Goals as goal

pub returns-clause-list : goal.returns-clause-list
returns-clause-list c = read_back most_entries

pub returns-clause-file : goal.returns-clause-file
returns-clause-file c = recorded_back
