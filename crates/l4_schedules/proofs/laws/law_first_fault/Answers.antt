use Rattle.l4_schedules.proofs.Faulting.{first_of_file, first_of_list}
use Rattle.l4_schedules.proofs.laws.law_first_fault.Goals as goal

pub returns-clause-list : goal.returns-clause-list
returns-clause-list c = first_of_list

pub returns-clause-file : goal.returns-clause-file
returns-clause-file c = first_of_file
