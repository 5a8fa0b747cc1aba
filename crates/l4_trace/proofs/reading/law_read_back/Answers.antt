use Rattle.l4_trace.proofs.ReadTexts.{read_back, written, first_fault}
use Rattle.l4_trace.proofs.reading.law_read_back.Goals as goal

pub returns-clause-read_back : goal.returns-clause-read_back
returns-clause-read_back c = read_back

pub returns-clause-written : goal.returns-clause-written
returns-clause-written c = written

pub returns-clause-first_fault : goal.returns-clause-first_fault
returns-clause-first_fault c = first_fault
