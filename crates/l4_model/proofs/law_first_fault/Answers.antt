use Rattle.l4_model.proofs.Faults.{tells_first_fault}
use Rattle.l4_model.proofs.law_first_fault.Goals as goal

pub returns : goal.returns
returns c = tells_first_fault
