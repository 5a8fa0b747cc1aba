use Rattle.l4_refines.proofs.Law.{run_facts, run_lawful}
use Rattle.l4_refines.proofs.law_of_core_runs.Goals as goal

pub returns : goal.returns
returns c = λ m r is ran. run_lawful m r is (run_facts m r is ran)
