use Rattle.l4_refines.proofs.Law.{run_facts, letters_lawful}
use Rattle.l4_refines.proofs.law_letters_are_lawful.Goals as goal

pub returns : goal.returns
returns c = λ m r is ran. letters_lawful m r is (run_facts m r is ran)
