use Rattle.l4_refines.proofs.Law.{run_facts, rest_still}
use Rattle.l4_refines.proofs.law_rest_is_still.Goals as goal

pub returns : goal.returns
returns c = λ m is actions r h. let f = run_facts m r is (actions, h) in (f.world, (f.reaches, rest_still m r is f))
