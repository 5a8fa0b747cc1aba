use Rattle.l4_core.proofs.known.duties.first_duty.Goals as goal

pub returns-in-None-clause-found : goal.returns-in-None-clause-found
returns-in-None-clause-found c = λ place own. c.requires.covered.others place own (c.in-None.ensures place)
