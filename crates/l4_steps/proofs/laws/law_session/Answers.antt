use Rattle.std.specs.Str.Lossy.{utf8_lossy}
use Rattle.l4_steps.specs.Commands.{command_of}
use Rattle.l4_steps.proofs.Done.{was_possible}
use Rattle.l4_steps.proofs.Stayed.{gone_back, opening, stays}
use Rattle.l4_steps.proofs.laws.law_session.Goals as goal

pub returns-clause-opening : goal.returns-clause-opening
returns-clause-opening c = opening

pub returns-clause-kept : goal.returns-clause-kept
returns-clause-kept c = λ m listing form es line s. stays m listing form es (command_of (utf8_lossy line)) s

pub returns-clause-possible : goal.returns-clause-possible
returns-clause-possible c = was_possible

pub returns-clause-back : goal.returns-clause-back
returns-clause-back c = gone_back
