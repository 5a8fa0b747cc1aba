use Rattle.l4_script.proofs.AcceptedTexts.{each_has_text}
use Rattle.l4_script.proofs.OwnWords.{writes_its_words}
use Rattle.l4_script.proofs.ReadBack.{read_back}
use Rattle.l4_script.proofs.SecondAcceptedTexts.{each_has_second_text}
use Rattle.l4_script.proofs.SecondReadBack.{second_read_back}
use Rattle.l4_script.proofs.text.law_canonical_text.Goals as goal

pub returns-clause-read_back : goal.returns-clause-read_back
returns-clause-read_back c = read_back

pub returns-clause-each : goal.returns-clause-each
returns-clause-each c = each_has_text

pub returns-clause-second : goal.returns-clause-second
returns-clause-second c = second_read_back

pub returns-clause-each_second : goal.returns-clause-each_second
returns-clause-each_second c = each_has_second_text

pub returns-clause-words : goal.returns-clause-words
returns-clause-words c = writes_its_words
