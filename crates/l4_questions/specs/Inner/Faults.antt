-- Why an answer that is told comes to its end.
use Rattle.std.specs.Prelude.{Bool, true, false}
use Rattle.l4_questions.specs.declared.question.QuestionFault.{QuestionFault}
use Rattle.l4_questions.specs.declared.question.QuestionFault.TheVariants.{NoMemory}
use Rattle.l4_questions.specs.declared.teller.TellFault.{TellFault}
use Rattle.l4_questions.specs.declared.teller.TellFault.TheVariants.{NoAnswer, NotTold}

abbrev pub fault_of : (is_refused : Bool) → TellFault
fault_of true = NotTold
fault_of false = NoAnswer NoMemory

abbrev pub fault_without : TellFault → QuestionFault
fault_without (NoAnswer fault) = fault
fault_without NotTold = NoMemory
