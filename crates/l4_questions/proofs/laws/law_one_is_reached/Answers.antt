use Rattle.std.proofs.Common.{ap, sym, ◌∙◌}
use Rattle.l4_questions.specs.Answers.{ending_or_none, endings_after}
use Rattle.l4_questions.specs.Asked.{is_asked}
use Rattle.l4_questions.proofs.OfAll.{asked_at}
use Rattle.l4_questions.proofs.Statuses.{some_by_status, status_told}
use Rattle.l4_questions.proofs.Walks.{by_search}
use Rattle.l4_questions.proofs.laws.law_one_is_reached.Goals as goal

pub returns : goal.returns
returns c = λ m q shown expected lines unmet one any.
    let a = by_search any in
    let is = some_by_status q expected (endings_after m a.traces) a.is_whole (status_told a) one in
    let at = asked_at m q a.traces is.0 is.1.0 is.1.1 in
    let comes = a.searched.all.sound at.place at.trace at.at in
    record {
      history = at.trace;
      world = comes.0;
      ending = comes.1;
      asked =
          sym (ap (λ o. is_asked q (ending_or_none m at.trace o)) comes.1.comes.reaches) ∙ at.asked;
    }
