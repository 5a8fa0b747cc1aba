use Rattle.std.proofs.Common.{subst}
use Rattle.l4_futures.specs.Endings.{AreAllEndings}
use Rattle.l4_questions.specs.Answers.{ending_in, endings_after}
use Rattle.l4_questions.proofs.Asking.{asks_for_lines, none_asked}
use Rattle.l4_questions.proofs.OfAll.{found}
use Rattle.l4_questions.proofs.Statuses.{none_by_status, status_told}
use Rattle.l4_questions.proofs.Walks.{by_search}
use Rattle.l4_questions.proofs.laws.law_none_is_reached.Goals as goal

pub returns : goal.returns
returns c = λ m q shown expected lines unmet none any h w ending.
    let a = by_search any in
    let endings = endings_after m a.traces in
    let is = none_by_status q expected endings a.is_whole (status_told a) none in
    let all = subst (AreAllEndings m a.traces a.depth) is.1 a.searched.all in
    none_asked q (asks_for_lines q a.lawful) endings (ending_in m h w) (found m a.traces a.depth all h w ending) is.0
