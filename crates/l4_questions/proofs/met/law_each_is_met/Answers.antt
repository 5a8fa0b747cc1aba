use Rattle.std.proofs.Common.{Some, subst}
use Rattle.l4_futures.specs.Endings.{AreAllEndings}
use Rattle.l4_questions.specs.Answers.{ending_in, endings_after}
use Rattle.l4_questions.proofs.Asking.{asks_for_lines, each_met}
use Rattle.l4_questions.proofs.OfAll.{found}
use Rattle.l4_questions.proofs.Statuses.{all_told, met_by_status, status_told}
use Rattle.l4_questions.proofs.Walks.{by_search}
use Rattle.l4_questions.proofs.met.law_each_is_met.Goals as goal

pub returns-clause-by_status : goal.returns-clause-by_status
returns-clause-by_status c = λ m q shown expected lines unmet asked whatever any h w ending.
    let a = by_search any in
    let endings = endings_after m a.traces in
    let is = met_by_status q (Some expected) endings a.is_whole (status_told a) whatever in
    let all = subst (AreAllEndings m a.traces a.depth) is.1 a.searched.all in
    each_met q (asks_for_lines q a.lawful) endings (ending_in m h w) (found m a.traces a.depth all h w ending) expected
    asked is.0

pub returns-clause-whole : goal.returns-clause-whole
returns-clause-whole c = λ m q shown expected lines status asked a whole h w ending.
    let endings = endings_after m a.traces in
    let all = subst (AreAllEndings m a.traces a.depth) whole a.searched.all in
    each_met q (asks_for_lines q a.lawful) endings (ending_in m h w) (found m a.traces a.depth all h w ending) expected
    asked (all_told (Some expected) q endings a.told.unmet_are)
