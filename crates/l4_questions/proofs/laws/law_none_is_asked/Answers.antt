use Rattle.std.proofs.Common.{subst}
use Rattle.l4_persistent.specs.Endings.{AreAllEndings}
use Rattle.l4_questions.specs.Placed.{ending_of_run, placed_endings}
use Rattle.l4_questions.proofs.Asking.{asks_for_lines, none_asked}
use Rattle.l4_questions.proofs.OfAll.{placed_found}
use Rattle.l4_questions.proofs.Statuses.{none_by_status}
use Rattle.l4_questions.proofs.Walks.{placed_by_search}
use Rattle.l4_questions.proofs.laws.law_none_is_asked.Goals as goal

pub returns : goal.returns
returns c = λ m q shown expected lines unmet machine none any r run.
    let a = placed_by_search any in
    let endings = placed_endings m a.endings in
    let is = none_by_status q expected endings a.is_whole a.told.status_is none in
    let all = subst (AreAllEndings m a.endings a.depth) is.1 a.searched.all in
    none_asked q (asks_for_lines q a.lawful) endings (ending_of_run m r)
    (placed_found m a.endings a.depth machine all r run) is.0
