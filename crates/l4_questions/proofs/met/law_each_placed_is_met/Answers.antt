use Rattle.std.proofs.Common.{Some, subst}
use Rattle.l4_persistent.specs.Endings.{AreAllEndings}
use Rattle.l4_questions.specs.Placed.{ending_of_run, placed_endings}
use Rattle.l4_questions.proofs.Asking.{asks_for_lines, each_met}
use Rattle.l4_questions.proofs.OfAll.{placed_found}
use Rattle.l4_questions.proofs.Statuses.{all_told, met_by_status}
use Rattle.l4_questions.proofs.Walks.{placed_by_search}
use Rattle.l4_questions.proofs.met.law_each_placed_is_met.Goals as goal

pub returns-clause-by_status : goal.returns-clause-by_status
returns-clause-by_status c = λ m q shown expected lines unmet machine asked whatever any r run.
    let a = placed_by_search any in
    let endings = placed_endings m a.endings in
    let is = met_by_status q (Some expected) endings a.is_whole a.told.status_is whatever in
    let all = subst (AreAllEndings m a.endings a.depth) is.1 a.searched.all in
    each_met q (asks_for_lines q a.lawful) endings (ending_of_run m r)
    (placed_found m a.endings a.depth machine all r run) expected asked is.0

pub returns-clause-whole : goal.returns-clause-whole
returns-clause-whole c = λ m q shown expected lines status machine asked a whole r run.
    let endings = placed_endings m a.endings in
    let all = subst (AreAllEndings m a.endings a.depth) whole a.searched.all in
    each_met q (asks_for_lines q a.lawful) endings (ending_of_run m r)
    (placed_found m a.endings a.depth machine all r run) expected asked
    (all_told (Some expected) q endings a.told.unmet_are)
