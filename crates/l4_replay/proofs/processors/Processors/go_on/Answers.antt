use Rattle.std.proofs.Common.{◌∙◌, sym}
use Rattle.l4_replay.proofs.Going.{nothing_yet}
use Rattle.l4_replay.proofs.Replays.{on_ok}
use Rattle.l4_replay.proofs.processors.Processors.go_on.Goals as goal

pub returns-clause-told : goal.returns-clause-told
returns-clause-told c =
    let begun = c.in_ok-begin.ensures.ok in
    on_ok c.take.result _ _
    (λ told. record {
      kept = told.kept ∙ sym (nothing_yet c.begin.new.self begun.opened) ∙ begun.before;
      more = told.more;
    })
    c.take.ensures.told
