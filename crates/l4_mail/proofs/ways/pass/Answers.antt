use Rattle.std.proofs.Common.{◌≡◌, [], ◌∷◌, ◌++◌, ap, sym, ◌∙◌}
use Rattle.std.proofs.lemmas.List.{append_cancel_left}
use Rattle.rtrb.specs.Ring.{sent, received, known_items}
use Rattle.l4_mail.proofs.ways.pass.Goals as goal

pub returns-clause-kept : goal.returns-clause-kept
returns-clause-kept c =
    let same : received c.slots_beside-count.new.self ≡ sent c.args.producer.now = c.slots_beside-count.ensures.looked.1 ∙ (c.slots_beside.ensures.consumer.1 ∙ c.requires.empty) in
    let out : sent c.slots_beside-count.new.producer ≡ sent c.args.producer.now ++ c.args.letter ∷ [] = c.slots_beside-count.ensures.producer.1 ∙ (c.push_reserved.ensures.sent.0 ∙ ap (λ u. u ++ c.args.letter ∷ []) c.slots_beside.ensures.looked.1) in
    let one : known_items c.slots_beside-count.new.self ≡ c.args.letter ∷ [] = append_cancel_left (sent c.args.producer.now) _ _ (ap (λ u. u ++ known_items c.slots_beside-count.new.self) (sym same) ∙ (c.slots_beside-count.ensures.fifo ∙ out)) in
    c.pull.ensures.kept ∙ ap (λ u. c.args.kept.now.items ++ u) one
