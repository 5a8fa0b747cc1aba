use Rattle.std.proofs.Common.{Some, ap, arith, sym, ◌∙◌}
use Rattle.l4_model.specs.World.{list_at}
use Rattle.l4_states.specs.Inner.Codes.{chained, number_code}
use Rattle.l4_codes.proofs.Writing.{same_last}
use Rattle.l4_worlds.specs.Bare.{in_order}
use Rattle.l4_outlooks.proofs.Falling.{list_falls, list_stays}
use Rattle.l4_outlooks.proofs.code.put_list.Goals as goal

pub returns-then-is_deleted : goal.returns-then-is_deleted
returns-then-is_deleted c =
    let a = c.args.world.now in
    let xs = list_at a.world.waiting c.args.receiver in
    let falls = list_falls a.world c.args.receiver (omega (arith, c.requires, c.facts.ensures.lists)) (c.is_deleted.ensures ∙ ap Some c.if-is_deleted.true) in
    same_last c.put_falling.result _ _ c.args.code.now c.put_falling.new.code
    (λ rest. ap (λ ys. chained number_code ys rest) (ap (λ n. in_order n xs) (sym c.facts.ensures.threads) ∙ sym falls)) c.put_falling.ensures

pub returns-else-is_deleted : goal.returns-else-is_deleted
returns-else-is_deleted c =
    let a = c.args.world.now in
    let stays = list_stays a.world c.args.receiver (omega (arith, c.requires, c.facts.ensures.lists)) (c.is_deleted.ensures ∙ ap Some c.if-is_deleted.false) in
    same_last c.put_as_queued.result _ _ c.args.code.now c.put_as_queued.new.code (λ rest. ap (λ ys. chained number_code ys rest) (sym stays)) c.put_as_queued.ensures
