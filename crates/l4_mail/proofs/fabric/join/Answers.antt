use Rattle.std.proofs.Common.{◌≡◌, ◌<◌, length, get_or, subst, refl, arith}
use Rattle.l4_mail.specs.Inner.Fabrics.{AreJoined}
use Rattle.l4_mail.proofs.Growing.{joined_more, all_joined, few_back, few_ends, out_then_in, in_then_out, own_place, stands_there}
use Rattle.l4_mail.proofs.Unlinked.{first_joined}
use Rattle.l4_mail.proofs.fabric.join.Goals as goal

pub lay-requires-clause-few : goal.lay-requires-clause-few
lay-requires-clause-few c =
    let lt : c.loop-port.port-index < length c.loop-port.ports = (let t = c.loop-port-test.true in let e = c.loop-port.auto.ports in omega arith) in
    let h = c.loop-port.invariant in
    let m = h.later c.loop-port.port-index _ (stands_there c.loop-port.ports c.loop-port.port-index c.port-item.result lt) (omega arith) in
    few_ends c.args.cpu c.loop-port.port-index _ c.loop-port.next m h.next (let n = h.count in omega arith) c.requires.few

pub lay-requires-in-loop-port-clause-few : goal.lay-requires-in-loop-port-clause-few
lay-requires-in-loop-port-clause-few c =
    let lt : c.loop-port.port-index < length c.loop-port.ports = (let t = c.loop-port-test.true in let e = c.loop-port.auto.ports in omega arith) in
    let h = c.loop-port.invariant in
    let m = h.later c.loop-port.port-index _ (stands_there c.loop-port.ports c.loop-port.port-index c.port-item.result lt) (omega arith) in
    few_back c.args.cpu c.loop-port.port-index _ _ c.loop-port.next _ _ _ m h.next (let n = h.count in omega arith) c.requires.few c.in_ok-lay.ensures.2 c.in_ok-lay.ensures.3

pub loop-port-preserved : goal.loop-port-preserved
loop-port-preserved c =
    let lt : c.loop-port.port-index < length c.loop-port.ports = (let t = c.loop-port-test.true in let e = c.loop-port.auto.ports in omega arith) in
    joined_more _ _ _ _ (get_or c.loop-port.ports c.loop-port.port-index c.port-item.result) _ _ _ c.in_ok-lay.ensures.0 c.in_ok-lay-2.ensures.0 c.in_ok-lay.ensures.1 c.in_ok-lay-2.ensures.1 c.loop-port.invariant
    (stands_there c.loop-port.ports c.loop-port.port-index c.port-item.result lt)
    (out_then_in _ _ _ _ _ c.in_ok-lay.ensures.2 c.in_ok-lay-2.ensures.3)
    (in_then_out _ _ _ _ _ c.in_ok-lay.ensures.3 c.in_ok-lay-2.ensures.2)

pub returns : goal.returns
returns c =
    let e : c.loop-port.port-index ≡ c.args.cpu = (let t = c.loop-port-test.false in let a = c.loop-port.auto.ports in let b = c.loop-port.auto.port-index-end in let n = c.loop-port.invariant.count in omega arith) in
    all_joined _ _ _ c.loop-port.next _ (subst (λ k. AreJoined c.args.room c.args.cpu k c.loop-port.ports c.loop-port.next) e c.loop-port.invariant)
    (own_place _ _ refl c.in_ok-push.ensures.items c.in_ok-push-2.ensures.items)

pub loop-port-init : goal.loop-port-init
loop-port-init c = first_joined c.args.room c.args.cpu c.args.ports.now _ c.requires.members refl c.new.ensures.items c.new-2.ensures.items
