use Rattle.std.proofs.Common.{◌<◌, length, ap, arith}
use Rattle.l4_mail.specs.Ports.{Carried, account}
use Rattle.l4_mail.proofs.Fabrics.{on_ok, way_at, port_in_front, port_behind, map-two_same, front_rested, back_rested}
use Rattle.l4_mail.proofs.rests.rest_pair.Goals as goal

pub rest_between-requires : goal.rest_between-requires
rest_between-requires c =
    let v = c.split_at_mut-left.ensures in
    let lt : c.args.from < length c.split_at_mut-left.result.0.now = (let a = v.front_len in let b = c.if-from-to.true in omega arith) in
    way_at c.args.ports.now c.args.from c.args.to _ _ c.requires.fabric
    (port_in_front _ _ _ _ _ v.value lt c.requires.within.0) (port_behind _ _ _ _ _ v.value v.front_len c.requires.within.1) c.requires.apart

pub returns-then-from-to-clause-same : goal.returns-then-from-to-clause-same
returns-then-from-to-clause-same c = map-two_same account _ _ _ _ _ _ _ _ _ c.split_at_mut-left.ensures.value (ap (λ (x : Carried). x.account) c.rest_between.ensures.from) c.rest_between.ensures.account

pub returns-then-from-to-clause-rested : goal.returns-then-from-to-clause-rested
returns-then-from-to-clause-rested c =
    let v = c.split_at_mut-left.ensures in
    let lt : c.args.from < length c.split_at_mut-left.result.0.now = (let a = v.front_len in let b = c.if-from-to.true in omega arith) in
    on_ok c.rest_between.result _ _
    (front_rested _ _ c.args.ports.now _ _ _ _ _ _ v.value v.front_len lt c.requires.within.1 c.requires.fabric c.rest_between.ensures.from c.rest_between.ensures.account c.rest_between.ensures.others)
    c.rest_between.ensures.whole

pub rest_between-requires-else-from-to : goal.rest_between-requires-else-from-to
rest_between-requires-else-from-to c =
    let v = c.split_at_mut-left-else-from-to.ensures in
    let lt : c.args.to < length c.split_at_mut-left-else-from-to.result.0.now = (let a = v.front_len in let b = c.if-from-to.false in let n = c.requires.apart in omega arith) in
    way_at c.args.ports.now c.args.from c.args.to _ _ c.requires.fabric
    (port_behind _ _ _ _ _ v.value v.front_len c.requires.within.0) (port_in_front _ _ _ _ _ v.value lt c.requires.within.1) c.requires.apart

pub returns-else-from-to-clause-same : goal.returns-else-from-to-clause-same
returns-else-from-to-clause-same c = map-two_same account _ _ _ _ _ _ _ _ _ c.split_at_mut-left-else-from-to.ensures.value c.rest_between-else-from-to.ensures.account (ap (λ (x : Carried). x.account) c.rest_between-else-from-to.ensures.from)

pub returns-else-from-to-clause-rested : goal.returns-else-from-to-clause-rested
returns-else-from-to-clause-rested c =
    let v = c.split_at_mut-left-else-from-to.ensures in
    let lt : c.args.to < length c.split_at_mut-left-else-from-to.result.0.now = (let a = v.front_len in let b = c.if-from-to.false in let n = c.requires.apart in omega arith) in
    on_ok c.rest_between-else-from-to.result _ _
    (back_rested _ _ c.args.ports.now _ _ _ _ _ _ v.value v.front_len lt c.requires.within.0 c.requires.fabric c.rest_between-else-from-to.ensures.from c.rest_between-else-from-to.ensures.account c.rest_between-else-from-to.ensures.others)
    c.rest_between-else-from-to.ensures.whole
