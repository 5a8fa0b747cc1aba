use Rattle.std.proofs.Common.{◌≡◌, ◌+◌, ◌<◌, length, arith}
use Rattle.l4_json.proofs.Adding.{one_longer}
use Rattle.l4_json.proofs.scripts.lengthen.Goals as goal

pub returns-in_ok-push : goal.returns-in_ok-push
returns-in_ok-push c =
    let scripts = c.args.scripts.now in
    let lines = c.index_mut-lines.result.now in
    let end : c.in-Some.last + 1 ≡ length scripts.items = omega (arith, c.in-Some.ensures, c.len.ensures, scripts.ok.0) in
    let below : length lines.items < c.args.size = omega (arith, c.if-len-size.true, c.len-2.ensures, lines.ok.0) in
    one_longer (λ v. v.items) scripts.items c.in-Some.last lines c.push.new.self c.args.number c.args.size end c.index_mut-lines.ensures.value c.in_ok-push.ensures.items below
