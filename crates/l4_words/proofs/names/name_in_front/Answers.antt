use Rattle.std.proofs.Common.{◌+◌, ◌<◌, length, refl, arith}
use Rattle.std.proofs.lemmas.List.{take_rest}
use Rattle.l4_words.proofs.InFront.{name_front}
use Rattle.l4_words.proofs.names.name_in_front.Goals as goal

pub returns-clause-value : goal.returns-clause-value
returns-clause-value c =
    let text = c.args.text.now in
    let t = c.in_ok-thread in
    let n = c.in_ok-k in
    let within : t.hash < length text = omega (arith, c.if-hash-text.false, t.ensures.within) in
    let second = rw (take_rest text (t.hash + 1)) at n.ensures.value in
    name_front text t.hash n.digits t.thread n.k within c.if-text-hash-ne35.false t.ensures.value second (c.in_ok-send.ensures.when.0 refl) c.in_ok-send.send c.in_ok-send.ensures.some
