use Rattle.std.proofs.Common.{◌+◌, ◌<◌, length, sym, arith}
use Rattle.std.proofs.lemmas.List.{take_rest}
use Rattle.l4_words.proofs.InFront.{thread_front}
use Rattle.l4_words.proofs.threads.thread_in_front.Goals as goal

pub returns-clause-value : goal.returns-clause-value
returns-clause-value c =
    let text = c.args.text.now in
    let n = c.in_ok-number in
    let v = c.in_ok-version in
    let t = c.in_ok-thread in
    let within : n.dot < length text = omega (arith, c.if-dot-text.false, n.ensures.within) in
    let second = rw (take_rest text (n.dot + 1)) at v.ensures.value in
    thread_front text n.dot v.digits n.number v.version t.thread within c.if-text-dot-ne46.false n.ensures.value second (sym t.ensures)
