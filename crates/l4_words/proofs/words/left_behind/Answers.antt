use Rattle.std.proofs.Common.{◌+◌, ◌<◌, length, arith}
use Rattle.std.proofs.lemmas.List.{take_rest}
use Rattle.l4_words.proofs.InFront.{first_word, only_word}
use Rattle.l4_words.proofs.words.left_behind.Goals as goal

pub returns-then-end-line : goal.returns-then-end-line
returns-then-end-line c = λ above. only_word c.args.line.now c.args.end above c.if-end-line.true

pub returns : goal.returns
returns c = λ above.
    let line = c.args.line.now in
    let end = c.args.end in
    let within : end < length line = omega (arith, c.requires, c.if-end-line.false) in
    rw (take_rest line (end + 1)) (first_word line end above within c.if-line-end-ne32.false)
