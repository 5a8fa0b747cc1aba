use Rattle.std.proofs.Common.{◌∙◌, ◌+◌, ◌<◌, [], length, sym, ap, arith}
use Rattle.std.proofs.Math.Seq.{take-length}
use Rattle.std.proofs.lemmas.List.{take_rest}
use Rattle.l4_words.proofs.FirstWord.{with_rest, whole_line, front_word, other_word}
use Rattle.l4_words.proofs.words.split_hexadecimal.Goals as goal

pub returns-then-end-line : goal.returns-then-end-line
returns-then-end-line c =
    let line = c.args.line.now in
    let front = c.hexadecimal_in_front-number in
    let value = rw (c.if-end-line.true, take-length line) at front.ensures.value in
    whole_line line (sym front.ensures.count ∙ c.if-end-line.true) ∙ ap (with_rest []) (sym value)

pub returns-then-line-end-ne32 : goal.returns-then-line-end-ne32
returns-then-line-end-ne32 c =
    let front = c.hexadecimal_in_front-number in
    let within : front.result.1 < length c.args.line.now = omega (arith, c.if-end-line.false, front.ensures.within) in
    other_word c.args.line.now (rw front.ensures.count at within) (rw front.ensures.count at c.if-line-end-ne32.true)

pub returns : goal.returns
returns c =
    let line = c.args.line.now in
    let front = c.hexadecimal_in_front-number in
    let end = front.result.1 in
    let within : end < length line = omega (arith, c.if-end-line.false, front.ensures.within) in
    rw (take_rest line (end + 1), front.ensures.value) (front_word line end front.ensures.count within c.if-line-end-ne32.false)
