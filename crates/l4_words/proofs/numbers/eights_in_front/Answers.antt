use Rattle.std.proofs.Common.{◌≡◌, ℕ, ◌+◌, ◌*◌, ◌^◌, ◌<◌, Some, ap, ◌∙◌, arith}
use Rattle.std.proofs.lemmas.List.{take_rest}
use Rattle.l4_words.proofs.Eights.{sixteen_read}
use Rattle.l4_words.proofs.numbers.eights_in_front.Goals as goal

pub returns-then-text-lt16-clause-read : goal.returns-then-text-lt16-clause-read
returns-then-text-lt16-clause-read c =
    let first = c.value_of_eight-first in
    let low : first.result < 2 ^ 32 = omega (arith, c.if-first-ge-NO_DIGIT.false) in
    let alone : 0 * 2 ^ 32 + first.result ≡ first.result = omega arith in
    first.ensures low 0 (omega arith) ∙ ap (λ (n : ℕ). Some n) alone

pub returns-then-second-ge-NO_DIGIT-clause-read : goal.returns-then-second-ge-NO_DIGIT-clause-read
returns-then-second-ge-NO_DIGIT-clause-read c =
    let first = c.value_of_eight-first in
    let low : first.result < 2 ^ 32 = omega (arith, c.if-first-ge-NO_DIGIT.false) in
    let alone : 0 * 2 ^ 32 + first.result ≡ first.result = omega arith in
    first.ensures low 0 (omega arith) ∙ ap (λ (n : ℕ). Some n) alone

pub returns-clause-read : goal.returns-clause-read
returns-clause-read c =
    let text = c.args.text.now in
    let first = c.value_of_eight-first in
    let second = c.value_of_eight-second in
    let low : first.result < 2 ^ 32 = omega (arith, c.if-first-ge-NO_DIGIT.false) in
    let next : second.result < 2 ^ 32 = omega (arith, c.if-second-ge-NO_DIGIT.false) in
    let alone : 0 * 2 ^ 32 + first.result ≡ first.result = omega arith in
    let front = first.ensures low 0 (omega arith) ∙ ap (λ (n : ℕ). Some n) alone in
    sixteen_read text first.result (first.result * 2 ^ 32 + second.result) c.requires.few front (rw (take_rest text 8) at second.ensures next first.result low)
