use Rattle.std.proofs.Common.{◌≡◌, ◌≤◌, ◌∙◌, sym, length, arith}
use Rattle.std.proofs.lemmas.List.{take_rest}
use Rattle.l4_words.proofs.Front.{counted_few}
use Rattle.l4_words.proofs.numbers.hexadecimal_in_front.Goals as goal

pub returns-then-has_leading_zero-clause-count : goal.returns-then-has_leading_zero-clause-count
returns-then-has_leading_zero-clause-count c =
    let text = c.args.text.now in
    let few = c.read_on-value in
    let short : c.min.result ≤ length text = omega (arith, c.min.ensures) in
    let none : c.count_digits.result ≡ 0 = omega (arith, c.if-count_digits-ne0.false) in
    let rest = rw (take_rest text few.result.1) at c.count_digits.ensures in
    counted_few 16 few.result.0 c.min.result few.result.1 text short few.ensures.count few.ensures.value (sym rest ∙ none)

pub returns-else-has_leading_zero-clause-count : goal.returns-else-has_leading_zero-clause-count
returns-else-has_leading_zero-clause-count c =
    let text = c.args.text.now in
    let few = c.read_on-value in
    let short : c.min.result ≤ length text = omega (arith, c.min.ensures) in
    let none : c.count_digits.result ≡ 0 = omega (arith, c.if-count_digits-ne0.false) in
    let rest = rw (take_rest text few.result.1) at c.count_digits.ensures in
    counted_few 16 few.result.0 c.min.result few.result.1 text short few.ensures.count few.ensures.value (sym rest ∙ none)
