-- How long numbers are as words, and the words of those below 10.
use Rattle.std.proofs.Common.{ℕ, ◌≡◌, ◌+◌, ◌<◌, ◌≤◌, ◌^◌, ◌∷◌, [], length, arith}
use Rattle.std.specs.Prelude.{decimal}
use Rattle.std.proofs.lemmas.Fmt.{decimal_digit, length-decimal-le}

pub at_most_10 : (n : ℕ) → n < 2 ^ 32 → length (decimal n) ≤ 10
at_most_10 n small = length-decimal-le 10 n (omega arith) (omega arith) (omega arith)

pub at_most_20 : (n : ℕ) → n < 2 ^ 64 → length (decimal n) ≤ 20
at_most_20 n small = length-decimal-le 20 n (omega arith) (omega arith) small

pub one_digit : (n : ℕ) → n < 10 → decimal n ≡ (48 + n) ∷ []
one_digit = decimal_digit
