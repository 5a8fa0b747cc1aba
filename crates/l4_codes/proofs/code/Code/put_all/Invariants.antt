use Rattle.std.proofs.Common.{◌≡◌, ℕ, List, drop}
use Rattle.l4_states.specs.Inner.Codes.{each, number_code}
use Rattle.l4_codes.specs.Inner.Written.{with_numbers}
use Rattle.l4_codes.proofs.code.Code.put_all.Given as goal

-- With the numbers that are left it is the code of all.
abbrev pub invariant-loop-number : goal.invariant-loop-number
invariant-loop-number l =
    (rest : List ℕ) → with_numbers l.self (each number_code (drop l.number-index l.numbers) rest) ≡
    with_numbers l.fn.self (each number_code l.numbers rest)
