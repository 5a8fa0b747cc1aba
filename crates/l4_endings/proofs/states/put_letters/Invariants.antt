use Rattle.std.proofs.Common.{◌≡◌, ℕ, List}
use Rattle.l4_bisimilar.specs.Alike.{contents}
use Rattle.l4_states.specs.Inner.Codes.{chained, content_code}
use Rattle.l4_codes.specs.Inner.Written.{with_numbers}
use Rattle.l4_endings.proofs.states.put_letters.Given as goal

-- With the letters that are left it is the code of all.
abbrev pub invariant-loop-letter : goal.invariant-loop-letter
invariant-loop-letter l =
    (rest : List ℕ) → with_numbers l.code (chained content_code (contents l.letter-iterator) rest)
    ≡ with_numbers l.fn.code (chained content_code (contents l.fn.letters) rest)
