use Rattle.std.proofs.Common.{◌≡◌, ℕ, List}
use Rattle.l4_states.specs.Inner.Codes.{chained, number_code}
use Rattle.l4_codes.specs.Inner.Written.{with_numbers}
use Rattle.l4_codes.proofs.processors.put_ready.Given as goal

-- With the threads that are left it is the code of all.
abbrev pub invariant-loop-block : goal.invariant-loop-block
invariant-loop-block l =
    (rest : List ℕ) → with_numbers l.code (chained number_code l.block-iterator rest) ≡ with_numbers
    l.fn.code (chained number_code (l.lists.ready) rest)
