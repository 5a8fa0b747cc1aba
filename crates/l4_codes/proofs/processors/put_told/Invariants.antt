use Rattle.std.proofs.Common.{◌≡◌, ℕ, List, drop, length}
use Rattle.l4_states.specs.Inner.Codes.{each, number_code, sized}
use Rattle.l4_codes.specs.Inner.Written.{with_numbers}
use Rattle.l4_codes.proofs.processors.put_told.Given as goal

-- With the threads that are left it is the code of all.
abbrev pub invariant-loop-place : goal.invariant-loop-place
invariant-loop-place l =
    (rest : List ℕ) →
    with_numbers l.code (each number_code (drop l.place l.core.local.told) rest)
    ≡ with_numbers l.fn.code
    (sized (length l.core.machine.threads) number_code l.core.local.told rest)
