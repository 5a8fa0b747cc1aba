use Rattle.std.proofs.Common.{◌≡◌, ℕ, List, drop, length}
use Rattle.l4_states.specs.Inner.Codes.{chained, each, number_code, sized}
use Rattle.l4_codes.specs.Inner.Written.{with_numbers}
use Rattle.l4_worlds.specs.Bare.{bare}
use Rattle.l4_outlooks.proofs.code.put_lists.Given as goal

-- With the receivers that are left it is the code of all.
abbrev pub invariant-loop-place : goal.invariant-loop-place
invariant-loop-place l =
    (rest : List ℕ) →
    with_numbers l.code (each (chained number_code) (drop l.place (bare l.world.world).waiting) rest)
    ≡ with_numbers l.fn.code
    (sized (length l.world.machine.threads) (chained number_code) (bare l.world.world).waiting rest)
