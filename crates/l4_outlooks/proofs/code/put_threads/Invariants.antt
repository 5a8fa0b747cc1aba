use Rattle.std.proofs.Common.{◌≡◌, ℕ, List, drop, length}
use Rattle.l4_states.specs.Inner.Codes.{each, sized, thread_code}
use Rattle.l4_codes.specs.Inner.Written.{with_numbers}
use Rattle.l4_worlds.specs.Bare.{bare}
use Rattle.l4_outlooks.proofs.code.put_threads.Given as goal

-- With the threads that are left it is the code of all.
abbrev pub invariant-loop-place : goal.invariant-loop-place
invariant-loop-place l =
    (rest : List ℕ) →
    with_numbers l.code (each thread_code (drop l.place (bare l.world.world).threads) rest)
    ≡ with_numbers l.fn.code
    (sized (length l.world.machine.threads) thread_code (bare l.world.world).threads rest)
