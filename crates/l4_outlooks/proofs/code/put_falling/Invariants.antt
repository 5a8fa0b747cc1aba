use Rattle.std.proofs.Common.{◌≡◌, ℕ, List, length}
use Rattle.l4_model.specs.World.{list_at}
use Rattle.l4_states.specs.Inner.Codes.{chained, number_code}
use Rattle.l4_codes.specs.Inner.Written.{with_numbers}
use Rattle.l4_worlds.specs.Bare.{in_order}
use Rattle.l4_outlooks.proofs.code.put_falling.Given as goal

-- With the senders of lower places it is the code of all.
abbrev pub invariant-loop-below : goal.invariant-loop-below
invariant-loop-below l =
    (rest : List ℕ) → with_numbers l.code (chained number_code (in_order l.below (list_at l.world.world.waiting l.receiver)) rest)
    ≡ with_numbers l.fn.code
    (chained number_code (in_order (length l.world.machine.threads) (list_at l.world.world.waiting l.receiver)) rest)

abbrev pub decreases-loop-below : goal.decreases-loop-below
decreases-loop-below l = l.below
