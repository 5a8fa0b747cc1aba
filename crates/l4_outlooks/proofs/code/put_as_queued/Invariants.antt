use Rattle.std.proofs.Common.{◌≡◌, ℕ, List}
use Rattle.l4_model.specs.World.{list_at}
use Rattle.l4_states.specs.Inner.Codes.{chained, number_code}
use Rattle.l4_codes.specs.Inner.Written.{with_numbers}
use Rattle.l4_outlooks.proofs.code.put_as_queued.Given as goal

-- With the senders that are left it is the code of all.
abbrev pub invariant-loop-sender : goal.invariant-loop-sender
invariant-loop-sender l =
    (rest : List ℕ) → with_numbers l.code (chained number_code l.sender-iterator rest)
    ≡ with_numbers l.fn.code (chained number_code (list_at l.world.world.waiting l.receiver) rest)
