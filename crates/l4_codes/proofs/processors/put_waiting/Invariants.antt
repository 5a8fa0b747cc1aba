use Rattle.std.proofs.Common.{◌≡◌, ℕ, List, drop, length}
use Rattle.l4_states.specs.Inner.Codes.{chained, each, sized, waiting_code}
use Rattle.l4_codes.specs.Inner.Written.{with_numbers}
use Rattle.l4_codes.proofs.processors.put_waiting.Given as goal

-- With the receivers that are left it is the code of all.
abbrev pub invariant-loop-receiver : goal.invariant-loop-receiver
invariant-loop-receiver l =
    (rest : List ℕ) →
    with_numbers l.code (each (chained waiting_code) (drop l.receiver l.core.local.lists.waiting)
    rest)
    ≡ with_numbers l.fn.code
    (sized (length l.core.machine.threads) (chained waiting_code) l.core.local.lists.waiting rest)
