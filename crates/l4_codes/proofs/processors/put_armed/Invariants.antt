use Rattle.std.proofs.Common.{◌≡◌, ℕ, List}
use Rattle.l4_states.specs.Inner.Codes.{armed_code, chained}
use Rattle.l4_codes.specs.Inner.Written.{with_numbers}
use Rattle.l4_codes.proofs.processors.put_armed.Given as goal

-- With the deadlines that are left it is the code of all.
abbrev pub invariant-loop-deadline : goal.invariant-loop-deadline
invariant-loop-deadline l =
    (rest : List ℕ) → with_numbers l.code (chained (armed_code l.fn.clock) l.deadline-iterator rest) ≡
    with_numbers l.fn.code (chained (armed_code l.fn.clock) l.lists.armed rest)
