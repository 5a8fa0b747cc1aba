use Rattle.std.proofs.Common.{◌≡◌, ℕ, List, drop, map}
use Rattle.l4_types.specs.Inner.OwedView.{owed_of}
use Rattle.l4_states.specs.Inner.Codes.{chained, owed_code}
use Rattle.l4_codes.specs.Inner.Written.{with_numbers}
use Rattle.l4_outlooks.proofs.code.put_all_owed.Given as goal

-- With the retargets that are left it is the code of all.
abbrev pub invariant-loop-owed : goal.invariant-loop-owed
invariant-loop-owed l =
    (rest : List ℕ) → with_numbers l.code (chained owed_code (map owed_of (drop l.owed-index l.all)) rest)
    ≡ with_numbers l.fn.code (chained owed_code (map owed_of l.all) rest)
