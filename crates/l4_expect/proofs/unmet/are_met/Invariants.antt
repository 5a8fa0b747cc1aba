use Rattle.std.proofs.Common.{◌≡◌, drop, map}
use Rattle.l4_expect.specs.Unmet.{are_met}
use Rattle.l4_expect.specs.Inner.Views.{expected_of}
use Rattle.l4_expect.proofs.unmet.are_met.Given as goal

-- The expectations that are left decide.
abbrev pub invariant-loop-expected : goal.invariant-loop-expected
invariant-loop-expected l =
    are_met l.report (map expected_of (drop l.expected-index l.expectations))
    ≡ are_met l.report (map expected_of l.expectations)
