use Rattle.std.proofs.Common.{◌≡◌, ◌++◌, take, map}
use Rattle.std.specs.Prelude.{flat_map}
use Rattle.l4_expect.specs.Unmet.{unmet_part}
use Rattle.l4_expect.specs.Inner.Views.{expected_of}
use Rattle.l4_expect.proofs.unmet.push_unmet.Given as goal

abbrev pub invariant-loop-expected : goal.invariant-loop-expected
invariant-loop-expected l =
    l.lines.items ≡ l.initial.lines.items
    ++ flat_map (unmet_part l.report) (map expected_of (take l.expected-index l.expectations))
