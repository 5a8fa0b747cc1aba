use Rattle.std.proofs.Common.{◌≡◌, ◌++◌, drop}
use Rattle.std.specs.Prelude.{flat_map}
use Rattle.std.specs.List.{enumerate_from}
use Rattle.std.specs.String.{string_bytes}
use Rattle.l4_chart.specs.Changes.{register_part, register_parts}
use Rattle.l4_chart.proofs.changes.push_registers.Given as goal

-- The registers so far, and those to come.
abbrev pub invariant-loop-number : goal.invariant-loop-number
invariant-loop-number l =
    string_bytes l.parts ++ flat_map (register_part l.before) (enumerate_from l.number (drop l.number l.behind))
    ≡ string_bytes l.initial.parts ++ register_parts l.before l.behind
