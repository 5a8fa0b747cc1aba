use Rattle.std.proofs.Common.{◌≡◌, length}
use Rattle.std.specs.Option.{option_copied}
use Rattle.l4_expect.specs.Conditions.{condition_of, parts_left, read_parts}
use Rattle.l4_expect.proofs.conditions.Condition.parse.Given as goal

-- The lines so far, and the parts that are left.
abbrev pub invariant-parts : goal.invariant-parts
invariant-parts l =
    read_parts l.condition (parts_left (option_copied l.rest)) ≡ condition_of l.text

abbrev pub decreases-parts : goal.decreases-parts
decreases-parts l = length (parts_left (option_copied l.rest))
