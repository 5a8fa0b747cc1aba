use Rattle.std.proofs.Common.{◌≡◌, ℕ, ◌<◌, true}
use Rattle.l4_parts.specs.Inner.Numbers.{part_at}
use Rattle.l4_parts.specs.Inner.Known.{number_at}
use Rattle.l4_parts.proofs.rows.is_at_rest.Given as goal

-- Those before the next one rest.
abbrev pub invariant-loop-place : goal.invariant-loop-place
invariant-loop-place l =
    (place : ℕ) → place < l.place → (part_at l.parts (number_at l.row place)).rests ≡ true
