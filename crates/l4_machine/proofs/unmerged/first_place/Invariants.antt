use Rattle.std.proofs.Common.{◌≡◌, ℕ, ◌+◌, ◌≤◌, length, drop, map}
use Rattle.std.specs.Option.{option_map}
use Rattle.l4_machine.specs.Inner.EventsLeft.{least_place}
use Rattle.l4_machine.specs.declared.unmerged.Unmerged.{Unmerged}
use Rattle.l4_machine.proofs.unmerged.first_place.Given as goal

abbrev pub invariant-loop-place : goal.invariant-loop-place
invariant-loop-place l = record {
  within : l.place ≤ length l.logs;
  first : l.first ≡ option_map (λ (f : ℕ × ℕ). (l.place + f.0, f.1)) (least_place (map (λ (u : Unmerged). u.stamp) (drop l.place l.logs)));
}

abbrev pub decreases-loop-place : goal.decreases-loop-place
decreases-loop-place l = l.place
