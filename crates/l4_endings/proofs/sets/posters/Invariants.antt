use Rattle.std.proofs.Common.{ℕ, ◌≡◌, ◌<◌, true}
use Rattle.l4_sets.specs.Inner.Sets.{has}
use Rattle.l4_endings.specs.Inner.Posted.{may_post_in}
use Rattle.l4_endings.proofs.sets.posters.Given as goal

-- Those before the next one are in.
abbrev pub invariant-loop-from : goal.invariant-loop-from
invariant-loop-from l =
    (from : ℕ) → from < l.from → may_post_in l.parts l.row l.cpus from l.to ≡ true →
    has l.posters from ≡ true
