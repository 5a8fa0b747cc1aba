use Rattle.std.proofs.Common.{◌≡◌, ◌<◌, ℕ, true}
use Rattle.l4_forever.specs.Moves.{moves_at}
use Rattle.l4_stuck.proofs.moves.first_free.Given as goal

-- Those before the next one are marked.
abbrev pub invariant-loop-place : goal.invariant-loop-place
invariant-loop-place l = (i : ℕ) → i < l.place → moves_at l.moves i ≡ true
