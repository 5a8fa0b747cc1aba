use Rattle.std.proofs.Common.{ℕ, ◌<◌, map}
use Rattle.l4_script.specs.Inner.Scripts.{instr_of}
use Rattle.l4_sets.specs.Inner.Aimed.{IsSettledAt}
use Rattle.l4_sets.proofs.aims.are_settled.Given as goal

-- The places before the next one are settled.
abbrev pub invariant-loop-place : goal.invariant-loop-place
invariant-loop-place l =
    (k : ℕ) → k < l.place → IsSettledAt l.machine (map instr_of l.script) l.aims k
