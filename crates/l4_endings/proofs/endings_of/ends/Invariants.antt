use Rattle.std.proofs.Common.{◌≡◌, map, take}
use Rattle.l4_states.specs.Endings.{ends_of, entries_of}
use Rattle.l4_endings.specs.Inner.Tried.{told}
use Rattle.l4_endings.proofs.endings_of.ends.Given as goal

-- Of the states before the next one those at rest were listed.
abbrev pub invariant-loop-place : goal.invariant-loop-place
invariant-loop-place l =
    told l.ends.items ≡ map (entries_of l.machine) (ends_of (take l.place l.found))
