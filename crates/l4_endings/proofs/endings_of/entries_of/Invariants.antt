use Rattle.std.proofs.Common.{◌≡◌, take}
use Rattle.l4_states.specs.Endings.{entries_of}
use Rattle.l4_endings.specs.Inner.Tried.{entries_from}
use Rattle.l4_endings.proofs.endings_of.entries_of.Given as goal

-- The entries of the choices before the next one.
abbrev pub invariant-loop-number : goal.invariant-loop-number
invariant-loop-number l =
    entries_from l.entries.items ≡ entries_of l.machine (take l.number-index l.numbers)
