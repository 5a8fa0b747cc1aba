use Rattle.std.proofs.Common.{◌≡◌, map, take}
use Rattle.l4_explore.specs.Inner.Views.{next_from}
use Rattle.l4_all_endings.specs.Tried.{nexts_at}
use Rattle.l4_all_endings.proofs.tried.choices_by.Given as goal

-- The states behind the entries before the next one are listed.
abbrev pub invariant-loop-entry : goal.invariant-loop-entry
invariant-loop-entry l =
    map next_from l.choices.items
    ≡ nexts_at l.fn.outlook.machine l.fn.outlook.world (take l.entry-index l.others)
