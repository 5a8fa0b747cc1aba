use Rattle.std.proofs.Common.{◌≡◌, ◌++◌}
use Rattle.l4_futures.specs.Choices.{possible}
use Rattle.l4_outlooks.proofs.Choosing.{entries_of, left}
use Rattle.l4_outlooks.proofs.outlook.Outlook.possible.Given as goal

-- With those of the entries that are left it is all.
abbrev pub invariant-loop-entry : goal.invariant-loop-entry
invariant-loop-entry l =
    entries_of (possible l.self.machine l.self.world)
    ≡ l.entries.items ++ entries_of (left l.self.machine l.self.world l.entry)
