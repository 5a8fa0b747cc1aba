use Rattle.std.proofs.Common.{◌≡◌}
use Rattle.l4_futures.specs.Choices.{possible}
use Rattle.l4_outlooks.proofs.Choosing.{left}
use Rattle.l4_outlooks.proofs.outlook.Outlook.is_end.Given as goal

-- Nothing was possible so far.
abbrev pub invariant-loop-entry : goal.invariant-loop-entry
invariant-loop-entry l = possible l.self.machine l.self.world ≡ left l.self.machine l.self.world l.entry
