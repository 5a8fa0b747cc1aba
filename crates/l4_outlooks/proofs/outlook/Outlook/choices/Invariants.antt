use Rattle.l4_outlooks.proofs.Choosing.{AreSoFar}
use Rattle.l4_outlooks.proofs.outlook.Outlook.choices.Given as goal

abbrev pub invariant-loop-entry : goal.invariant-loop-entry
invariant-loop-entry l = AreSoFar l.self.machine l.self.world l.entries.items l.entry
