use Rattle.l4_types.specs.StepView.{seen}
use Rattle.l4_all_endings.proofs.Telling.{can_be_due}
use Rattle.l4_all_endings.proofs.traces.Telling.tell_when_due.Goals as goal

pub until_due-requires : goal.until_due-requires
until_due-requires c =
    can_be_due c.args.self.now.auditor.at.machine c.args.self.now.auditor.at.world (seen c.args.step)
    c.requires.clocks c.requires.due
