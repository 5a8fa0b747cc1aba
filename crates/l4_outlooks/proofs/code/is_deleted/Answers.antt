use Rattle.std.proofs.Common.{sym}
use Rattle.l4_outlooks.proofs.Coding.{found_there}
use Rattle.l4_outlooks.proofs.code.is_deleted.Goals as goal

pub returns-in-None : goal.returns-in-None
returns-in-None c =
    let a = c.args.world.now in
    absurd (found_there a.machine a.world c.args.place c.requires c.facts.ensures.threads (sym c.in-None.ensures))
