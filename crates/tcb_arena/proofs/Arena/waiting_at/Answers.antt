use Rattle.std.proofs.Common.{◌∙◌}
use Rattle.tcb_arena.proofs.Leaving.{blocks-of_list}
use Rattle.tcb_arena.proofs.Arena.waiting_at.Goals as goal

pub returns-clause-blocks : goal.returns-clause-blocks
returns-clause-blocks c =
    let f = c.self.inside in
    c.new.ensures.names ∙ blocks-of_list f.waiting f.senders.items f.ready f.wheel c.args.self.now c.args.receiver c.self.view_is
