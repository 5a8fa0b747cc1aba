use Rattle.l4_model.specs.Rules.{received_tag}
use Rattle.l4_model.specs.Effects.{receives}
use Rattle.l4_model.proofs.Chains.{length-changed}
use Rattle.l4_audit.proofs.world.World.take_over.Goals as goal

pub end_send-requires : goal.end_send-requires
end_send-requires c =
    let d = c.args.delivery.now in
    rw (c.receive.ensures, length-changed (receives d.message (received_tag d.cross d.message)) c.unqueue.new.self.world.threads c.args.receiver) (rw c.unqueue.ensures c.requires.sender)
