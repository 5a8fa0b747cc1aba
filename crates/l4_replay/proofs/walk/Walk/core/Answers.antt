use Rattle.std.proofs.Common.{refl, subst}
use Rattle.l4_core_model.specs.Runs.{Run}
use Rattle.l4_model.specs.Machine.{Machine}
use Rattle.l4_replay.specs.Inner.Nodes.{station_of}
use Rattle.l4_replay.specs.Inner.Processors.{under_way}
use Rattle.l4_replay.specs.UnderWay.{IsProcessorOf, IsRun, UnderWay}
use Rattle.l4_replay.proofs.Walks.{processor_here}
use Rattle.l4_replay.proofs.walk.Walk.core.Goals as goal

pub returns : goal.returns
returns c =
    subst (λ (u : UnderWay). (m : Machine) (r : Run) → IsRun m r u → IsProcessorOf m r.system c.args.cpu c.node.result.now.core)
    c.self.view_is
    (λ m r is. processor_here m r (under_way c.self.inside.processors) c.args.cpu (station_of c.node.result.now)
    c.node.result.now.core is c.node.ensures refl)
