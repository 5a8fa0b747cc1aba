use Rattle.std.proofs.Common.{◌≡◌, subst}
use Rattle.l4_core_model.specs.Runs.{Run, at_rest}
use Rattle.l4_model.specs.Machine.{Machine}
use Rattle.l4_replay.specs.Inner.Processors.{under_way}
use Rattle.l4_replay.specs.UnderWay.{IsRun, UnderWay}
use Rattle.l4_replay.proofs.Walks.{rest_here}
use Rattle.l4_replay.proofs.walk.Walk.is_at_rest.Goals as goal

pub returns : goal.returns
returns c =
    subst (λ (u : UnderWay). (m : Machine) (r : Run) → IsRun m r u → c.are_at_rest.result ≡ at_rest m r.system)
    c.self.view_is
    (λ m r is. rest_here m r (under_way c.self.inside.processors) c.are_at_rest.result is
    c.are_at_rest.ensures.1 c.are_at_rest.ensures.0)
