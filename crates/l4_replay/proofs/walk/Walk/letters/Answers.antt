use Rattle.std.proofs.Common.{◌≡◌, ◌<◌, sym, subst}
use Rattle.l4_core_model.specs.Runs.{Run, letters}
use Rattle.l4_model.specs.Machine.{Machine}
use Rattle.l4_replay.specs.Inner.Nodes.{station_of}
use Rattle.l4_replay.specs.Inner.Processors.{under_way}
use Rattle.l4_replay.specs.UnderWay.{HasRun, IsRun, UnderWay}
use Rattle.l4_replay.proofs.Walks.{inbox_here, mail_here}
use Rattle.l4_replay.proofs.walk.Walk.letters.Goals as goal

pub letters-requires : goal.letters-requires
letters-requires c =
    inbox_here (under_way c.self.inside.processors) c.args.cpu c.args.from (station_of c.node.result.now)
    (subst HasRun (sym c.self.view_is) c.requires.run) c.node.ensures
    (subst (λ (u : UnderWay). c.args.from < u.machine.cpus) (sym c.self.view_is) c.requires.from)

pub returns : goal.returns
returns c =
    subst (λ (u : UnderWay). (m : Machine) (r : Run) → IsRun m r u →
    c.letters.result ≡ letters r.system.mail c.args.from c.args.cpu)
    c.self.view_is
    (λ m r is. mail_here m r (under_way c.self.inside.processors) c.args.cpu c.args.from (station_of c.node.result.now)
    c.letters.result is c.node.ensures c.letters.ensures)
