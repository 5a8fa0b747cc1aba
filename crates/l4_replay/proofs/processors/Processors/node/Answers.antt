use Rattle.std.proofs.Common.{ap, arith}
use Rattle.std.proofs.lemmas.List.{length-map}
use Rattle.l4_model.specs.Machine.{Machine}
use Rattle.l4_replay.specs.Inner.Nodes.{station_of}
use Rattle.l4_replay.proofs.Going.{node_here}
use Rattle.l4_replay.proofs.processors.Processors.node.Goals as goal

pub returns : goal.returns
returns c =
    let is = c.requires.run.1.1 in
    let ns = c.args.self.now.nodes.items in
    let size = length-map ns station_of in
    (node_here ns c.from.result c.args.cpu c.index.result.now c.from.ensures
    (omega (arith, c.requires.cpu, is.system.for_each, size, ap (λ (m : Machine). m.cpus) is.machine))
    c.index.ensures).at
