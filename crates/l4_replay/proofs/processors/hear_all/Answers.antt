use Rattle.std.proofs.Common.{◌≡◌, ℕ, Some, arith, map, refl, subst, sym}
use Rattle.std.specs.Prelude.{slice_get}
use Rattle.l4_model.specs.World.{Thread}
use Rattle.l4_replay.specs.Stations.{Station}
use Rattle.l4_replay.specs.Inner.Homes.{AreThreads}
use Rattle.l4_replay.proofs.Hearing.{hears_station}
use Rattle.l4_replay.specs.Inner.Nodes.{station_of}
use Rattle.l4_replay.proofs.Going.{node_here}
use Rattle.l4_replay.proofs.processors.hear_all.Goals as goal

node_at : (c : goal.After-hear_letters-arg-1) →
    slice_get (map station_of c.args.nodes.now) c.loop-node.node-index ≡ Some (station_of c.node-item.result)
node_at c =
    let end = c.loop-node.auto.node-index-end in
    let test = c.loop-node-test.true in
    (node_here c.args.nodes.now c.loop-node.node-index c.loop-node.node-index c.node-item.result refl (omega arith)
    c.node-item.is).at

pub hear_letters-requires-clause-machine : goal.hear_letters-requires-clause-machine
hear_letters-requires-clause-machine c =
    (c.requires.each c.loop-node.node-index (station_of c.node-item.result) (node_at c)).machine

pub hear_letters-requires-clause-inbox : goal.hear_letters-requires-clause-inbox
hear_letters-requires-clause-inbox c =
    (c.requires.each c.loop-node.node-index (station_of c.node-item.result) (node_at c)).inbox

pub loop-node-preserved : goal.loop-node-preserved
loop-node-preserved c =
    let end = c.loop-node.auto.node-index-end in
    let test = c.loop-node-test.true in
    let k = c.loop-node.node-index in
    let ss = map station_of c.args.nodes.now in
    let s : Station = station_of c.node-item.result in
    let at : slice_get ss k ≡ Some s =
    (node_here c.args.nodes.now k k c.node-item.result refl (omega arith) c.node-item.is).at in (
      c.hear_letters.ensures.places,
      λ t are.
          subst (λ (u : ℕ → Thread). AreThreads c.args.machine.now u c.hear_letters.new.threads)
          (sym (hears_station ss s k t at))
          (c.hear_letters.ensures.heard _ (c.loop-node.invariant.1 t are)),
    )
