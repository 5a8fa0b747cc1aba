use Rattle.std.proofs.Common.{◌≡◌, Some, ap, sym, ◌∙◌, subst, map, arith, refl, rules}
use Rattle.std.specs.Prelude.{slice_get}
use Rattle.std.proofs.lemmas.Option.{slice_get_within, get_or_from_slice_get}
use Rattle.std.proofs.lemmas.List.{get_or-map, length-map}
use Rattle.l4_replay.specs.Stations.{Station, IsResting}
use Rattle.l4_replay.proofs.Inboxes.{below_next}
use Rattle.l4_replay.specs.Inner.Nodes.{station_of}
use Rattle.l4_replay.proofs.Going.{node_here}
use Rattle.l4_replay.proofs.processors.are_at_rest.Goals as goal

pub loop-node-preserved : goal.loop-node-preserved
loop-node-preserved c = λ cpu s lt at.
    let ns = c.args.nodes.now in
    let resting : IsResting (station_of c.node-item.result) = c.is_at_rest.ensures.0 (search rules) in
    below_next (λ k. (s : Station) → slice_get (map station_of ns) k ≡ Some s → IsResting s) c.loop-node.node-index cpu
    (λ k below s at. c.loop-node.invariant k s below at)
    (λ s at. subst IsResting (let e = length-map ns station_of in
    let w = slice_get_within (map station_of ns) c.loop-node.node-index s at in
    ap station_of c.node-item.is ∙ sym (get_or-map station_of ns c.loop-node.node-index _ s (omega arith))
    ∙ get_or_from_slice_get (map station_of ns) c.loop-node.node-index s s at) resting) lt s at

pub returns : goal.returns
returns c = (
  λ e cpu s at. c.loop-node.invariant cpu s
      (let e = length-map c.args.nodes.now station_of in
      let within = slice_get_within (map station_of c.args.nodes.now) cpu s at in omega arith) at,
  λ rest. search rules,
)

pub returns-then-not-is_at_rest : goal.returns-then-not-is_at_rest
returns-then-not-is_at_rest c =
    let ns = c.args.nodes.now in
    let end = c.loop-node.auto.node-index-end in
    let test = c.loop-node-test.true in
    let i = c.loop-node.node-index in (
      λ e. absurd cc,
      λ rest. absurd (
          let is = c.is_at_rest.ensures.1 (rest i (station_of c.node-item.result)
          (node_here ns i i c.node-item.result refl (omega arith) c.node-item.is).at) in
          let other = c.if-not-is_at_rest.true in
          cc),
    )
