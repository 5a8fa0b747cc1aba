use Rattle.std.proofs.Common.{◌∙◌, ap, map, refl, subst, sym}
use Rattle.std.specs.Prelude.{slice_index_or, slice_set}
use Rattle.l4_replay.specs.UnderWay.{CanPost, with_letters}
use Rattle.l4_replay.specs.declared.node.Node.{Node}
use Rattle.l4_replay.specs.Inner.Nodes.{station_of}
use Rattle.l4_replay.proofs.Going.{letter_fits, letter_goes, node_here, none_first, one_delivered}
use Rattle.l4_replay.proofs.processors.deliver.Goals as goal

pub put-requires : goal.put-requires
put-requires c =
    let nodes = c.letters.nodes in
    let letters = c.letters.buffer.letters in
    let i = c.from.result in
    let to = c.in-Some.to in
    let n : Node = slice_index_or nodes i c.index-nodes-from.result in
    let within = letter_goes c.args.from letters to c.in-Some.letter nodes c.letters.invariant.can (sym c.in-Some.ensures) in
    letter_fits c.args.from i to letters nodes n c.letters.invariant.can
    (node_here nodes i to n c.from.ensures within (ap (slice_index_or nodes i) c.index-nodes-from.is))

pub letters-preserved : goal.letters-preserved
letters-preserved c =
    let nodes = c.letters.nodes in
    let letters = c.letters.buffer.letters in
    let i = c.from.result in
    let old : Node = slice_index_or nodes i c.index-nodes-from.result in
    let new : Node = record old { inbox = c.put.new.self } in
    let so_far = c.letters.invariant in
    let one = one_delivered c.args.from c.in-Some.to i c.in-Some.letter letters nodes old new c.from.ensures
    (sym c.in-Some.ensures) so_far.can (ap (slice_index_or nodes i) c.index-nodes-from.is) refl c.in_ok-put.ensures.ok in
    let ss = map station_of (slice_set nodes i new) in
    record {
      come = ap (λ ls. with_letters c.args.from ls ss) c.drop_letter.ensures.letters ∙ one.0 ∙ so_far.come;
      can = subst (λ ls. CanPost c.args.from ls ss) (sym c.drop_letter.ensures.letters) one.1;
      before = c.drop_letter.ensures.before ∙ so_far.before;
      steps = c.drop_letter.ensures.steps ∙ so_far.steps;
    }

pub returns-clause-stations : goal.returns-clause-stations
returns-clause-stations c =
    ap (λ ls. with_letters c.args.from ls (map station_of c.letters.nodes))
    (sym (none_first c.letters.buffer.letters c.in_default.ensures))
    ∙ c.letters.invariant.come
