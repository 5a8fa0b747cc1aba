use Rattle.std.proofs.Common.{◌<◌, ℕ, List, ap, arith, length, subst, sym, take, ◌∙◌}
use Rattle.std.specs.List.{flat_map}
use Rattle.l4_model.specs.World.{Thread}
use Rattle.l4_core_model.specs.Letters.{Letter}
use Rattle.l4_replay.specs.Inner.Heard.{hears_all}
use Rattle.l4_replay.specs.Inner.Homes.{AreThreads}
use Rattle.l4_replay.proofs.Hearing.{hears_row, same_row}
use Rattle.l4_replay.specs.Inner.Nodes.{station_of}
use Rattle.l4_replay.proofs.processors.hear_letters.Goals as goal

pub loop-from-preserved : goal.loop-from-preserved
loop-from-preserved c =
    let s = station_of c.args.node.now in
    let k = c.loop-from.from in
    let end = c.cpus-from-end.ensures.value in
    let test = c.loop-from-test.true in
    let count = c.requires.inbox in
    let within : k < length s.inbox = omega arith in (
      c.hear.ensures.places,
      λ t are.
          let earlier = hears_all s.core (flat_map same_row (take k s.inbox)) t in
          let same = ap (λ (ls : List Letter). hears_all s.core ls earlier) c.letters.ensures
          ∙ sym (hears_row s.core s.inbox k t within) in
          subst (λ (u : ℕ → Thread). AreThreads c.args.machine.now u c.hear.new.self) same
          (c.hear.ensures.heard earlier (c.loop-from.invariant.1 t are)),
    )
