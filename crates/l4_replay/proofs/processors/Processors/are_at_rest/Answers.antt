use Rattle.std.proofs.Common.{ap, map, sym, subst}
use Rattle.l4_replay.specs.Inner.Nodes.{station_of}
use Rattle.l4_replay.specs.UnderWay.{AreResting}
use Rattle.l4_replay.proofs.processors.Processors.are_at_rest.Goals as goal

pub returns : goal.returns
returns c =
    let same = ap (map station_of) c.as_slice.ensures.value in (
      λ e. subst AreResting same (c.are_at_rest.ensures.0 e),
      λ rest. c.are_at_rest.ensures.1 (subst AreResting (sym same) rest),
    )
