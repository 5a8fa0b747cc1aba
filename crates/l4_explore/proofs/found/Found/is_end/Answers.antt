use Rattle.std.proofs.Common.{false, length, ap, ◌∙◌, arith}
use Rattle.std.proofs.lemmas.List.{get_or_default}
use Rattle.l4_explore.proofs.Growing.{end_there, length-kept}
use Rattle.l4_explore.proofs.found.Found.is_end.Goals as goal

pub index-requires : goal.index-requires
index-requires c = omega (
  arith,
  c.requires,
  ap length c.self.view_is,
  length-kept c.self.inside.codes c.self.inside.arrivals.items c.self.inside.ends.items
      c.self.invariant,
  c.self.invariant.each_end,
  c.self.inside.ends.ok.0,
)

pub returns : goal.returns
returns c =
    let codes = c.self.inside.codes in
    let arrivals = c.self.inside.arrivals.items in
    let ends = c.self.inside.ends.items in
    let kept = c.self.invariant in
    let long = length-kept codes arrivals ends kept in
    rw (← c.self.view_is)
    (end_there codes arrivals ends kept c.args.place
    (omega (arith, c.requires, ap length c.self.view_is)) c.index.result.now
    (c.index.ensures
    ∙ get_or_default ends c.args.place c.index.result.now false
    (omega (arith, c.requires, ap length c.self.view_is, long, kept.each_end))))
