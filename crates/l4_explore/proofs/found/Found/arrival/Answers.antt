use Rattle.std.proofs.Common.{◌≡◌, length, get_or, ap, ◌∙◌, arith}
use Rattle.std.proofs.lemmas.List.{get_or_default}
use Rattle.l4_explore.proofs.Growing.{length-kept, no_step, seen_of-first, step_there}
use Rattle.l4_explore.specs.Inner.Views.{all_arrived, nodes_from}
use Rattle.l4_explore.proofs.found.Found.arrival.Goals as goal

pub index-requires : goal.index-requires
index-requires c = omega (
  arith,
  c.requires,
  ap length c.self.view_is,
  length-kept c.self.inside.codes c.self.inside.arrivals.items c.self.inside.ends.items
      c.self.invariant,
  c.self.inside.arrivals.ok.0,
)

pub returns : goal.returns
returns c =
    let codes = c.self.inside.codes in
    let arrivals = c.self.inside.arrivals.items in
    let ends = c.self.inside.ends.items in
    let long = length-kept codes arrivals ends c.self.invariant in
    let at : c.index.result.now ≡ get_or arrivals c.args.place no_step =
    c.index.ensures
    ∙ get_or_default arrivals c.args.place c.index.result.now no_step
    (omega (arith, c.requires, ap length c.self.view_is, long)) in
    rw (← c.self.view_is)
    (record {
      first = seen_of-first (nodes_from codes (all_arrived arrivals ends));
      later = step_there codes arrivals ends c.self.invariant c.args.place
          (omega (arith, c.requires, ap length c.self.view_is)) c.index.result.now at;
    })
