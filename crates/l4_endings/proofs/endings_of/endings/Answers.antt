use Rattle.std.proofs.Common.{min}
use Rattle.l4_explore.specs.Search.{seen_at}
use Rattle.l4_explore.specs.Tries.{deepest}
use Rattle.l4_persistent.proofs.Endings.{all_endings}
use Rattle.l4_endings.specs.Inner.Tried.{told}
use Rattle.l4_endings.proofs.Ending.{are_choices, are_endings}
use Rattle.l4_endings.proofs.endings_of.endings.Goals as goal

pub ends-requires : goal.ends-requires
ends-requires g c = λ i inside.
    are_choices c.args.machine.now (seen_at c.in_ok-explored.explored.found i).schedule
    (seen_at c.in_ok-explored.explored.found i).state
    (c.in_ok-explored.ensures.explored.all.reached i inside)

pub returns-clause-all : goal.returns-clause-all
returns-clause-all g c =
    let x = c.in_ok-explored.explored in
    let m = c.args.machine.now in
    let asked = min c.args.depth deepest in
    all_endings m (told c.in_ok-ends.field-0.items) c.len.result asked c.args.most x.depth
    x.is_whole
    (are_endings m x.found (told c.in_ok-ends.field-0.items) c.len.result asked c.args.most
    x.depth x.is_whole c.facts.ensures.lawful c.in_ok-explored.ensures.explored
    (λ whole. (c.in_ok-explored.ensures.whole whole).0) c.in_ok-explored.ensures.cut
    c.len.ensures.value c.in_ok-ends.ensures)

pub returns-clause-found : goal.returns-clause-found
returns-clause-found g c =
    let x = c.in_ok-explored.explored in
    are_endings c.args.machine.now x.found (told c.in_ok-ends.field-0.items) c.len.result
    (min c.args.depth deepest) c.args.most x.depth x.is_whole c.facts.ensures.lawful
    c.in_ok-explored.ensures.explored (λ whole. (c.in_ok-explored.ensures.whole whole).0)
    c.in_ok-explored.ensures.cut c.len.ensures.value c.in_ok-ends.ensures

pub returns-clause-whole : goal.returns-clause-whole
returns-clause-whole g c = λ whole. (c.in_ok-explored.ensures.whole whole).1
