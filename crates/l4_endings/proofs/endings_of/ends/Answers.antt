use Rattle.std.proofs.Common.{◌≡◌, List, map, subst, arith}
use Rattle.std.proofs.lemmas.List.{take_all}
use Rattle.l4_explore.specs.Search.{Seen}
use Rattle.l4_states.specs.Endings.{ends_of, entries_of}
use Rattle.l4_endings.specs.Inner.Tried.{told}
use Rattle.l4_endings.proofs.Ending.{ends_on}
use Rattle.l4_endings.proofs.endings_of.ends.Goals as goal

pub list_end-requires-clause-place : goal.list_end-requires-clause-place
list_end-requires-clause-place c = omega (arith, c.loop-place-test.true, c.len-place-end.ensures.value)

pub list_end-requires-clause-choices : goal.list_end-requires-clause-choices
list_end-requires-clause-choices c =
    c.requires c.loop-place.place (omega (arith, c.loop-place-test.true, c.len-place-end.ensures.value))

pub loop-place-preserved : goal.loop-place-preserved
loop-place-preserved c =
    ends_on c.args.machine.now c.args.found.now c.loop-place.place (told c.loop-place.ends.items)
    (told c.list_end.new.ends.items)
    (omega (arith, c.loop-place-test.true, c.len-place-end.ensures.value)) c.loop-place.invariant
    c.in_ok-list_end.ensures

pub returns : goal.returns
returns c =
    subst (λ (xs : List Seen). told c.loop-place.ends.items
    ≡ map (entries_of c.args.machine.now) (ends_of xs))
    (take_all c.loop-place.place c.args.found.now
    (omega (arith, c.loop-place-test.false, c.len-place-end.ensures.value)))
    c.loop-place.invariant
