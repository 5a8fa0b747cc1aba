use Rattle.std.proofs.Common.{◌++◌, ◌∷◌, List, ◌∙◌, None, ap, sym, rules}
use Rattle.std.specs.Prelude.{filter_map, is_some}
use Rattle.std.proofs.lemmas.List.{append-nil}
use Rattle.l4_core_model.specs.Runs.{Event, merged, told}
use Rattle.l4_machine.specs.Inner.EventsLeft.{first_stamp}
use Rattle.l4_machine.proofs.EventsLeft.{at_place, chosen, none_chosen}
use Rattle.l4_machine.proofs.Sought.{looked_at}
use Rattle.l4_replay.specs.Inner.Waiting.{sought}
use Rattle.l4_machine.specs.declared.unmerged.Unmerged.{Unmerged}
use Rattle.l4_machine.proofs.searching.find_all.Goals as goal

blank : Unmerged
blank = record { place = 0; count = 0; left = 0; stamp = None }

pub bounds-logs-place : goal.bounds-logs-place
bounds-logs-place c =
    let ps = c.args.processors.now in
    let next = (chosen ps c.loop-place.logs c.in-Some.place c.loop-place.invariant.whole c.loop-place.invariant.rising (sym c.first_place.ensures ∙ c.in-Some.is)).next in
    (at_place ps c.loop-place.logs c.in-Some.place blank (next.event ∷ next.rest) c.loop-place.invariant.whole next.here).0

pub offset_bounds-logs-place : goal.offset_bounds-logs-place
offset_bounds-logs-place c =
    let ps = c.args.processors.now in
    let next = (chosen ps c.loop-place.logs c.in-Some.place c.loop-place.invariant.whole c.loop-place.invariant.rising (sym c.first_place.ensures ∙ c.in-Some.is)).next in
    let lt = (at_place ps c.loop-place.logs c.in-Some.place blank (next.event ∷ next.rest) c.loop-place.invariant.whole next.here).0 in
    search rules

pub find_first-requires-clause-whole : goal.find_first-requires-clause-whole
find_first-requires-clause-whole c =
    let ps = c.args.processors.now in
    let next = (chosen ps c.loop-place.logs c.in-Some.place c.loop-place.invariant.whole c.loop-place.invariant.rising (sym c.first_place.ensures ∙ c.in-Some.is)).next in
    (at_place ps c.loop-place.logs c.in-Some.place _ (next.event ∷ next.rest) c.loop-place.invariant.whole next.here).1

pub find_first-requires-clause-some : goal.find_first-requires-clause-some
find_first-requires-clause-some c =
    let ps = c.args.processors.now in
    let next = (chosen ps c.loop-place.logs c.in-Some.place c.loop-place.invariant.whole c.loop-place.invariant.rising (sym c.first_place.ensures ∙ c.in-Some.is)).next in
    let there = at_place ps c.loop-place.logs c.in-Some.place _ (next.event ∷ next.rest) c.loop-place.invariant.whole next.here in
    ap is_some (there.1.stamp ∙ ap first_stamp there.2)

pub loop-place-smaller : goal.loop-place-smaller
loop-place-smaller c =
    let ps = c.args.processors.now in
    let l = looked_at (sought c.args.search.now) ps c.loop-place.logs c.in-Some.place _ c.find_first.new.log _ _ c.loop-place.invariant.whole c.loop-place.invariant.rising
    (sym c.first_place.ensures ∙ c.in-Some.is) c.in_ok-find_first.ensures in
    l.less

pub loop-place-preserved : goal.loop-place-preserved
loop-place-preserved c =
    let ps = c.args.processors.now in
    let l = looked_at (sought c.args.search.now) ps c.loop-place.logs c.in-Some.place _ c.find_first.new.log _ _ c.loop-place.invariant.whole c.loop-place.invariant.rising
    (sym c.first_place.ensures ∙ c.in-Some.is) c.in_ok-find_first.ensures in
    record {
      whole = l.whole;
      rising = l.rising;
      found = c.loop-place.invariant.found ∙ l.found;
    }

pub returns : goal.returns
returns c =
    let ps = c.args.processors.now in
    let f = sought c.args.search.now in
    let none = none_chosen ps c.loop-place.logs c.loop-place.invariant.whole (sym c.first_place.ensures ∙ c.in_default.is) in
    sym (c.loop-place.invariant.found ∙ ap (λ (es : List Event). c.loop-place.sends.items ++ filter_map f (told (merged es))) none ∙ append-nil c.loop-place.sends.items)
