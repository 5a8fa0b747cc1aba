use Rattle.std.proofs.Common.{◌++◌, ◌∷◌, [], List, ◌∙◌, None, ap, append_assoc, map, set, sym, rules}
use Rattle.std.specs.Prelude.{is_some}
use Rattle.std.proofs.lemmas.List.{append-nil, map-append}
use Rattle.l4_bisimilar.specs.Entries.{entry_of}
use Rattle.l4_core_model.specs.Runs.{Event, merged}
use Rattle.l4_core_model.specs.Schedules.{Entry}
use Rattle.l4_merge.specs.Recorded.{actions_in}
use Rattle.l4_replay.specs.Entries.{entry_from}
use Rattle.l4_machine.specs.Inner.EventsLeft.{first_stamp}
use Rattle.l4_machine.specs.Inner.Recorded.{entries_left, happened_left}
use Rattle.l4_machine.proofs.EventsLeft.{at_place, chosen, none_chosen}
use Rattle.l4_machine.proofs.Recorded.{taken_entry}
use Rattle.l4_machine.specs.declared.unmerged.Unmerged.{Unmerged}
use Rattle.l4_machine.proofs.recording.take_all.Goals as goal

blank : Unmerged
blank = record { place = 0; count = 0; left = 0; stamp = None }

pub bounds-logs-place : goal.bounds-logs-place
bounds-logs-place c =
    let ps = c.args.processors.now in
    let next = (chosen ps c.loop-place.logs c.in-Some.place c.loop-place.invariant.whole c.loop-place.invariant.rising (sym c.first_place.ensures ∙ c.in-Some.is)).next in
    (at_place ps c.loop-place.logs c.in-Some.place blank (next.event ∷ next.rest) c.loop-place.invariant.whole next.here).0

pub offset_bounds-logs-place : goal.offset_bounds-logs-place
offset_bounds-logs-place c =
    let ps = c.args.processors.now in
    let next = (chosen ps c.loop-place.logs c.in-Some.place c.loop-place.invariant.whole c.loop-place.invariant.rising (sym c.first_place.ensures ∙ c.in-Some.is)).next in
    let lt = (at_place ps c.loop-place.logs c.in-Some.place blank (next.event ∷ next.rest) c.loop-place.invariant.whole next.here).0 in
    search rules

pub take_first-entry-requires-clause-whole : goal.take_first-entry-requires-clause-whole
take_first-entry-requires-clause-whole c =
    let ps = c.args.processors.now in
    let next = (chosen ps c.loop-place.logs c.in-Some.place c.loop-place.invariant.whole c.loop-place.invariant.rising (sym c.first_place.ensures ∙ c.in-Some.is)).next in
    (at_place ps c.loop-place.logs c.in-Some.place _ (next.event ∷ next.rest) c.loop-place.invariant.whole next.here).1

pub take_first-entry-requires-clause-some : goal.take_first-entry-requires-clause-some
take_first-entry-requires-clause-some c =
    let ps = c.args.processors.now in
    let next = (chosen ps c.loop-place.logs c.in-Some.place c.loop-place.invariant.whole c.loop-place.invariant.rising (sym c.first_place.ensures ∙ c.in-Some.is)).next in
    let there = at_place ps c.loop-place.logs c.in-Some.place _ (next.event ∷ next.rest) c.loop-place.invariant.whole next.here in
    ap is_some (there.1.stamp ∙ ap first_stamp there.2)

pub loop-place-smaller : goal.loop-place-smaller
loop-place-smaller c =
    let ps = c.args.processors.now in
    let t = taken_entry ps c.loop-place.logs c.in-Some.place _ c.take_first-entry.new.log _ c.loop-place.invariant.whole c.loop-place.invariant.rising
    (sym c.first_place.ensures ∙ c.in-Some.is) c.take_first-entry.ensures in
    t.less

pub loop-place-preserved : goal.loop-place-preserved
loop-place-preserved c =
    let ps = c.args.processors.now in
    let t = taken_entry ps c.loop-place.logs c.in-Some.place _ c.take_first-entry.new.log _ c.loop-place.invariant.whole c.loop-place.invariant.rising
    (sym c.first_place.ensures ∙ c.in-Some.is) c.take_first-entry.ensures in
    let before = map entry_from c.loop-place.entries.items in
    let entry : Entry = entry_from c.take_first-entry.result in
    let rest : List Entry = entries_left ps (set c.loop-place.logs c.in-Some.place c.take_first-entry.new.log) in
    record {
      whole = t.whole;
      rising = t.rising;
      taken = c.loop-place.invariant.taken ∙ ap (λ (es : List Entry). before ++ es) t.entries ∙ sym (append_assoc before (entry ∷ []) rest)
          ∙ ap (λ (es : List Entry). es ++ rest) (sym (map-append entry_from c.loop-place.entries.items (c.take_first-entry.result ∷ [])) ∙ ap (map entry_from) (sym c.in_ok-push.ensures.items));
    }

pub returns : goal.returns
returns c =
    let ps = c.args.processors.now in
    let none = none_chosen ps c.loop-place.logs c.loop-place.invariant.whole (sym c.first_place.ensures ∙ c.in_default.is) in
    let before = map entry_from c.loop-place.entries.items in
    sym (c.loop-place.invariant.taken
    ∙ ap (λ (es : List Event). before ++ map entry_of (actions_in (map (λ (e : Event). e.cpu) (merged es)) (map (happened_left ps) c.loop-place.logs))) none
    ∙ append-nil before)
