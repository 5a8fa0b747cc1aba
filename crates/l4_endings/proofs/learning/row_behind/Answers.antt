use Rattle.std.proofs.Common.{◌++◌, ◌<◌, take, get_or, length, ap, refl, subst, sym, ◌∙◌, arith}
use Rattle.std.proofs.lemmas.List.{length-take-le}
use Rattle.l4_core_model.specs.Runs.{opening_system}
use Rattle.l4_parts.specs.Inner.Known.{IsRow}
use Rattle.l4_endings.specs.Inner.Learned.{IsEventAt}
use Rattle.l4_parts.proofs.Knowing.{as_long, behind_longer, longer_still}
use Rattle.l4_endings.proofs.Finding.{behind_next, cannot_stop, event_inside, goes_on_by, opening_behind}
use Rattle.l4_endings.proofs.Walking.{number_at}
use Rattle.l4_endings.proofs.learning.row_behind.Goals as goal

pub loop-place-init : goal.loop-place-init
loop-place-init c = record {
  longer = as_long c.args.parts.now.parts.items;
  known = c.requires.known;
  behind = opening_behind c.args.aims.now c.args.parts.now.parts.items c.extend_from_slice.new.self.items
      (subst (IsRow c.args.aims.now (opening_system c.args.aims.now) c.args.parts.now.parts.items)
      (sym (c.in_ok-extend_from_slice.ensures.items
      ∙ ap (λ xs. xs ++ c.args.opening.now) c.in_ok-row.ensures.items)) c.requires.opening);
}

pub event_of-requires-clause-number : goal.event_of-requires-clause-number
event_of-requires-clause-number c =
    number_at c.args.aims.now c.args.schedule.now c.loop-place.place
    (get_or c.args.schedule.now c.loop-place.place 0) c.facts.ensures.lawful c.requires.leads
    (omega (arith, c.loop-place-test.true)) refl

pub go_on-requires-clause-inside : goal.go_on-requires-clause-inside
go_on-requires-clause-inside c =
    event_inside c.args.aims.now c.event_of.new.events.events.items c.deref.result.now
    (get_or c.args.schedule.now c.loop-place.place 0) c.in_ok-event.event
    c.in_ok-event.ensures.event

pub loop-place-preserved : goal.loop-place-preserved
loop-place-preserved c =
    let m = c.args.aims.now in
    let i = c.loop-place.place in
    let s = c.args.schedule.now in
    let number = get_or s i 0 in
    let row = c.loop-place.row.items in
    let parts = c.event_of.new.parts.parts.items in
    let events = c.event_of.new.events.events.items in
    let inside : i < length s = omega (arith, c.loop-place-test.true) in
    let go = goes_on_by m (take i s) parts events row number c.in_ok-event.event c.go_on.new.row.items
    c.go_on.result c.facts.ensures.lawful c.event_of.ensures.known
    (behind_longer m (take i s) c.loop-place.parts.parts.items parts row c.event_of.ensures.longer
    c.loop-place.invariant.behind)
    (subst (λ r. IsEventAt m events r number c.in_ok-event.event) c.deref.ensures.value
    c.in_ok-event.ensures.event)
    c.go_on.ensures
    (number_at m s i number c.facts.ensures.lawful c.requires.leads inside refl)
    (omega (arith, c.requires.short, inside, length-take-le i s (omega (arith, inside)))) in
    record {
      longer = longer_still c.args.parts.now.parts.items c.loop-place.parts.parts.items parts
          c.loop-place.invariant.longer c.event_of.ensures.longer;
      known = c.event_of.ensures.known;
      behind = behind_next m s i parts c.go_on.new.row.items inside
          (go.0 (cannot_stop m s i c.requires.leads inside c.go_on.result go.1));
    }
