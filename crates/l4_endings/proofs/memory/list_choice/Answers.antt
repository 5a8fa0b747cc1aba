use Rattle.std.proofs.Common.{true, false, [], ◌∷◌, ◌++◌, Some, refl, ap, map, subst, sym, ◌∙◌}
use Rattle.std.specs.Option.{option_map}
use Rattle.l4_explore.specs.Tries.{State}
use Rattle.l4_explore.specs.Inner.Views.{next_from}
use Rattle.l4_states.specs.Choices.{state_after, state_in}
use Rattle.l4_parts.specs.Inner.Rows.{AreNumbers, IsRowIn}
use Rattle.l4_parts.proofs.Knowing.{behind_longer}
use Rattle.l4_endings.specs.Inner.Learned.{IsGone, IsIdle}
use Rattle.l4_endings.specs.Inner.Tried.{is_of}
use Rattle.l4_endings.proofs.Finding.{event_inside, goes_on_by, idle_none, row_in, row_numbers}
use Rattle.l4_endings.proofs.Listing.{one_listed}
use Rattle.l4_endings.proofs.Nexts.{skipped}
use Rattle.l4_endings.proofs.Posting.{is_inside}
use Rattle.l4_endings.proofs.memory.list_choice.Goals as goal

pub returns-then-is_idle-clause-listed : goal.returns-then-is_idle-clause-listed
returns-then-is_idle-clause-listed c = λ all.
    skipped (state_after c.args.aims.now) (is_of c.args.aims.now c.args.set) c.args.schedule.now 0 c.args.number
    (map next_from c.args.choices.now.items) all
    (λ yes_it. idle_none c.args.aims.now c.cpus-cpus.ensures.lawful c.args.schedule.now c.args.parts.now.parts.items
    c.args.row.now c.requires.row c.args.number c.requires.number c.cpus-cpus.result c.cpus-cpus.ensures.value
    c.requires.known.parts_are
    (subst (λ ps. IsIdle ps c.args.row.now c.cpus-cpus.result c.args.number) c.deref.ensures.value
    (c.is_idle.ensures c.if-is_idle.true)))

pub go_on-requires-clause-inside : goal.go_on-requires-clause-inside
go_on-requires-clause-inside c =
    event_inside c.args.aims.now c.event_of.new.events.events.items c.args.row.now c.args.number
    c.in_ok-event.event c.in_ok-event.ensures.event

pub returns-then-not-go_on-clause-listed : goal.returns-then-not-go_on-clause-listed
returns-then-not-go_on-clause-listed c = λ all.
    let m = c.args.aims.now in
    let s = c.args.schedule.now in
    let parts = c.event_of.new.parts.parts.items in
    let events = c.event_of.new.events.events.items in
    let go = goes_on_by m s parts events c.args.row.now c.args.number c.in_ok-event.event c.go_on.new.row.items
    c.go_on.result c.cpus-cpus.ensures.lawful c.event_of.ensures.known
    (behind_longer m s c.args.parts.now.parts.items parts c.args.row.now c.event_of.ensures.longer c.requires.row)
    c.in_ok-event.ensures.event
    (subst (λ r. IsGone events c.in_ok-event.event r c.go_on.new.row.items c.go_on.result)
    (c.in_ok-extend_from_slice.ensures.items ∙ ap (λ xs. xs ++ c.args.row.now) c.in_ok-next.ensures.items)
    c.go_on.ensures) c.requires.number c.requires.short in
    skipped (state_after m) (is_of m c.args.set) s 0 c.args.number (map next_from c.args.choices.now.items) all
    (λ yes_it. go.1 c.if-not-go_on.true)

pub state_of-requires : goal.state_of-requires
state_of-requires c =
    let m = c.args.aims.now in
    let s = c.args.schedule.now in
    let parts = c.event_of.new.parts.parts.items in
    let events = c.event_of.new.events.events.items in
    let go = goes_on_by m s parts events c.args.row.now c.args.number c.in_ok-event.event c.go_on.new.row.items
    c.go_on.result c.cpus-cpus.ensures.lawful c.event_of.ensures.known
    (behind_longer m s c.args.parts.now.parts.items parts c.args.row.now c.event_of.ensures.longer c.requires.row)
    c.in_ok-event.ensures.event
    (subst (λ r. IsGone events c.in_ok-event.event r c.go_on.new.row.items c.go_on.result)
    (c.in_ok-extend_from_slice.ensures.items ∙ ap (λ xs. xs ++ c.args.row.now) c.in_ok-next.ensures.items)
    c.go_on.ensures) c.requires.number c.requires.short in
    let behind = go.0 c.if-not-go_on.false in
    subst (λ ps. AreNumbers ps c.deref-3.result.now c.cpus-cpus.result) (sym c.deref-2.ensures.value)
    (subst (λ row. AreNumbers parts row c.cpus-cpus.result) (sym c.deref-3.ensures.value)
    (row_numbers m behind.system parts c.go_on.new.row.items c.cpus-cpus.result c.cpus-cpus.ensures.value behind.row_is))

pub returns-clause-listed : goal.returns-clause-listed
returns-clause-listed c = λ all.
    let m = c.args.aims.now in
    let s = c.args.schedule.now in
    let parts = c.event_of.new.parts.parts.items in
    let events = c.event_of.new.events.events.items in
    let go = goes_on_by m s parts events c.args.row.now c.args.number c.in_ok-event.event c.go_on.new.row.items
    c.go_on.result c.cpus-cpus.ensures.lawful c.event_of.ensures.known
    (behind_longer m s c.args.parts.now.parts.items parts c.args.row.now c.event_of.ensures.longer c.requires.row)
    c.in_ok-event.ensures.event
    (subst (λ r. IsGone events c.in_ok-event.event r c.go_on.new.row.items c.go_on.result)
    (c.in_ok-extend_from_slice.ensures.items ∙ ap (λ xs. xs ++ c.args.row.now) c.in_ok-next.ensures.items)
    c.go_on.ensures) c.requires.number c.requires.short in
    let behind = go.0 c.if-not-go_on.false in
    one_listed (state_after m) (is_of m c.args.set) s c.args.number c.args.choices.now.items c.push.new.self.items
    (record { entry = c.args.number; reached = c.in_ok-state_of.field-0 })
    c.in_ok-push.ensures.items refl
    (ap (option_map (state_in m)) behind.leads
    ∙ ap (λ (t : State). Some t) (sym (c.in_ok-state_of.ensures m behind.system
    (subst (λ ps. IsRowIn m behind.system ps c.deref-3.result.now c.cpus-cpus.result) (sym c.deref-2.ensures.value)
    (subst (λ row. IsRowIn m behind.system parts row c.cpus-cpus.result) (sym c.deref-3.ensures.value)
    (row_in m (s ++ c.args.number ∷ []) parts c.go_on.new.row.items c.cpus-cpus.result c.cpus-cpus.ensures.lawful
    c.cpus-cpus.ensures.value c.event_of.ensures.known.parts_are behind))))))
    (is_inside c.args.aims.now c.args.set c.args.number c.cpus-cpus.result c.cpu_of.result c.has.result true
    c.cpus-cpus.ensures.value c.cpu_of.ensures.value c.has.ensures c.if-not-has.false) all

pub returns-then-not-has-clause-listed : goal.returns-then-not-has-clause-listed
returns-then-not-has-clause-listed c = λ all.
    skipped (state_after c.args.aims.now) (is_of c.args.aims.now c.args.set) c.args.schedule.now 0
    c.args.number (map next_from c.args.choices.now.items) all
    (λ is.
    let out = is_inside c.args.aims.now c.args.set c.args.number c.cpus-cpus.result c.cpu_of.result c.has.result false
    c.cpus-cpus.ensures.value c.cpu_of.ensures.value c.has.ensures c.if-not-has.true in
    let no = sym is ∙ out in cc)
