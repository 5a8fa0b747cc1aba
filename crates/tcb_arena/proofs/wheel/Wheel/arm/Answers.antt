use Rattle.std.proofs.Common.{◌≡◌, ◌<◌, [], true, length, min, get_or, set, sym, ◌∙◌, ap, subst, arith}
use Rattle.tcb_arena.specs.Inner.Rings.{is_linked, put_last}
use Rattle.tcb_arena.specs.Inner.Due.{armed_of, is_later, shown_due, IsWheel}
use Rattle.tcb_arena.specs.declared.wheel.Wheel.TheInside.{Inside}
use Rattle.tcb_arena.proofs.Lists.{is_in_any-at}
use Rattle.tcb_arena.proofs.Ordered.{found-in, order-linked, order-rising, order-within}
use Rattle.tcb_arena.proofs.Wheels.{linked-due, shown-armed, armed-with, wheel-armed_before, wheel-armed_last}
use Rattle.tcb_arena.proofs.wheel.Wheel.arm.Goals.{in-Some, in-None}
use Rattle.tcb_arena.proofs.wheel.Wheel.arm.Goals as goal

pub first_later-next-requires-clause-rising : goal.first_later-next-requires-clause-rising
first_later-next-requires-clause-rising c =
    let f = c.self.inside in
    order-rising f.deadlines.items f.rings f.order c.self.invariant.ordered

pub push_last-requires-clause-free : goal.push_last-requires-clause-free
push_last-requires-clause-free c =
    let f = c.self.inside in
    linked-due f.deadlines.items f.rings c.args.self.now c.args.block c.self.view_is ∙ c.requires.free

pub put_before-requires-clause-there : goal.put_before-requires-clause-there
put_before-requires-clause-there c =
    let f = c.self.inside in
    is_in_any-at c.in-Some.next 0 f.order.lists
    (found-in (is_later f.deadlines.items c.args.deadline) (get_or f.order.lists 0 []) c.in-Some.next (sym c.first_later-next.ensures ∙ c.in-Some.is))

pub put_before-requires-clause-other : goal.put_before-requires-clause-other
put_before-requires-clause-other c =
    let f = c.self.inside in
    let there : is_linked f.order c.in-Some.next ≡ true =
    is_in_any-at c.in-Some.next 0 f.order.lists
    (found-in (is_later f.deadlines.items c.args.deadline) (get_or f.order.lists 0 []) c.in-Some.next (sym c.first_later-next.ensures ∙ c.in-Some.is)) in
    let within : c.in-Some.next < length f.deadlines.items = order-within f.deadlines.items f.rings f.order c.in-Some.next c.self.invariant.placed c.self.invariant.ordered there in
    omega (arith, c.self.invariant.ordered.names)

pub put_before-requires-clause-free : goal.put_before-requires-clause-free
put_before-requires-clause-free c =
    let f = c.self.inside in
    order-linked f.deadlines.items f.rings f.order c.args.block c.self.invariant.ordered ∙ linked-due f.deadlines.items f.rings c.args.self.now c.args.block c.self.view_is ∙ c.requires.free

pub push_last-requires-in-None-clause-free : goal.push_last-requires-in-None-clause-free
push_last-requires-in-None-clause-free c =
    let f = c.self.inside in
    order-linked f.deadlines.items f.rings f.order c.args.block c.self.invariant.ordered ∙ linked-due f.deadlines.items f.rings c.args.self.now c.args.block c.self.view_is ∙ c.requires.free

pub invariant_of-self : goal.invariant_of-self
invariant_of-self c =
    let f = c.self.inside in
    let P : Inside → Type 0 = λ (z : Inside). IsWheel z.deadlines.items z.rings z.order (set z.latest.items c.min-span.result c.args.block) c.min-self-inside.result in
    elim c.match-next.branch [
      | in-Some w ↦ subst P (sym w.self-inside-is)
          (wheel-armed_before f.deadlines.items f.latest.items f.rings f.order c.push_last.new.self w.put_before.new.self c.args.self.now c.args.block c.args.deadline c.ring_of.result c.min-span.result f.floor
          c.min-self-inside.result c.self.invariant c.self.view_is c.requires.block c.requires.free c.ring_of.ensures.value c.push_last.ensures
          (c.min-self-inside.ensures ∙ ap (λ (z : Inside). min z.floor c.args.deadline) w.self-inside-is)
          w.in-Some.next (sym c.first_later-next.ensures ∙ w.in-Some.is) w.put_before.ensures)
      | in-None w ↦ subst P (sym w.self-inside-is)
          (wheel-armed_last f.deadlines.items f.latest.items f.rings f.order c.push_last.new.self w.push_last-in-None.new.self c.args.self.now c.args.block c.args.deadline c.ring_of.result c.min-span.result f.floor
          c.min-self-inside.result c.self.invariant c.self.view_is c.requires.block c.requires.free c.ring_of.ensures.value c.push_last.ensures
          (c.min-self-inside.ensures ∙ ap (λ (z : Inside). min z.floor c.args.deadline) w.self-inside-is)
          (sym c.first_later-next.ensures ∙ w.in-None.is) w.push_last-in-None.ensures)
    ]

pub returns-clause-rings : goal.returns-clause-rings
returns-clause-rings c =
    let f = c.self.inside in
    let put = c.push_last.ensures ∙ ap (λ n. put_last f.rings n c.args.block) c.ring_of.ensures.value in
    let shown = shown-armed f.deadlines.items f.rings c.push_last.new.self c.args.self.now c.args.block c.args.deadline c.self.view_is c.requires.block c.requires.free put in
    elim c.match-next.branch [
      | in-Some w ↦ ap (λ (z : Inside). shown_due z.deadlines.items z.rings) w.self-inside-is ∙ shown
      | in-None w ↦ ap (λ (z : Inside). shown_due z.deadlines.items z.rings) w.self-inside-is ∙ shown
    ]

pub returns-clause-armed : goal.returns-clause-armed
returns-clause-armed c =
    let f = c.self.inside in
    ap armed_of (returns-clause-rings c) ∙ armed-with f.deadlines.items f.rings c.args.self.now c.args.block c.args.deadline c.self.invariant.placed c.self.view_is
