use Rattle.std.specs.Prelude.{slice_get, Some}
use Rattle.std.proofs.Common.{◌≡◌, ◌<◌, ◌+◌, ℕ, [], length, get_or, ap, sym, ◌∙◌, arith}
use Rattle.std.proofs.lemmas.List.{get_or_read}
use Rattle.tcb_arena.specs.Inner.Due.{Due, armed_of}
use Rattle.tcb_arena.proofs.Entries.{E}
use Rattle.tcb_arena.proofs.Once.{get-in}
use Rattle.tcb_arena.proofs.Ordered.{one-list, order-linked, read-at, read-from, read-none, read-within}
use Rattle.tcb_arena.proofs.Wheels.{linked-armed}
use Rattle.tcb_arena.proofs.wheel.Wheel.after.Goals as goal

pub after-requires : goal.after-requires
after-requires c =
    let f = c.self.inside in
    let w = c.self.invariant in
    omega (arith, (linked-armed f.deadlines.items f.rings c.args.self.now c.args.block w.placed c.self.view_is c.requires).1, w.placed.names, w.ordered.names)

pub index-requires : goal.index-requires
index-requires c =
    let f = c.self.inside in
    let w = c.self.invariant in
    let linked = (linked-armed f.deadlines.items f.rings c.args.self.now c.args.block w.placed c.self.view_is c.requires).0 in
    let at = get-in c.args.block (get_or f.order.lists 0 []) (sym (one-list c.args.block f.order.lists w.ordered.one) ∙ order-linked f.deadlines.items f.rings f.order c.args.block w.ordered ∙ linked) in
    let within : c.in_ok-next.next < length f.deadlines.items =
    read-within f.deadlines.items f.rings f.order (at.0 + 1) c.in_ok-next.next w.placed w.ordered (sym (c.after.ensures.after 0 at.0 at.1) ∙ c.in_ok-next.was) in
    omega (arith, within)

pub returns-in_err-next : goal.returns-in_err-next
returns-in_err-next c = λ place deadline at.
    let f = c.self.inside in
    let w = c.self.invariant in
    let here : slice_get (get_or f.order.lists 0 []) place ≡ Some c.args.block =
    read-from f.deadlines.items f.rings f.order place deadline c.args.block w.ordered (ap (λ (v : Due). slice_get (armed_of v) place) c.self.view_is ∙ at) in
    c.from_residual.ensures
    ∙ sym (ap (λ (v : Due). slice_get (armed_of v) (place + 1)) (sym c.self.view_is)
    ∙ read-none f.deadlines.items f.rings f.order (place + 1) w.ordered (sym (c.after.ensures.after 0 place here) ∙ c.in_err-next.was))

pub returns : goal.returns
returns c = λ place deadline at.
    let f = c.self.inside in
    let w = c.self.invariant in
    let x : ℕ = c.in_ok-next.next in
    let here : slice_get (get_or f.order.lists 0 []) place ≡ Some c.args.block =
    read-from f.deadlines.items f.rings f.order place deadline c.args.block w.ordered (ap (λ (v : Due). slice_get (armed_of v) place) c.self.view_is ∙ at) in
    let next : slice_get (get_or f.order.lists 0 []) (place + 1) ≡ Some x = sym (c.after.ensures.after 0 place here) ∙ c.in_ok-next.was in
    let lx : x < length f.deadlines.items = read-within f.deadlines.items f.rings f.order (place + 1) x w.placed w.ordered next in
    let is : c.index.result.now ≡ get_or f.deadlines.items x 0 = get_or_read f.deadlines.items x c.index.result.now lx c.index.ensures 0 in
    ap (λ (n : ℕ). let e : E = (n, x) in Some e) is
    ∙ sym (ap (λ (v : Due). slice_get (armed_of v) (place + 1)) (sym c.self.view_is) ∙ read-at f.deadlines.items f.rings f.order (place + 1) x w.ordered next)
