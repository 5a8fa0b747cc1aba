use Rattle.std.proofs.Common.{sym, ◌∙◌, ap}
use Rattle.tcb_arena.specs.Inner.Due.{armed_of}
use Rattle.tcb_arena.proofs.Once.{once-shown}
use Rattle.tcb_arena.proofs.Wheels.{shown-disarmed, armed-left, none-out, wheel-disarmed}
use Rattle.tcb_arena.proofs.wheel.Wheel.disarm.Goals as goal

pub returns-then-not-is_linked-clause-rings : goal.returns-then-not-is_linked-clause-rings
returns-then-not-is_linked-clause-rings c =
    let f = c.self.inside in
    sym c.self.view_is
    ∙ shown-disarmed f.deadlines.items f.rings f.rings c.args.self.now c.args.block c.self.view_is (sym (none-out f.rings c.args.block (sym c.is_linked.ensures.linked ∙ c.if-not-is_linked.true)))

pub returns-then-not-is_linked-clause-armed : goal.returns-then-not-is_linked-clause-armed
returns-then-not-is_linked-clause-armed c =
    let f = c.self.inside in
    ap armed_of
    (sym c.self.view_is
    ∙ shown-disarmed f.deadlines.items f.rings f.rings c.args.self.now c.args.block c.self.view_is (sym (none-out f.rings c.args.block (sym c.is_linked.ensures.linked ∙ c.if-not-is_linked.true))))
    ∙ armed-left f.deadlines.items f.rings c.args.self.now c.args.block c.self.view_is

pub returns-then-not-is_linked-clause-once : goal.returns-then-not-is_linked-clause-once
returns-then-not-is_linked-clause-once c =
    let f = c.self.inside in
    once-shown 64 f.deadlines.items f.rings c.args.self.now c.self.invariant.placed c.is_linked.ensures.sound c.self.view_is

pub invariant_of-self : goal.invariant_of-self
invariant_of-self c =
    let f = c.self.inside in
    wheel-disarmed f.deadlines.items f.latest.items f.rings f.order c.take_out.new.self c.take_out-2.new.self c.args.block f.floor c.self.invariant c.take_out.ensures c.take_out-2.ensures

pub returns-clause-rings : goal.returns-clause-rings
returns-clause-rings c =
    let f = c.self.inside in
    shown-disarmed f.deadlines.items f.rings c.take_out.new.self c.args.self.now c.args.block c.self.view_is c.take_out.ensures

pub returns-clause-armed : goal.returns-clause-armed
returns-clause-armed c =
    let f = c.self.inside in
    ap armed_of (shown-disarmed f.deadlines.items f.rings c.take_out.new.self c.args.self.now c.args.block c.self.view_is c.take_out.ensures)
    ∙ armed-left f.deadlines.items f.rings c.args.self.now c.args.block c.self.view_is

pub returns-clause-once : goal.returns-clause-once
returns-clause-once c =
    let f = c.self.inside in
    once-shown 64 f.deadlines.items f.rings c.args.self.now c.self.invariant.placed c.is_linked.ensures.sound c.self.view_is
