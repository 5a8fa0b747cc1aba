use Rattle.std.proofs.Common.{◌∙◌, ◌++◌, List, subst, sym, ap}
use Rattle.l4_core.specs.Processor as cores
use Rattle.l4_mail.specs.Inner.Fabrics.{AreFresh}
use Rattle.l4_mail.specs.declared.ports.Port.{Port}
use Rattle.l4_proc.proofs.Assembling.{HaveProcessors, assembled, next_port_of, next_fresh, next_has}
use Rattle.l4_proc.proofs.assembly.assemble.Goals as goal

pub new-requires-in-loop-port-clause-port_of : goal.new-requires-in-loop-port-clause-port_of
new-requires-in-loop-port-clause-port_of c =
    let fresh = subst (λ (ps : List Port). AreFresh c.args.room c.args.machine.now.cpus (c.loop-port.yielded ++ ps)) c.in-Some.ensures.steps.0 c.loop-port.invariant.fresh in
    next_port_of c.args.machine.now.cpus c.loop-port.yielded _ c.in-Some.port c.in_ok-core.core fresh (ap (λ (p : cores.Processor). p.machine.cpus)
    c.in_ok-core.ensures) (ap (λ (p : cores.Processor). p.cpu) c.in_ok-core.ensures ∙ c.cpu.ensures)

pub new-requires-in-loop-port-clause-fresh : goal.new-requires-in-loop-port-clause-fresh
new-requires-in-loop-port-clause-fresh c =
    let fresh = subst (λ (ps : List Port). AreFresh c.args.room c.args.machine.now.cpus (c.loop-port.yielded ++ ps)) c.in-Some.ensures.steps.0 c.loop-port.invariant.fresh in
    next_fresh c.args.machine.now.cpus c.loop-port.yielded _ c.in-Some.port fresh

pub loop-port-preserved : goal.loop-port-preserved
loop-port-preserved c =
    let before : HaveProcessors c.args.room c.args.machine.now c.loop-port.yielded c.loop-port.port-iterator.rest.items c.loop-port.processors.items = record {
      fresh = c.loop-port.invariant.fresh;
      ports = c.loop-port.invariant.ports;
      each = c.loop-port.invariant.each;
    } in
    let h = next_has c.args.room c.args.machine.now c.loop-port.yielded c.next.new.self.rest.items _ c.loop-port.processors.items c.push.new.self.items
    c.in-Some.port c.new-in-loop-port.result c.in_ok-core.core c.cpu.result before
    c.in-Some.ensures.steps.0 c.in_ok-push.ensures.items c.new-in-loop-port.ensures.parts.0 c.new-in-loop-port.ensures.parts.1 c.in_ok-core.ensures
    c.cpu.ensures c.new-in-loop-port.ensures.opened c.new-in-loop-port.ensures.parts.2 c.new-in-loop-port.ensures.turns c.new-in-loop-port.ensures.stop
    c.new-in-loop-port.ensures.log in
    record { fresh = h.fresh; ports = h.ports; each = h.each }

pub returns : goal.returns
returns c =
    let all : HaveProcessors c.args.room c.args.machine.now c.loop-port.yielded c.loop-port.port-iterator.rest.items c.loop-port.processors.items = record {
      fresh = c.loop-port.invariant.fresh;
      ports = c.loop-port.invariant.ports;
      each = c.loop-port.invariant.each;
    } in
    assembled c.args.room c.args.machine.now _ _ _ all (sym c.loop-port.port-iterator.rest.ok.0 ∙ c.in-None.ensures.steps.0)
