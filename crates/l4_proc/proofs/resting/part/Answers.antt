use Rattle.std.proofs.Common.{List, [], ◌∷◌, ◌++◌, sym, subst, ◌∙◌, arith}
use Rattle.std.specs.List.{AllZip}
use Rattle.std.proofs.lemmas.List.{length-map}
use Rattle.std.proofs.lemmas.Slice.Zip.{all_zipped_more}
use Rattle.l4_mail.specs.declared.ports.Port.{Port}
use Rattle.l4_proc.specs.Whole.{IsWhole}
use Rattle.l4_proc.specs.declared.worker.Worker.{Worker}
use Rattle.l4_proc.proofs.Rested.{parted, port_of, room_for, worker_of}
use Rattle.l4_proc.proofs.resting.part.Goals as goal

pub push_reserved-requires : goal.push_reserved-requires
push_reserved-requires c =
    room_for port_of c.loop-processor.ports.items c.in-Some.processor _ c.next.new.self.rest.items _ _ _ c.loop-processor.ports.ok.0 c.in-Some.ensures.steps.0
    c.loop-processor.invariant.ports
    (let n = length-map c.args.processors.items port_of in let l = c.args.processors.ok.0 in let r = c.requires.room.0 in let k = c.loop-processor.invariant.room in omega arith)

pub push_reserved-requires-in-loop-processor : goal.push_reserved-requires-in-loop-processor
push_reserved-requires-in-loop-processor c =
    room_for worker_of c.loop-processor.workers.items c.in-Some.processor _ c.next.new.self.rest.items _ _ _ c.loop-processor.workers.ok.0 c.in-Some.ensures.steps.0
    c.loop-processor.invariant.workers
    (let n = length-map c.args.processors.items worker_of in let l = c.args.processors.ok.0 in let r = c.requires.room.1 in let k = c.loop-processor.invariant.more_room in omega arith)

pub loop-processor-preserved : goal.loop-processor-preserved
loop-processor-preserved c =
    let i = c.loop-processor.invariant in
    let port_is = c.split-port.ensures.parts.0 in
    let worker_is = c.split-port.ensures.parts.1 in
    record {
      ports = parted port_of c.loop-processor.ports.items _ _ c.in-Some.processor _ c.next.new.self.rest.items _ c.push_reserved.ensures.items port_is
          c.in-Some.ensures.steps.0 i.ports;
      workers = parted worker_of c.loop-processor.workers.items _ _ c.in-Some.processor _ c.next.new.self.rest.items _ c.push_reserved-in-loop-processor.ensures.items
          worker_is c.in-Some.ensures.steps.0 i.workers;
      whole = subst (λ (ps : List Port). AllZip IsWhole ps c.push_reserved-in-loop-processor.new.self.items) (sym c.push_reserved.ensures.items)
          (subst (λ (ws : List Worker). AllZip IsWhole (c.loop-processor.ports.items ++ c.split-port.result.0 ∷ []) ws)
          (sym c.push_reserved-in-loop-processor.ensures.items)
          (all_zipped_more IsWhole c.loop-processor.ports.items c.loop-processor.workers.items c.split-port.result.0 c.split-port.result.1 i.whole
          (subst (λ (p : Port). IsWhole p c.split-port.result.1) (sym port_is) (subst (IsWhole c.in-Some.processor.port) (sym worker_is) c.split-port.ensures.whole))));
      room = c.push_reserved.ensures.capacity ∙ i.room;
      more_room = c.push_reserved-in-loop-processor.ensures.capacity ∙ i.more_room;
    }
