use Rattle.std.proofs.Common.{◌≡◌, ◌++◌, map}
use Rattle.std.specs.List.{AllZip}
use Rattle.std.specs.Vec.{vec_capacity}
use Rattle.l4_proc.specs.Whole.{IsWhole}
use Rattle.l4_proc.proofs.Rested.{port_of, worker_of}
use Rattle.l4_proc.proofs.resting.part.Given as goal

-- The parts so far and those of the processors that are left are the parts of all.
abbrev pub invariant-loop-processor : goal.invariant-loop-processor
invariant-loop-processor l = record {
  ports : l.ports.items ++ map port_of l.processor-iterator.rest.items ≡ map port_of l.fn.processors.items;
  workers : l.workers.items ++ map worker_of l.processor-iterator.rest.items ≡ map worker_of l.fn.processors.items;
  whole : AllZip IsWhole l.ports.items l.workers.items;
  room : vec_capacity l.ports ≡ vec_capacity l.fn.ports;
  more_room : vec_capacity l.workers ≡ vec_capacity l.fn.workers;
}
