use Rattle.std.proofs.Common.{◌≡◌, ◌++◌, map}
use Rattle.std.specs.Iterator.Adapters.{zip_first, zip_second}
use Rattle.std.specs.List.{AllZip}
use Rattle.std.specs.Vec.{vec_capacity}
use Rattle.l4_proc.specs.Whole.{IsWhole}
use Rattle.l4_proc.proofs.Rested.{port_of, worker_of}
use Rattle.l4_proc.proofs.resting.join.Given as goal

-- The parts of the processors so far and those that are left are all parts.
abbrev pub invariant-loop-port : goal.invariant-loop-port
invariant-loop-port l = record {
  can : (goal.iterator-loop-port).can_next l.port-iterator;
  finite : (goal.iterator-loop-port).is_finite l.port-iterator;
  ports : map port_of l.processors.items ++ (zip_first l.port-iterator).rest.items ≡ l.fn.ports.items;
  workers : map worker_of l.processors.items ++ (zip_second l.port-iterator).rest.items ≡ l.fn.workers.items;
  whole : AllZip IsWhole (zip_first l.port-iterator).rest.items (zip_second l.port-iterator).rest.items;
  room : vec_capacity l.processors ≡ vec_capacity l.fn.processors;
}
