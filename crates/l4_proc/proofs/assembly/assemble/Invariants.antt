use Rattle.std.proofs.Common.{◌≡◌, ℕ, Some, ◌++◌, map}
use Rattle.std.specs.Prelude.{slice_get}
use Rattle.l4_mail.specs.Inner.Fabrics.{AreFresh}
use Rattle.l4_proc.specs.declared.processor.Processor.{Processor}
use Rattle.l4_proc.specs.Inner.Assembled.{IsOpening}
use Rattle.l4_proc.proofs.assembly.assemble.Given as goal

-- The ports so far have their processors, in order.
abbrev pub invariant-loop-port : goal.invariant-loop-port
invariant-loop-port l = record {
  fresh : AreFresh l.room l.machine.cpus (l.yielded ++ l.port-iterator.rest.items);
  ports : map (λ (p : Processor). p.port) l.processors.items ≡ l.yielded;
  each : (cpu : ℕ) (p : Processor) → slice_get l.processors.items cpu ≡ Some p → IsOpening l.machine cpu p;
}
