use Rattle.std.proofs.Common.{◌≡◌, map, take}
use Rattle.std.specs.Prelude.{replicate}
use Rattle.l4_model.specs.World.{opening_thread}
use Rattle.l4_core.specs.Inner.Parts.{threads_of, ids_of}
use Rattle.l4_core.proofs.known.opening_threads.Given as goal

abbrev pub invariant-loop-place : goal.invariant-loop-place
invariant-loop-place l = (threads_of l.threads.items ≡ replicate l.place opening_thread) × (ids_of l.threads.items ≡ take l.place (map (λ d. d.id) l.machine.threads))
