use Rattle.std.proofs.Common.{◌≡◌, ◌<◌, ℕ, map}
use Rattle.l4_mail.specs.Ports.{account, carried, IsWholeAt}
use Rattle.l4_mail.proofs.rests.rest_all.Given as goal

abbrev pub invariant-loop-to : goal.invariant-loop-to
invariant-loop-to l = record {
  same : map account l.ports ≡ map account l.fn.ports;
  whole_so_far : (j : ℕ) → j < l.to → (i : ℕ) → IsWholeAt (map carried l.ports) i j;
}
