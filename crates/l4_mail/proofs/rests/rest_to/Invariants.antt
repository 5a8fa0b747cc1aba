use Rattle.std.proofs.Common.{◌≡◌, ◌<◌, ℕ, map}
use Rattle.l4_mail.specs.Ports.{account, carried, IsWholeAt}
use Rattle.l4_mail.proofs.rests.rest_to.Given as goal

abbrev pub invariant-loop-from : goal.invariant-loop-from
invariant-loop-from l = record {
  same : map account l.ports ≡ map account l.fn.ports;
  stays : (i j : ℕ) → IsWholeAt (map carried l.fn.ports) i j → IsWholeAt (map carried l.ports) i j;
  whole_so_far : (i : ℕ) → i < l.from → IsWholeAt (map carried l.ports) i l.fn.to;
}
