use Rattle.std.proofs.Common.{◌≡◌, ◌≤◌, ◌==◌, take}
use Rattle.std.specs.Prelude.{count_by}
use Rattle.l4_schedules.proofs.items.commas_in.Given as goal

abbrev pub invariant-loop-byte : goal.invariant-loop-byte
invariant-loop-byte l = record {
  counted : l.count ≡ count_by (λ byte. byte == 44) (take l.byte-index l.chunk);
  few : l.count ≤ l.byte-index;
}
