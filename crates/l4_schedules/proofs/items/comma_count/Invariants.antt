use Rattle.std.proofs.Common.{◌≡◌, ◌≤◌, ◌+◌, ◌==◌, length}
use Rattle.std.specs.Prelude.{count_by}
use Rattle.l4_schedules.proofs.items.comma_count.Given as goal

abbrev pub invariant-chunks : goal.invariant-chunks
invariant-chunks l = record {
  counted : l.count + count_by (λ byte. byte == 44) l.rest ≡ count_by (λ byte. byte == 44) l.list;
  few : l.count + length l.rest ≤ length l.list;
}

abbrev pub decreases-chunks : goal.decreases-chunks
decreases-chunks l = length l.rest
