use Rattle.std.proofs.Common.{◌≡◌, drop, length}
use Rattle.l4_parts.specs.Inner.Known.{written}
use Rattle.l4_parts.proofs.events.apply.Given as goal

-- With the writes that are left it becomes the same.
abbrev pub invariant-loop-write : goal.invariant-loop-write
invariant-loop-write l = record {
  same : written (drop l.write-index l.writes) l.row ≡ written l.writes l.fn.row;
  long : length l.row ≡ length l.fn.row;
}
