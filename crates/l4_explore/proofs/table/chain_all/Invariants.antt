use Rattle.std.proofs.Common.{◌≡◌, length}
use Rattle.l4_explore.specs.Inner.Table.{AreChains}
use Rattle.l4_explore.proofs.table.chain_all.Given as goal

-- The codes before the next place are in their chains.
abbrev pub invariant-loop-place : goal.invariant-loop-place
invariant-loop-place l = record {
  buckets : length l.lasts ≡ length l.fn.lasts;
  room : length l.befores ≡ length l.fn.befores;
  chains : AreChains l.codes l.lasts l.befores l.place;
}
