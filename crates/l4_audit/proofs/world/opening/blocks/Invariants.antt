use Rattle.std.proofs.Common.{◌≡◌, map, take}
use Rattle.l4_audit.proofs.Reporting.{opening_block}
use Rattle.l4_audit.proofs.world.opening.blocks.Given as goal

abbrev pub invariant-loop-declared : goal.invariant-loop-declared
invariant-loop-declared l = l.blocks.items ≡ map opening_block (take l.declared-index l.declared-items)
