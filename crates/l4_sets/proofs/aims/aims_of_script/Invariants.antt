use Rattle.std.proofs.Common.{◌≡◌, length}
use Rattle.l4_sets.proofs.aims.aims_of_script.Given as goal

abbrev pub invariant-loop : goal.invariant-loop
invariant-loop l = length l.aims.items ≡ length l.script
