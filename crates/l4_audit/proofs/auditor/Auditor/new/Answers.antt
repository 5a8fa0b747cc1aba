use Rattle.std.proofs.Common.{refl, sym, []}
use Rattle.l4_audit.proofs.auditor.Auditor.new.Goals as goal

pub invariant_of-result : goal.invariant_of-result
invariant_of-result c = rw c.in_ok-world.ensures (record { steps = []; reached_by = refl; begun_by = sym c.new-begun.ensures.items })
