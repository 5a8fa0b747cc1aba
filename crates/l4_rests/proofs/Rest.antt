-- What a core run at rest leads to is settled, so no finite period stands there.
use Rattle.std.proofs.Common.{sym, ◌∙◌, subst}
use Rattle.l4_model.specs.Machine.{Machine}
use Rattle.l4_model.proofs.Chains.{some_is}
use Rattle.l4_core_model.specs.Runs.{Run, IsMachine}
use Rattle.l4_core_model.specs.Laws.{IsCoreRun}
use Rattle.l4_refines.proofs.Law.{run_facts, rest_settled}
use Rattle.l4_merge.proofs.Reordered.{reorder}
use Rattle.l4_worlds.specs.Histories.{IsUntimed}
use Rattle.l4_rests.specs.Inner.Rests.{LeadUntimed, RestIsUntimed, RestInOrderIsUntimed}
use Rattle.l4_rests.proofs.Settled.{settled_untimed}

pub rest_untimed : (m : Machine) (r : Run) → IsMachine m → IsCoreRun m r → RestIsUntimed m r
rest_untimed m r machine is rest w at =
    let f = run_facts m r machine is in
    subst IsUntimed (some_is f.world w (sym f.reaches ∙ at)) (settled_untimed m f.world (rest_settled m r machine f rest))

-- The events in order of stamp are those of a core run that is at rest too.
pub rest_in_order_untimed : (m : Machine) (r : Run) → IsMachine m → IsCoreRun m r → RestInOrderIsUntimed m r
rest_in_order_untimed m r machine is rest =
    let other = reorder m r is in
    subst (LeadUntimed m) other.1.events (rest_untimed m other.0 machine other.1.core_run (other.1.rest ∙ rest))
