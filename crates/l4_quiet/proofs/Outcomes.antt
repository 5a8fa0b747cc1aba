-- An outcome is quiet where its core run is at rest, and there no finite period stands.
use Rattle.std.proofs.Common.{ℕ, List, ap, sym, ◌∙◌}
use Rattle.l4_model.specs.Machine.{Machine}
use Rattle.l4_model.specs.History.{reached}
use Rattle.l4_core_model.specs.Laws.{IsCoreRun}
use Rattle.l4_core_model.specs.Runs.{IsMachine, Run}
use Rattle.l4_core_model.specs.Schedules.{Entry, replay_entries}
use Rattle.l4_merge.proofs.InRounds.{is_core_run}
use Rattle.l4_rests.proofs.Rest.{rest_untimed, rest_in_order_untimed}
use Rattle.l4_proc.specs.declared.processor.Processor.{Processor}
use Rattle.l4_machine.specs.Gathered.{IsGathered}
use Rattle.l4_machine.specs.Outcomes.{Findings, IsFoundFor, IsOutcomeOf}
use Rattle.l4_quiet.specs.Quiet.{QuietIsUntimed}
use Rattle.l4_quiet.proofs.Replays.{replay_run}

pub core_run_quiet : (m : Machine) (r : Run) (o : Findings) → IsMachine m → IsCoreRun m r → IsOutcomeOf m r o → QuietIsUntimed m o
core_run_quiet m r o machine is outcome quiet w at =
    rest_untimed m r machine is (outcome.quiet.0 quiet) w (ap (reached m) (sym outcome.history) ∙ at)

pub run_quiet : (m : Machine) (most : ℕ) (o : Findings) → IsMachine m → IsFoundFor m most o → QuietIsUntimed m o
run_quiet m most o machine found quiet w at =
    rest_in_order_untimed m found.run machine (is_core_run m most found.run found.is.rounds) (found.outcome.quiet.0 quiet) w
    (ap (reached m) (sym found.outcome.history) ∙ at)

pub replay_quiet : (m : Machine) (entries : List Entry) (o : Findings) → IsMachine m → IsOutcomeOf m (replay_entries m entries) o → QuietIsUntimed m o
replay_quiet m entries o machine outcome = core_run_quiet m (replay_entries m entries) o machine (replay_run m entries) outcome

pub gathered_quiet : (m : Machine) (processors : List Processor) (o : Findings) → IsMachine m → IsGathered m processors o → QuietIsUntimed m o
gathered_quiet m processors o machine gathered = core_run_quiet m gathered.run o machine gathered.whole.core_run gathered.outcome
