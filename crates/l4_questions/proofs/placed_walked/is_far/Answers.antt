use Rattle.std.proofs.Common.{subst, sym}
use Rattle.std.specs.List.{AllByRecursion}
use Rattle.l4_questions.specs.Inner.Found.{IsReplayed}
use Rattle.l4_questions.proofs.Walks.{all_replayed}
use Rattle.l4_questions.proofs.placed_walked.is_far.Goals as goal

pub is_any_asked-requires : goal.is_any_asked-requires
is_any_asked-requires g c =
    subst (AllByRecursion (IsReplayed c.args.machine.now)) (sym c.deref.ensures.value)
    (all_replayed c.args.machine.now c.in_ok-near.near.endings.items)
