use Rattle.std.proofs.Common.{subst, sym}
use Rattle.std.specs.List.{AllByRecursion}
use Rattle.l4_questions.specs.Inner.Found.{IsLed}
use Rattle.l4_questions.proofs.Lists.{all_led}
use Rattle.l4_questions.proofs.walked.is_far.Goals as goal

pub is_any_asked-requires : goal.is_any_asked-requires
is_any_asked-requires g c =
    subst (AllByRecursion (IsLed c.args.machine.now)) (sym c.deref.ensures.value)
    (all_led c.args.machine.now c.in_ok-near.near.endings.items c.in_ok-near.ensures.led)
