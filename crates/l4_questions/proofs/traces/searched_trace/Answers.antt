use Rattle.std.proofs.Common.{subst, sym}
use Rattle.std.specs.List.{AllByRecursion}
use Rattle.l4_questions.specs.Inner.Found.{IsLed}
use Rattle.l4_questions.specs.Stuck.{asks_who_is_stuck, AreAllStuck}
use Rattle.l4_questions.proofs.Lists.{all_led}
use Rattle.l4_questions.proofs.StuckThreads.{all_stuck}
use Rattle.l4_questions.proofs.traces.searched_trace.Goals as goal

pub numbered_history-requires-clause-led : goal.numbered_history-requires-clause-led
numbered_history-requires-clause-led g c =
    subst (AllByRecursion (IsLed c.args.machine.now)) (sym c.deref.ensures.value)
    (all_led c.args.machine.now c.in_ok-found.found.endings.items c.in_ok-found.ensures.led)

pub numbered_history-requires-clause-stuck : goal.numbered_history-requires-clause-stuck
numbered_history-requires-clause-stuck g c =
    let stuck = c.in_ok-stuck.stuck in
    subst (AreAllStuck c.args.machine.now) (sym c.deref-2.ensures.value)
    (all_stuck (asks_who_is_stuck c.args.question.now) stuck.is_whole c.args.machine.now
    c.args.question.now stuck.threads.items c.in_ok-stuck.ensures)
