use Rattle.std.proofs.Common.{List, length, ap, sym, ◌∙◌, subst}
use Rattle.std.specs.List.{AllByRecursion}
use Rattle.std.proofs.lemmas.Result.{IfOk-weaker}
use Rattle.l4_machine.specs.Inner.EventsLeft.{all_left, IsUnmerged}
use Rattle.l4_machine.specs.declared.unmerged.Unmerged.{Unmerged}
use Rattle.l4_machine.proofs.EventsLeft.{all_left_are}
use Rattle.l4_machine.proofs.merging.count_all.Goals as goal

pub returns : goal.returns
returns c =
    let ps = c.args.processors.now in
    let m = c.args.machine.now in
    let all = all_left_are m ps c.cpus.result c.in_ok-logs.logs.items c.cpus.ensures.value c.in_ok-logs.ensures.events in
    let whole = subst (AllByRecursion (IsUnmerged ps)) (sym c.as_slice.ensures.value) c.in_ok-logs.ensures.whole in
    IfOk-weaker c.count_left.result _ _
    (λ events count. count ∙ ap (λ (us : List Unmerged). length (all_left ps us)) c.as_slice.ensures.value ∙ ap length all)
    (c.count_left.ensures ps whole)
