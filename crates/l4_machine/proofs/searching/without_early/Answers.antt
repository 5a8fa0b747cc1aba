use Rattle.std.proofs.Common.{◌≤◌, refl, List, map, ap, ◌∙◌, subst}
use Rattle.std.proofs.lemmas.Result.{IfOk-weaker}
use Rattle.l4_core_model.specs.Runs.{merged, told}
use Rattle.l4_machine.specs.Inner.EventsLeft.{all_left, left}
use Rattle.l4_replay.specs.Inner.Waiting.{count_sought, count_undecided, sought}
use Rattle.l4_machine.specs.Inner.Waiting.{all_at_end, at_end}
use Rattle.l4_machine.specs.declared.unmerged.Unmerged.{Unmerged}
use Rattle.l4_replay.proofs.Enough.{few_sought}
use Rattle.l4_machine.proofs.Enough.{enough_passed}
use Rattle.l4_machine.proofs.searching.without_early.Goals as goal

pub returns-in-Some-clause-passed : goal.returns-in-Some-clause-passed
returns-in-Some-clause-passed c =
    let ps = c.args.processors.now in
    let us = c.args.logs.items in
    let s = c.args.search.now in
    let f = sought s in
    let sends = s.at_home.now.sends.items in
    let few = few_sought s.machine.now (told (merged (all_left ps us))) sends c.requires.once in
    let enough : count_undecided sends ≤ count_sought f (all_at_end ps c.in-Some.most us) =
    subst (λ (us : List Unmerged). count_undecided sends ≤ count_sought f (all_at_end ps c.in-Some.most us)) c.as_slice.ensures.value c.in-Some.ensures in
    IfOk-weaker c.last_of_all.result _ _
    (λ late are. enough_passed f ps c.in-Some.most (count_undecided sends) us late.items c.requires.rising few enough
    (are ∙ ap (λ (us : List Unmerged). map (λ (u : Unmerged). at_end c.in-Some.most (left ps u)) us) c.as_slice-in-Some.ensures.value))
    c.last_of_all.ensures.left

pub returns-in-None-clause-passed : goal.returns-in-None-clause-passed
returns-in-None-clause-passed c = record { rising = c.requires.rising; found = refl }
