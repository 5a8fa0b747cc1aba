use Rattle.std.proofs.Common.{◌≡◌, ◌↔◌, List, length, map, ap, sym, ◌∙◌, subst}
use Rattle.std.proofs.lemmas.Result.{IfOk-weaker}
use Rattle.l4_model.specs.History.{IsHistory}
use Rattle.l4_core_model.specs.Local.{Local}
use Rattle.l4_merge.specs.LocalTraces.{LocalTrace, all_events}
use Rattle.l4_refines.specs.Laws.{home_thread}
use Rattle.l4_replay.specs.Inner.Homes.{EndsIn, IsAtHome}
use Rattle.l4_machine.proofs.Cores.{handled_there}
use Rattle.l4_merge.proofs.Rest.{rests as run_rests, rested as run_rested}
use Rattle.l4_merge.proofs.Sorted.{length-merged}
use Rattle.l4_merge.proofs.Wholes.{make_whole, whole_sorts_as_merged}
use Rattle.l4_types.specs.declared.reports.Ending.TheVariants.{Quiet}
use Rattle.l4_machine.specs.Outcomes.{compact_findings_of, steps_of}
use Rattle.l4_machine.specs.Gathers.{pasts_of, AreOfOne, AreResting, HaveNumbers}
use Rattle.l4_machine.proofs.InOneHand.{gathered_history, is_gathered, quiet, whole_pasts}
use Rattle.l4_machine.proofs.Members.{in_order_have_numbers}
use Rattle.l4_machine.proofs.Outcomes.{known_at_home, sound}
use Rattle.l4_machine.proofs.team.Team.into_outcome.Goals as goal

pub run_history-requires-clause-numbers : goal.run_history-requires-clause-numbers
run_history-requires-clause-numbers c = in_order_have_numbers c.args.self.machine.now c.args.self.processors.items c.requires.come.in_order

pub at_home-requires-clause-one : goal.at_home-requires-clause-one
at_home-requires-clause-one c = subst (AreOfOne c.args.self.machine.now) (sym c.as_slice-2.ensures.value) c.requires.come.in_order.of_one

pub at_home-requires-clause-numbers : goal.at_home-requires-clause-numbers
at_home-requires-clause-numbers c =
    let m = c.args.self.machine.now in
    subst (HaveNumbers m.cpus) (sym c.as_slice-2.ensures.value) (in_order_have_numbers m c.args.self.processors.items c.requires.come.in_order)

pub outcome_of-requires : goal.outcome_of-requires
outcome_of-requires c =
    let m = c.args.self.machine.now in
    let ps = c.args.self.processors.items in
    let all = c.requires.come.in_order in
    let whole = whole_pasts m ps all.of_one (in_order_have_numbers m ps all) c.requires.whole in
    let run = make_whole m (pasts_of m ps) whole in
    let told_is = gathered_history m ps run.0 (steps_of c.in_ok-history.history) run.1 (whole_sorts_as_merged m (pasts_of m ps) whole) c.in_ok-history.ensures.history in
    let lawful = c.law_core_run.ensures.lawful m run.0 c.facts.ensures.lawful run.1.core_run in
    subst (IsHistory m) (sym told_is) lawful.history

pub returns : goal.returns
returns c =
    let m = c.args.self.machine.now in
    let ps = c.args.self.processors.items in
    let all = c.requires.come.in_order in
    let numbers = in_order_have_numbers m ps all in
    let whole = whole_pasts m ps all.of_one numbers c.requires.whole in
    let run = make_whole m (pasts_of m ps) whole in
    let told_is = gathered_history m ps run.0 (steps_of c.in_ok-history.history) run.1 (whole_sorts_as_merged m (pasts_of m ps) whole) c.in_ok-history.ensures.history in
    let lawful = c.law_core_run.ensures.lawful m run.0 c.facts.ensures.lawful run.1.core_run in
    let locals : List Local = map (λ (past : LocalTrace). past.local) (pasts_of m ps) in
    let at_home = subst (λ qs. IsAtHome m (map (λ (past : LocalTrace). past.local) (pasts_of m qs)) c.in_ok-at_home.at_home) c.as_slice-2.ensures.value c.in_ok-at_home.ensures in
    let ends : EndsIn run.0 locals c.args.self.all_handled = record {
      here = run.1.ends.locals;
      handled = λ e. handled_there m ps run.0 all.of_one numbers c.requires.whole run.1.ends (c.requires.handled.0 e);
    } in
    let rest = subst (λ qs. (c.ending-ending.result ≡ Quiet) ↔ AreResting qs) c.as_slice.ensures.value c.ending-ending.ensures in
    IfOk-weaker c.outcome_of.result _ _
    (λ o is. is_gathered m ps run.0 (compact_findings_of o) run.1
    (is run.0 (home_thread m locals) (sound m run.0 c.facts.ensures.lawful lawful) at_home
    (known_at_home m run.0 locals c.args.self.all_handled (sound m run.0 c.facts.ensures.lawful lawful) ends) told_is
    (c.in_ok-history.ensures.events ∙ sym (ap length run.1.events ∙ length-merged (all_events (pasts_of m ps))))
    (quiet m ps run.0 c.ending-ending.result all.of_one numbers c.requires.whole
    (λ e. run_rested m (pasts_of m ps) run.0 run.1.ends e, λ e. run_rests m (pasts_of m ps) run.0 run.1.ends e) rest)))
    c.outcome_of.ensures
