use Rattle.std.proofs.Common.{List, length, map, ap, sym, ◌∙◌, subst}
use Rattle.std.proofs.lemmas.Result.{IfOk-weaker}
use Rattle.l4_model.specs.History.{IsHistory}
use Rattle.l4_machine.specs.Outcomes.{compact_findings_of}
use Rattle.l4_machine.specs.Gathers.{pasts_of}
use Rattle.l4_core_model.specs.Local.{Local}
use Rattle.l4_merge.specs.LocalTraces.{LocalTrace, all_events}
use Rattle.l4_refines.specs.Laws.{home_thread}
use Rattle.l4_replay.specs.Inner.Homes.{EndsIn}
use Rattle.l4_machine.proofs.Cores.{handled_there}
use Rattle.l4_machine.proofs.Outcomes.{known_at_home, sound}
use Rattle.l4_machine.proofs.EventsLeft.{is_merge, logs_rise}
use Rattle.l4_machine.proofs.InOneHand.{whole_pasts, gathered_history, is_gathered, quiet}
use Rattle.l4_machine.proofs.gathering.rested_outcome.Goals as goal

pub merged_history-requires-clause-rising : goal.merged_history-requires-clause-rising
merged_history-requires-clause-rising c = logs_rise c.args.machine.now c.args.processors.now 0 c.args.machine.now.cpus c.requires.one

pub outcome_of-requires : goal.outcome_of-requires
outcome_of-requires c =
    let m = c.args.machine.now in
    let ps = c.args.processors.now in
    let whole = whole_pasts m ps c.requires.one c.requires.numbers c.requires.whole in
    let run = c.law_merge.ensures.whole m (pasts_of m ps) whole in
    let told_is = gathered_history m ps run.0 c.in_ok-history.history.steps run.1 (c.law_merge.ensures.sorted m (pasts_of m ps) whole)
    (is_merge m ps c.in_ok-history.history.steps c.in_ok-history.ensures.history) in
    let lawful = c.law_core_run.ensures.lawful m run.0 c.facts.ensures.lawful run.1.core_run in
    subst (IsHistory m) (sym told_is) lawful.history

pub returns : goal.returns
returns c =
    let m = c.args.machine.now in
    let ps = c.args.processors.now in
    let whole = whole_pasts m ps c.requires.one c.requires.numbers c.requires.whole in
    let run = c.law_merge.ensures.whole m (pasts_of m ps) whole in
    let told_is = gathered_history m ps run.0 c.in_ok-history.history.steps run.1 (c.law_merge.ensures.sorted m (pasts_of m ps) whole)
    (is_merge m ps c.in_ok-history.history.steps c.in_ok-history.ensures.history) in
    let lawful = c.law_core_run.ensures.lawful m run.0 c.facts.ensures.lawful run.1.core_run in
    let locals : List Local = map (λ (past : LocalTrace). past.local) (pasts_of m ps) in
    let ends : EndsIn run.0 locals c.args.all_handled = record {
      here = run.1.ends.locals;
      handled = λ e. handled_there m ps run.0 c.requires.one c.requires.numbers c.requires.whole run.1.ends (c.requires.handled.0 e);
    } in
    let count = c.in_ok-history.ensures.events in
    IfOk-weaker c.outcome_of.result _ _
    (λ o is. is_gathered m ps run.0 (compact_findings_of o) run.1
    (is run.0 (home_thread m locals) (sound m run.0 c.facts.ensures.lawful lawful) c.in_ok-at_home.ensures
    (known_at_home m run.0 locals c.args.all_handled (sound m run.0 c.facts.ensures.lawful lawful) ends) told_is
    (count ∙ sym (ap length run.1.events ∙ c.law_merge.ensures.count (all_events (pasts_of m ps))))
    (quiet m ps run.0 c.ending-ending.result c.requires.one c.requires.numbers c.requires.whole (c.law_merge.ensures.rest m (pasts_of m ps) run.0 run.1.ends)
    c.ending-ending.ensures)))
    c.outcome_of.ensures
