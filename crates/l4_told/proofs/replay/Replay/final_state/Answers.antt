use Rattle.std.proofs.Common.{◌≤◌, ◌∙◌, List, ap, ap₂, map, refl, subst, sym}
use Rattle.std.specs.Prelude.{filter_map}
use Rattle.l4_model.specs.Laws.{begins_of}
use Rattle.l4_model.specs.Machine.{Machine}
use Rattle.l4_model.specs.Steps.{Step}
use Rattle.l4_types.specs.ReportView.{report_of_view}
use Rattle.l4_replay.specs.Inner.Heard.{HaveRegisters}
use Rattle.l4_replay.specs.Inner.Homes.{sent_waiting}
use Rattle.l4_replay.specs.declared.homes.OwnerView.{OwnerView}
use Rattle.l4_told.specs.Inner.Kept.{steps_in}
use Rattle.l4_told.proofs.Going.{begun_once_here, outcome}
use Rattle.l4_told.proofs.replay.Replay.final_state.Goals as goal

pub in_world-requires : goal.in_world-requires
in_world-requires c = let has = c.requires in (has.0, (has.1, has.3.run))

pub of_history-requires-clause-once : goal.of_history-requires-clause-once
of_history-requires-clause-once c = λ s.
    let has = c.requires in
    let come = has.3 in
    subst (λ (steps : List Step). begins_of s steps ≤ 1) (sym c.history.ensures)
    (begun_once_here has.0 has.1 has.2 c.args.self.now
    (c.law_core_run.ensures.lawful has.0 has.1 come.run.lawful come.run.core_run) come s)

pub returns : goal.returns
returns c = λ m r before come.
    let law = c.law_core_run.ensures.lawful m r come.run.lawful come.run.core_run in
    let machine = c.machine-machine.ensures in
    outcome m r before c.args.self.now c.in_ok-threads.threads
    (record {
      waiting = c.in_ok-waiting.waiting;
      threads = c.in_ok-threads.threads.threads;
      ending = c.ending.result;
      turns = c.events.result;
    })
    law come (c.in_ok-threads.ensures m r come.run)
    (subst (λ (n : Machine). HaveRegisters n (map report_of_view c.in_ok-threads.threads.threads.items)) machine
    (c.have_registers.ensures c.if-not-have_registers.false))
    refl
    (c.in_ok-waiting.ensures
    ∙ ap (λ (steps : List Step). filter_map (sent_waiting c.new-search.result.machine.now
    c.new-search.result.at_home.now.sends.items) steps) c.history.ensures
    ∙ ap₂ (λ (m : Machine) (a : OwnerView). filter_map (sent_waiting m a.sends.items) (steps_in c.args.self.now.kept))
    (c.new-search.ensures.machine ∙ machine) c.new-search.ensures.threads)
    c.events.ensures c.ending.ensures
