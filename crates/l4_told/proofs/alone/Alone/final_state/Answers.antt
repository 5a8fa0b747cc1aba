use Rattle.std.proofs.Common.{refl, ap, ap₂, ◌∙◌, ◌≤◌, subst, sym, List}
use Rattle.std.specs.Prelude.{filter_map}
use Rattle.l4_model.specs.Laws.{begins_of}
use Rattle.l4_model.specs.Machine.{Machine}
use Rattle.l4_model.specs.Steps.{Step}
use Rattle.l4_replay.specs.Inner.Homes.{sent_waiting}
use Rattle.l4_replay.specs.declared.homes.OwnerView.{OwnerView}
use Rattle.l4_told.specs.Inner.Kept.{steps_in}
use Rattle.l4_told.proofs.Ended.{begun_once_here, outcome}
use Rattle.l4_told.proofs.alone.Alone.final_state.Goals as goal

pub of_history-requires-clause-once : goal.of_history-requires-clause-once
of_history-requires-clause-once c = λ s.
    let has = c.requires in
    let come = has.3 in
    subst (λ (steps : List Step). begins_of s steps ≤ 1) (sym c.history.ensures)
    (begun_once_here has.0 has.1 has.2 c.args.self.now
    (c.law_core_run.ensures.lawful has.0 has.1 come.of_one.lawful come.of_one.core_run) come s)

pub returns : goal.returns
returns c = λ m r before come.
    let law = c.law_core_run.ensures.lawful m r come.of_one.lawful come.of_one.core_run in
    outcome m r before c.args.self.now c.in_ok-at_home.at_home
    (record {
      waiting = c.in_ok-waiting.waiting;
      threads = c.in_ok-at_home.at_home.threads;
      ending =
          c.ending.result;
      turns = c.args.self.now.events;
    })
    law come c.in_ok-at_home.ensures refl
    (c.in_ok-waiting.ensures
    ∙ ap (λ (steps : List Step). filter_map (sent_waiting c.new-search.result.machine.now
    c.new-search.result.at_home.now.sends.items) steps) c.history.ensures
    ∙ ap₂ (λ (m : Machine) (a : OwnerView). filter_map (sent_waiting m a.sends.items) (steps_in c.args.self.now.kept))
    c.new-search.ensures.machine c.new-search.ensures.threads)
    refl c.ending.ensures
