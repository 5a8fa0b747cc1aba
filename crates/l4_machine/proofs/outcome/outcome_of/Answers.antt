use Rattle.std.proofs.Common.{refl, ap₂, ◌∙◌}
use Rattle.std.specs.Prelude.{filter_map}
use Rattle.std.proofs.lemmas.Result.{IfOk-weaker}
use Rattle.l4_model.specs.Machine.{Machine}
use Rattle.l4_replay.specs.Inner.Homes.{sent_waiting}
use Rattle.l4_machine.specs.Outcomes.{steps_of}
use Rattle.l4_replay.specs.declared.homes.OwnerView.{OwnerView}
use Rattle.l4_machine.proofs.Cores.{all_wait_there}
use Rattle.l4_machine.proofs.Outcomes.{is_outcome_of_world}
use Rattle.l4_machine.proofs.outcome.outcome_of.Goals as goal

pub waiting-requires-clause-once : goal.waiting-requires-clause-once
waiting-requires-clause-once c = λ s. (c.law_begun_then_ended.ensures c.args.machine.now (steps_of c.args.history) c.requires s).begun_once

pub returns-then-have_registers : goal.returns-then-have_registers
returns-then-have_registers c = λ r t sound here known told_is turns quiet.
    let m = c.args.machine.now in
    let h = steps_of c.args.history in
    let sought_are = ap₂ (λ (m : Machine) (a : OwnerView). filter_map (sent_waiting m a.sends.items) h) c.new.ensures.machine c.new.ensures.threads in
    is_outcome_of_world m t h
    (record {
      history = c.args.history;
      waiting = c.in_ok-waiting.waiting;
      threads = c.args.threads.threads;
      ending = c.args.ending;
      turns = c.args.turns;
    })
    r sound (known c.if-are_known.true) (c.if-have_registers.ensures refl) here.threads
    (c.in_ok-waiting.ensures ∙ sought_are ∙ all_wait_there m t c.args.threads h here) told_is refl turns quiet

pub returns : goal.returns
returns c =
    IfOk-weaker c.audited_outcome.result _ _
    (λ o is. λ r t sound here known told_is turns quiet.
    is r sound (c.in_ok-into_history.ensures ∙ told_is) turns quiet)
    c.audited_outcome.ensures
