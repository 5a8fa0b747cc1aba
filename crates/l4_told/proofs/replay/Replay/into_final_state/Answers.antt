use Rattle.std.proofs.Common.{◌∙◌, Option, subst, sym}
use Rattle.std.specs.Prelude.{IfSome}
use Rattle.l4_core_model.specs.Runs.{told}
use Rattle.l4_machine.specs.Outcomes.{IsOutcomeOf, compact_findings_of, steps_of}
use Rattle.l4_told.specs.Told.{findings_with}
use Rattle.l4_told.specs.declared.final_state.FinalState.{FinalState}
use Rattle.l4_told.proofs.Going.{audited, kept_history}
use Rattle.l4_told.proofs.replay.Replay.into_final_state.Goals as goal

pub audited_outcome-requires : goal.audited_outcome-requires
audited_outcome-requires c =
    let run = c.requires in
    kept_history run.0 run.1 run.2 c.args.self c.machine.result.now c.into_history.result.steps
    (c.law_core_run.ensures.lawful run.0 run.1 run.3.run.lawful run.3.run.core_run) run.3 c.machine.ensures
    c.into_history.ensures
    (sym c.has_all.ensures ∙ c.if-not-has_all.false)

pub returns-in-Some : goal.returns-in-Some
returns-in-Some c = λ m r before come.
    subst (λ (o : Option FinalState). IfSome o (λ s. IsOutcomeOf m r (findings_with (told r.events) s)))
    c.in-Some.is (c.in_ok-state.ensures m r before come)

pub returns : goal.returns
returns c = λ m r before come.
    audited m r before c.args.self c.machine.result.now c.into_history.result.steps c.events.result c.ending.result
    (compact_findings_of c.in_ok-outcome.outcome) (steps_of c.parts_of-state.result.0) c.parts_of-state.result.1
    (c.law_core_run.ensures.lawful m r come.run.lawful come.run.core_run) come c.machine.ensures c.into_history.ensures
    c.events.ensures
    (sym c.has_all.ensures ∙ c.if-not-has_all.false) c.ending.ensures c.in_ok-outcome.ensures c.parts_of-state.ensures
