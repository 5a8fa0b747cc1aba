use Rattle.std.proofs.Common.{◌∙◌, List, Option, ap, length, refl, subst}
use Rattle.std.specs.Prelude.{IfSome}
use Rattle.l4_model.specs.Steps.{Step}
use Rattle.l4_core_model.specs.Runs.{told}
use Rattle.l4_replay.proofs.Replays.{on_both}
use Rattle.l4_machine.specs.Outcomes.{IsOutcomeOf}
use Rattle.l4_told.specs.Told.{findings_with}
use Rattle.l4_told.specs.Inner.Kept.{begins}
use Rattle.l4_told.specs.declared.final_state.FinalState.{FinalState}
use Rattle.l4_told.proofs.Going.{all_come, told_come}
use Rattle.l4_told.proofs.Telling.{both, left_is, untold_within}
use Rattle.l4_told.proofs.replay.Replay.tell.Goals as goal

pub tell-requires : goal.tell-requires
tell-requires g c =
    let run = c.requires in
    untold_within run.0 (told run.1.events) run.2 c.args.self.now.kept run.3.telling

pub returns-in-Some-clause-told : goal.returns-in-Some-clause-told
returns-in-Some-clause-told g c =
    on_both c.forget.result c.forget.ensures.steps (both _ _ c.forget.result c.forget.ensures.untold c.forget.ensures.all)
    (λ steps marks m r before come. (
      come.telling.left,
      told_come m r before c.args.self.now (record c.args.self.now { kept = c.forget.new.self })
          c.in-Some.state come
          (subst (λ (o : Option FinalState). IfSome o (λ s. IsOutcomeOf m r (findings_with (told r.events) s)))
          c.in-Some.is (c.in_ok-state.ensures m r before come))
          refl (steps ∙ ap begins c.as_slice.ensures.value)
          (marks.0 ∙ ap (λ sends. length (begins sends)) c.as_slice.ensures.value) marks.1,
      subst (λ (steps : List Step). g.L.Listener.hears c.args.listener.now steps c.tell.new.listener)
          (left_is m (told r.events) before c.args.self.now.kept come.telling) c.in_ok-tell.ensures,
    ))

pub returns-in-None-clause-told : goal.returns-in-None-clause-told
returns-in-None-clause-told g c = λ m r before come. (
  come.telling.left,
  all_come m r before c.args.self.now (record c.args.self.now { kept = c.keep.new.self }) come refl
      c.keep.ensures.buffer c.keep.ensures.untold c.keep.ensures.all,
  subst (λ (steps : List Step). g.L.Listener.hears c.args.listener.now steps c.tell.new.listener)
      (left_is m (told r.events) before c.args.self.now.kept come.telling) c.in_ok-tell.ensures,
)
