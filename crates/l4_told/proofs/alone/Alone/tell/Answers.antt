use Rattle.std.proofs.Common.{◌∙◌, List, ap, length, refl, subst}
use Rattle.l4_model.specs.Steps.{Step}
use Rattle.l4_core_model.specs.Runs.{told}
use Rattle.l4_replay.proofs.Replays.{on_both}
use Rattle.l4_told.specs.Inner.Kept.{begins}
use Rattle.l4_told.proofs.Ended.{told_come}
use Rattle.l4_told.proofs.Telling.{both, left_is, untold_within}
use Rattle.l4_told.proofs.alone.Alone.tell.Goals as goal

pub tell-requires : goal.tell-requires
tell-requires g c =
    let run = c.requires in
    untold_within run.0 (told run.1.events) run.2 c.args.self.now.kept run.3.telling

pub returns-clause-told : goal.returns-clause-told
returns-clause-told g c =
    on_both c.forget.result c.forget.ensures.steps (both _ _ c.forget.result c.forget.ensures.untold c.forget.ensures.all)
    (λ steps marks m r before come. (
      come.telling.left,
      told_come m r before c.args.self.now (record c.args.self.now { kept = c.forget.new.self })
          c.in_ok-state.state come
          (c.in_ok-state.ensures m r before come) refl refl refl
          (steps ∙ ap begins c.as_slice.ensures.value)
          (marks.0 ∙ ap (λ sends. length (begins sends)) c.as_slice.ensures.value) marks.1,
      subst (λ (steps : List Step). g.L.Listener.hears c.args.listener.now steps c.tell.new.listener)
          (left_is m (told r.events) before c.args.self.now.kept come.telling) c.in_ok-tell.ensures,
    ))
