use Rattle.std.proofs.Common.{List, subst, sym}
use Rattle.std.proofs.lemmas.Result.{IfOk-weaker}
use Rattle.l4_model.specs.Steps.{Step}
use Rattle.l4_core_model.specs.Runs.{told}
use Rattle.l4_told.proofs.Telling.{left_is}
use Rattle.l4_told.proofs.Rounds.{found}
use Rattle.l4_told.proofs.told.run_alone.Goals as goal

pub final_state-requires : goal.final_state-requires
final_state-requires g c =
    let m = c.args.machine.now in
    let ended = c.in_ok-run.ensures m c.in_ok-alone.ensures.come in
    (m, ended.run, ended.before, ended.come)

pub returns : goal.returns
returns g c =
    let m = c.args.machine.now in
    let ended = c.in_ok-run.ensures m c.in_ok-alone.ensures.come in
    IfOk-weaker c.final_state.result _ _
    (λ state is. (
      told ended.run.events,
      found m c.args.turns _ c.run.new.self _ ended is,
      subst (λ (steps : List Step). g.L.Listener.hears c.args.listener.now steps c.tell_left.new.listener)
          (sym ended.come.telling.told_are)
          (g.met.L.Listener.heard_both c.args.listener.now c.run.new.listener
          c.tell_left.new.listener ended.before ended.come.telling.left ended.heard
          (subst (λ (steps : List Step). g.L.Listener.hears c.run.new.listener steps c.tell_left.new.listener)
          (left_is m (told ended.run.events) ended.before c.run.new.self.kept ended.come.telling)
          c.in_ok-tell_left.ensures)),
    ))
    (c.final_state.ensures m ended.run ended.before ended.come)
