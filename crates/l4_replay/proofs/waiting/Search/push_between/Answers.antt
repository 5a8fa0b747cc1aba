use Rattle.std.proofs.Common.{◌∙◌, ◌++◌, List, Option, ap, sym, append-nil}
use Rattle.std.specs.Option.{option_to_list}
use Rattle.l4_model.specs.Words.{Id}
use Rattle.l4_model.specs.World.{Name}
use Rattle.l4_replay.specs.Inner.Waiting.{sought}
use Rattle.l4_replay.proofs.Sought.{more_found}
use Rattle.l4_replay.proofs.waiting.Search.push_between.Goals as goal
use Rattle.l4_replay.proofs.waiting.Search.push_between.Goals.{in-Some+in_ok-push, in_default}

pub loop-place-preserved : goal.loop-place-preserved
loop-place-preserved c =
    let f = sought c.args.self.now in
    let h = c.args.history.now.steps in
    let olds : List (Name × Id) = c.loop-place.sends.items in
    elim c.match-send_at.branch [
      | in-Some+in_ok-push w ↦ rw w.sends-is
          (more_found f h c.args.end c.loop-place.place olds _ c.send_at.result _ c.requires.within c.loop-place-test.true c.send_at.ensures
          (w.in_ok-push.ensures.items ∙ ap (λ (o : Option (Name × Id)). olds ++ option_to_list o) (sym w.in-Some.is)) c.loop-place.invariant)
      | in_default w ↦ rw w.sends-is
          (more_found f h c.args.end c.loop-place.place olds olds c.send_at.result _ c.requires.within c.loop-place-test.true c.send_at.ensures
          (sym (append-nil olds) ∙ ap (λ (o : Option (Name × Id)). olds ++ option_to_list o) (sym w.in_default.is)) c.loop-place.invariant)
    ]
