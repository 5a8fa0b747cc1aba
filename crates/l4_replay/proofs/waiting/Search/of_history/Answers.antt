use Rattle.std.proofs.Common.{◌≡◌, ◌++◌, List, ap₂, ◌∙◌, drop, take, arith}
use Rattle.std.specs.Prelude.{filter_map}
use Rattle.std.proofs.lemmas.List.{take_all}
use Rattle.l4_model.specs.Steps.{Step}
use Rattle.l4_model.specs.Words.{Id}
use Rattle.l4_model.specs.World.{Name}
use Rattle.l4_replay.specs.Inner.Waiting.{sought}
use Rattle.l4_replay.proofs.Enough.{all_behind}
use Rattle.l4_replay.proofs.waiting.Search.of_history.Goals as goal

pub returns : goal.returns
returns c =
    let f = sought c.args.self.now in
    let h = c.args.history.now.steps in
    let start = c.start-start.result in
    let whole : take c.len.result h ≡ h = take_all c.len.result h (let size = c.len.ensures.value in omega arith) in
    c.in_ok-push_between.ensures
    ∙ ap₂ (λ (sends : List (Name × Id)) (steps : List Step). sends ++ filter_map f (drop start steps)) c.new-sends.ensures.items whole
    ∙ all_behind f h start c.start-start.ensures.none
