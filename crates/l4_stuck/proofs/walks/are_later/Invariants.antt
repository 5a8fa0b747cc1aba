use Rattle.std.proofs.Common.{◌≡◌, map, take, true}
use Rattle.l4_explore.specs.Search.{seen_at}
use Rattle.l4_explore.specs.Inner.Views.{next_from}
use Rattle.l4_forever.specs.Inner.Walks.{are_fresh}
use Rattle.l4_stuck.proofs.walks.are_later.Given as goal

-- So far each leads to a later state.
abbrev pub invariant-loop-choice : goal.invariant-loop-choice
invariant-loop-choice l =
    are_fresh (take l.place l.found) (seen_at l.found l.place)
    (map next_from (take l.choice-index l.choices)) ≡ true
