use Rattle.std.proofs.Common.{◌≡◌, drop, take}
use Rattle.std.specs.Prelude.{filter_map}
use Rattle.l4_replay.specs.Inner.Waiting.{sought}
use Rattle.l4_replay.proofs.waiting.Search.finds_between.Given as goal

abbrev pub invariant-loop-place : goal.invariant-loop-place
invariant-loop-place l =
    filter_map (sought l.self) (drop l.place (take l.end l.history.steps)) ≡ filter_map (sought l.self) (drop l.start (take l.end l.history.steps))
