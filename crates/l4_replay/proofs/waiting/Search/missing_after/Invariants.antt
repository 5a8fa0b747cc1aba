use Rattle.std.proofs.Common.{◌≤◌, ◌+◌, drop, length, take}
use Rattle.std.specs.Prelude.{filter_map}
use Rattle.l4_replay.specs.Inner.Waiting.{sought}
use Rattle.l4_replay.proofs.waiting.Search.missing_after.Given as goal

abbrev pub invariant-loop-place : goal.invariant-loop-place
invariant-loop-place l =
    l.initial.missing + length (filter_map (sought l.self) (drop l.place (take l.end l.history.steps)))
    ≤ l.missing + length (filter_map (sought l.self) (drop l.start (take l.end l.history.steps)))
