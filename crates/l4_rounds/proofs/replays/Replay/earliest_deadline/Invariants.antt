use Rattle.std.proofs.Common.{◌≡◌, map}
use Rattle.std.specs.List.{range_with_len}
use Rattle.l4_core_model.specs.Schedules.{earliest_of, least_deadline}
use Rattle.l4_rounds.specs.Inner.Replays.{run_of}
use Rattle.l4_rounds.proofs.replays.Replay.earliest_deadline.Given as goal

abbrev pub invariant-loop-cpu : goal.invariant-loop-cpu
invariant-loop-cpu l =
    l.first ≡ earliest_of (map (least_deadline (run_of l.self).system) (range_with_len 0 l.cpu))
