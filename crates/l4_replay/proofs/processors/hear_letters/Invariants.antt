use Rattle.std.proofs.Common.{take}
use Rattle.std.specs.List.{flat_map}
use Rattle.l4_replay.specs.Inner.Heard.{HasPlaces, Hears, hears_all}
use Rattle.l4_replay.specs.Inner.Nodes.{station_of}
use Rattle.l4_replay.proofs.processors.hear_letters.Given as goal

abbrev pub invariant-loop-from : goal.invariant-loop-from
invariant-loop-from l =
    HasPlaces l.machine l.threads ×
    Hears l.machine (hears_all (station_of l.node).core
    (flat_map (λ letters. letters) (take l.from (station_of l.node).inbox))) l.fn.threads l.threads
