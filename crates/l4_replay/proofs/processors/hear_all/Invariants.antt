use Rattle.std.proofs.Common.{map, take}
use Rattle.l4_replay.specs.Inner.Heard.{HasPlaces, Hears, hears_all_mail}
use Rattle.l4_replay.specs.Inner.Nodes.{station_of}
use Rattle.l4_replay.proofs.processors.hear_all.Given as goal

abbrev pub invariant-loop-node : goal.invariant-loop-node
invariant-loop-node l =
    HasPlaces l.machine l.threads ×
    Hears l.machine (hears_all_mail (take l.node-index (map station_of l.nodes))) l.fn.threads l.threads
