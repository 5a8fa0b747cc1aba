use Rattle.std.proofs.Common.{◌≡◌, ℕ, ◌<◌, Some, map}
use Rattle.std.specs.Prelude.{slice_get}
use Rattle.l4_replay.specs.Stations.{Station, IsResting}
use Rattle.l4_replay.specs.Inner.Nodes.{station_of}
use Rattle.l4_replay.proofs.processors.are_at_rest.Given as goal

abbrev pub invariant-loop-node : goal.invariant-loop-node
invariant-loop-node l = (cpu : ℕ) (s : Station) → cpu < l.node-index →
    slice_get (map station_of l.nodes) cpu ≡ Some s → IsResting s
