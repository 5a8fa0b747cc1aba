use Rattle.std.proofs.Common.{◌≡◌, map, take}
use Rattle.l4_replay.proofs.processors.cores_of.Given as goal

abbrev pub invariant-loop-node : goal.invariant-loop-node
invariant-loop-node l = map (λ c. c.now) l.cores.items ≡ map (λ n. n.core) (take l.node-index l.nodes)
