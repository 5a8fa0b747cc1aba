use Rattle.std.proofs.Common.{◌≡◌, map}
use Rattle.std.specs.List.{range_with_len}
use Rattle.l4_refines.specs.Laws.{home_thread}
use Rattle.l4_replay.specs.Inner.Homes.{last_send, locals_of}
use Rattle.l4_replay.proofs.homes.last_sends.Given as goal

abbrev pub invariant-loop-place : goal.invariant-loop-place
invariant-loop-place l =
    l.sends.items ≡ map (λ i. last_send (home_thread l.machine (locals_of (map (λ c. c.now) l.cores)) i)) (range_with_len 0 l.place)
