use Rattle.std.proofs.Common.{◌≡◌, ◌-◌, length}
use Rattle.l4_waits.specs.Circles.{way_back, circle_at}
use Rattle.l4_waits.proofs.Ways.{whole}
use Rattle.l4_waits.proofs.circles.circle_at.Given as goal

-- What is found is the places so far, and behind them the way back from here.
abbrev pub invariant-loop-left : goal.invariant-loop-left
invariant-loop-left l = circle_at l.nexts l.first ≡ whole l.circle.items (way_back l.nexts l.first (length l.nexts - l._left) l.at)
