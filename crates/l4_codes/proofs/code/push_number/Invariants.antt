use Rattle.l4_codes.specs.Inner.Written.{IsLeft}
use Rattle.l4_codes.proofs.code.push_number.Given as goal

abbrev pub invariant-loop-left : goal.invariant-loop-left
invariant-loop-left l = IsLeft l.number l.left l.fn.bytes.items l.bytes.items

abbrev pub decreases-loop-left : goal.decreases-loop-left
decreases-loop-left l = l.left
