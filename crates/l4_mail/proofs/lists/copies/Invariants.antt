use Rattle.std.proofs.Common.{◌≡◌, map}
use Rattle.l4_mail.proofs.lists.copies.Given as goal

abbrev pub invariant-loop-letter : goal.invariant-loop-letter
invariant-loop-letter l = l.all.items ≡ map (λ r. r.now) l.yielded
