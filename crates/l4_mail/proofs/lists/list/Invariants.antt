use Rattle.std.proofs.Common.{◌≡◌, map}
use Rattle.l4_mail.specs.Rests.{under_way_below}
use Rattle.l4_mail.proofs.lists.list.Given as goal

abbrev pub invariant-loop-from : goal.invariant-loop-from
invariant-loop-from l = map (λ r. (r.0, r.1, r.2.items)) l.all.items ≡ under_way_below l.fn.ports l.from
