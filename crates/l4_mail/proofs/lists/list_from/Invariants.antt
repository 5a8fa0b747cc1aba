use Rattle.std.proofs.Common.{◌≡◌, ◌++◌, map}
use Rattle.l4_mail.specs.Rests.{under_way_from}
use Rattle.l4_mail.proofs.lists.list_from.Given as goal

abbrev pub invariant-loop-to : goal.invariant-loop-to
invariant-loop-to l = map (λ r. (r.0, r.1, r.2.items)) l.list.items ≡ map (λ r. (r.0, r.1, r.2.items)) l.fn.list.items ++ under_way_from l.fn.ports l.fn.from l.to
