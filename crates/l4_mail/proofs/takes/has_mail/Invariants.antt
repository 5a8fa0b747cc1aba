use Rattle.std.proofs.Common.{◌≡◌, ℕ, ◌<◌, [], map, get_or}
use Rattle.l4_mail.specs.Ends.{kept, here}
use Rattle.l4_mail.specs.Inner.Takes.{NoneIsTaken}
use Rattle.l4_mail.proofs.takes.has_mail.Given as goal

abbrev pub invariant-loop-from : goal.invariant-loop-from
invariant-loop-from l = record {
  none : NoneIsTaken l.fn.inlets l.inlets;
  same_kept : map kept l.inlets ≡ map kept l.fn.inlets;
  none_so_far : (k : ℕ) → k < l.from → get_or (map here l.inlets) k [] ≡ [];
}
