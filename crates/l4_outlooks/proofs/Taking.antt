-- An outlook goes on by an entry.
use Rattle.std.proofs.Common.{subst, ◌≡◌, ℕ, ◌+◌, ◌<◌, Bool, true, false, Some, ap, sym}
use Rattle.std.specs.Prelude.{is_some}
use Rattle.l4_model.specs.Steps.{Step}
use Rattle.l4_worlds.specs.Late.{next_late}
use Rattle.l4_audit.specs.Inner.Audited.{Audited}
use Rattle.l4_audit.specs.Inner.Taking.{IsTakenLate, JudgedLate}
use Rattle.l4_outlooks.specs.Inner.Foreseen.{IsForeseen}
use Rattle.l4_outlooks.specs.Inner.Named.{open_step}
use Rattle.l4_outlooks.proofs.Leading.{one_behind}
use Rattle.l4_outlooks.proofs.Opening.{goes, leads}

-- A step that is possible is taken.
pub is_taken : (a b : Audited) (entry : ℕ) (s : Step) (taken : Bool) → open_step a.machine a.world entry ≡ Some s → JudgedLate a s taken b → IsTakenLate a s b
is_taken a b entry s true is h = h
is_taken a b entry s false is h = let some = goes a.machine a.world entry s is in let none : is_some (next_late a.machine a.world s) ≡ false = ap is_some h.0 in cc

pub goes_behind : (a b : Audited) (taken entry : ℕ) (s : Step) (is : Bool) → IsForeseen a.machine a.world taken → taken + 1 < 1048576 → open_step a.machine a.world entry ≡ Some s → JudgedLate a s is b →
    IsForeseen b.machine b.world (taken + 1)
goes_behind a b taken entry s is h room named judged =
    let t = is_taken a b entry s is named judged in
    subst (λ m. IsForeseen m b.world (taken + 1)) (sym t.machine) (one_behind a.machine a.world b.world taken entry h (leads a.machine a.world b.world entry s named t.possible) room)
