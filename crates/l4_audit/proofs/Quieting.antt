-- A reached world is still exactly where nothing is owed and no thread can be in for a step but by a tick, with late clocks.
use Rattle.std.proofs.Common.{◌≡◌, Bool, true, List, [], ◌∷◌, length, refl, ap, arith}
use Rattle.std.proofs.lemmas.Bool.{eqb-true, and_from}
use Rattle.std.specs.Prelude.{◌==◌, ◌↔◌, Some, is_none, IfOk, Result, Ok, Err}
use Rattle.std.specs.List.{list_all}
use Rattle.l4_model.specs.Machine.{Machine, Declaration}
use Rattle.l4_model.specs.World.{World, Owed}
use Rattle.l4_model.specs.Steps.{Step, Retarget, next}
use Rattle.l4_model.specs.History.{reached}
use Rattle.l4_model.specs.Still.{IsStill, late, is_still_thread}
use Rattle.l4_model.proofs.NothingOwed.{still_owes_nothing}
use Rattle.l4_model.proofs.Places.{and_true}
use Rattle.l4_model.proofs.Stillness.{still_exactly}
use Rattle.l4_model.proofs.Worlds.{reached_facts}
use Rattle.l4_types.specs.declared.reports.Ending.{Ending}
use Rattle.l4_audit.specs.Audits.{is_quiet}
use Rattle.l4_audit.specs.Inner.Stillness.{owes_nothing, is_still_now}

pub owes_none : (os : List Owed) → (length os == 0) ≡ true → os ≡ []
owes_none [] h = refl
owes_none (o ∷ os) h = let e = eqb-true (length (o ∷ os)) 0 h in absurd (omega (arith, e))

pub quiet_exactly : (m : Machine) (h : List Step) (w : World) → reached m h ≡ Some w → (is_still_now m (late w) ≡ true) ↔ IsStill m w
quiet_exactly m h w r = (to, from)
  where
    none : List Owed → Bool
    none os = list_all (λ (o : Owed). is_none (next m (late w) (Retarget o.send))) os

    threads : Bool
    threads = list_all (λ (d : Declaration). is_still_thread m (late w) d.id) m.threads

    to : is_still_now m (late w) ≡ true → IsStill m w
    to quiet =
        let both = and_true (owes_nothing (late w)) threads quiet in
        let nothing : none w.owed ≡ true = ap none (owes_none w.owed both.0) in
        (still_exactly m h w r).0 (and_from threads (none w.owed) both.1 nothing)

    from : IsStill m w → is_still_now m (late w) ≡ true
    from still =
        let nothing : owes_nothing (late w) ≡ true = ap (λ os. length os == 0) (still_owes_nothing m w (reached_facts m h w r) still) in
        and_from (owes_nothing (late w)) threads nothing (and_true threads (none w.owed) ((still_exactly m h w r).1 still)).0

-- What is told at the end.
pub ending_is : {E : Type 0} (b : Bool) (P : Type 0) (r : Result Ending E) → IfOk r (λ ending. is_quiet ending ≡ b) → (b ≡ true) ↔ P → IfOk r (λ ending. (is_quiet ending ≡ true) ↔ P)
ending_is b P (Ok ending) same exactly = rw same exactly
ending_is b P (Err fault) same exactly = tt
