-- What comes from outside: letters, and the clock's ticks.
use Rattle.std.proofs.Common.{◌≡◌, ℕ, ◌<◌, Bool, true, false, Some, is_none, List, length, refl, sym, ◌∙◌, subst, inl, inr, arith}
use Rattle.std.proofs.lemmas.List.Quantifiers.{position-Some}
use Rattle.l4_model.specs.World.{Message}
use Rattle.l4_model.specs.Words.{GlobalId}
use Rattle.l4_core_model.specs.Local.{is_own, thread, changes, stand_in, stands_in, is_gone_now}
use Rattle.l4_core_model.specs.Turns.{clock_is}
use Rattle.l4_core_model.specs.Local.{declared, undeclared}
use Rattle.l4_model.specs.Words.{same_id}
use Rattle.l4_model.specs.Machine.{Machine, place_of}
use Rattle.l4_model.proofs.Places.{same_id_is}
use Rattle.l4_core.specs.Inner.Covered.{IsCovered}
use Rattle.l4_core.specs.Inner.Places.{has}
use Rattle.l4_core.specs.Inner.Parts.{AreCore}
use Rattle.l4_core.specs.Processor.{Processor, with_local}
use Rattle.l4_core.specs.Inner.Settled.{IsOwn}
use Rattle.l4_core.proofs.Covering.{covers-clocked, covers-filled}
use Rattle.l4_core.proofs.Fitting.{no_send_unqueued}
use Rattle.l4_core.proofs.Noting.{covered-changed}
use Rattle.l4_core.proofs.Zeros.{zeros-changed}

pub covered-clocked : (d z : List ℕ) (p q : Processor) (to : ℕ) → IsCovered d z p → q ≡ with_local p (clock_is to p.local) → IsCovered d z q
covered-clocked d z p q to c is = subst (IsCovered d z) (sym is) (record { covers = covers-clocked d p.machine p.cpu p.local to c.covers; waiting = c.waiting })

-- A send of another processor's thread stands in its block, which stood in no list.
pub covered-stands_in : (d z : List ℕ) (p q : Processor) (i k : ℕ) (to : GlobalId) (message : Message) (zero_timeout : Bool) → IsCovered d z p → AreCore p → i < length p.machine.threads → is_own p.machine p.cpu i ≡ false →
    is_none (thread p.local i).send ≡ true → q ≡ with_local p (changes i (stands_in k (stand_in to message zero_timeout)) p.local) → IsCovered d z q
covered-stands_in d z p q i k to message zero_timeout c core within away free is =
    covered-changed d z p q i (stands_in k (stand_in to message zero_timeout)) c (omega (arith, within, core.settled.threads)) (λ own. let wrong : true ≡ false = sym own ∙ away in cc) refl
    (inl (no_send_unqueued p.machine p.cpu p.local i core.settled free)) is

-- A thread of another processor is deleted, and all threads of this one may have a duty.
pub covered-gone : (d e z : List ℕ) (p q : Processor) (i : ℕ) → IsCovered d z p → AreCore p → i < length p.machine.threads → ((o : ℕ) → IsOwn p.machine p.cpu o → has e o ≡ true) → ((o : ℕ) → has e o ≡ true → IsOwn p.machine p.cpu o) →
    q ≡ with_local p (changes i is_gone_now p.local) → IsCovered e z q
covered-gone d e z p q i c core within filled own is = subst (IsCovered e z) (sym is) (record {
  covers = covers-filled e p.machine p.cpu (changes i is_gone_now p.local) filled own;
  waiting = zeros-changed z p.local i is_gone_now c.waiting (omega (arith, within, core.settled.threads)) (inr refl);
})

-- A thread is found by its id.
pub placed_id : (m : Machine) (id : GlobalId) (i : ℕ) → place_of m id ≡ Some i → (declared m i).id ≡ id
placed_id m id i h = same_id_is (declared m i).id id (position-Some (λ d. same_id d.id id) m.threads i undeclared h).1
