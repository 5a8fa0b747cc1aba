-- The steps by which a thread begins a send or a receive phase are its own.
use Rattle.std.proofs.Common.{subst, ◌≡◌, true, false, Some, refl, ap, sym, ◌∙◌}
use Rattle.std.specs.Prelude.{slice_get, slice_index}
use Rattle.l4_model.specs.Words.{GlobalId}
use Rattle.l4_model.specs.Machine.{Machine}
use Rattle.l4_model.specs.World.{World, Name}
use Rattle.l4_model.specs.Effects.{begins, waits}
use Rattle.l4_model.specs.Conditions.{Found, found}
use Rattle.l4_model.specs.Steps.{Step, Begin, Wait}
use Rattle.l4_model.proofs.Inversions.{BeginTaken, begin_taken, WaitTaken, wait_taken}
use Rattle.l4_model.proofs.Places.{known, same_id_is}
use Rattle.l4_first.specs.First.{is_own_of, is_next_of, disturbs, HasNothingUndone, IsUnlisted, AreExchanged}
use Rattle.l4_worlds.specs.Late.{next_late}
use Rattle.l4_first.proofs.Alone.{known_found, is_ready_is}
use Rattle.l4_first.proofs.Own.{IsOwn, exchanged}

-- It is found again where it is as it was, at the same clock.
pub found_again : (m : Machine) (w b : World) (id : GlobalId) (t : Found) → found m w id ≡ Some t → slice_get b.threads t.at ≡ Some t.now → slice_index b.clocks t.declared.cpu ≡ t.clock → found m b id ≡ Some t
found_again m w b id t is at clock = let k = known m w id t is in known_found m b id t (record { place = k.place; declared = k.declared; now = at; clock = sym clock })

pub begin_own : (m : Machine) (w a : World) (s : Name) (k : BeginTaken m w a s) → HasNothingUndone m w s.thread → IsUnlisted m w s.thread → IsOwn m w s.thread k.t (begins k.send) (Begin s)
begin_own m w a s k undone unlisted =
    let none = undone k.t k.found in
    record {
      found = k.found;
      ready = is_ready_is k.t.now.phase k.ready;
      no_send = none.0;
      no_order = none.1;
      unlisted = unlisted k.t k.found;
      alive = refl;
      possible = λ b at clock. rw (found_again m w b s.thread k.t k.found at clock, k.ready, k.next_k, k.sends) refl;
    }

pub wait_own : (m : Machine) (w a : World) (id : GlobalId) (k : WaitTaken m w a id) → HasNothingUndone m w id → IsUnlisted m w id → IsOwn m w id k.t (waits k.receive k.t.clock) (Wait id)
wait_own m w a id k undone unlisted =
    let none = undone k.t k.found in
    record {
      found = k.found;
      ready = is_ready_is k.t.now.phase k.ready;
      no_send = none.0;
      no_order = none.1;
      unlisted = unlisted k.t k.found;
      alive = refl;
      possible = λ b at clock. rw (found_again m w b id k.t k.found at clock, k.ready, k.receiving) refl;
    }

pub own_swaps : (m : Machine) (w a b : World) (id : GlobalId) (own s : Step) → HasNothingUndone m w id → IsUnlisted m w id → is_own_of id own ≡ true → next_late m w own ≡ Some a → next_late m w s ≡ Some b →
    is_next_of id s ≡ false → disturbs m w id s ≡ false → AreExchanged m a b own s
own_swaps m w a b id own s undone unlisted is may goes other calm = by own is may
  where
    begun : (n : Name) → n.thread ≡ id → next_late m w (Begin n) ≡ Some a → AreExchanged m a b (Begin n) s
    begun n one may =
        let k = begin_taken m w a n may in
        subst (λ a. AreExchanged m a b (Begin n) s) k.leads_to
        (exchanged m w n.thread k.t (begins k.send) (Begin n) (begin_own m w a n k (subst (HasNothingUndone m w) (sym one) undone) (subst (IsUnlisted m w) (sym one) unlisted)) b s goes
        (ap (λ x. is_next_of x s) one ∙ other) (ap (λ x. disturbs m w x s) one ∙ calm))

    waited : (x : GlobalId) → x ≡ id → next_late m w (Wait x) ≡ Some a → AreExchanged m a b (Wait x) s
    waited x one may =
        let k = wait_taken m w a x may in
        subst (λ a. AreExchanged m a b (Wait x) s) k.leads_to
        (exchanged m w x k.t (waits k.receive k.t.clock) (Wait x) (wait_own m w a x k (subst (HasNothingUndone m w) (sym one) undone) (subst (IsUnlisted m w) (sym one) unlisted)) b s goes
        (ap (λ x. is_next_of x s) one ∙ other) (ap (λ x. disturbs m w x s) one ∙ calm))

    by : (own : Step) → is_own_of id own ≡ true → next_late m w own ≡ Some a → AreExchanged m a b own s
    by (Begin n) is may = begun n (same_id_is n.thread id is) may
    by (Wait x) is may = waited x (same_id_is x id is) may
    by _ is may = cc
