-- Threads that are stuck for ever, one by one, and where entries lead.
use Rattle.std.proofs.Common.{◌≡◌, ◌<◌, ℕ, zero, suc, Bool, true, false, cond, Option, None, Some, List, [], ◌∷◌, get_or, length, refl, ap, sym, ◌∙◌, arith}
use Rattle.std.specs.Prelude.{filter, slice_get, IsSome}
use Rattle.std.specs.List.{AllByRecursion}
use Rattle.l4_model.specs.Machine.{Machine}
use Rattle.l4_model.specs.World.{World}
use Rattle.l4_all_endings.specs.Tried.{LeadsToWorld}
use Rattle.l4_worlds.specs.Histories.{IsTimed}
use Rattle.l4_futures.specs.Choices.{world_after}
use Rattle.l4_futures.proofs.Led.{is_led, IsLed}
use Rattle.l4_stuck.specs.Stuck.{stuck_of, IsStuck, Stuck}
use Rattle.l4_stuck.specs.declared.search.StuckThread.{StuckThread}
use Rattle.l4_questions.specs.Stuck.{counts_at, AreAllStuck, AreAsked}
use Rattle.l4_questions.specs.declared.question.Question.{Question}

-- What holds of all holds at a place.
pub at_place : {A : Type 0} (P : A → Type 0) (d : A) (xs : List A) (i : ℕ) → i < length xs →
    AllByRecursion P xs → P (get_or xs i d)
at_place P d [] i inside all = absurd (omega (arith, inside))
at_place P d (x ∷ xs) zero inside all = all.0
at_place P d (x ∷ xs) (suc i) inside all = at_place P d xs i (omega (arith, inside)) all.1

-- Entries that lead to a world have a history of as many steps but ticks.
pub leads : (m : Machine) (entries : List ℕ) → IsTimed m → LeadsToWorld m entries →
    (w : World) × IsLed m entries w
leads m entries timed led = by (world_after m entries) refl led.leads
  where
    by : (o : Option World) → world_after m entries ≡ o → IsSome o →
        (w : World) × IsLed m entries w
    by None is some = absurd (let bad : false ≡ true = some in cc)
    by (Some w) is some = (w, is_led m entries w timed led.few is)

each_stuck : (m : Machine) (threads : List StuckThread) →
    ((k : ℕ) (s : Stuck) → slice_get (stuck_of threads) k ≡ Some s → IsStuck m s) →
    AreAllStuck m threads
each_stuck m [] each = tt
each_stuck m (t ∷ threads) each = (each 0 _ refl, each_stuck m threads (λ k. each (suc k)))

-- What passes a filter stands at a place of the list.
passed : (p : Stuck → Bool) (all : List Stuck) (k : ℕ) (s : Stuck) →
    slice_get (filter p all) k ≡ Some s → (i : ℕ) × (slice_get all i ≡ Some s)
passed p [] k s at = cc
passed p (first ∷ all) k s at = by (p first) k at (λ j there. passed p all j s there)
  where
    by : (b : Bool) (k : ℕ) →
        slice_get (cond b (first ∷ filter p all) (filter p all)) k ≡ Some s →
        ((j : ℕ) → slice_get (filter p all) j ≡ Some s → (i : ℕ) × (slice_get all i ≡ Some s)) →
        (i : ℕ) × (slice_get (first ∷ all) i ≡ Some s)
    by true zero at rest = (0, at)
    by true (suc k) at rest = let there = rest k at in (suc there.0, there.1)
    by false k at rest = let there = rest k at in (suc there.0, there.1)

-- Each thread that an answer tells of is stuck.
pub all_stuck : (asked is_whole : Bool) (m : Machine) (q : Question) (threads : List StuckThread) →
    AreAsked asked m q (stuck_of threads) is_whole → AreAllStuck m threads
all_stuck true is_whole m q threads are = each_stuck m threads (λ k s at.
    let there = passed (λ s. counts_at m q s.thread) are.all k s
    (ap (λ ss. slice_get ss k) (sym are.told) ∙ at) in
    (are.all_are.sound there.0 s there.1).1)
all_stuck false is_whole m q threads are = each_stuck m threads (λ k s at.
    absurd (let bad : None ≡ Some s = sym (ap (λ ss. slice_get ss k) are.0) ∙ at in cc))
