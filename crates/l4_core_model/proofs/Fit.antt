-- What is true of a thread between any two pieces of an event.
use Rattle.std.proofs.Common.{[], ◌≡◌, ℕ, zero, suc, ◌<◌, ◌≤◌, true, false, Option, Some, None, List, ◌∷◌, length, refl, ap, arith}
use Rattle.std.specs.Prelude.{slice_index_or}
use Rattle.std.specs.List.{AllByRecursion}
use Rattle.std.proofs.lemmas.Bool.Decides.{nat_tests}
use Rattle.l4_model.specs.Words.{Period}
use Rattle.l4_model.specs.World.{Thread, Send, Phase, Ready, Sending, Receiving, Ordering, Ended, Deleted, changed, opening_thread}
use Rattle.l4_model.specs.Reached.{Suits}
use Rattle.l4_model.specs.Conditions.{is_zero, has_passed}

-- A thread's send and order go with its phase, and nothing of it began later than now.
abbrev pub SendIsSince : ℕ → Option Send → Type 0
SendIsSince clock None = Unit {0}
SendIsSince clock (Some send) = send.since ≤ clock

abbrev pub PhaseIsSince : ℕ → Phase → Type 0
PhaseIsSince clock (Receiving receive since) = since ≤ clock
PhaseIsSince clock _ = Unit {0}

pub record IsGood (clock : ℕ) (t : Thread) : Type 0 where
  pub suits : Suits t.phase t.send t.order
  pub sends : SendIsSince clock t.send
  pub receives : PhaseIsSince clock t.phase

-- A deadline goes with a thread's phase: it is not before the end of the phase's period.
abbrev pub Justifies : ℕ → Phase → Option Send → Type 0
Justifies d (Receiving receive since) send = has_passed receive.period since d ≡ true
Justifies d Sending (Some send) = (has_passed send.period send.since d ≡ true) × (is_zero send.period ≡ false)
Justifies d _ send = ⊥

abbrev pub NotIn : ℕ → List ℕ → Type 0
NotIn i xs = AllByRecursion (λ y. i ≡ y → ⊥) xs

-- what stands at a place after a change
pub get_cases : (P : Thread → Type 0) (f : Thread → Thread) (ts : List Thread) (i j : ℕ) → i < length ts →
    (i ≡ j → P (f (slice_index_or ts i opening_thread))) → ((i ≡ j → ⊥) → P (slice_index_or ts j opening_thread)) → P (slice_index_or (changed f ts i) j opening_thread)
get_cases P f [] i j lt p q = absurd (omega arith)
get_cases P f (t ∷ ts) zero zero lt p q = p refl
get_cases P f (t ∷ ts) zero (suc j) lt p q = q (λ e. omega arith)
get_cases P f (t ∷ ts) (suc i) zero lt p q = q (λ e. omega arith)
get_cases P f (t ∷ ts) (suc i) (suc j) lt p q = get_cases P f ts i j (omega arith) (λ e. p (ap suc e)) (λ ne. q (λ e. ne (omega arith)))

pub get_other : (f : Thread → Thread) (ts : List Thread) (i j : ℕ) → (i ≡ j → ⊥) → slice_index_or (changed f ts i) j opening_thread ≡ slice_index_or ts j opening_thread
get_other f [] i j ne = refl
get_other f (t ∷ ts) zero zero ne = absurd (ne refl)
get_other f (t ∷ ts) zero (suc j) ne = refl
get_other f (t ∷ ts) (suc i) zero ne = refl
get_other f (t ∷ ts) (suc i) (suc j) ne = get_other f ts i j (λ e. ne (ap suc e))

-- A tick
pub send_later : (now to : ℕ) (o : Option Send) → now ≤ to → SendIsSince now o → SendIsSince to o
send_later now to None le h = tt
send_later now to (Some send) le h = omega arith

pub phase_later : (now to : ℕ) (p : Phase) → now ≤ to → PhaseIsSince now p → PhaseIsSince to p
phase_later now to Ready le h = tt
phase_later now to Sending le h = tt
phase_later now to (Receiving receive since) le h = omega arith
phase_later now to Ordering le h = tt
phase_later now to Ended le h = tt
phase_later now to Deleted le h = tt

-- stimeout of a send of timeout zero
pub zero_passed : (period : Period) (since now : ℕ) → is_zero period ≡ true → since ≤ now → has_passed period since now ≡ true
zero_passed None since now z le = cc
zero_passed (Some n) since now z le = grind (arith, nat_tests)

-- One processor: at rest nothing but clocks goes on.
pub passed_is_finite : (P : Type 0) (period : Period) (since now : ℕ) → has_passed period since now ≡ true → ((n : ℕ) → period ≡ Some n → P) → P
passed_is_finite P None since now h then = cc
passed_is_finite P (Some n) since now h then = then n refl
