-- How many events there were before a round and behind it.
use Rattle.std.proofs.Common.{◌≡◌, ℕ, zero, suc, ◌+◌, ◌*◌, ◌≤◌, Some, List, [], ◌∷◌, length, refl, arith, suc-mul, length-append}
use Rattle.std.specs.Prelude.{slice_get}
use Rattle.l4_merge.specs.LocalTraces.{all_events}
use Rattle.l4_proc.specs.Logs.{all_steps, events}
use Rattle.l4_proc.specs.Working.{turns_of, HaveWorkedOn}
use Rattle.l4_proc.specs.declared.processor.Processor.{Processor}
use Rattle.l4_proc.proofs.Ends.{as_many}
use Rattle.l4_machine.specs.Inner.Teams.{pasts, count_events}

abbrev pub events_in : Processor → ℕ
events_in p = length (events p.worker.log)

pub first_counted : (p : Processor) (ps : List Processor) → count_events (p ∷ ps) ≡ events_in p + count_events ps
first_counted p ps = length-append (events p.worker.log) (all_events (pasts ps))

-- The events of a processor are its turns and its ticks.
pub turns_and_ticks : (p : Processor) → events_in p ≡ turns_of p + p.worker.log.ticks
turns_and_ticks p =
    let many = as_many p.worker.log.cpu 0 p.worker.log.ends.items (all_steps p.worker.log.buffer) in
    let few = p.worker.log.few in
    omega arith

-- A round has no more events than its shares, and where it has none nobody took a turn.
pub record AreCounted (turns : ℕ) (olds news : List Processor) : Type 0 where
  pub least : count_events olds ≤ count_events news
  pub most : count_events news ≤ count_events olds + length olds * turns
  pub still : count_events news ≤ count_events olds → (i : ℕ) (old new : Processor) → slice_get olds i ≡ Some old → slice_get news i ≡ Some new →
      turns_of new ≡ turns_of old

pub counted : (turns : ℕ) (olds news : List Processor) → HaveWorkedOn turns olds news → AreCounted turns olds news
counted turns [] [] worked = record { least = omega arith; most = omega arith; still = λ few i old new was is. absurd cc }
counted turns [] (new ∷ news) worked = absurd (let size = worked.for_each in omega arith)
counted turns (old ∷ olds) [] worked = absurd (let size = worked.for_each in omega arith)
counted turns (old ∷ olds) (new ∷ news) worked =
    let size = worked.for_each in
    let first = worked.each 0 old new refl refl in
    let rest = counted turns olds news (record { for_each = omega arith; each = λ i a b was is. worked.each (suc i) a b was is }) in
    let before = first_counted old olds in
    let behind = first_counted new news in
    let was = turns_and_ticks old in
    let is = turns_and_ticks new in
    let ticks = first.ticks in
    let least = first.least in
    let most = first.most in
    let least_of = rest.least in
    let most_of = rest.most in
    let shares : length (old ∷ olds) * turns ≡ length olds * turns + turns = suc-mul (length olds) turns in
    record {
      least = omega arith;
      most = omega (arith, shares);
      still = λ few i a b before_it behind_it. still_at old new olds news (omega arith) (rest.still (omega arith)) i a b before_it behind_it;
    }
  where
    still_at : (old new : Processor) (olds news : List Processor) → turns_of new ≡ turns_of old →
        ((i : ℕ) (a b : Processor) → slice_get olds i ≡ Some a → slice_get news i ≡ Some b → turns_of b ≡ turns_of a) →
        (i : ℕ) (a b : Processor) → slice_get (old ∷ olds) i ≡ Some a → slice_get (new ∷ news) i ≡ Some b → turns_of b ≡ turns_of a
    still_at old new olds news here there zero a b was is = cc
    still_at old new olds news here there (suc i) a b was is = there i a b was is
