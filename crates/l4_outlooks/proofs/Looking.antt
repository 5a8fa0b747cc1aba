-- In which phases the threads of a world wait, one after another.
use Rattle.std.proofs.Common.{◌≡◌, ℕ, zero, suc, ◌<◌, List, [], ◌∷◌, ◌++◌, drop, length, map, ◌∙◌, arith, append_assoc}
use Rattle.std.specs.Prelude.{slice_get}
use Rattle.l4_model.specs.World.{Thread}
use Rattle.l4_forever.specs.Waits.{wait_in, wait_of}
use Rattle.l4_forever.specs.declared.waits.Wait.{Wait}

pub waits_on : (ts : List Thread) (i : ℕ) (ys all : List Wait) → i < length ts → ys ++ map (λ (t : Thread). wait_in t.phase) (drop i ts) ≡ all → (ys ++ wait_of (slice_get ts i) ∷ []) ++ map (λ (t : Thread). wait_in t.phase) (drop (suc i) ts) ≡ all
waits_on [] i ys all lt is = absurd (omega (arith, lt))
waits_on (t ∷ ts) zero ys all lt is = append_assoc ys (wait_in t.phase ∷ []) (map (λ (t : Thread). wait_in t.phase) ts) ∙ is
waits_on (t ∷ ts) (suc i) ys all lt is = waits_on ts i ys all (omega (arith, lt)) is
