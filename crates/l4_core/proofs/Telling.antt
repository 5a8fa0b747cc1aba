-- Which processors have been told of a deletion.
use Rattle.std.proofs.Common.{ℕ, ◌+◌, ◌<◌, ◌≡◌, List, length, set, refl, ap, sym, ◌∙◌, subst, arith}
use Rattle.l4_model.proofs.Chains.{set_changed}
use Rattle.l4_core_model.specs.Local.{Local}
use Rattle.l4_core_model.specs.Turns.{has_told}
use Rattle.l4_core.specs.Inner.Parts.{kept_of, local_of, IsKept}
use Rattle.l4_core.specs.Processor.{Processor, with_local}
use Rattle.l4_core.specs.Inner.Settled.{IsSettled}
use Rattle.l4_core.specs.declared.known.ProcessorState.TheInside.{Inside}
use Rattle.l4_core.proofs.Settling.{settled-told}
use Rattle.l4_core.proofs.Writing.{Kept, kept-settled, of_parts, state}

abbrev with_told : Inside → List ℕ → Local
with_told s told = local_of s.threads.items s.lists told (kept_of s.machine.now s.owed.items) s.clock s.stamp

local-told : (s : Inside) (i to : ℕ) → Kept s → i < length s.machine.now.threads → with_told s (set s.notified.items i (to + 1)) ≡ has_told to i (state s)
local-told s i to k within = ap (with_told s) (set_changed (λ n. to + 1) s.notified.items i 0 (to + 1) (omega (arith, within, k.core.settled.told)) refl)

pub kept-told : (s : Inside) (i to : ℕ) → Kept s → to < s.machine.now.cpus → i < length s.machine.now.threads →
    IsKept s.machine.now s.cpu s.threads.items s.lists (set s.notified.items i (to + 1)) (kept_of s.machine.now s.owed.items) s.clock s.stamp
kept-told s i to k below within =
    kept-settled s _ _ _ _ _ k (subst (IsSettled s.machine.now s.cpu) (sym (local-told s i to k within)) (settled-told s.machine.now s.cpu (state s) i to below k.core.settled))

pub told-written : (s : Inside) (i to : ℕ) (p : Processor) → Kept s → i < length s.machine.now.threads → of_parts s (state s) ≡ p → of_parts s (with_told s (set s.notified.items i (to + 1))) ≡ with_local p (has_told to i p.local)
told-written s i to p k within view = ap (of_parts s) (local-told s i to k within) ∙ ap (λ (q : Processor). with_local q (has_told to i q.local)) view
