-- Retargets that are kept beside threads.
use Rattle.std.proofs.Common.{◌≡◌, ℕ, zero, suc, ◌<◌, true, false, cond, Option, None, List, [], ◌∷◌, map, length, set, refl, ap, sym, ◌∙◌, subst, arith}
use Rattle.std.specs.Prelude.{slice_index_or, replicate}
use Rattle.std.specs.Option.{option_map}
use Rattle.l4_model.specs.Machine.{Machine}
use Rattle.l4_model.specs.World as world
use Rattle.l4_model.specs.World.{changed}
use Rattle.l4_model.proofs.Chains.{set_changed}
use Rattle.l4_types.specs.declared.owed.Owed.{Owed}
use Rattle.l4_types.specs.Inner.OwedView.{owed_of}
use Rattle.l4_core_model.specs.Local.{Local, keeps_beside}
use Rattle.l4_core.specs.Inner.Parts.{kept_of, local_of, IsKept}
use Rattle.l4_core.specs.Processor.{Processor, with_local}
use Rattle.l4_core.specs.Inner.Settled.{IsSettled}
use Rattle.l4_core.specs.declared.known.ProcessorState.TheInside.{Inside}
use Rattle.l4_core.proofs.Opening.{get-map, length-map, replicate-map}
use Rattle.l4_core.proofs.Settling.{settled-kept}
use Rattle.l4_core.proofs.Writing.{Kept, kept-settled, map-set, of_parts, state}

-- At a machine of profile 2 what is kept is what the program keeps, at one of profile 1 nothing.

abbrev noted : List (Option Owed) → List (Option world.Owed)
noted owed = map (option_map owed_of) owed

abbrev nothing : Machine → List (Option world.Owed)
nothing m = map (λ d. None) m.threads

kept_noted : (m : Machine) (owed : List (Option Owed)) → m.retargeting ≡ true → kept_of m owed ≡ noted owed
kept_noted m owed on = ap (λ b. cond b (noted owed) (nothing m)) on

pub kept_nothing : (m : Machine) (owed : List (Option Owed)) → m.retargeting ≡ false → kept_of m owed ≡ map (λ d. None) m.threads
kept_nothing m owed off = ap (λ b. cond b (noted owed) (nothing m)) off

-- The program has a place for each thread.
kept_size : (m : Machine) (owed : List (Option Owed)) → m.retargeting ≡ true → length (kept_of m owed) ≡ length m.threads → length owed ≡ length m.threads
kept_size m owed on size = sym (length-map (option_map owed_of) owed) ∙ ap length (sym (kept_noted m owed on)) ∙ size

-- What is read

pub none_read : (m : Machine) (owed : List (Option Owed)) (i : ℕ) → m.retargeting ≡ false → slice_index_or (kept_of m owed) i None ≡ None
none_read m owed i off = ap (λ os. slice_index_or os i None) (kept_nothing m owed off) ∙ get-map None m.threads i

-- What is written

kept_written : (m : Machine) (owed : List (Option Owed)) (i : ℕ) (now : Option Owed) → m.retargeting ≡ true → i < length owed → kept_of m (set owed i now) ≡ changed (λ old. option_map owed_of now) (kept_of m owed) i
kept_written m owed i now on lt =
    kept_noted m (set owed i now) on
    ∙ map-set (option_map owed_of) owed i now
    ∙ set_changed (λ old. option_map owed_of now) (noted owed) i None (option_map owed_of now) (let e = length-map (option_map owed_of) owed in omega (arith, e, lt)) refl
    ∙ ap (λ os. changed (λ old. option_map owed_of now) os i) (sym (kept_noted m owed on))

none_changed : {A : Type 0} (ys : List A) (i : ℕ) → map {B = Option world.Owed} (λ y. None) ys ≡ changed (λ old. None) (map (λ y. None) ys) i
none_changed [] i = refl
none_changed (y ∷ ys) zero = refl
none_changed (y ∷ ys) (suc i) = ap (λ os. None ∷ os) (none_changed ys i)

none_written : (m : Machine) (owed : List (Option Owed)) (i : ℕ) → m.retargeting ≡ false → kept_of m owed ≡ changed (λ old. None) (kept_of m owed) i
none_written m owed i off = kept_nothing m owed off ∙ none_changed m.threads i ∙ ap (λ os. changed (λ old. None) os i) (sym (kept_nothing m owed off))

-- What is kept beside a thread is written.
abbrev with_owed : Inside → List (Option Owed) → Local
with_owed s owed = local_of s.threads.items s.lists s.notified.items (kept_of s.machine.now owed) s.clock s.stamp

owed-written : (s : Inside) (i : ℕ) (now : Option Owed) → Kept s → s.machine.now.retargeting ≡ true → i < length s.machine.now.threads → with_owed s (set s.owed.items i now) ≡ keeps_beside i (option_map owed_of now) (state s)
owed-written s i now k on within =
    let size = kept_size s.machine.now s.owed.items on k.core.settled.owed in
    ap (λ (os : List (Option world.Owed)). record (state s) { owed = os }) (kept_written s.machine.now s.owed.items i now on (omega (arith, within, size)))

pub kept-beside : (s : Inside) (i : ℕ) (now : Option Owed) → Kept s → s.machine.now.retargeting ≡ true → i < length s.machine.now.threads →
    IsKept s.machine.now s.cpu s.threads.items s.lists s.notified.items (kept_of s.machine.now (set s.owed.items i now)) s.clock s.stamp
kept-beside s i now k on within =
    kept-settled s _ _ _ _ _ k (subst (IsSettled s.machine.now s.cpu) (sym (owed-written s i now k on within)) (settled-kept s.machine.now s.cpu (state s) i (option_map owed_of now) k.core.settled))

pub beside-written : (s : Inside) (i : ℕ) (now : Option Owed) (p : Processor) → Kept s → s.machine.now.retargeting ≡ true → i < length s.machine.now.threads → of_parts s (state s) ≡ p →
    of_parts s (with_owed s (set s.owed.items i now)) ≡ with_local p (keeps_beside i (option_map owed_of now) p.local)
beside-written s i now p k on within view =
    ap (of_parts s) (owed-written s i now k on within) ∙ ap (λ (q : Processor). with_local q (keeps_beside i (option_map owed_of now) q.local)) view

-- A machine of profile 1 has nothing to remove.
pub nothing-written : (s : Inside) (i : ℕ) (p : Processor) → s.machine.now.retargeting ≡ false → of_parts s (state s) ≡ p → p ≡ with_local p (keeps_beside i None p.local)
nothing-written s i p off view =
    sym view ∙ ap (λ (os : List (Option world.Owed)). of_parts s (record (state s) { owed = os })) (none_written s.machine.now s.owed.items i off)
    ∙ ap (λ (q : Processor). with_local q (keeps_beside i None q.local)) view

-- At the beginning

fresh : (n : ℕ) → noted (replicate n None) ≡ replicate n None
fresh zero = refl
fresh (suc n) = ap (λ os. None ∷ os) (fresh n)

pub kept_fresh : (m : Machine) (owed : List (Option Owed)) → m.retargeting ≡ true → owed ≡ replicate (length m.threads) None → kept_of m owed ≡ map (λ d. None) m.threads
kept_fresh m owed on is = kept_noted m owed on ∙ ap noted is ∙ fresh (length m.threads) ∙ replicate-map None m.threads
