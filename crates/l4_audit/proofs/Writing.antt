-- One thread or list of a world is written.
use Rattle.std.proofs.Common.{◌≡◌, ℕ, ◌<◌, zero, suc, length, get_or, set, map, List, [], ◌∷◌, refl, ap, sym, ◌∙◌, arith}
use Rattle.std.specs.Prelude.{slice_get, IsSomeAnd}
use Rattle.std.proofs.lemmas.List.{length-map}
use Rattle.l4_core_model.specs.Plain.{Waiting}
use Rattle.l4_model.specs.Machine.{Machine, Declaration}
use Rattle.l4_model.specs.World.{Thread, Owed, change, changed}
use Rattle.l4_model.proofs.Chains.{set_changed, map-changed}
use Rattle.l4_thread.specs.Inner.Parts.{Block}
use Rattle.l4_audit.specs.Inner.Audited.{Audited, IsOf, with_world}

abbrev pub audited : Machine → List Block → List (List ℕ) → List ℕ → List Owed → Audited
audited m bs ws cs os = record { machine = m; world = record { threads = map (λ (b : Block). b.thread) bs; waiting = ws; clocks = cs; owed = os } }

abbrev with_thread : (Thread → Thread) → Block → Block
with_thread f b = record b { thread = f b.thread }

pub written : (m : Machine) (bs : List Block) (ws : List (List ℕ)) (cs : List ℕ) (os : List Owed) (a : Audited) (i : ℕ) (f : Thread → Thread) (old new : Block) → audited m bs ws cs os ≡ a →
    i < length a.world.threads → old ≡ get_or bs i old → new ≡ with_thread f old →
    audited m (set bs i new) ws cs os ≡ with_world a (change a.world i f)
written m bs ws cs os a i f old new is lt at e =
    let size : length bs ≡ length a.world.threads = sym (length-map bs (λ (b : Block). b.thread)) ∙ ap (λ (x : Audited). length x.world.threads) is in
    let s : set bs i new ≡ changed (with_thread f) bs i = set_changed (with_thread f) bs i old new (omega (arith, size)) (e ∙ ap (with_thread f) at) in
    let threads : map (λ (b : Block). b.thread) (changed (with_thread f) bs i) ≡ changed f (map (λ (b : Block). b.thread) bs) i = map-changed (λ (b : Block). b.thread) (with_thread f) f (λ b. refl) bs i in
    rw (← is, s, threads) refl

-- The block that is written is of the same thread, so the threads are still those of the machine.
ids_kept : (bs : List Block) (i : ℕ) (old new : Block) → old ≡ get_or bs i old → new.id ≡ old.id → map (λ (b : Block). b.id) (set bs i new) ≡ map (λ (b : Block). b.id) bs
ids_kept [] i old new at e = refl
ids_kept (b ∷ bs) zero old new at e = ap (λ id. id ∷ map (λ (x : Block). x.id) bs) (e ∙ ap (λ (x : Block). x.id) at)
ids_kept (b ∷ bs) (suc i) old new at e = ap (λ ids. b.id ∷ ids) (ids_kept bs i old new at e)

pub still_of : (m : Machine) (bs : List Block) (lists : List (List Waiting)) (i : ℕ) (old new : Block) → IsOf m bs lists → old ≡ get_or bs i old → new.id ≡ old.id → IsOf m (set bs i new) lists
still_of m bs lists i old new of at e = record { ids = ids_kept bs i old new at e ∙ of.ids; counted = of.counted }

-- There are as many threads and lists as are declared.

pub as_many : (m : Machine) (bs : List Block) {lists : List (List Waiting)} (ws : List (List ℕ)) (cs : List ℕ) (os : List Owed) (a : Audited) → audited m bs ws cs os ≡ a → IsOf m bs lists → length a.world.threads ≡ length a.machine.threads
as_many m bs ws cs os a is of =
    sym (ap (λ (x : Audited). length x.world.threads) is) ∙ length-map bs (λ (b : Block). b.thread) ∙ sym (length-map bs (λ (b : Block). b.id)) ∙ ap length of.ids ∙ length-map m.threads (λ (d : Declaration). d.id)
    ∙ ap (λ (x : Audited). length x.machine.threads) is

pub list_within : (m : Machine) (bs : List Block) (lists : List (List Waiting)) (ws : List (List ℕ)) (cs : List ℕ) (os : List Owed) (a : Audited) (i : ℕ) → audited m bs ws cs os ≡ a → IsOf m bs lists →
    i < length a.world.threads → i < length lists
list_within m bs lists ws cs os a i is of lt =
    let same = as_many m bs ws cs os a is of in
    let machine : length m.threads ≡ length a.machine.threads = ap (λ (x : Audited). length x.machine.threads) is in
    let counted = of.counted in
    omega (arith, lt, same, machine, counted)

-- A place that has a thread is within.
pub is_within : {A : Type 0} (P : A → Type 0) (xs : List A) (i : ℕ) → IsSomeAnd (slice_get xs i) P → i < length xs
is_within P [] i h = absurd h
is_within P (x ∷ xs) zero h = omega arith
is_within P (x ∷ xs) (suc i) h = let k = is_within P xs i h in omega arith
