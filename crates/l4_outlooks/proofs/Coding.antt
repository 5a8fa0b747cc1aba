-- The code of a world, part by part.
use Rattle.std.proofs.Common.{◌≡◌, ℕ, zero, suc, ◌+◌, ◌<◌, Bool, true, false, cond, Some, None, List, [], ◌∷◌, ◌++◌, length, map, get_or, drop, refl, ap, sym, ◌∙◌, arith, append_assoc, Result, Ok, Err, OnOk}
use Rattle.std.proofs.Math.Seq.{drop-cons}
use Rattle.std.proofs.lemmas.Option.{get_or_from_slice_get}
use Rattle.std.specs.Prelude.{slice_get, slice_index}
use Rattle.l4_model.specs.Machine.{Machine}
use Rattle.l4_model.specs.World.{Thread, World, is_deleted, is_in, opening_thread, opening_context}
use Rattle.l4_model.specs.Conditions.{Found, found_at}
use Rattle.l4_model.proofs.Chains.{bind_then, get-map, some_is}
use Rattle.l4_states.specs.Inner.Codes.{chained, context_code, number_code, thread_code}
use Rattle.l4_codes.specs.Inner.States.{standing_code}
use Rattle.l4_codes.specs.Inner.Written.{Written, Writes, with_numbers}
use Rattle.l4_codes.proofs.Writing.{first_told}
use Rattle.l4_outlooks.specs.Inner.Named.{sender_code}
use Rattle.l4_worlds.specs.Bare.{bare, bare_thread, forgotten, in_order}

-- A thread that is found at a place

pub found_now : (m : Machine) (w : World) (place : ℕ) (t : Found) → found_at m w place ≡ Some t → slice_get w.threads place ≡ Some t.now
found_now m w place t h =
    bind_then (slice_get m.threads place) _ t h λ d declared rest.
    bind_then (slice_get w.threads place) _ t rest λ now is rest.
    is ∙ ap (λ (x : Found). Some x.now) (some_is _ t rest)

some_at : {A : Type 0} (xs : List A) (i : ℕ) → i < length xs → (x : A) × (slice_get xs i ≡ Some x)
some_at [] i lt = absurd (omega arith)
some_at (x ∷ xs) zero lt = (x, refl)
some_at (x ∷ xs) (suc i) lt = some_at xs i (omega arith)

pub found_there : (m : Machine) (w : World) (place : ℕ) → place < length m.threads → length w.threads ≡ length m.threads → found_at m w place ≡ None → ⊥
found_there m w place lt same none =
    let d = some_at m.threads place lt in
    let t = some_at w.threads place (omega arith) in
    let some : found_at m w place ≡ Some (record { at = place; declared = d.0; now = t.0; clock = slice_index w.clocks d.0.cpu }) = rw (d.1, t.1) refl in
    cc

pub bare_at : (w : World) (place : ℕ) (t : Thread) → slice_get w.threads place ≡ Some t → get_or (bare w).threads place opening_thread ≡ bare_thread t
bare_at w place t is = get_or_from_slice_get (bare w).threads place (bare_thread t) opening_thread (get-map bare_thread w.threads place t is)

pub bare_counted : (w : World) (n : ℕ) → length w.threads ≡ n → length (bare w).threads ≡ n
bare_counted w n same = by w.threads ∙ same
  where
    by : (ts : List Thread) → length (map bare_thread ts) ≡ length ts
    by [] = refl
    by (t ∷ ts) = ap suc (by ts)

-- Of a deleted thread, and of another

pub forgotten_is : (t : Thread) → is_deleted t.phase ≡ true → bare_thread t ≡ forgotten t
forgotten_is t deleted = ap (λ b. cond b (forgotten t) t) deleted

pub kept_is : (t : Thread) → is_deleted t.phase ≡ false → bare_thread t ≡ t
kept_is t alive = ap (λ b. cond b (forgotten t) t) alive

pub forgotten_told : (t : Thread) (rest : List ℕ) → context_code opening_context (standing_code t rest) ≡ thread_code (forgotten t) rest
forgotten_told t rest = refl

-- The places of a list in falling order, from a place on

falling_told : (n : ℕ) (xs : List ℕ) (rest : List ℕ) → sender_code (is_in n xs) n (chained number_code (in_order n xs) rest) ≡ chained number_code (in_order (suc n) xs) rest
falling_told n xs rest = by (is_in n xs)
  where
    by : (b : Bool) → sender_code b n (chained number_code (in_order n xs) rest) ≡ chained number_code (cond b (n ∷ in_order n xs) (in_order n xs)) rest
    by true = refl
    by false = refl

pub falls_on : (n below : ℕ) (xs : List ℕ) (a b c : Written) (all : List ℕ → List ℕ) → n ≡ below + 1 → Writes (sender_code (is_in below xs) below) b c →
    ((rest : List ℕ) → with_numbers b (chained number_code (in_order n xs) rest) ≡ with_numbers a (all rest)) →
    (rest : List ℕ) → with_numbers c (chained number_code (in_order below xs) rest) ≡ with_numbers a (all rest)
falls_on n below xs a b c all next one same rest =
    let up : suc below ≡ n = omega (arith, next) in
    one (chained number_code (in_order below xs) rest) ∙ ap (with_numbers b) (falling_told below xs rest)
    ∙ ap (λ k. with_numbers b (chained number_code (in_order k xs) rest)) up ∙ same rest

pub fallen : {E : Type 0} (r : Result (Unit {0}) E) (n : ℕ) (xs : List ℕ) (a b c : Written) (all : List ℕ → List ℕ) → n ≡ 0 → OnOk r (Writes (number_code 0) b c) →
    ((rest : List ℕ) → with_numbers b (chained number_code (in_order n xs) rest) ≡ with_numbers a (all rest)) → OnOk r (Writes all a c)
fallen (Ok x) n xs a b c all none last same = λ rest. last rest ∙ ap (λ k. with_numbers b (chained number_code (in_order k xs) rest)) (sym none) ∙ same rest
fallen (Err e) n xs a b c all none last same = tt

-- One of a list that is viewed was written, and the others are left.
pub viewed_on : {A B : Type 0} (view : A → B) (code : B → List ℕ → List ℕ) (xs : List A) (i : ℕ) (x : A) (a b c d : Written) → i < length xs → x ≡ get_or xs i x →
    ((rest : List ℕ) → with_numbers b (chained code (map view (drop i xs)) rest) ≡ with_numbers a (chained code (map view xs) rest)) → Writes (number_code 1) b c → Writes (code (view x)) c d →
    (rest : List ℕ) → with_numbers d (chained code (map view (drop (i + 1) xs)) rest) ≡ with_numbers a (chained code (map view xs) rest)
viewed_on view code xs i x a b c d lt at same one value rest =
    let up : suc i ≡ i + 1 = omega arith in
    let head : drop i xs ≡ x ∷ drop (i + 1) xs = drop-cons xs i x lt ∙ ap (λ y. y ∷ drop (suc i) xs) (sym at) ∙ ap (λ k. x ∷ drop k xs) up in
    first_told code (map view (drop i xs)) (map view (drop (i + 1) xs)) (view x) (map view xs) a b c d same one value (ap (map view) head) rest

-- One more thread is looked at.
pub mapped_on : {A B : Type 0} (f : A → B) (xs : List A) (i : ℕ) (x : A) (ys : List B) (all : List B) → i < length xs → x ≡ get_or xs i x → ys ++ map f (drop i xs) ≡ all → (ys ++ f x ∷ []) ++ map f (drop (i + 1) xs) ≡ all
mapped_on f xs i x ys all lt at same =
    let up : suc i ≡ i + 1 = omega arith in
    let head : drop i xs ≡ x ∷ drop (i + 1) xs = drop-cons xs i x lt ∙ ap (λ y. y ∷ drop (suc i) xs) (sym at) ∙ ap (λ k. x ∷ drop k xs) up in
    append_assoc ys (f x ∷ []) (map f (drop (i + 1) xs)) ∙ ap (λ zs. ys ++ zs) (sym (ap (map f) head)) ∙ same
