-- The places where a send of timeout zero waits stay covered.
use Rattle.std.proofs.Common.{◌≡◌, ℕ, zero, suc, ◌<◌, Bool, true, false, cond, ◌&&◌, not, Option, Some, None, List, [], ◌∷◌, ◌++◌, map, filter, length, refl, sym, ap, ◌∙◌, subst, inl, inr, ◌⊎◌}
use Rattle.std.specs.Prelude.{◌==◌, find, slice_index_or, is_some}
use Rattle.std.specs.Option.{option_map}
use Rattle.std.specs.List.{list_any}
use Rattle.std.proofs.lemmas.Bool.{cases_eq, ne_eqb}
use Rattle.l4_model.specs.World.{Thread, Owed, changed}
use Rattle.l4_model.specs.Effects.{turns}
use Rattle.l4_core_model.specs.Plain as plain
use Rattle.l4_core_model.specs.Plain.{Plain}
use Rattle.l4_core_model.specs.Local.{Local, thread, changes, comes_to, keeps_beside, relists}
use Rattle.l4_core_model.specs.Turns.{has_told}
use Rattle.l4_core_model.proofs.Fit.{get_cases}
use Rattle.l4_core_model.proofs.Changed.{same_nat}
use Rattle.l4_core.specs.Inner.Places.{has}
use Rattle.l4_core.specs.Inner.Covered.{is_zero_send, first_zero, CoversZeros}
use Rattle.l4_core.proofs.Settling.{sooner, later}
use Rattle.l4_core.proofs.Turned.{turned_zero}

-- Lists

-- What is in a set is not what is out of it.
pub apart_in : (d : List ℕ) (i o : ℕ) → has d i ≡ true → has d o ≡ false → i ≡ o → ⊥
apart_in d i o there h same = let in_it = subst (λ k. has d k ≡ true) same there in let wrong : true ≡ false = sym in_it ∙ h in cc

-- Two tests that agree on the blocks of a list find the same.
pub find_same : (p q : plain.Waiting → Bool) (ws : List plain.Waiting) → ((w : plain.Waiting) → list_any (λ (v : plain.Waiting). w.block == v.block) ws ≡ true → p w ≡ q w) → find p ws ≡ find q ws
find_same p q [] f = refl
find_same p q (x ∷ xs) f =
    ap (λ b. cond b (Some x) (find p xs)) (f x (sooner _ _ (same_nat x.block)))
    ∙ ap (λ o. cond (q x) (Some x) o) (find_same p q xs (λ w h. f w (later _ _ h)))

pub is_somewhere : (p : plain.Waiting → Bool) (ess : List (List plain.Waiting)) (r : ℕ) → list_any p (slice_index_or ess r []) ≡ true → list_any (list_any p) ess ≡ true
is_somewhere p [] r e = cc
is_somewhere p (es ∷ ess) zero e = sooner _ _ e
is_somewhere p (es ∷ ess) (suc r) e = later _ _ (is_somewhere p ess r e)

pub find-filter : {A : Type 0} (p q : A → Bool) (xs : List A) → find p xs ≡ None → find p (filter q xs) ≡ None
find-filter p q [] e = refl
find-filter p q (x ∷ xs) e = by (p x) (q x) refl e (find-filter p q xs)
  where
    by : (a b : Bool) → p x ≡ a → cond a (Some x) (find p xs) ≡ None → (find p xs ≡ None → find p (filter q xs) ≡ None) → find p (cond b (x ∷ filter q xs) (filter q xs)) ≡ None
    by true b h g f = cc
    by false true h g f = rw h (f g)
    by false false h g f = f g

find-push : {A : Type 0} (p : A → Bool) (xs : List A) (y : A) → find p xs ≡ None → p y ≡ false → find p (xs ++ y ∷ []) ≡ None
find-push p [] y e h = rw h
find-push p (x ∷ xs) y e h = by (p x) e (find-push p xs y)
  where
    by : (b : Bool) → cond b (Some x) (find p xs) ≡ None → (find p xs ≡ None → p y ≡ false → find p (xs ++ y ∷ []) ≡ None) → cond b (Some x) (find p (xs ++ y ∷ [])) ≡ None
    by true g f = cc
    by false g f = f g h

pub get-map : {A : Type 0} (g : List A → List A) (xs : List (List A)) (o : ℕ) → g [] ≡ [] → slice_index_or (map g xs) o [] ≡ g (slice_index_or xs o [])
get-map g [] o e = sym e
get-map g (x ∷ xs) zero e = refl
get-map g (x ∷ xs) (suc o) e = get-map g xs o e

pub get_apart : {A : Type 0} (g : A → A) (xs : List A) (r o : ℕ) (x : A) → (r ≡ o → ⊥) → slice_index_or (changed g xs r) o x ≡ slice_index_or xs o x
get_apart g [] r o x ne = refl
get_apart g (y ∷ ys) zero zero x ne = absurd (ne refl)
get_apart g (y ∷ ys) zero (suc o) x ne = refl
get_apart g (y ∷ ys) (suc r) zero x ne = refl
get_apart g (y ∷ ys) (suc r) (suc o) x ne = get_apart g ys r o x (λ e. ne (ap suc e))

-- What is changed at a place stands there, or there is none.
get_at : {A : Type 0} (P : A → Type 0) (g : A → A) (xs : List A) (i : ℕ) (x : A) → P (slice_index_or xs i x) → P (g (slice_index_or xs i x)) → P (slice_index_or (changed g xs i) i x)
get_at P g [] i x p q = p
get_at P g (y ∷ ys) zero x p q = q
get_at P g (y ∷ ys) (suc i) x p q = get_at P g ys i x p q

-- Sends

-- The sends that wait stay, where a thread changes whose send does not wait, or stays.
pub send_same : (i j : ℕ) (f : Thread → Thread) (l : Local) → i < length l.threads → (plain.is_queued l.lists i ≡ false) ⊎ ((f (thread l i)).send ≡ (thread l i).send) → plain.is_queued l.lists j ≡ true → (thread (changes i f l) j).send ≡ (thread l j).send
send_same i j f l lt kept queued =
    get_cases (λ t. t.send ≡ (thread l j).send) f l.threads i j lt (λ same. here kept same ∙ ap (λ k. (thread l k).send) same) (λ ne. refl)
  where
    here : (plain.is_queued l.lists i ≡ false) ⊎ ((f (thread l i)).send ≡ (thread l i).send) → i ≡ j → (f (thread l i)).send ≡ (thread l i).send
    here (inl none) same = let there = subst (λ k. plain.is_queued l.lists k ≡ false) same none in let wrong : true ≡ false = sym queued ∙ there in cc
    here (inr is) same = is

-- Covers

pub none_found : (o : Option plain.Waiting) (block : Option ℕ) → block ≡ option_map (λ (w : plain.Waiting). w.block) o → is_some block ≡ false → o ≡ None
none_found None block e h = refl
none_found (Some w) block e h = let wrong : true ≡ false = sym (ap is_some e) ∙ h in cc

-- Places are put in, or the same stand in.
pub zeros-put : (z e : List ℕ) (l : Local) → CoversZeros z l → ((o : ℕ) → has z o ≡ true → has e o ≡ true) → CoversZeros e l
zeros-put z e l c puts o h = c o (by (has z o) refl)
  where
    by : (b : Bool) → has z o ≡ b → has z o ≡ false
    by false g = g
    by true g = let wrong : true ≡ false = sym (puts o g) ∙ h in cc

-- A place where none waits is taken out.
pub zeros-removed : (z e : List ℕ) (l : Local) (place : ℕ) → CoversZeros z l → ((o : ℕ) → has e o ≡ (has z o && not (o == place))) → first_zero l (plain.list_of l.lists place) ≡ None → CoversZeros e l
zeros-removed z e l place c is free o h = by (cases_eq o place)
  where
    whole : (b : Bool) → (b && true) ≡ b
    whole true = refl
    whole false = refl

    by : (o ≡ place) ⊎ (o ≡ place → ⊥) → first_zero l (plain.list_of l.lists o) ≡ None
    by (inl same) = subst (λ p. first_zero l (plain.list_of l.lists p) ≡ None) (sym same) free
    by (inr apart) = c o (sym (whole (has z o)) ∙ ap (λ b. has z o && not b) (sym (ne_eqb o place apart)) ∙ sym (is o) ∙ h)

pub zeros-stamped : (z : List ℕ) (s : ℕ) (l : Local) → CoversZeros z l → CoversZeros z (record l { stamp = s })
zeros-stamped z s l c = c

pub zeros-told : (z : List ℕ) (to i : ℕ) (l : Local) → CoversZeros z l → CoversZeros z (has_told to i l)
zeros-told z to i l c = c

pub zeros-kept : (z : List ℕ) (i : ℕ) (kept : Option Owed) (l : Local) → CoversZeros z l → CoversZeros z (keeps_beside i kept l)
zeros-kept z i kept l c = c

pub zeros-turned : (z : List ℕ) (l : Local) (i : ℕ) (owed : Owed) → CoversZeros z l → i < length l.threads → CoversZeros z (changes i (turns owed) l)
zeros-turned z l i owed c lt o h =
    find_same (λ w. is_zero_send (thread (changes i (turns owed) l) w.block).send) (λ w. is_zero_send (thread l w.block).send) (plain.list_of l.lists o)
    (λ w there. get_cases (λ t. is_zero_send t.send ≡ is_zero_send (thread l w.block).send) (turns owed) l.threads i w.block lt (λ same. turned_zero owed (thread l i) ∙ ap (λ k. is_zero_send (thread l k).send) same) (λ ne. refl)) ∙ c o h

pub zeros-relisted : (z : List ℕ) (l : Local) (k : Plain) → k.waiting ≡ l.lists.waiting → CoversZeros z l → CoversZeros z (record l { lists = k })
zeros-relisted z l k e c o h = ap (λ ess. first_zero l (slice_index_or ess o [])) e ∙ c o h

pub zeros-changed : (z : List ℕ) (l : Local) (i : ℕ) (f : Thread → Thread) → CoversZeros z l → i < length l.threads → (plain.is_queued l.lists i ≡ false) ⊎ ((f (thread l i)).send ≡ (thread l i).send) → CoversZeros z (changes i f l)
zeros-changed z l i f c lt kept o h =
    find_same (λ w. is_zero_send (thread (changes i f l) w.block).send) (λ w. is_zero_send (thread l w.block).send) (plain.list_of l.lists o)
    (λ w there. ap is_zero_send (send_same i w.block f l lt kept (is_somewhere (λ (v : plain.Waiting). w.block == v.block) l.lists.waiting o there))) ∙ c o h

pub zeros-comes : (z : List ℕ) (l : Local) (i : ℕ) (f : Thread → Thread) → CoversZeros z l → i < length l.threads → (plain.is_queued l.lists i ≡ false) ⊎ ((f (thread l i)).send ≡ (thread l i).send) → CoversZeros z (comes_to i f l)
zeros-comes z l i f c lt kept = zeros-changed z l i f c lt kept

-- A send is queued, and its receiver is in where it may not wait at all.
pub zeros-queued : (z : List ℕ) (l : Local) (r : ℕ) (w : plain.Waiting) → CoversZeros z l → (is_zero_send (thread l w.block).send ≡ true → has z r ≡ true) → CoversZeros z (relists (plain.queued r w) l)
zeros-queued z l r w c there o h = by (cases_eq r o)
  where
    none : (b : Bool) → is_zero_send (thread l w.block).send ≡ b → has z r ≡ false → is_zero_send (thread l w.block).send ≡ false
    none false e out = e
    none true e out = let wrong : true ≡ false = sym (there e) ∙ out in cc

    at : has z r ≡ false → first_zero l (plain.list_of (plain.queued r w l.lists) r) ≡ None
    at out =
        get_at (λ ws. first_zero l ws ≡ None) (λ ws. ws ++ w ∷ []) l.lists.waiting r [] (c r out)
        (find-push (λ (v : plain.Waiting). is_zero_send (thread l v.block).send) (plain.list_of l.lists r) w (c r out) (none (is_zero_send (thread l w.block).send) refl out))

    by : (r ≡ o) ⊎ (r ≡ o → ⊥) → first_zero l (plain.list_of (plain.queued r w l.lists) o) ≡ None
    by (inl same) = subst (λ k. has z k ≡ false → first_zero l (plain.list_of (plain.queued r w l.lists) k) ≡ None) same at h
    by (inr ne) = ap (first_zero l) (get_apart (λ ws. ws ++ w ∷ []) l.lists.waiting r o [] ne) ∙ c o h

pub zeros-unqueued : (z : List ℕ) (l : Local) (i : ℕ) → CoversZeros z l → CoversZeros z (relists (plain.unqueued i) l)
zeros-unqueued z l i c o h =
    ap (first_zero l) (get-map (filter (λ (w : plain.Waiting). not (i == w.block))) l.lists.waiting o refl)
    ∙ find-filter (λ (w : plain.Waiting). is_zero_send (thread l w.block).send) (λ (w : plain.Waiting). not (i == w.block)) (plain.list_of l.lists o) (c o h)
