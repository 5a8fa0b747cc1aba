-- A processor where nothing has happened.
use Rattle.std.proofs.Common.{◌≡◌, ℕ, zero, suc, ◌+◌, ◌<◌, ◌≤◌, Bool, true, false, cond, Option, None, is_some, List, [], ◌∷◌, ◌++◌, map, filter, length, refl, ap, sym, ◌∙◌, subst, take, arith}
use Rattle.std.specs.Prelude.{slice_index_or, replicate, ◌==◌, ◌||◌}
use Rattle.std.specs.List.{list_any, range_with_len}
use Rattle.std.proofs.lemmas.Bool.{eqb-true}
use Rattle.std.proofs.lemmas.List.{map_push}
use Rattle.l4_model.specs.Machine.{Declaration, Machine}
use Rattle.l4_model.specs.World.{Thread, Owed, opening_thread}
use Rattle.l4_core_model.specs.Plain as plain
use Rattle.l4_core_model.specs.Local.{Local, declared, undeclared, is_own, opening_local}
use Rattle.l4_core_model.specs.Runs.{IsMachine}
use Rattle.l4_thread.specs.Inner.Parts.{Block}
use Rattle.tcb_arena.specs.Inner.Blocks.{empty_lists}
use Rattle.l4_core.specs.Inner.Opening.{lists_below, opening_lists}
use Rattle.l4_core_model.specs.Mail.{is_ordering}
use Rattle.l4_core.specs.Inner.Settled.{IsSettled, IsSent}
use Rattle.l4_core.specs.Inner.Parts.{threads_of, ids_of, local_of, IsKept}
use Rattle.l4_core.proofs.Settling.{any-filter}

pub replicate-push : {A : Type 0} (n : ℕ) (x : A) → replicate n x ++ x ∷ [] ≡ replicate (n + 1) x
replicate-push n x = let e : suc n ≡ n + 1 = omega arith in by n ∙ ap (λ k. replicate k x) e
  where
    by : (n : ℕ) → replicate n x ++ x ∷ [] ≡ replicate (suc n) x
    by zero = refl
    by (suc n) = ap (λ xs. x ∷ xs) (by n)

range-push_at : (s n : ℕ) → range_with_len s n ++ (s + n) ∷ [] ≡ range_with_len s (suc n)
range-push_at s zero = let e : s + 0 ≡ s = omega arith in ap (λ k. k ∷ []) e
range-push_at s (suc n) = let e : s + suc n ≡ s + 1 + n = omega arith in ap (λ xs. s ∷ xs) (ap (λ k. range_with_len (s + 1) n ++ k ∷ []) e ∙ range-push_at (s + 1) n)

pub range-push : (n : ℕ) → range_with_len 0 n ++ n ∷ [] ≡ range_with_len 0 (n + 1)
range-push n =
    let e : n ≡ 0 + n = omega arith in
    let f : suc n ≡ n + 1 = omega arith in
    ap (λ k. range_with_len 0 n ++ k ∷ []) e ∙ range-push_at 0 n ∙ ap (range_with_len 0) f

in_range : (s n b : ℕ) → list_any (λ k. b == k) (range_with_len s n) ≡ true → b < s + n
in_range s zero b e = cc
in_range s (suc n) b e = by (b == s) (eqb-true b s) e (in_range (s + 1) n b)
  where
    by : (t : Bool) → (t ≡ true → b ≡ s) → (t || list_any (λ k. b == k) (range_with_len (s + 1) n)) ≡ true → (list_any (λ k. b == k) (range_with_len (s + 1) n) ≡ true → b < s + 1 + n) → b < s + suc n
    by true f e g = let same = f refl in omega arith
    by false f e g = let h = g e in omega arith

filter-push : {A : Type 0} (p : A → Bool) (xs : List A) (x : A) → filter p (xs ++ x ∷ []) ≡ cond (p x) (filter p xs ++ x ∷ []) (filter p xs)
filter-push p [] x = refl
filter-push p (y ∷ ys) x = by (p y) (p x) (filter-push p ys x)
  where
    by : (b c : Bool) → filter p (ys ++ x ∷ []) ≡ cond c (filter p ys ++ x ∷ []) (filter p ys) → cond b (y ∷ filter p (ys ++ x ∷ [])) (filter p (ys ++ x ∷ [])) ≡ cond c (cond b (y ∷ filter p ys) (filter p ys) ++ x ∷ []) (cond b (y ∷ filter p ys) (filter p ys))
    by true true e = ap (λ zs. y ∷ zs) e
    by true false e = ap (λ zs. y ∷ zs) e
    by false true e = e
    by false false e = e

-- One more place
below_more : (m : Machine) (cpu n : ℕ) (b : Bool) → is_own m cpu n ≡ b → filter (is_own m cpu) (range_with_len 0 (n + 1)) ≡ cond b (filter (is_own m cpu) (range_with_len 0 n) ++ n ∷ []) (filter (is_own m cpu) (range_with_len 0 n))
below_more m cpu n b e =
    ap (filter (is_own m cpu)) (sym (range-push n)) ∙ filter-push (is_own m cpu) (range_with_len 0 n) n
    ∙ ap (λ c. cond c (filter (is_own m cpu) (range_with_len 0 n) ++ n ∷ []) (filter (is_own m cpu) (range_with_len 0 n))) e

pub own_more : (m : Machine) (cpu n : ℕ) (s u : plain.Plain) → s ≡ lists_below m cpu n → is_own m cpu n ≡ true → u ≡ plain.made_ready n s → u ≡ lists_below m cpu (n + 1)
own_more m cpu n s u e own f = f ∙ ap (plain.made_ready n) e ∙ ap (λ r. record (lists_below m cpu n) { ready = r }) (sym (below_more m cpu n true own))

pub other_more : (m : Machine) (cpu n : ℕ) (s : plain.Plain) → s ≡ lists_below m cpu n → is_own m cpu n ≡ false → s ≡ lists_below m cpu (n + 1)
other_more m cpu n s e away = e ∙ ap (λ r. record (lists_below m cpu n) { ready = r }) (sym (below_more m cpu n false away))

pub not_yet : (m : Machine) (cpu n : ℕ) → list_any (λ k. n == k) (filter (is_own m cpu) (range_with_len 0 n)) ≡ false
not_yet m cpu n = by (list_any (λ k. n == k) (filter (is_own m cpu) (range_with_len 0 n))) (λ e. in_range 0 n n (any-filter (λ k. n == k) (is_own m cpu) (range_with_len 0 n) e))
  where
    by : (b : Bool) → (b ≡ true → n < 0 + n) → b ≡ false
    by true f = absurd (let h = f refl in omega arith)
    by false f = refl

pub replicate-map : {A B : Type 0} (x : B) (ys : List A) → replicate (length ys) x ≡ map (λ y. x) ys
replicate-map x [] = refl
replicate-map x (y ∷ ys) = ap (λ xs. x ∷ xs) (replicate-map x ys)

pub none_below : (m : Machine) (cpu n : ℕ) (s : plain.Plain) → n ≡ length m.threads → s ≡ empty_lists n → s ≡ lists_below m cpu 0
none_below m cpu n s e f = f ∙ ap empty_lists e ∙ ap (λ ws. record { waiting = ws; ready = []; armed = [] }) (replicate-map [] m.threads)

pub length-map : {A B : Type 0} (f : A → B) (xs : List A) → length (map f xs) ≡ length xs
length-map f [] = refl
length-map f (x ∷ xs) = ap suc (length-map f xs)

pub get-map : {A B : Type 0} (x : B) (ys : List A) (i : ℕ) → slice_index_or (map (λ y. x) ys) i x ≡ x
get-map x [] i = refl
get-map x (y ∷ ys) zero = refl
get-map x (y ∷ ys) (suc i) = get-map x ys i

pub none_queued : {A : Type 0} (ys : List A) (b : ℕ) → list_any (list_any (λ (w : plain.Waiting). b == w.block)) (map (λ y. []) ys) ≡ false
none_queued [] b = refl
none_queued (y ∷ ys) b = none_queued ys b

owned : (m : Machine) (cpu i : ℕ) (ns : List ℕ) → list_any (λ k. i == k) (filter (is_own m cpu) ns) ≡ true → is_own m cpu i ≡ true
owned m cpu i [] e = cc
owned m cpu i (n ∷ ns) e = by (is_own m cpu n) refl (owned m cpu i ns) e
  where
    first : (t : Bool) → (i == n) ≡ t → is_own m cpu n ≡ true → (list_any (λ k. i == k) (filter (is_own m cpu) ns) ≡ true → is_own m cpu i ≡ true) → (t || list_any (λ k. i == k) (filter (is_own m cpu) ns)) ≡ true → is_own m cpu i ≡ true
    first true at own f h = let same = eqb-true i n at in subst (λ k. is_own m cpu k ≡ true) (sym same) own
    first false at own f h = f h

    by : (b : Bool) → is_own m cpu n ≡ b → (list_any (λ k. i == k) (filter (is_own m cpu) ns) ≡ true → is_own m cpu i ≡ true) → list_any (λ k. i == k) (cond b (n ∷ filter (is_own m cpu) ns) (filter (is_own m cpu) ns)) ≡ true → is_own m cpu i ≡ true
    by true own f h = first (i == n) refl own f h
    by false own f h = f h

opened-settled : (m : Machine) (cpu : ℕ) → IsSettled m cpu (opening_local m cpu)
opened-settled m cpu = record {
  threads = length-map (λ d. opening_thread) m.threads;
  lists = length-map (λ d. []) m.threads;
  told = length-map (λ d. 0) m.threads;
  owed = length-map (λ d. None) m.threads;
  known = λ i. let none = get-map {B = ℕ} 0 m.threads i in omega (arith, none);
  sent = λ i. subst (λ (t : Thread). IsSent (declared m i).id t.send t.context.begun) (sym (get-map opening_thread m.threads i)) tt;
  sending = λ i own e. let none = ap (λ (t : Thread). is_some t.send) (get-map opening_thread m.threads i) in let wrong : true ≡ false = sym e ∙ none in cc;
  begun = λ i own. subst (λ (t : Thread). t.context.begun ≤ 0) (sym (get-map opening_thread m.threads i)) (omega arith);
  ordering = λ i own e. let none = ap (λ (t : Thread). is_ordering t.phase) (get-map opening_thread m.threads i) in let wrong : true ≡ false = sym e ∙ none in cc;
  queued = λ i e. let none = none_queued m.threads i in absurd (differ _ none e);
  ready = λ i e. record {
    own = record { within = let lt = in_range 0 (length m.threads) i (any-filter (λ k. i == k) (is_own m cpu) (range_with_len 0 (length m.threads)) e) in omega arith; own = owned m cpu i (range_with_len 0 (length m.threads)) e };
    phase = ap (λ (t : Thread). t.phase) (get-map opening_thread m.threads i);
  };
  armed = λ i e. cc;
  near = tt;
  clock = omega arith;
}
  where
    differ : (b : Bool) → b ≡ false → b ≡ true → ⊥
    differ true e f = cc
    differ false e f = cc

pub opened-is : (m : Machine) (cpu : ℕ) (bs : List Block) (lists : plain.Plain) (told : List ℕ) (owed : List (Option Owed)) → threads_of bs ≡ replicate (length m.threads) opening_thread → lists ≡ opening_lists m cpu → told ≡ map (λ d. 0) m.threads → owed ≡ map (λ d. None) m.threads →
    local_of bs lists told owed 0 0 ≡ opening_local m cpu
opened-is m cpu bs lists told owed threads is untold free =
    let put : List Thread → plain.Plain → List ℕ → List (Option Owed) → Local = λ us s ns os. record { threads = us; lists = s; told = ns; owed = os; clock = 0; stamp = 0 } in
    ap (λ us. put us lists told owed) (threads ∙ replicate-map opening_thread m.threads) ∙ ap (λ s. put (map (λ d. opening_thread) m.threads) s told owed) is
    ∙ ap (λ ns. put (map (λ d. opening_thread) m.threads) (opening_lists m cpu) ns owed) untold ∙ ap (λ os. put (map (λ d. opening_thread) m.threads) (opening_lists m cpu) (map (λ d. 0) m.threads) os) free

pub opened-kept : (m : Machine) (cpu : ℕ) (bs : List Block) (lists : plain.Plain) (told : List ℕ) (owed : List (Option Owed)) → IsMachine m → cpu < m.cpus → length m.threads ≤ 1024 → threads_of bs ≡ replicate (length m.threads) opening_thread → ids_of bs ≡ map (λ d. d.id) m.threads →
    lists ≡ opening_lists m cpu → told ≡ map (λ d. 0) m.threads → owed ≡ map (λ d. None) m.threads → IsKept m cpu bs lists told owed 0 0
opened-kept m cpu bs lists told owed machine below few threads ids is untold free = record {
  core = record { machine = machine; processor = below; few = few; settled = subst (IsSettled m cpu) (sym (opened-is m cpu bs lists told owed threads is untold free)) (opened-settled m cpu) };
  ids = ids;
}

-- One more thread
pub threads_more : (n : ℕ) (bs cs : List Block) (b : Block) → threads_of bs ≡ replicate n opening_thread → cs ≡ bs ++ b ∷ [] → b.thread ≡ opening_thread → threads_of cs ≡ replicate (n + 1) opening_thread
threads_more n bs cs b e f g = ap threads_of f ∙ map_push (λ (x : Block). x.thread) bs b ∙ ap (λ vs. vs ++ b.thread ∷ []) e ∙ ap (λ v. replicate n opening_thread ++ v ∷ []) g ∙ replicate-push n opening_thread

take-push : (ds : List Declaration) (n : ℕ) → n < length ds → take (suc n) (map (λ d. d.id) ds) ≡ take n (map (λ d. d.id) ds) ++ (slice_index_or ds n undeclared).id ∷ []
take-push [] n lt = absurd (omega arith)
take-push (d ∷ ds) zero lt = refl
take-push (d ∷ ds) (suc n) lt = ap (λ xs. d.id ∷ xs) (take-push ds n (omega arith))

pub ids_more : (ds : List Declaration) (n : ℕ) (bs cs : List Block) (b : Block) → n < length ds → ids_of bs ≡ take n (map (λ d. d.id) ds) → cs ≡ bs ++ b ∷ [] → b.id ≡ (slice_index_or ds n undeclared).id → ids_of cs ≡ take (n + 1) (map (λ d. d.id) ds)
ids_more ds n bs cs b lt e f g = ap ids_of f ∙ map_push (λ (x : Block). x.id) bs b ∙ ap (λ vs. vs ++ b.id ∷ []) e ∙ ap (λ v. take n (map (λ d. d.id) ds) ++ v ∷ []) g ∙ sym (take-push ds n lt) ∙ (let next : suc n ≡ n + 1 = omega arith in ap (λ k. take k (map (λ d. d.id) ds)) next)

pub take-whole : (ds : List Declaration) → take (length ds) (map (λ d. d.id) ds) ≡ map (λ d. d.id) ds
take-whole [] = refl
take-whole (d ∷ ds) = ap (λ xs. d.id ∷ xs) (take-whole ds)
