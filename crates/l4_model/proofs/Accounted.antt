-- Each begun send is decided once, or is still undecided: a step that begins it makes it undecided, one that
-- decides it ends that, and no other step touches it.
use Rattle.std.proofs.Common.{subst, ◌≡◌, ℕ, zero, suc, ◌+◌, ◌<◌, ◌≤◌, Bool, true, false, cond, Option, Some, None, List, [], ◌∷◌, map, refl, ap, sym, ◌∙◌, arith, get_or}
use Rattle.std.proofs.lemmas.Bool.{eqb-true}
use Rattle.std.proofs.lemmas.Bool.Decides.{nat_tests}
use Rattle.std.proofs.lemmas.Option.{slice_get-get_or, slice_get-map}
use Rattle.std.proofs.lemmas.List.Sums.{sum_by-cons}
use Rattle.std.specs.Prelude.{slice_get, ◌*◌, nat_lt, ◌==◌, is_some}
use Rattle.std.specs.List.{count_by, cons_option}
use Rattle.std.specs.Option.{option_map}
use Rattle.l4_model.specs.Words.{GlobalId, Id}
use Rattle.l4_model.specs.Machine.{Machine, Declaration, place_of, is_declared}
use Rattle.l4_model.specs.World.{World, Send, Thread, changed, opening, opening_thread, Name}
use Rattle.l4_model.specs.Steps.{Step, Begin, Deliver, Drop, next, OfSend, Failed}
use Rattle.l4_model.specs.Conditions.{Pending, undecided, found_at, ◌>>=◌, ◌>>◌}
use Rattle.l4_model.specs.History.{run, reached, waiting, begun_name}
use Rattle.l4_model.specs.Laws.{same_name, names, delivered_name, refused_name, dropped_name, begins_of, deliveries_of, refusals_of, drops_of}
use Rattle.l4_model.proofs.Chains.{bind_then, some_is, get-changed_same, get-changed_other}
use Rattle.l4_model.proofs.Sends.{lasting, Status, status, statuses, with_begun, with_decided, Begins, Decides, Keeps, Effect, effect}
use Rattle.l4_model.proofs.Sound.{AreSound, ready_has_none, opening_sound, step_sound}
use Rattle.l4_model.proofs.Places.{same_name_is, same_name_refl, place_id, one_place}

-- 1 where the k-th send is undecided
abbrev pub pending : ℕ → Option Status → ℕ
pending k None = 0
pending k (Some x) = cond (x.begun == k) (cond (is_some x.send) 1 0) 0

abbrev pub pending_of : Machine → World → Name → ℕ
pending_of m w s = pending s.k (place_of m s.thread >>= slice_get (statuses w))

-- in how many of these steps a send is decided
abbrev pub decisions : Name → Step → ℕ
decisions s step = cond (names s (delivered_name step)) 1 0 + cond (names s (refused_name step)) 1 0 + cond (names s (dropped_name step)) 1 0

abbrev pub beginnings : Name → Step → ℕ
beginnings s step = cond (names s (begun_name step)) 1 0

kept_pending : (m : Machine) (w v : World) (s : Name) → Keeps w v → pending_of m w s ≡ pending_of m v s
kept_pending m w v s e = sym (ap (λ xs. pending s.k (place_of m s.thread >>= slice_get xs)) e)

-- an element that did not change
elsewhere : (k : ℕ) (f : Status → Status) (xs ys : List Status) (i j : ℕ) → ys ≡ changed f xs i → (i ≡ j → ⊥) → pending k (slice_get xs j) ≡ pending k (slice_get ys j)
elsewhere k f xs ys i j e ne = rw (e, get-changed_other f xs i j ne)

pub idle : (m : Machine) (w v : World) (s : Name) (b : Begins m w v s) → AreSound m w → b.old.send ≡ None
idle m w v s b sound =
    let now = b.sender.now in
    ap (λ (x : Status). x.send) b.old_is
    ∙ ap (option_map lasting) (ready_has_none now.phase now.send now.order b.ready (sound b.sender.at b.sender.declared now b.known.declared b.known.now).suits).0

-- what another name sees of a change at one place
other_pending : (m : Machine) (w v : World) (s t : Name) (f : Status → Status) (i : ℕ) (old : Status) → same_name s t ≡ false →
    place_of m t.thread ≡ Some i → slice_get (statuses w) i ≡ Some old → statuses v ≡ changed f (statuses w) i →
    ((s.k ≡ t.k → ⊥) → pending s.k (Some old) ≡ pending s.k (Some (f old))) → pending_of m w s ≡ pending_of m v s
other_pending m w v s t f i old other named was now keep = by (place_of m s.thread) refl
  where
    at_place : (j : ℕ) → place_of m s.thread ≡ Some j → (b : Bool) → (i == j) ≡ b → pending s.k (slice_get (statuses w) j) ≡ pending s.k (slice_get (statuses v) j)
    at_place j at true same =
        let i_is : i ≡ j = eqb-true i j same in
        let thread : s.thread ≡ t.thread = one_place m s.thread t.thread i (at ∙ ap Some (sym i_is)) named in
        let differ : s.k ≡ t.k → ⊥ = λ k.
        let one : s ≡ t = ap (λ x. record { thread = x; k = s.k }) thread ∙ ap (λ k. record { thread = t.thread; k = k }) k in
        let yes : same_name s t ≡ true = ap (λ x. same_name x t) one ∙ same_name_refl t in
        cc in
        let old_at : slice_get (statuses w) j ≡ Some old = ap (slice_get (statuses w)) (sym i_is) ∙ was in
        let new_at : slice_get (statuses v) j ≡ Some (f old) =
        ap (slice_get (statuses v)) (sym i_is) ∙ ap (λ xs. slice_get xs i) now ∙ get-changed_same f (statuses w) i ∙ ap (option_map f) was in
        ap (pending s.k) old_at ∙ keep differ ∙ sym (ap (pending s.k) new_at)
    at_place j at false apart =
        elsewhere s.k f (statuses w) (statuses v) i j now (λ same. absurd (different i j same apart))
      where
        different : (i j : ℕ) → i ≡ j → (i == j) ≡ false → ⊥
        different i j same apart = grind (arith, nat_tests)

    by : (o : Option ℕ) → place_of m s.thread ≡ o → pending s.k (o >>= slice_get (statuses w)) ≡ pending s.k (o >>= slice_get (statuses v))
    by None none = refl
    by (Some j) at = at_place j at (i == j) refl

-- what the name itself sees of it
own_pending : (m : Machine) (w v : World) (t : Name) (f : Status → Status) (i : ℕ) (old : Status) →
    place_of m t.thread ≡ Some i → slice_get (statuses w) i ≡ Some old → statuses v ≡ changed f (statuses w) i →
    (pending_of m w t ≡ pending t.k (Some old)) × (pending_of m v t ≡ pending t.k (Some (f old)))
own_pending m w v t f i old named was now = (
  ap (λ o. pending t.k (o >>= slice_get (statuses w))) named ∙ ap (pending t.k) was,
  ap (λ o. pending t.k (o >>= slice_get (statuses v))) named ∙ ap (λ xs. pending t.k (slice_get xs i)) now
      ∙ ap (pending t.k) (get-changed_same f (statuses w) i ∙ ap (option_map f) was),
)

cond_zero : (c : Bool) → ◌≡◌ {A = ℕ} (cond c 0 0) 0
cond_zero true = refl
cond_zero false = refl

begun_pending : (m : Machine) (w v : World) (s t : Name) → Begins m w v t → AreSound m w → cond (same_name s t) 1 0 + pending_of m w s ≡ pending_of m v s
begun_pending m w v s t b sound = by (same_name s t) refl
  where
    was_none : (k : ℕ) (x : Status) → x.send ≡ None → pending k (Some x) ≡ 0
    was_none k x h = rw h (cond_zero (x.begun == k))

    not_last : (k n : ℕ) (x : Status) → n ≡ x.begun + 1 → (k ≡ n → ⊥) → pending k (Some (with_begun b.send x)) ≡ 0
    not_last k n x is ne = let no : (x.begun + 1 == k) ≡ false = grind (arith, nat_tests) in rw no refl

    is_last : (n : ℕ) (x : Status) → n ≡ x.begun + 1 → pending n (Some (with_begun b.send x)) ≡ 1
    is_last n x is = let yes : (x.begun + 1 == n) ≡ true = grind (arith, nat_tests) in rw yes refl

    by : (c : Bool) → same_name s t ≡ c → cond c 1 0 + pending_of m w s ≡ pending_of m v s
    by true same =
        let own = own_pending m w v t (with_begun b.send) b.place b.old b.named b.was b.now in
        let zero_before = was_none t.k b.old (idle m w v t b sound) in
        let one_after = is_last t.k b.old b.next_k in
        subst (λ x. 1 + pending_of m w x ≡ pending_of m v x) (sym (same_name_is s t same)) (rw (own.0, own.1, zero_before, one_after))
    by false other =
        let same = other_pending m w v s t (with_begun b.send) b.place b.old other b.named b.was b.now
        (λ ne. was_none s.k b.old (idle m w v t b sound) ∙ sym (not_last s.k t.k b.old b.next_k ne)) in
        omega (arith, same)

decided_pending : (m : Machine) (w v : World) (s t : Name) → Decides m w v t → pending_of m w s ≡ cond (same_name s t) 1 0 + pending_of m v s
decided_pending m w v s t d = by (same_name s t) refl
  where
    now_none : (k : ℕ) (x : Status) → pending k (Some (with_decided x)) ≡ 0
    now_none k x = cond_zero (x.begun == k)

    not_last : (k n : ℕ) (x : Status) → x.begun ≡ n → (k ≡ n → ⊥) → pending k (Some x) ≡ 0
    not_last k n x is ne = let no : (x.begun == k) ≡ false = grind (arith, nat_tests) in rw no refl

    was_last : (n : ℕ) (x : Status) → x.begun ≡ n → x.send ≡ Some d.send → pending n (Some x) ≡ 1
    was_last n x is has = let yes : (x.begun == n) ≡ true = grind (arith, nat_tests) in rw (yes, has) refl

    by : (c : Bool) → same_name s t ≡ c → pending_of m w s ≡ cond c 1 0 + pending_of m v s
    by true same =
        let own = own_pending m w v t with_decided d.place d.old d.named d.was d.now in
        let one_before = was_last t.k d.old d.last d.undecided in
        let zero_after = now_none t.k d.old in
        subst (λ x. pending_of m w x ≡ 1 + pending_of m v x) (sym (same_name_is s t same)) (rw (own.0, own.1, one_before, zero_after))
    by false other =
        let same = other_pending m w v s t with_decided d.place d.old other d.named d.was d.now
        (λ ne. not_last s.k t.k d.old d.last ne ∙ sym (now_none s.k d.old)) in
        omega (arith, same)

-- the account of one step
pub step_balance : (m : Machine) (w v : World) (s : Name) (step : Step) → Effect m w v step → AreSound m w →
    beginnings s step + pending_of m w s ≡ decisions s step + pending_of m v s
step_balance m w v s (Begin t) e sound = omega (arith, begun_pending m w v s t e sound)
step_balance m w v s (Deliver t receiver shown actual tag words) e sound = omega (arith, decided_pending m w v s t e)
step_balance m w v s (OfSend (Failed why) t) e sound = omega (arith, decided_pending m w v s t e)
step_balance m w v s (Drop t) e sound = omega (arith, decided_pending m w v s t e)
step_balance m w v s _ e sound = omega (arith, kept_pending m w v s e)

-- the account of a run
run_balance : (m : Machine) (s : Name) (h : List Step) (w v : World) → run m w h ≡ Some v → AreSound m w →
    begins_of s h + pending_of m w s ≡ deliveries_of s h + refusals_of s h + drops_of s h + pending_of m v s
run_balance m s [] w v r sound = omega (arith, kept_pending m w v s (ap statuses (sym (some_is w v r))))
run_balance m s (step ∷ h) w v r sound =
    bind_then (next m w step) (λ u. run m u h) v r λ u is rest.
    let first = step_balance m w u s step (effect m w u step is) sound in
    let others = run_balance m s h u v rest (step_sound m w u step is sound) in
    let begun : begins_of s (step ∷ h) ≡ cond (names s (begun_name step)) 1 0 + begins_of s h = sum_by-cons (λ x. cond (names s (begun_name x)) 1 0) step h in
    let delivered : deliveries_of s (step ∷ h) ≡ cond (names s (delivered_name step)) 1 0 + deliveries_of s h = sum_by-cons (λ x. cond (names s (delivered_name x)) 1 0) step h in
    let refused : refusals_of s (step ∷ h) ≡ cond (names s (refused_name step)) 1 0 + refusals_of s h = sum_by-cons (λ x. cond (names s (refused_name x)) 1 0) step h in
    let dropped : drops_of s (step ∷ h) ≡ cond (names s (dropped_name step)) 1 0 + drops_of s h = sum_by-cons (λ x. cond (names s (dropped_name x)) 1 0) step h in
    omega arith

-- at the opening nothing is undecided
pub opening_pending : (m : Machine) (s : Name) → pending_of m (opening m) s ≡ 0
opening_pending m s = by (place_of m s.thread)
  where
    none_at : (ds : List Declaration) (j : ℕ) → pending s.k (slice_get (map status (map (λ d. opening_thread) ds)) j) ≡ 0
    none_at [] j = refl
    none_at (d ∷ ds) zero = cond_zero (0 == s.k)
    none_at (d ∷ ds) (suc j) = none_at ds j

    by : (o : Option ℕ) → pending s.k (o >>= slice_get (statuses (opening m))) ≡ 0
    by None = refl
    by (Some j) = none_at m.threads j

-- a send is undecided where it is pending
pub pending_is : (m : Machine) (w : World) (s : Name) → cond (is_some (undecided m w s)) 1 0 ≡ pending_of m w s
pending_is m w s = by (place_of m s.thread) refl
  where
    chained : (b : Bool) (o : Option Send) (f : Send → Pending) → ◌≡◌ {A = ℕ} (cond (is_some (b >> (o >>= λ send. Some (f send)))) 1 0) (cond b (cond (is_some (option_map lasting o)) 1 0) 0)
    chained true None f = refl
    chained true (Some send) f = refl
    chained false o f = refl

    at_found : (i : ℕ) (d : Declaration) → slice_get m.threads i ≡ Some d → (o : Option Thread) → slice_get w.threads i ≡ o →
        cond (is_some {T = Pending} (found_at m w i >>= λ t. (t.now.context.begun == s.k) >> (t.now.send >>= λ send. Some (record { sender = t; send = send })))) 1 0 ≡ pending s.k (slice_get (statuses w) i)
    at_found i d has None now = rw (slice_get-map status w.threads i, has, now) refl
    at_found i d has (Some x) now = rw (slice_get-map status w.threads i, has, now) (chained (x.context.begun == s.k) x.send _)

    by : (o : Option ℕ) → place_of m s.thread ≡ o → cond (is_some (undecided m w s)) 1 0 ≡ pending s.k (o >>= slice_get (statuses w))
    by None none = rw none refl
    by (Some i) at =
        let dummy : Declaration = record { id = s.thread; cpu = 0; space = 0; script = [] } in
        let has = slice_get-get_or m.threads i dummy (place_id m s.thread i at dummy).0 in
        rw at (at_found i (get_or m.threads i dummy) has (slice_get w.threads i) refl)

-- what is listed as waiting
count : Name → List (Name × Id) → ℕ
count s ps = count_by (λ p. same_name s p.0) ps

count_cons : (s t : Name) (o : Option Pending) (rest : List (Name × Id)) → count s (cons_option (o >>= λ p. Some (t, p.send.to)) rest) ≡ cond (same_name s t) (cond (is_some o) 1 0) 0 + count s rest
unfolding count
count_cons s t None rest = let z = cond_zero (same_name s t) in omega (arith, z)
count_cons s t (Some p) rest = sum_by-cons (λ q. cond (same_name s q.0) 1 0) (t, p.send.to) rest

count_step : (m : Machine) (w : World) (s : Name) (o : Option Name) (rest : List (Name × Id)) →
    count s (cons_option (o >>= λ t. undecided m w t >>= λ p. Some (t, p.send.to)) rest) ≡ cond (names s o) 1 0 * cond (is_some (undecided m w s)) 1 0 + count s rest
count_step m w s None rest = omega arith
count_step m w s (Some t) rest = count_cons s t (undecided m w t) rest ∙ ap (λ n. n + count s rest) (by (same_name s t) refl)
  where
    by : (b : Bool) → same_name s t ≡ b → cond b (cond (is_some (undecided m w t)) 1 0) 0 ≡ cond b 1 0 * cond (is_some (undecided m w s)) 1 0
    by true same = ap (λ x. cond (is_some (undecided m w x)) 1 0) (sym (same_name_is s t same)) ∙ omega arith
    by false actual = omega arith

waiting_count : (m : Machine) (w : World) (s : Name) (h : List Step) →
    count s (waiting m w h) ≡ begins_of s h * cond (is_some (undecided m w s)) 1 0
waiting_count m w s [] = let nothing : count s [] ≡ 0 = unfold count in refl in omega (arith, nothing)
waiting_count m w s (step ∷ h) =
    let begun : begins_of s (step ∷ h) ≡ cond (names s (begun_name step)) 1 0 + begins_of s h = sum_by-cons (λ x. cond (names s (begun_name x)) 1 0) step h in
    let first = count_step m w s (begun_name step) (waiting m w h) in
    let others = waiting_count m w s h in
    first ∙ (rw (others, begun) (omega arith))

-- a send begins once: 1 as long as it has not begun
abbrev unbegun : ℕ → Option Status → ℕ
unbegun k None = 0
unbegun k (Some x) = cond (nat_lt x.begun k) 1 0

abbrev unbegun_of : Machine → World → Name → ℕ
unbegun_of m w s = unbegun s.k (place_of m s.thread >>= slice_get (statuses w))

-- a measure of a name's thread that no change of this kind raises
falls : (g : Option Status → ℕ) (f : Status → Status) → ((o : Option Status) → g (option_map f o) ≤ g o) →
    (m : Machine) (w v : World) (t : GlobalId) (i : ℕ) → statuses v ≡ changed f (statuses w) i →
    g (place_of m t >>= slice_get (statuses v)) ≤ g (place_of m t >>= slice_get (statuses w))
falls g f h m w v t i e = by (place_of m t)
  where
    different : (i j : ℕ) → i ≡ j → (i == j) ≡ false → ⊥
    different i j same apart = grind (arith, nat_tests)

    at_place : (j : ℕ) (b : Bool) → (i == j) ≡ b → g (slice_get (statuses v) j) ≤ g (slice_get (statuses w) j)
    at_place j true same =
        let i_is : i ≡ j = eqb-true i j same in
        rw (e, ← i_is, get-changed_same f (statuses w) i) (h (slice_get (statuses w) i))
    at_place j false apart = rw (e, get-changed_other f (statuses w) i j (λ same. different i j same apart)) (omega arith)

    by : (o : Option ℕ) → g (o >>= slice_get (statuses v)) ≤ g (o >>= slice_get (statuses w))
    by None = omega arith
    by (Some j) = at_place j (i == j) refl

unbegun-begun : (k : ℕ) (send : Send) (o : Option Status) → unbegun k (option_map (with_begun send) o) ≤ unbegun k o
unbegun-begun k send None = omega arith
unbegun-begun k send (Some x) = grind (arith, nat_tests)

unbegun-decided : (k : ℕ) (o : Option Status) → unbegun k (option_map with_decided o) ≤ unbegun k o
unbegun-decided k None = omega arith
unbegun-decided k (Some x) = omega arith

unbegun_one : (k : ℕ) (o : Option Status) → unbegun k o ≤ 1
unbegun_one k None = omega arith
unbegun_one k (Some x) = grind (arith, nat_tests)

kept_unbegun : (m : Machine) (w v : World) (s : Name) → Keeps w v → unbegun_of m v s ≤ unbegun_of m w s
kept_unbegun m w v s e = let same : unbegun_of m v s ≡ unbegun_of m w s = ap (λ xs. unbegun s.k (place_of m s.thread >>= slice_get xs)) e in omega arith

decided_unbegun : (m : Machine) (w v : World) (s t : Name) → Decides m w v t → unbegun_of m v s ≤ unbegun_of m w s
decided_unbegun m w v s t d = falls (unbegun s.k) with_decided (unbegun-decided s.k) m w v s.thread d.place d.now

begun_unbegun : (m : Machine) (w v : World) (s t : Name) → Begins m w v t → cond (same_name s t) 1 0 + unbegun_of m v s ≤ unbegun_of m w s
begun_unbegun m w v s t b = by (same_name s t) refl
  where
    before : (n : ℕ) (x : Status) → n ≡ x.begun + 1 → unbegun n (Some x) ≡ 1
    before n x is = let yes : nat_lt x.begun n ≡ true = grind (arith, nat_tests) in rw yes refl

    after : (n : ℕ) (x : Status) → n ≡ x.begun + 1 → unbegun n (Some (with_begun b.send x)) ≡ 0
    after n x is = let nope : nat_lt (x.begun + 1) n ≡ false = grind (arith, nat_tests) in rw nope refl

    by : (c : Bool) → same_name s t ≡ c → cond c 1 0 + unbegun_of m v s ≤ unbegun_of m w s
    by true same =
        let one : unbegun_of m w t ≡ 1 = ap (λ o. unbegun t.k (o >>= slice_get (statuses w))) b.named ∙ ap (unbegun t.k) b.was ∙ before t.k b.old b.next_k in
        let none : unbegun_of m v t ≡ 0 =
        ap (λ o. unbegun t.k (o >>= slice_get (statuses v))) b.named ∙ ap (λ xs. unbegun t.k (slice_get xs b.place)) b.now
        ∙ ap (unbegun t.k) (get-changed_same (with_begun b.send) (statuses w) b.place ∙ ap (option_map (with_begun b.send)) b.was) ∙ after t.k b.old b.next_k in
        subst (λ x. 1 + unbegun_of m v x ≤ unbegun_of m w x) (sym (same_name_is s t same)) (omega arith)
    by false actual = let h = falls (unbegun s.k) (with_begun b.send) (unbegun-begun s.k b.send) m w v s.thread b.place b.now in omega arith

step_unbegun : (m : Machine) (w v : World) (s : Name) (step : Step) → Effect m w v step → beginnings s step + unbegun_of m v s ≤ unbegun_of m w s
step_unbegun m w v s (Begin t) e = begun_unbegun m w v s t e
step_unbegun m w v s (Deliver t receiver shown actual tag words) e = omega (arith, decided_unbegun m w v s t e)
step_unbegun m w v s (OfSend (Failed why) t) e = omega (arith, decided_unbegun m w v s t e)
step_unbegun m w v s (Drop t) e = omega (arith, decided_unbegun m w v s t e)
step_unbegun m w v s _ e = omega (arith, kept_unbegun m w v s e)

pub run_unbegun : (m : Machine) (s : Name) (h : List Step) (w v : World) → run m w h ≡ Some v → begins_of s h + unbegun_of m v s ≤ unbegun_of m w s
run_unbegun m s [] w v r = let e = kept_unbegun m w v s (ap statuses (sym (some_is w v r))) in omega arith
run_unbegun m s (step ∷ h) w v r =
    bind_then (next m w step) (λ u. run m u h) v r λ u is rest.
    let first = step_unbegun m w u s step (effect m w u step is) in
    let others = run_unbegun m s h u v rest in
    let begun : begins_of s (step ∷ h) ≡ cond (names s (begun_name step)) 1 0 + begins_of s h = sum_by-cons (λ x. cond (names s (begun_name x)) 1 0) step h in
    omega arith

pub begins_once : (m : Machine) (h : List Step) (s : Name) (w : World) → reached m h ≡ Some w → begins_of s h ≤ 1
begins_once m h s w r =
    let all = run_unbegun m s h (opening m) w r in
    let one = unbegun_one s.k (place_of m s.thread >>= slice_get (statuses (opening m))) in
    omega arith

-- a thread that is not declared begins nothing
pub begun_declared : (m : Machine) (h : List Step) (s : Name) (w : World) → reached m h ≡ Some w → 0 < begins_of s h → is_declared m s.thread ≡ true
begun_declared m h s w r some = by (place_of m s.thread) refl
  where
    by : (o : Option ℕ) → place_of m s.thread ≡ o → is_some o ≡ true
    by None none =
        let nothing : unbegun_of m (opening m) s ≡ 0 = ap (λ o. unbegun s.k (o >>= slice_get (statuses (opening m)))) none in
        let all = run_unbegun m s h (opening m) w r in
        absurd (omega arith)
    by (Some i) at = refl

pub accounted : (m : Machine) (h : List Step) (s : Name) (w : World) → reached m h ≡ Some w →
    deliveries_of s h + refusals_of s h + drops_of s h + count_by (λ p. same_name s p.0) (waiting m w h) ≡ begins_of s h
unfolding count
accounted m h s w r =
    let balance = run_balance m s h (opening m) w r (opening_sound m) in
    let nothing = opening_pending m s in
    let pends = pending_is m w s in
    let once = begins_once m h s w r in
    let listed : count_by (λ p. same_name s p.0) (waiting m w h) ≡ begins_of s h * cond (is_some (undecided m w s)) 1 0 = waiting_count m w s h in
    by (begins_of s h) (cond (is_some (undecided m w s)) 1 0) once listed balance nothing pends
  where
    by : (n u : ℕ) → n ≤ 1 → count_by (λ p. same_name s p.0) (waiting m w h) ≡ n * u → n + pending_of m (opening m) s ≡ deliveries_of s h + refusals_of s h + drops_of s h + pending_of m w s →
        pending_of m (opening m) s ≡ 0 → u ≡ pending_of m w s → deliveries_of s h + refusals_of s h + drops_of s h + count_by (λ p. same_name s p.0) (waiting m w h) ≡ n
    by zero u le listed balance nothing pends = omega arith
    by (suc zero) u le listed balance nothing pends = omega arith
    by (suc (suc n)) u le listed balance nothing pends = absurd (omega arith)
