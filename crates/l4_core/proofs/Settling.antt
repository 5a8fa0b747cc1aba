-- A settled local state stays settled.
use Rattle.std.proofs.Common.{◌≡◌, ℕ, zero, suc, ◌+◌, ◌<◌, ◌≤◌, ◌^◌, Bool, true, false, cond, Option, Some, None, is_some, List, [], ◌∷◌, ◌++◌, map, filter, drop, length, refl, ap, sym, ◌∙◌, subst, inl, inr, ⊎_elim, ◌⊎◌, arith}
use Rattle.std.specs.Prelude.{slice_get, slice_index_or, ◌==◌, not, ◌||◌, nat_le, IfSome, IsSome}
use Rattle.std.specs.Option.{option_map}
use Rattle.std.specs.List.{list_any}
use Rattle.std.proofs.lemmas.Bool.{eqb-true}
use Rattle.l4_model.specs.Machine.{Machine}
use Rattle.l4_model.specs.World.{Phase, Ready, Sending, Receiving, Ordering, Ended, Deleted, Thread, Owed, changed, opening_thread, is_ready}
use Rattle.l4_core_model.specs.Plain as plain
use Rattle.l4_core.specs.Inner.PhaseLists.{enters_lists}
use Rattle.l4_core_model.specs.Local.{Local, declared, is_own, thread, changes, comes_to, keeps_beside, relists}
use Rattle.l4_core_model.specs.Acts.{split_receiver}
use Rattle.l4_core_model.specs.Mail.{is_ordering}
use Rattle.l4_core_model.specs.Turns.{has_told, clock_is}
use Rattle.tcb_arena.specs.Inner.Blocks.{without_due, is_ready as is_ready_in}
use Rattle.l4_core_model.proofs.Fit.{get_cases}
use Rattle.l4_core_model.proofs.Changed.{length-changed, get-changed}
use Rattle.l4_core_model.proofs.Lists.{all-map, all-filter, all-drop}
use Rattle.l4_core.specs.Inner.Settled.{IsSent, MaySend, IsOwn, IsWaiting, IsReadied, AreNear, IsSettled}

-- Lists

pub or_cases : (a b : Bool) → (a || b) ≡ true → (a ≡ true) ⊎ (b ≡ true)
or_cases true b e = inl refl
or_cases false b e = inr e

pub sooner : (a b : Bool) → a ≡ true → (a || b) ≡ true
sooner a b e = rw e

pub later : (a b : Bool) → b ≡ true → (a || b) ≡ true
later true b t = refl
later false b t = t

pub any-push : {A : Type 0} (p : A → Bool) (xs : List A) (y : A) → list_any p (xs ++ y ∷ []) ≡ true → (list_any p xs ≡ true) ⊎ (p y ≡ true)
any-push p [] y e = by (p y) e
  where
    by : (b : Bool) → (b || false) ≡ true → (false ≡ true) ⊎ (b ≡ true)
    by true e = inr refl
    by false e = cc
any-push p (x ∷ xs) y e = by (or_cases (p x) (list_any p (xs ++ y ∷ [])) e) (any-push p xs y)
  where
    by : (p x ≡ true) ⊎ (list_any p (xs ++ y ∷ []) ≡ true) → (list_any p (xs ++ y ∷ []) ≡ true → (list_any p xs ≡ true) ⊎ (p y ≡ true)) →
        ((p x || list_any p xs) ≡ true) ⊎ (p y ≡ true)
    by (inl h) f = inl (rw h)
    by (inr h) f = ⊎_elim (λ t. inl (later (p x) (list_any p xs) t)) (λ t. inr t) (f h)

pub any-drop : {A : Type 0} (p : A → Bool) (xs : List A) → list_any p (drop 1 xs) ≡ true → list_any p xs ≡ true
any-drop p [] e = e
any-drop p (x ∷ xs) e = by (p x)
  where
    by : (a : Bool) → (a || list_any p xs) ≡ true
    by true = refl
    by false = e

-- A filter takes no element in.
pub any-filter : {A : Type 0} (p q : A → Bool) (xs : List A) → list_any p (filter q xs) ≡ true → list_any p xs ≡ true
any-filter p q [] e = e
any-filter p q (x ∷ xs) e = by (q x) (any-filter p q xs) e
  where
    by : (b : Bool) → (list_any p (filter q xs) ≡ true → list_any p xs ≡ true) → list_any p (cond b (x ∷ filter q xs) (filter q xs)) ≡ true → (p x || list_any p xs) ≡ true
    by true f e = ⊎_elim (λ h. rw h refl) (λ h. later (p x) (list_any p xs) (f h)) (or_cases (p x) (list_any p (filter q xs)) e)
    by false f e = later (p x) (list_any p xs) (f e)

-- What it takes out is in it no more.
pub none-filter : {A : Type 0} (p : A → Bool) (xs : List A) → list_any p (filter (λ x. not (p x)) xs) ≡ false
none-filter p [] = refl
none-filter p (x ∷ xs) = by (p x) refl (none-filter p xs)
  where
    by : (b : Bool) → p x ≡ b → list_any p (filter (λ y. not (p y)) xs) ≡ false → list_any p (cond (not b) (x ∷ filter (λ y. not (p y)) xs) (filter (λ y. not (p y)) xs)) ≡ false
    by true e h = h
    by false e h = rw e h

queued-filter : (i j : ℕ) (ess : List (List plain.Waiting)) →
    list_any (list_any (λ w. j == w.block)) (map (filter (λ (w : plain.Waiting). not (i == w.block))) ess) ≡ true → list_any (list_any (λ w. j == w.block)) ess ≡ true
queued-filter i j [] e = e
queued-filter i j (es ∷ ess) e =
    ⊎_elim (λ h. sooner _ _ (any-filter (λ (w : plain.Waiting). j == w.block) (λ (w : plain.Waiting). not (i == w.block)) es h)) (λ h. later _ _ (queued-filter i j ess h)) (or_cases _ _ e)

pub queued-none : (i : ℕ) (ess : List (List plain.Waiting)) → list_any (list_any (λ w. i == w.block)) (map (filter (λ (w : plain.Waiting). not (i == w.block))) ess) ≡ false
queued-none i [] = refl
queued-none i (es ∷ ess) =
    let e = none-filter (λ (w : plain.Waiting). i == w.block) es in
    rw e (queued-none i ess)

queued-push : (r j : ℕ) (w : plain.Waiting) (ess : List (List plain.Waiting)) →
    list_any (list_any (λ v. j == v.block)) (changed (λ ws. ws ++ w ∷ []) ess r) ≡ true → (list_any (list_any (λ v. j == v.block)) ess ≡ true) ⊎ ((j == w.block) ≡ true)
queued-push r j w [] e = inl e
queued-push zero j w (es ∷ ess) e =
    ⊎_elim (λ h. ⊎_elim (λ g. inl (sooner _ _ g)) (λ g. inr g) (any-push (λ (v : plain.Waiting). j == v.block) es w h)) (λ h. inl (later _ _ h)) (or_cases _ _ e)
queued-push (suc r) j w (es ∷ ess) e =
    ⊎_elim (λ h. inl (sooner _ _ h)) (λ h. ⊎_elim (λ g. inl (later _ _ g)) (λ g. inr g) (queued-push r j w ess h)) (or_cases _ _ e)

-- Deadlines

-- The clock goes on, and they are nearer.
later-near : (clock to : ℕ) (es : List (ℕ × ℕ)) → clock ≤ to → AreNear clock es → AreNear to es
later-near clock to es le near = all-map (λ (e : ℕ × ℕ). e.0 < clock + 2 ^ 42) (λ (e : ℕ × ℕ). e.0 < to + 2 ^ 42) (λ e lt. omega arith) es near

put-near : (clock : ℕ) (x : ℕ × ℕ) (es : List (ℕ × ℕ)) → x.0 < clock + 2 ^ 42 → AreNear clock es → AreNear clock (plain.put_entry x es)
put-near clock x [] lt near = (lt, tt)
put-near clock x (e ∷ es) lt near = by (nat_le e.0 x.0) (put-near clock x es lt near.1)
  where
    by : (b : Bool) → AreNear clock (plain.put_entry x es) → AreNear clock (cond b (e ∷ plain.put_entry x es) (x ∷ e ∷ es))
    by true rest = (near.0, rest)
    by false rest = (lt, near)

pub least-near : (clock : ℕ) (es : List (ℕ × ℕ)) (least : Option ℕ) → AreNear clock es → least ≡ option_map (λ (e : ℕ × ℕ). e.0) (slice_get es 0) → IfSome least (λ deadline. deadline < clock + 2 ^ 42)
least-near clock [] None near e = tt
least-near clock [] (Some deadline) near e = cc
least-near clock (x ∷ es) None near e = cc
least-near clock (x ∷ es) (Some deadline) near e = let same : deadline ≡ x.0 = cc in omega (arith, same, near.0)

-- States

same : (i j : ℕ) → (i == j) ≡ true → i ≡ j
same i j e = eqb-true i j e

-- What is said of a thread stays, where the threads do.
pub stays_queued : (m : Machine) (cpu : ℕ) (l k : Local) (i : ℕ) → k.threads ≡ l.threads → IsWaiting m cpu l i → IsWaiting m cpu k i
stays_queued m cpu l k i e h = record {
  within = h.within;
  sends = subst (λ ts. is_some (slice_index_or ts i opening_thread).send ≡ true) (sym e) h.sends;
  here = λ own. subst (λ ts. split_receiver m cpu (slice_index_or ts i opening_thread).send ≡ None) (sym e) (h.here own);
}

pub stays_readied : (m : Machine) (cpu : ℕ) (l k : Local) (i : ℕ) → k.threads ≡ l.threads → IsReadied m cpu l i → IsReadied m cpu k i
stays_readied m cpu l k i e h = record { own = h.own; phase = ap (λ ts. (slice_index_or ts i opening_thread).phase) e ∙ h.phase }

pub settled-stamped : (m : Machine) (cpu : ℕ) (l : Local) (stamp : ℕ) → l.stamp ≤ stamp → IsSettled m cpu l → IsSettled m cpu (record l { stamp = stamp })
settled-stamped m cpu l stamp le s = record {
  threads = s.threads;
  lists = s.lists;
  told = s.told;
  owed = s.owed;
  known = s.known;
  sent = s.sent;
  sending = s.sending;
  begun = λ i own. let b = s.begun i own in omega arith;
  ordering = s.ordering;
  queued = λ i e. stays_queued m cpu l _ i refl (s.queued i e);
  ready = λ i e. stays_readied m cpu l _ i refl (s.ready i e);
  armed = s.armed;
  near = s.near;
  clock = s.clock;
}

pub settled-clocked : (m : Machine) (cpu : ℕ) (l : Local) (clock : ℕ) → l.clock ≤ clock → clock < 2 ^ 62 → IsSettled m cpu l → IsSettled m cpu (clock_is clock l)
settled-clocked m cpu l clock le lt s = record {
  threads = s.threads;
  lists = s.lists;
  told = s.told;
  owed = s.owed;
  known = s.known;
  sent = s.sent;
  sending = s.sending;
  begun = s.begun;
  ordering = s.ordering;
  queued = λ i e. stays_queued m cpu l _ i refl (s.queued i e);
  ready = λ i e. stays_readied m cpu l _ i refl (s.ready i e);
  armed = s.armed;
  near = later-near l.clock clock l.lists.armed le s.near;
  clock = lt;
}

pub settled-told : (m : Machine) (cpu : ℕ) (l : Local) (i to : ℕ) → to < m.cpus → IsSettled m cpu l → IsSettled m cpu (has_told to i l)
settled-told m cpu l i to lt s = record {
  threads = s.threads;
  lists = s.lists;
  told = length-changed (λ n. to + 1) l.told i ∙ s.told;
  owed = s.owed;
  known = λ j. by j (s.known j);
  sent = s.sent;
  sending = s.sending;
  begun = s.begun;
  ordering = s.ordering;
  queued = λ i e. stays_queued m cpu l _ i refl (s.queued i e);
  ready = λ i e. stays_readied m cpu l _ i refl (s.ready i e);
  armed = s.armed;
  near = s.near;
  clock = s.clock;
}
  where
    told : (ns : List ℕ) (i j : ℕ) → slice_index_or ns j 0 ≤ m.cpus → slice_index_or (changed (λ n. to + 1) ns i) j 0 ≤ m.cpus
    told [] i j h = h
    told (n ∷ ns) zero zero h = omega (arith, lt)
    told (n ∷ ns) zero (suc j) h = h
    told (n ∷ ns) (suc i) zero h = h
    told (n ∷ ns) (suc i) (suc j) h = told ns i j h

    by : (j : ℕ) → slice_index_or l.told j 0 ≤ m.cpus → slice_index_or (changed (λ n. to + 1) l.told i) j 0 ≤ m.cpus
    by j h = told l.told i j h

pub settled-kept : (m : Machine) (cpu : ℕ) (l : Local) (i : ℕ) (kept : Option Owed) → IsSettled m cpu l → IsSettled m cpu (keeps_beside i kept l)
settled-kept m cpu l i kept s = record {
  threads = s.threads;
  lists = s.lists;
  told = s.told;
  owed = length-changed (λ old. kept) l.owed i ∙ s.owed;
  known = s.known;
  sent = s.sent;
  sending = s.sending;
  begun = s.begun;
  ordering = s.ordering;
  queued = λ i e. stays_queued m cpu l _ i refl (s.queued i e);
  ready = λ i e. stays_readied m cpu l _ i refl (s.ready i e);
  armed = s.armed;
  near = s.near;
  clock = s.clock;
}

pub settled-popped : (m : Machine) (cpu : ℕ) (l : Local) → IsSettled m cpu l → IsSettled m cpu (relists plain.popped l)
settled-popped m cpu l s = record {
  threads = s.threads;
  lists = s.lists;
  told = s.told;
  owed = s.owed;
  known = s.known;
  sent = s.sent;
  sending = s.sending;
  begun = s.begun;
  ordering = s.ordering;
  queued = λ i e. stays_queued m cpu l _ i refl (s.queued i e);
  ready = λ i e. stays_readied m cpu l _ i refl (s.ready i (any-drop (λ b. i == b) l.lists.ready e));
  armed = s.armed;
  near = s.near;
  clock = s.clock;
}

pub settled-dropped : (m : Machine) (cpu : ℕ) (l : Local) (block : ℕ) → IsSettled m cpu l → IsSettled m cpu (relists (plain.dropped block) l)
settled-dropped m cpu l block s = record {
  threads = s.threads;
  lists = s.lists;
  told = s.told;
  owed = s.owed;
  known = s.known;
  sent = s.sent;
  sending = s.sending;
  begun = s.begun;
  ordering = s.ordering;
  queued = λ i e. stays_queued m cpu l _ i refl (s.queued i e);
  ready = λ i e. stays_readied m cpu l _ i refl (s.ready i (any-filter (λ b. i == b) (λ b. not (block == b)) l.lists.ready e));
  armed = s.armed;
  near = s.near;
  clock = s.clock;
}

pub settled-readied : (m : Machine) (cpu : ℕ) (l : Local) (i : ℕ) → IsOwn m cpu i → (thread l i).phase ≡ Ready → IsSettled m cpu l → IsSettled m cpu (relists (plain.made_ready i) l)
settled-readied m cpu l i own ready s = record {
  threads = s.threads;
  lists = s.lists;
  told = s.told;
  owed = s.owed;
  known = s.known;
  sent = s.sent;
  sending = s.sending;
  begun = s.begun;
  ordering = s.ordering;
  queued = λ i e. stays_queued m cpu l _ i refl (s.queued i e);
  ready = λ j e. ⊎_elim (λ h. stays_readied m cpu l _ j refl (s.ready j h)) (λ h. let P : ℕ → Type 0 = λ k. IsReadied m cpu (relists (plain.made_ready i) l) k in subst P (sym (same j i h)) (record { own = own; phase = ready })) (any-push (λ b. j == b) l.lists.ready i e);
  armed = s.armed;
  near = s.near;
  clock = s.clock;
}

pub settled-disarmed : (m : Machine) (cpu : ℕ) (l : Local) (i : ℕ) → IsSettled m cpu l → IsSettled m cpu (relists (plain.disarmed i) l)
settled-disarmed m cpu l i s = record {
  threads = s.threads;
  lists = s.lists;
  told = s.told;
  owed = s.owed;
  known = s.known;
  sent = s.sent;
  sending = s.sending;
  begun = s.begun;
  ordering = s.ordering;
  queued = λ i e. stays_queued m cpu l _ i refl (s.queued i e);
  ready = λ i e. stays_readied m cpu l _ i refl (s.ready i e);
  armed = λ j e. s.armed j (any-filter (λ (x : ℕ × ℕ). j == x.1) (λ (x : ℕ × ℕ). not (i == x.1)) l.lists.armed e);
  near = all-filter _ _ l.lists.armed s.near;
  clock = s.clock;
}

pub settled-popped_due : (m : Machine) (cpu : ℕ) (l : Local) → IsSettled m cpu l → IsSettled m cpu (relists plain.popped_due l)
settled-popped_due m cpu l s = record {
  threads = s.threads;
  lists = s.lists;
  told = s.told;
  owed = s.owed;
  known = s.known;
  sent = s.sent;
  sending = s.sending;
  begun = s.begun;
  ordering = s.ordering;
  queued = λ i e. stays_queued m cpu l _ i refl (s.queued i e);
  ready = λ i e. stays_readied m cpu l _ i refl (s.ready i e);
  armed = λ i e. s.armed i (any-drop (λ (x : ℕ × ℕ). i == x.1) l.lists.armed e);
  near = all-drop _ l.lists.armed s.near;
  clock = s.clock;
}

pub settled-unqueued : (m : Machine) (cpu : ℕ) (l : Local) (i : ℕ) → IsSettled m cpu l → IsSettled m cpu (relists (plain.unqueued i) l)
settled-unqueued m cpu l i s = record {
  threads = s.threads;
  lists = length_map _ l.lists.waiting ∙ s.lists;
  told = s.told;
  owed = s.owed;
  known = s.known;
  sent = s.sent;
  sending = s.sending;
  begun = s.begun;
  ordering = s.ordering;
  queued = λ j e. stays_queued m cpu l _ j refl (s.queued j (queued-filter i j l.lists.waiting e));
  ready = λ i e. stays_readied m cpu l _ i refl (s.ready i e);
  armed = s.armed;
  near = s.near;
  clock = s.clock;
}
  where
    length_map : (f : List plain.Waiting → List plain.Waiting) (ess : List (List plain.Waiting)) → length (map f ess) ≡ length ess
    length_map f [] = refl
    length_map f (es ∷ ess) = ap suc (length_map f ess)

pub settled-queued : (m : Machine) (cpu : ℕ) (l : Local) (r : ℕ) (w : plain.Waiting) → IsWaiting m cpu l w.block → IsSettled m cpu l → IsSettled m cpu (relists (plain.queued r w) l)
settled-queued m cpu l r w sends s = record {
  threads = s.threads;
  lists = length-changed (λ ws. ws ++ w ∷ []) l.lists.waiting r ∙ s.lists;
  told = s.told;
  owed = s.owed;
  known = s.known;
  sent = s.sent;
  sending = s.sending;
  begun = s.begun;
  ordering = s.ordering;
  queued = λ j e. stays_queued m cpu l _ j refl (⊎_elim (λ h. s.queued j h) (λ h. let P : ℕ → Type 0 = λ k. IsWaiting m cpu l k in subst P (sym (same j w.block h)) sends) (queued-push r j w l.lists.waiting e));
  ready = λ i e. stays_readied m cpu l _ i refl (s.ready i e);
  armed = s.armed;
  near = s.near;
  clock = s.clock;
}

-- A thread changes.

-- What a thread has to be like once it has changed.
pub record Fits (m : Machine) (cpu : ℕ) (l : Local) (i : ℕ) (t : Thread) : Type 0 where
  pub within : i < length m.threads
  pub sent : IsSent (declared m i).id t.send t.context.begun
  pub begun : is_own m cpu i ≡ true → t.context.begun ≤ l.stamp
  pub ordering : is_own m cpu i ≡ true → is_ordering t.phase ≡ true → t.context.place + 1 < 2 ^ 64
  pub sends : plain.is_queued l.lists i ≡ true → is_some t.send ≡ true
  pub here : plain.is_queued l.lists i ≡ true → is_own m cpu i ≡ true → split_receiver m cpu t.send ≡ None
  pub sending : is_own m cpu i ≡ true → is_some t.send ≡ true → MaySend t.phase
  pub ready : is_ready_in l.lists i ≡ true → t.phase ≡ Ready

pub settled-changed : (m : Machine) (cpu : ℕ) (l : Local) (i : ℕ) (f : Thread → Thread) → IsSettled m cpu l → Fits m cpu l i (f (thread l i)) → IsSettled m cpu (changes i f l)
settled-changed m cpu l i f s c =
    let within : i < length l.threads = omega (arith, s.threads, c.within) in
    record {
      threads = length-changed f l.threads i ∙ s.threads;
      lists = s.lists;
      told = s.told;
      owed = s.owed;
      known = s.known;
      sent = λ j. get_cases (λ t. IsSent (declared m j).id t.send t.context.begun) f l.threads i j within (λ e. let P : ℕ → Type 0 = λ k. IsSent (declared m k).id (f (thread l i)).send (f (thread l i)).context.begun in subst P e c.sent) (λ ne. s.sent j);
      sending = λ j own. get_cases (λ t. is_some t.send ≡ true → MaySend t.phase) f l.threads i j within (λ e. c.sending (subst (λ k. is_own m cpu k ≡ true) (sym e) own)) (λ ne. s.sending j own);
      begun = λ j own. get_cases (λ t. t.context.begun ≤ l.stamp) f l.threads i j within (λ e. c.begun (subst (λ k. is_own m cpu k ≡ true) (sym e) own)) (λ ne. s.begun j own);
      ordering = λ j own. get_cases (λ t. is_ordering t.phase ≡ true → t.context.place + 1 < 2 ^ 64) f l.threads i j within (λ e. c.ordering (subst (λ k. is_own m cpu k ≡ true) (sym e) own)) (λ ne. s.ordering j own);
      queued = λ j e. record {
        within = (s.queued j e).within;
        sends = get_cases (λ t. is_some t.send ≡ true) f l.threads i j within (λ q. c.sends (subst (λ k. plain.is_queued l.lists k ≡ true) (sym q) e)) (λ ne. (s.queued j e).sends);
        here = λ own. get_cases (λ t. split_receiver m cpu t.send ≡ None) f l.threads i j within (λ q. c.here (subst (λ k. plain.is_queued l.lists k ≡ true) (sym q) e) (subst (λ k. is_own m cpu k ≡ true) (sym q) own)) (λ ne. (s.queued j e).here own);
      };
      ready = λ j e. record {
        own = (s.ready j e).own;
        phase = get_cases (λ t. t.phase ≡ Ready) f l.threads i j within (λ q. c.ready (subst (λ k. is_ready_in l.lists k ≡ true) (sym q) e)) (λ ne. (s.ready j e).phase);
      };
      armed = s.armed;
      near = s.near;
      clock = s.clock;
    }

-- A thread is settled in its phase.

put-cases : (x : ℕ × ℕ) (j : ℕ) (es : List (ℕ × ℕ)) → list_any (λ (e : ℕ × ℕ). j == e.1) (plain.put_entry x es) ≡ true → (list_any (λ (e : ℕ × ℕ). j == e.1) es ≡ true) ⊎ ((j == x.1) ≡ true)
put-cases x j [] h = by (j == x.1) h
  where
    by : (b : Bool) → (b || false) ≡ true → (false ≡ true) ⊎ (b ≡ true)
    by true e = inr refl
    by false e = cc
put-cases x j (e ∷ es) h = by (nat_le e.0 x.0) h (put-cases x j es)
  where
    by : (b : Bool) → list_any (λ (e : ℕ × ℕ). j == e.1) (cond b (e ∷ plain.put_entry x es) (x ∷ e ∷ es)) ≡ true →
        (list_any (λ (e : ℕ × ℕ). j == e.1) (plain.put_entry x es) ≡ true → (list_any (λ (e : ℕ × ℕ). j == e.1) es ≡ true) ⊎ ((j == x.1) ≡ true)) →
        (((j == e.1) || list_any (λ (e : ℕ × ℕ). j == e.1) es) ≡ true) ⊎ ((j == x.1) ≡ true)
    by true h f = ⊎_elim (λ g. inl (sooner _ _ g)) (λ g. ⊎_elim (λ k. inl (later _ _ k)) (λ k. inr k) (f g)) (or_cases _ _ h)
    by false h f = ⊎_elim (λ g. inr g) (λ g. inl g) (or_cases _ _ h)

pub settled-armed : (m : Machine) (cpu : ℕ) (l : Local) (i deadline : ℕ) → IsOwn m cpu i → deadline < l.clock + 2 ^ 42 → IsSettled m cpu l → IsSettled m cpu (relists (plain.armed deadline i) l)
settled-armed m cpu l i deadline own near s = record {
  threads = s.threads;
  lists = s.lists;
  told = s.told;
  owed = s.owed;
  known = s.known;
  sent = s.sent;
  sending = s.sending;
  begun = s.begun;
  ordering = s.ordering;
  queued = λ i e. stays_queued m cpu l _ i refl (s.queued i e);
  ready = λ i e. stays_readied m cpu l _ i refl (s.ready i e);
  armed = λ j e. ⊎_elim (λ h. s.armed j h) (λ h. subst (IsOwn m cpu) (sym (same j i h)) own) (put-cases (deadline, i) j l.lists.armed e);
  near = put-near l.clock (deadline, i) l.lists.armed near s.near;
  clock = s.clock;
}

-- A thread that changes and is settled has come to its phase.
pub comes : (i : ℕ) (f : Thread → Thread) (l : Local) → i < length l.threads → enters_lists i (changes i f l) ≡ comes_to i f l
comes i f l lt = let e = get-changed f l.threads i opening_thread lt in rw e

pub ready_is : (p : Phase) → is_ready p ≡ true → p ≡ Ready
ready_is Ready e = refl
ready_is Sending e = cc
ready_is (Receiving receive since) e = cc
ready_is Ordering e = cc
ready_is Ended e = cc
ready_is Deleted e = cc

-- The first armed one goes, where it is due.
-- A deadline that is due is disarmed.
pub due-popped : (now : ℕ) (s : plain.Plain) → IsSome (plain.due_block now s.armed) → without_due now s ≡ plain.popped_due s
due-popped now s due = by (plain.due_block now s.armed) due
  where
    by : (o : Option ℕ) → IsSome o → cond (is_some o) (plain.popped_due s) s ≡ plain.popped_due s
    by (Some block) h = refl
    by None h = cc
