-- What each step does to the waiting lists, and who stands in them.
use Rattle.std.proofs.Common.{subst, ◌≡◌, ℕ, zero, suc, Bool, true, false, cond, Option, Some, None, List, [], ◌∷◌, ◌++◌, map, refl, ap, sym, ◌∙◌, arith, get_or, inl, inr, ⊎_elim}
use Rattle.std.proofs.lemmas.Bool.{eqb-true, not-true, or_cases}
use Rattle.std.proofs.Math.ListN.{get_or-map}
use Rattle.std.proofs.lemmas.Bool.Decides.{nat_tests}
use Rattle.std.specs.Prelude.{slice_get, ◌==◌, not, ◌||◌, ◌⊎◌, IsSomeAnd}
use Rattle.std.specs.List.{filter}
use Rattle.l4_model.specs.Machine.{Machine, Declaration, place_of}
use Rattle.l4_model.specs.World.{World, Send, changed, opening, unqueued, is_queued, Name, is_in, list_at}
use Rattle.l4_model.specs.Steps.{Step, OfThread, OfSend, Begun, Queued, Failed, Dropped, Retargeted, Deliver, Order, Tick, next}
use Rattle.l4_model.specs.Conditions.{Pending, undecided}
use Rattle.l4_model.proofs.Chains.{some_is, get-map, get-changed_other}
use Rattle.l4_model.proofs.Sends.{Status, status, statuses, with_begun, with_decided, Begins, Decides, Effect, effect}
use Rattle.l4_model.proofs.Sound.{AreSound}
use Rattle.l4_model.proofs.Accounted.{idle}
use Rattle.l4_model.proofs.Inversions.{begin_taken, QueueTaken, queue_taken, deliver_taken, send_failed, drop_taken, order_taken, tick_taken, retarget_taken, thread_alone}
use Rattle.l4_model.proofs.Places.{known_send, found_place}
use Rattle.l4_model.specs.Reached.{place_to, IsOnce}

or_false : (a b : Bool) → (a || b) ≡ false → (a ≡ false) × (b ≡ false)
or_false true b h = cc
or_false false b h = (refl, h)

or_left : (a b : Bool) → a ≡ true → (a || b) ≡ true
or_left true b h = refl
or_left false b h = cc

pub or_right : (a b : Bool) → b ≡ true → (a || b) ≡ true
or_right true b h = refl
or_right false b h = h

eqb_sym : (a b : ℕ) → (a == b) ≡ false → (b == a) ≡ false
eqb_sym a b h = grind (arith, nat_tests)

-- A sender leaves whatever list it stands in.
pub record Unlists (m : Machine) (w v : World) (s : Name) : Type 0 where
  pub place : ℕ
  pub named : place_of m s.thread ≡ Some place
  pub now : v.waiting ≡ map (filter (λ x. not (place == x))) w.waiting

abbrev pub ListEffect : Machine → World → World → Step → Type 0
ListEffect m w v (OfSend Queued s) = QueueTaken m w v s
ListEffect m w v (OfSend (Failed why) s) = Unlists m w v s
ListEffect m w v (OfSend Dropped s) = Unlists m w v s
ListEffect m w v (Deliver s receiver shown actual tag words) = Unlists m w v s
ListEffect m w v _ = v.waiting ≡ w.waiting

unlists : (m : Machine) (w v : World) (s : Name) (p : Pending) → undecided m w s ≡ Some p → (unqueued w p.sender.at).waiting ≡ v.waiting → Unlists m w v s
unlists m w v s p is e = record { place = p.sender.at; named = (known_send m w s p is).sender.place; now = sym e }

abbrev lists_of : World → List (List ℕ)
lists_of w = w.waiting

pub list_effect : (m : Machine) (w v : World) (step : Step) → next m w step ≡ Some v → ListEffect m w v step
list_effect m w v (OfThread kind id) h = (thread_alone m w v kind id h).waiting
list_effect m w v (OfSend Begun s) h = ap lists_of (sym (begin_taken m w v s h).leads_to)
list_effect m w v (OfSend Queued s) h = queue_taken m w v s h
list_effect m w v (OfSend (Failed why) s) h =
    let k = send_failed m w v s why h in
    unlists m w v s k.p k.is_undecided (ap lists_of k.leads_to)
list_effect m w v (OfSend Dropped s) h =
    let k = drop_taken m w v s h in
    unlists m w v s k.p k.is_undecided (ap lists_of k.leads_to)
list_effect m w v (OfSend Retargeted s) h = ap lists_of (sym (retarget_taken m w v s h).leads_to)
list_effect m w v (Deliver s receiver shown actual tag words) h =
    let k = deliver_taken m w v s receiver shown actual tag words h in
    unlists m w v s k.p k.is_undecided (ap lists_of k.leads_to)
list_effect m w v (Order caller target what) h = ap lists_of (sym (order_taken m w v caller target what h).leads_to)
list_effect m w v (Tick cpu clock) h = ap lists_of (sym (tick_taken m w v cpu clock h).leads_to)

-- A sender has an undecided send to the thread at a place.
abbrev pub GoesTo : Machine → ℕ → Option Status → Type 0
GoesTo m j o = IsSomeAnd o (λ x. IsSomeAnd x.send (λ send. place_to m send.to ≡ Some j))

-- Who stands in a list sends to its thread, and stands there once.
pub record AreListed (m : Machine) (lists : List (List ℕ)) (all : List Status) : Type 0 where
  pub goes_to : (j i : ℕ) → is_in i (list_at lists j) ≡ true → GoesTo m j (slice_get all i)
  pub once : (j : ℕ) → IsOnce (list_at lists j)

-- what a change of one list leaves at a place
pub changed_cases : (f : List ℕ → List ℕ) (xs : List (List ℕ)) (i j : ℕ) → (get_or (changed f xs i) j [] ≡ get_or xs j []) ⊎ ((i ≡ j) × (get_or (changed f xs i) j [] ≡ f (get_or xs j [])))
changed_cases f [] i j = inl refl
changed_cases f (x ∷ xs) zero zero = inr (refl, refl)
changed_cases f (x ∷ xs) zero (suc j) = inl refl
changed_cases f (x ∷ xs) (suc i) zero = inl refl
changed_cases f (x ∷ xs) (suc i) (suc j) = ⊎_elim (λ same. inl same) (λ both. inr (ap suc both.0, both.1)) (changed_cases f xs i j)

-- appending a sender that stands in no list
pub in_append : (i k : ℕ) (xs : List ℕ) → is_in i (xs ++ k ∷ []) ≡ true → (is_in i xs ≡ true) ⊎ (i ≡ k)
in_append i k [] h = ⊎_elim (λ same. inr (eqb-true i k same)) (λ out. cc) (or_cases (i == k) false h)
in_append i k (x ∷ xs) h = by (i == x) h (in_append i k xs)
  where
    by : (b : Bool) → (b || is_in i (xs ++ k ∷ [])) ≡ true → (is_in i (xs ++ k ∷ []) ≡ true → (is_in i xs ≡ true) ⊎ (i ≡ k)) → ((b || is_in i xs) ≡ true) ⊎ (i ≡ k)
    by true h rest = inl refl
    by false h rest = rest h

not_in_append : (i k : ℕ) (xs : List ℕ) → is_in i xs ≡ false → (i == k) ≡ false → is_in i (xs ++ k ∷ []) ≡ false
not_in_append i k [] h other = rw other
not_in_append i k (x ∷ xs) h other = let parts = or_false (i == x) (is_in i xs) h in rw parts.0 (not_in_append i k xs parts.1 other)

once_append : (k : ℕ) (xs : List ℕ) → IsOnce xs → is_in k xs ≡ false → IsOnce (xs ++ k ∷ [])
once_append k [] once out = (refl, tt)
once_append k (x ∷ xs) once out =
    let parts = or_false (k == x) (is_in k xs) out in
    (not_in_append x k xs once.0 (eqb_sym k x parts.0), once_append k xs once.1 parts.1)

not_queued_in : (i j : ℕ) (lists : List (List ℕ)) → is_queued lists i ≡ false → is_in i (get_or lists j []) ≡ false
not_queued_in i j [] h = refl
not_queued_in i zero (xs ∷ lists) h = (or_false (is_in i xs) (is_queued lists i) h).0
not_queued_in i (suc j) (xs ∷ lists) h = not_queued_in i j lists (or_false (is_in i xs) (is_queued lists i) h).1

-- taking a sender out
abbrev pub without : ℕ → List ℕ → List ℕ
without k xs = filter (λ x. not (k == x)) xs

in_filter : (i k : ℕ) (xs : List ℕ) → is_in i (without k xs) ≡ true → (is_in i xs ≡ true) × (i ≡ k → ⊥)
in_filter i k [] h = cc
in_filter i k (x ∷ xs) h = by (k == x) refl h (in_filter i k xs)
  where
    by : (b : Bool) → (k == x) ≡ b → is_in i (cond (not b) (x ∷ without k xs) (without k xs)) ≡ true →
        (is_in i (without k xs) ≡ true → (is_in i xs ≡ true) × (i ≡ k → ⊥)) → (((i == x) || is_in i xs) ≡ true) × (i ≡ k → ⊥)
    by true e h rest = (or_right (i == x) (is_in i xs) (rest h).0, (rest h).1)
    by false e h rest =
        ⊎_elim
        (λ same. (or_left (i == x) (is_in i xs) same, λ one. grind (arith, nat_tests)))
        (λ below. (or_right (i == x) (is_in i xs) (rest below).0, (rest below).1))
        (or_cases (i == x) (is_in i (without k xs)) h)

pub not_in_filter : (i k : ℕ) (xs : List ℕ) → is_in i xs ≡ false → is_in i (without k xs) ≡ false
not_in_filter i k [] h = refl
not_in_filter i k (x ∷ xs) h =
    let parts = or_false (i == x) (is_in i xs) h in
    by (k == x) parts.0 (not_in_filter i k xs parts.1)
  where
    by : (b : Bool) → (i == x) ≡ false → is_in i (without k xs) ≡ false → is_in i (cond (not b) (x ∷ without k xs) (without k xs)) ≡ false
    by true other rest = rest
    by false other rest = rw other rest

once_filter : (k : ℕ) (xs : List ℕ) → IsOnce xs → IsOnce (without k xs)
once_filter k [] once = tt
once_filter k (x ∷ xs) once = by (k == x) (not_in_filter x k xs once.0) (once_filter k xs once.1)
  where
    by : (b : Bool) → is_in x (without k xs) ≡ false → IsOnce (without k xs) → IsOnce (cond (not b) (x ∷ without k xs) (without k xs))
    by true out rest = rest
    by false out rest = (out, rest)

-- each kind of step keeps it
queued_listed : (m : Machine) (lists : List (List ℕ)) (all : List Status) (r i : ℕ) → GoesTo m r (slice_get all i) → is_queued lists i ≡ false →
    AreListed m lists all → AreListed m (changed (λ xs. xs ++ i ∷ []) lists r) all
queued_listed m lists all r i goes free h = record { goes_to = to; once = once }
  where
    f : List ℕ → List ℕ
    f xs = xs ++ i ∷ []

    to : (j k : ℕ) → is_in k (list_at (changed (λ xs. xs ++ i ∷ []) lists r) j) ≡ true → GoesTo m j (slice_get all k)
    to j k stands =
        ⊎_elim
        (λ same. h.goes_to j k (ap (is_in k) (sym same) ∙ stands))
        (λ both.
        ⊎_elim
        (λ was. h.goes_to j k was)
        (λ one. rw (one, ← both.0) goes)
        (in_append k i (list_at lists j) (ap (is_in k) (sym both.1) ∙ stands)))
        (changed_cases (λ xs. xs ++ i ∷ []) lists r j)

    once : (j : ℕ) → IsOnce (list_at (changed (λ xs. xs ++ i ∷ []) lists r) j)
    once j =
        ⊎_elim
        (λ same. subst IsOnce (sym same) (h.once j))
        (λ both. subst IsOnce (sym both.1) (once_append i (list_at lists j) (h.once j) (not_queued_in i j lists free)))
        (changed_cases (λ xs. xs ++ i ∷ []) lists r j)

begun_listed : (m : Machine) (lists : List (List ℕ)) (all : List Status) (place : ℕ) (old : Status) (send : Send) → slice_get all place ≡ Some old → old.send ≡ None →
    AreListed m lists all → AreListed m lists (changed (with_begun send) all place)
begun_listed m lists all place old send was idle h = record { goes_to = to; once = h.once }
  where
    not_idle : (j : ℕ) → GoesTo m j (slice_get all place) → ⊥
    not_idle j goes = rw (was, idle) at goes

    to : (j k : ℕ) → is_in k (list_at lists j) ≡ true → GoesTo m j (slice_get (changed (with_begun send) all place) k)
    to j k stands =
        rw (get-changed_other (with_begun send) all place k (λ same. not_idle j (subst (λ x. GoesTo m j (slice_get all x)) (sym same) (h.goes_to j k stands))))
        (h.goes_to j k stands)

decided_listed : (m : Machine) (lists : List (List ℕ)) (all : List Status) (place : ℕ) →
    AreListed m lists all → AreListed m (map (without place) lists) (changed with_decided all place)
decided_listed m lists all place h = record { goes_to = to; once = once }
  where
    to : (j k : ℕ) → is_in k (list_at (map (without place) lists) j) ≡ true → GoesTo m j (slice_get (changed with_decided all place) k)
    to j k stands =
        let both = in_filter k place (list_at lists j) (ap (is_in k) (sym (get_or-map (without place) lists j [])) ∙ stands) in
        rw (get-changed_other with_decided all place k (λ same. both.1 (sym same))) (h.goes_to j k both.0)

    once : (j : ℕ) → IsOnce (list_at (map (without place) lists) j)
    once j = subst IsOnce (sym (get_or-map (without place) lists j [])) (once_filter place (list_at lists j) (h.once j))

abbrev pub Listed : Machine → World → Type 0
Listed m w = AreListed m w.waiting (statuses w)

queue_listed : (m : Machine) (w v : World) (s : Name) → QueueTaken m w v s → Listed m w → Listed m v
queue_listed m w v s k h =
    let known = known_send m w s k.p k.is_undecided in
    let now : slice_get (statuses w) k.p.sender.at ≡ Some (status k.p.sender.now) = get-map status w.threads k.p.sender.at k.p.sender.now known.sender.now in
    subst (Listed m) k.leads_to
    (queued_listed m w.waiting (statuses w) k.r.at k.p.sender.at (rw (now, known.send) (found_place m w k.p.send.to k.r k.to)) (not-true (is_queued w.waiting k.p.sender.at) k.in_no_list) h)

keeps_listed : (m : Machine) (w v : World) → v.waiting ≡ w.waiting → statuses v ≡ statuses w → Listed m w → Listed m v
keeps_listed m w v lists all h = subst (λ xs. AreListed m xs (statuses v)) (sym lists) (subst (AreListed m w.waiting) (sym all) h)

begins_listed : (m : Machine) (w v : World) (s : Name) → v.waiting ≡ w.waiting → Begins m w v s → AreSound m w → Listed m w → Listed m v
begins_listed m w v s lists b sound h =
    subst (λ xs. AreListed m xs (statuses v)) (sym lists) (subst (AreListed m w.waiting) (sym b.now) (begun_listed m w.waiting (statuses w) b.place b.old b.send b.was (idle m w v s b sound) h))

decides_listed : (m : Machine) (w v : World) (s : Name) → Unlists m w v s → Decides m w v s → Listed m w → Listed m v
decides_listed m w v s u d h =
    let same : u.place ≡ d.place = some_is _ _ (sym u.named ∙ d.named) in
    let at_place : AreListed m (map (without u.place) w.waiting) (changed with_decided (statuses w) u.place) = decided_listed m w.waiting (statuses w) u.place h in
    subst (λ xs. AreListed m xs (statuses v)) (sym u.now) (subst (AreListed m (map (without u.place) w.waiting)) (ap (changed with_decided (statuses w)) same ∙ sym d.now) at_place)

pub step_listed : (m : Machine) (w v : World) (step : Step) → next m w step ≡ Some v → AreSound m w → Listed m w → Listed m v
step_listed m w v step h sound = by step (effect m w v step h) (list_effect m w v step h)
  where
    by : (step : Step) → Effect m w v step → ListEffect m w v step → Listed m w → Listed m v
    by (OfSend Begun s) e l = begins_listed m w v s l e sound
    by (OfSend Queued s) e l = queue_listed m w v s l
    by (OfSend (Failed why) s) e l = decides_listed m w v s l e
    by (OfSend Dropped s) e l = decides_listed m w v s l e
    by (Deliver s receiver shown actual tag words) e l = decides_listed m w v s l e
    by _ e l = keeps_listed m w v l e

pub opening_listed : (m : Machine) → Listed m (opening m)
opening_listed m = record { goes_to = λ j i stands. absurd (nobody m.threads j i stands); once = λ j. all_once m.threads j }
  where
    nobody : (ds : List Declaration) (j i : ℕ) → is_in i (list_at (map (λ d. []) ds) j) ≡ true → ⊥
    nobody [] j i h = cc
    nobody (d ∷ ds) zero i h = cc
    nobody (d ∷ ds) (suc j) i h = nobody ds j i h

    all_once : (ds : List Declaration) (j : ℕ) → IsOnce (list_at (map (λ d. []) ds) j)
    all_once [] j = tt
    all_once (d ∷ ds) zero = tt
    all_once (d ∷ ds) (suc j) = all_once ds j
