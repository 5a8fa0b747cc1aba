-- The test of stillness answers what it is meant to: steps stay possible as clocks go on, the latest clocks can be
-- reached, and each step that is possible is among those that are tried.
use Rattle.std.proofs.Common.{subst, ◌≡◌, ℕ, zero, suc, ◌+◌, ◌-◌, ◌^◌, ◌<◌, Bool, true, false, cond, Option, Some, None, List, [], ◌∷◌, ◌++◌, length, drop, map, refl, ap, sym, ◌∙◌, arith, append_assoc}
use Rattle.std.proofs.lemmas.Bool.{eqb-true, not-true, and_from}
use Rattle.std.proofs.lemmas.Bool.Decides.{nat_tests}
use Rattle.std.proofs.lemmas.Slice.Eq.{bytes_eq-Decides}
use Rattle.std.specs.Prelude.{slice_get, slice_set, ◌==◌, ◌&&◌, nat_lt, is_some, is_none, not, find, ◌↔◌}
use Rattle.std.specs.List.{AllByRecursion, list_all}
use Rattle.l4_model.specs.Words.{GlobalId, same_id}
use Rattle.l4_model.specs.Machine.{Machine, Declaration, OrderKind, CancelSend, CancelReceive, CancelBoth, Delete}
use Rattle.l4_model.specs.World.{World, PendingOrder, Owed, same_name, Name}
use Rattle.l4_model.specs.Rules.{Failure, TimeOver, NobodyThere, CancelAsked, received_tag, is_cross}
use Rattle.l4_model.specs.Conditions.{Found, found, Pending, undecided, receiver_of, act_of}
use Rattle.l4_model.specs.Steps.{SendStep, ThreadStep, Step, Deliver, Order, Tick, Retarget, order_kind_code, order_of, next, OfThread, OfSend, Runs, Waits, Fails, Obeys, Begun, Queued, Failed, Dropped, Retargeted}
use Rattle.l4_model.specs.History.{run, reached}
use Rattle.l4_model.specs.Still.{is_tick, IsStill, deliveries, orders, candidates, late, is_still_thread, is_still}
use Rattle.l4_model.proofs.Chains.{bind_then, some_is}
use Rattle.l4_model.proofs.Sizes.{Sized, step_sized}
use Rattle.l4_model.proofs.Worlds.{standing}
use Rattle.l4_model.proofs.Clocks.{with_clocks, AreLater, possible_later}
use Rattle.l4_model.proofs.Inversions.{begin_taken, queue_taken, DeliverTaken, deliver_taken, drop_taken, OrderTaken, order_taken, tick_taken, retarget_taken, send_failed, thread_found}
use Rattle.l4_model.proofs.Places.{and_true, same_id_is, same_name_is, known, known_send, sender_found, id_of}

-- Ticks

abbrev IsLow : List ℕ → Type 0
IsLow clocks = AllByRecursion (λ clock. clock < 2 ^ 62) clocks

-- The ticks that take each clock, from the i-th on, to its last value.
abbrev ticks_from : ℕ → List ℕ → List Step
ticks_from i [] = []
ticks_from i (clock ∷ clocks) = cond (clock == 2 ^ 62 - 1) (ticks_from (i + 1) clocks) (Tick i (2 ^ 62 - 1) ∷ ticks_from (i + 1) clocks)

get_middle : (before after : List ℕ) (i clock : ℕ) → length before ≡ i → slice_get (before ++ clock ∷ after) i ≡ Some clock
get_middle [] after zero clock e = refl
get_middle [] after (suc i) clock e = absurd (omega arith)
get_middle (x ∷ before) after zero clock e = absurd (omega arith)
get_middle (x ∷ before) after (suc i) clock e = get_middle before after i clock (omega arith)

set_middle : (before after : List ℕ) (i clock new : ℕ) → length before ≡ i → slice_set (before ++ clock ∷ after) i new ≡ before ++ new ∷ after
set_middle [] after zero clock new e = refl
set_middle [] after (suc i) clock new e = absurd (omega arith)
set_middle (x ∷ before) after zero clock new e = absurd (omega arith)
set_middle (x ∷ before) after (suc i) clock new e = ap (λ xs. x ∷ xs) (set_middle before after i clock new (omega arith))

length-push : (xs : List ℕ) (x i : ℕ) → length xs ≡ i → length (xs ++ x ∷ []) ≡ i + 1
length-push [] x i e = omega arith
length-push (y ∷ xs) x zero e = absurd (omega arith)
length-push (y ∷ xs) x (suc i) e = ap suc (length-push xs x i (omega arith)) ∙ omega arith

run_ticks : (m : Machine) (w : World) (before after : List ℕ) (i : ℕ) → length before ≡ i → IsLow after →
    run m (with_clocks w (before ++ after)) (ticks_from i after) ≡ Some (with_clocks w (before ++ map (λ clock. 2 ^ 62 - 1) after))
run_ticks m w before [] i e low = refl
run_ticks m w before (clock ∷ after) i e low = by (clock == 2 ^ 62 - 1) refl (run_ticks m w (before ++ (2 ^ 62 - 1) ∷ []) after (i + 1) (length-push before (2 ^ 62 - 1) i e) low.1)
  where
    on : List ℕ → List ℕ
    on xs = before ++ (2 ^ 62 - 1) ∷ xs

    moved : (xs : List ℕ) → (before ++ (2 ^ 62 - 1) ∷ []) ++ xs ≡ before ++ (2 ^ 62 - 1) ∷ xs
    moved xs = append_assoc before ((2 ^ 62 - 1) ∷ []) xs

    by : (b : Bool) → (clock == 2 ^ 62 - 1) ≡ b →
        run m (with_clocks w ((before ++ (2 ^ 62 - 1) ∷ []) ++ after)) (ticks_from (i + 1) after) ≡ Some (with_clocks w ((before ++ (2 ^ 62 - 1) ∷ []) ++ map (λ c. 2 ^ 62 - 1) after)) →
        run m (with_clocks w (before ++ clock ∷ after)) (cond b (ticks_from (i + 1) after) (Tick i (2 ^ 62 - 1) ∷ ticks_from (i + 1) after))
        ≡ Some (with_clocks w (before ++ (2 ^ 62 - 1) ∷ map (λ c. 2 ^ 62 - 1) after))
    by true is rest =
        ap (λ c. run m (with_clocks w (before ++ c ∷ after)) (ticks_from (i + 1) after)) (eqb-true clock (2 ^ 62 - 1) is)
        ∙ ap (λ xs. run m (with_clocks w xs) (ticks_from (i + 1) after)) (sym (moved after)) ∙ rest ∙ ap (λ xs. Some (with_clocks w xs)) (moved (map (λ c. 2 ^ 62 - 1) after))
    by false is rest =
        let below : clock < 2 ^ 62 - 1 = grind (arith, nat_tests, low.0) in
        let later : (nat_lt clock (2 ^ 62 - 1) && nat_lt (2 ^ 62 - 1) (2 ^ 62)) ≡ true = grind (arith, nat_tests) in
        rw (get_middle before after i clock e, later, set_middle before after i clock (2 ^ 62 - 1) e)
        (ap (λ xs. run m (with_clocks w xs) (ticks_from (i + 1) after)) (sym (moved after)) ∙ rest ∙ ap (λ xs. Some (with_clocks w xs)) (moved (map (λ c. 2 ^ 62 - 1) after)))

are_ticks : (i : ℕ) (clocks : List ℕ) → AllByRecursion (λ tick. is_tick tick ≡ true) (ticks_from i clocks)
are_ticks i [] = tt
are_ticks i (clock ∷ clocks) = by (clock == 2 ^ 62 - 1) (are_ticks (i + 1) clocks)
  where
    by : (b : Bool) → AllByRecursion (λ tick. is_tick tick ≡ true) (ticks_from (i + 1) clocks) →
        AllByRecursion (λ tick. is_tick tick ≡ true) (cond b (ticks_from (i + 1) clocks) (Tick i (2 ^ 62 - 1) ∷ ticks_from (i + 1) clocks))
    by true rest = rest
    by false rest = (refl, rest)

-- what ticks leave
ticks_keep : (m : Machine) (ticks : List Step) (w v : World) → AllByRecursion (λ tick. is_tick tick ≡ true) ticks → run m w ticks ≡ Some v → Sized m w →
    (v ≡ with_clocks w v.clocks) × Sized m v
ticks_keep m [] w v all r sized = (subst (λ x. x ≡ with_clocks w x.clocks) (some_is w v r) refl, subst (Sized m) (some_is w v r) sized)
ticks_keep m (step ∷ ticks) w v all r sized =
    bind_then (next m w step) (λ u. run m u ticks) v r λ u is rest.
    let below = ticks_keep m ticks u v all.1 rest (step_sized m w u step is sized) in
    (below.0 ∙ ap (λ x. with_clocks x v.clocks) (kept step all.0 u is), below.1)
  where
    kept : (step : Step) → is_tick step ≡ true → (u : World) → next m w step ≡ Some u → u ≡ with_clocks w u.clocks
    kept (Tick cpu clock) tick u is = let k = tick_taken m w u cpu clock is in subst (λ x. x ≡ with_clocks w x.clocks) k.leads_to refl
    kept _ tick u is = cc

-- Late clocks

late_same : (xs ys : List ℕ) → length xs ≡ length ys → map (λ c. 2 ^ 62 - 1) xs ≡ map (λ c. 2 ^ 62 - 1) ys
late_same [] [] e = refl
late_same [] (y ∷ ys) e = absurd (omega arith)
late_same (x ∷ xs) [] e = absurd (omega arith)
late_same (x ∷ xs) (y ∷ ys) e = ap (λ zs. (2 ^ 62 - 1) ∷ zs) (late_same xs ys (omega arith))

late_later : (xs : List ℕ) → IsLow xs → AreLater xs (map (λ c. 2 ^ 62 - 1) xs)
late_later [] low i = omega arith
late_later (x ∷ xs) low zero = omega (arith, low.0)
late_later (x ∷ xs) low (suc i) = late_later xs low.1 i

-- What is tried

all_at : (p : Step → Bool) (xs : List Step) (i : ℕ) (x : Step) → list_all p xs ≡ true → slice_get xs i ≡ Some x → p x ≡ true
all_at p [] i x h at = cc
all_at p (y ∷ xs) zero x h at = ap p (sym (some_is y x at)) ∙ (and_true (p y) (list_all p xs) h).0
all_at p (y ∷ xs) (suc i) x h at = all_at p xs i x (and_true (p y) (list_all p xs) h).1 at

all_right : (p : Step → Bool) (xs ys : List Step) → list_all p (xs ++ ys) ≡ true → list_all p ys ≡ true
all_right p [] ys h = h
all_right p (x ∷ xs) ys h = all_right p xs ys (and_true (p x) (list_all p (xs ++ ys)) h).1

all_drop : (p : Step → Bool) (n : ℕ) (xs : List Step) → list_all p xs ≡ true → list_all p (drop n xs) ≡ true
all_drop p zero xs h = h
all_drop p (suc n) [] h = h
all_drop p (suc n) (x ∷ xs) h = all_drop p n xs (and_true (p x) (list_all p xs) h).1

-- None of the steps that a thread could be in for is possible.
abbrev NoneTried : Machine → World → Found → Type 0
NoneTried m w t = list_all (λ step. is_none (next m w step)) (candidates m w (Some t)) ≡ true

none_some : {A : Type 0} (o : Option A) (v : A) → is_none o ≡ true → o ≡ Some v → ⊥
none_some None v h e = cc
none_some (Some x) v h e = cc

-- a step that is possible is not tried
not_tried : (m : Machine) (w v : World) (t : Found) (step tried : Step) (i : ℕ) → NoneTried m w t → slice_get (candidates m w (Some t)) i ≡ Some tried → step ≡ tried → next m w step ≡ Some v → ⊥
not_tried m w v t step tried i none at same is =
    let nothing : is_none (next m w tried) ≡ true = all_at (λ x. is_none (next m w x)) (candidates m w (Some t)) i tried none at in
    none_some (next m w tried) v nothing (ap (next m w) (sym same) ∙ is)

abbrev last_of : Found → Name
last_of t = record { thread = t.declared.id; k = t.now.context.begun }

last_is : (m : Machine) (w : World) (s : Name) (p : Pending) → undecided m w s ≡ Some p → s ≡ last_of p.sender
last_is m w s p is =
    let id : p.sender.declared.id ≡ s.thread = (id_of m w s.thread p.sender (sender_found m w s p is)).0 in
    let k : p.sender.now.context.begun ≡ s.k = (known_send m w s p is).last in
    ap (λ x. record { thread = x; k = s.k }) (sym id) ∙ ap (λ n. record { thread = p.sender.declared.id; k = n }) (sym k)

what_is : (a b : OrderKind) → (order_kind_code a == order_kind_code b) ≡ true → a ≡ b
what_is CancelSend CancelSend h = refl
what_is CancelSend CancelReceive h = cc
what_is CancelSend CancelBoth h = cc
what_is CancelSend Delete h = cc
what_is CancelReceive CancelSend h = cc
what_is CancelReceive CancelReceive h = refl
what_is CancelReceive CancelBoth h = cc
what_is CancelReceive Delete h = cc
what_is CancelBoth CancelSend h = cc
what_is CancelBoth CancelReceive h = cc
what_is CancelBoth CancelBoth h = refl
what_is CancelBoth Delete h = cc
what_is Delete CancelSend h = cc
what_is Delete CancelReceive h = cc
what_is Delete CancelBoth h = cc
what_is Delete Delete h = refl

thread_is : (m : Machine) (w : World) (id : GlobalId) (t : Found) → found m w id ≡ Some t → id ≡ t.declared.id
thread_is m w id t h = sym (id_of m w id t h).0

delivery_tried : (m : Machine) (w v : World) (s : Name) (receiver shown actual : GlobalId) (tag : ℕ) (words : List ℕ) (k : DeliverTaken m w v s receiver shown actual tag words) → NoneTried m w k.p.sender →
    next m w (Deliver s receiver shown actual tag words) ≡ Some v → ⊥
delivery_tried m w v s receiver shown actual tag words k none h =
    let message = k.p.send.message in
    let last : s ≡ last_of k.p.sender = last_is m w s k.p k.is_undecided in
    let tried : Step = Deliver (last_of k.p.sender) k.r.declared.id message.shown message.actual (received_tag (is_cross m k.r.declared.id message) message) message.words in
    let receiver_is : receiver ≡ k.r.declared.id = same_id_is receiver k.r.declared.id k.same_receiver in
    let tag_is : tag ≡ received_tag (is_cross m k.r.declared.id message) message = eqb-true tag _ k.same_tag ∙ ap (λ r. received_tag (is_cross m r message) message) receiver_is in
    let same : Deliver s receiver shown actual tag words ≡ tried =
    ap (λ x. Deliver x receiver shown actual tag words) last
    ∙ ap (λ x. Deliver (last_of k.p.sender) x shown actual tag words) receiver_is
    ∙ ap (λ x. Deliver (last_of k.p.sender) k.r.declared.id x actual tag words) (same_id_is shown message.shown k.same_shown)
    ∙ ap (λ x. Deliver (last_of k.p.sender) k.r.declared.id message.shown x tag words) (same_id_is actual message.actual k.same_actual)
    ∙ ap (λ x. Deliver (last_of k.p.sender) k.r.declared.id message.shown message.actual x words) tag_is
    ∙ ap (λ x. Deliver (last_of k.p.sender) k.r.declared.id message.shown message.actual (received_tag (is_cross m k.r.declared.id message) message) x) ((bytes_eq-Decides words message.words).0 k.same_words) in
    let is : undecided m w (last_of k.p.sender) ≡ Some k.p = ap (undecided m w) (sym last) ∙ k.is_undecided in
    let at : slice_get (candidates m w (Some k.p.sender)) 12 ≡ Some tried = rw (is, k.to) refl in
    not_tried m w v k.p.sender (Deliver s receiver shown actual tag words) tried 12 none at same h

order_tried : (m : Machine) (w v : World) (caller target : GlobalId) (what : OrderKind) (k : OrderTaken m w v caller target what) → NoneTried m w k.t → next m w (Order caller target what) ≡ Some v → ⊥
order_tried m w v caller target what k none h =
    let p = λ (step : Step). is_none (next m w step) in
    let tried : Step = Order k.t.declared.id k.order.target k.order.what in
    let both = and_true (same_id target k.order.target) (order_kind_code what == order_kind_code k.order.what) k.same_order in
    let same : Order caller target what ≡ tried =
    ap (λ x. Order x target what) (thread_is m w caller k.t k.found)
    ∙ ap (λ x. Order k.t.declared.id x what) (same_id_is target k.order.target both.0)
    ∙ ap (Order k.t.declared.id k.order.target) (what_is what k.order.what both.1) in
    let last : List Step = deliveries m w (undecided m w (last_of k.t)) (last_of k.t) in
    let rest : list_all p (orders k.t.declared.id (order_of (act_of m k.t))) ≡ true = all_right p last _ (all_drop p 12 (candidates m w (Some k.t)) none) in
    let nothing : is_none (next m w tried) ≡ true = all_at p (orders k.t.declared.id (order_of (act_of m k.t))) 0 tried rest (rw k.ordered refl) in
    none_some (next m w tried) v nothing (ap (next m w) (sym same) ∙ h)

-- No owed retarget is possible.
abbrev NoneOwed : Machine → World → Type 0
NoneOwed m w = list_all (λ o. is_none (next m w (Retarget o.send))) w.owed ≡ true

-- What is found passes, and has what all have.
find_all : (p q : Owed → Bool) (xs : List Owed) (x : Owed) → find q xs ≡ Some x → list_all p xs ≡ true → (q x ≡ true) × (p x ≡ true)
find_all p q [] x h all = cc
find_all p q (y ∷ xs) x h all = let both = and_true (p y) (list_all p xs) all in by (q y) refl both.0 h (λ rest. find_all p q xs x rest both.1)
  where
    by : (b : Bool) → q y ≡ b → p y ≡ true → cond b (Some y) (find q xs) ≡ Some x → (find q xs ≡ Some x → (q x ≡ true) × (p x ≡ true)) → (q x ≡ true) × (p x ≡ true)
    by true is here h rest = subst (λ z. (q z ≡ true) × (p z ≡ true)) (some_is y x h) (is, here)
    by false is here h rest = rest h

retarget_tried : (m : Machine) (w v : World) (s : Name) → NoneOwed m w → next m w (Retarget s) ≡ Some v → ⊥
retarget_tried m w v s none h =
    let k = retarget_taken m w v s h in
    let both = find_all (λ o. is_none (next m w (Retarget o.send))) (λ o. same_name s o.send) w.owed k.o k.is_owed none in
    none_some (next m w (Retarget k.o.send)) v both.1 (ap (λ x. next m w (Retarget x)) (sym (same_name_is s k.o.send both.0)) ∙ h)

-- Each step of a thread is tried, and each of its last send.

thread_place : ThreadStep → ℕ
thread_place Runs = 0
thread_place Waits = 2
thread_place Obeys = 3
thread_place (Fails TimeOver) = 4
thread_place (Fails NobodyThere) = 5
thread_place (Fails CancelAsked) = 6

thread_tried : (m : Machine) (w : World) (t : Found) (kind : ThreadStep) →
    slice_get (candidates m w (Some t)) (thread_place kind) ≡ Some (OfThread kind t.declared.id)
unfolding thread_place
thread_tried m w t Runs = refl
thread_tried m w t Waits = refl
thread_tried m w t Obeys = refl
thread_tried m w t (Fails TimeOver) = refl
thread_tried m w t (Fails NobodyThere) = refl
thread_tried m w t (Fails CancelAsked) = refl

failure_place : Failure → ℕ
failure_place TimeOver = 8
failure_place NobodyThere = 9
failure_place CancelAsked = 10

failure_tried : (m : Machine) (w : World) (t : Found) (why : Failure) →
    slice_get (candidates m w (Some t)) (failure_place why) ≡ Some (OfSend (Failed why) (last_of t))
unfolding failure_place
failure_tried m w t TimeOver = refl
failure_tried m w t NobodyThere = refl
failure_tried m w t CancelAsked = refl

abbrev NoThreadTried : Machine → World → Type 0
NoThreadTried m w = (id : GlobalId) (t : Found) → found m w id ≡ Some t → NoneTried m w t

last_tried : (m : Machine) (w v : World) (kind : SendStep) (s : Name) (p : Pending) (i : ℕ) → NoThreadTried m w →
    undecided m w s ≡ Some p → slice_get (candidates m w (Some p.sender)) i ≡ Some (OfSend kind (last_of p.sender)) →
    next m w (OfSend kind s) ≡ Some v → ⊥
last_tried m w v kind s p i none is at h =
    not_tried m w v p.sender (OfSend kind s) (OfSend kind (last_of p.sender)) i
    (none s.thread p.sender (sender_found m w s p is)) at (ap (OfSend kind) (last_is m w s p is)) h

begin_tried : (m : Machine) (w v : World) (s : Name) → NoThreadTried m w → next m w (OfSend Begun s) ≡ Some v → ⊥
begin_tried m w v s none h =
    let k = begin_taken m w v s h in
    let next_k : s.k ≡ k.t.now.context.begun + 1 = eqb-true s.k (k.t.now.context.begun + 1) k.next_k in
    let tried : Name = record { thread = k.t.declared.id; k = k.t.now.context.begun + 1 } in
    let same : s ≡ tried =
    ap (λ x. record { thread = x; k = s.k }) (thread_is m w s.thread k.t k.found)
    ∙ ap (λ n. record { thread = k.t.declared.id; k = n }) next_k in
    not_tried m w v k.t (OfSend Begun s) (OfSend Begun tried) 1 (none s.thread k.t k.found) refl
    (ap (OfSend Begun) same) h

tried_all : (m : Machine) (w v : World) (step : Step) → NoThreadTried m w → NoneOwed m w →
    is_tick step ≡ false → next m w step ≡ Some v → ⊥
tried_all m w v (OfThread kind id) none owed tick h =
    let k = thread_found m w v kind id h in
    not_tried m w v k.0 (OfThread kind id) (OfThread kind k.0.declared.id) (thread_place kind) (none id k.0 k.1)
    (thread_tried m w k.0 kind) (ap (OfThread kind) (thread_is m w id k.0 k.1)) h
tried_all m w v (OfSend Begun s) none owed tick h = begin_tried m w v s none h
tried_all m w v (OfSend Queued s) none owed tick h =
    let k = queue_taken m w v s h in
    last_tried m w v Queued s k.p 7 none k.is_undecided refl h
tried_all m w v (OfSend (Failed why) s) none owed tick h =
    let k = send_failed m w v s why h in
    last_tried m w v (Failed why) s k.p (failure_place why) none k.is_undecided (failure_tried m w k.p.sender why) h
tried_all m w v (OfSend Dropped s) none owed tick h =
    let k = drop_taken m w v s h in
    last_tried m w v Dropped s k.p 11 none k.is_undecided refl h
tried_all m w v (OfSend Retargeted s) none owed tick h = retarget_tried m w v s owed h
tried_all m w v (Deliver s receiver shown actual tag words) none owed tick h =
    let k = deliver_taken m w v s receiver shown actual tag words h in
    delivery_tried m w v s receiver shown actual tag words k (none s.thread k.p.sender (sender_found m w s k.p k.is_undecided)) h
tried_all m w v (Order caller target what) none owed tick h =
    let k = order_taken m w v caller target what h in
    order_tried m w v caller target what k (none caller k.t k.found) h
tried_all m w v (Tick cpu clock) none owed tick h = cc

-- The test finds it

threads_at : (p : Declaration → Bool) (ds : List Declaration) (i : ℕ) (d : Declaration) → list_all p ds ≡ true → slice_get ds i ≡ Some d → p d ≡ true
threads_at p [] i d h at = cc
threads_at p (x ∷ ds) zero d h at = ap p (sym (some_is x d at)) ∙ (and_true (p x) (list_all p ds) h).0
threads_at p (x ∷ ds) (suc i) d h at = threads_at p ds i d (and_true (p x) (list_all p ds) h).1 at

none_tried : (m : Machine) (w : World) → is_still m w ≡ true → (id : GlobalId) (t : Found) → found m (late w) id ≡ Some t → NoneTried m (late w) t
none_tried m w still id t is =
    let k = known m (late w) id t is in
    let here : is_still_thread m (late w) t.declared.id ≡ true = threads_at (λ d. is_still_thread m (late w) d.id) m.threads t.at t.declared (and_true _ _ still).0 k.declared in
    let found_is : found m (late w) t.declared.id ≡ Some t = ap (found m (late w)) (sym (thread_is m (late w) id t is)) ∙ is in
    rw found_is at here

none_owed : (m : Machine) (w : World) → is_still m w ≡ true → NoneOwed m (late w)
none_owed m w still = (and_true (list_all (λ d. is_still_thread m (late w) d.id) m.threads) _ still).1

still_from : (m : Machine) (w : World) → Sized m w → is_still m w ≡ true → IsStill m w
still_from m w sized still ticks later step all r not_tick = by (next m later step) refl
  where
    keeps : (later ≡ with_clocks w later.clocks) × Sized m later
    keeps = ticks_keep m ticks w later all r sized

    same : with_clocks later (map (λ c. 2 ^ 62 - 1) later.clocks) ≡ late w
    same =
        ap (λ (x : World). with_clocks x (map (λ c. 2 ^ 62 - 1) later.clocks)) keeps.0
        ∙ ap (with_clocks w) (late_same later.clocks w.clocks (keeps.1.clocks ∙ sym sized.clocks))

    possible : (v : World) → next m later step ≡ Some v → is_some (next m (late w) step) ≡ true
    possible v h = subst (λ x. is_some (next m x step) ≡ true) same (possible_later m later v (map (λ c. 2 ^ 62 - 1) later.clocks) step not_tick (late_later later.clocks keeps.1.low) h)

    impossible : (o : Option World) → next m (late w) step ≡ o → is_some o ≡ true → ⊥
    impossible None e h = cc
    impossible (Some v) e h = tried_all m (late w) v step (none_tried m w still) (none_owed m w still) not_tick e

    by : (o : Option World) → next m later step ≡ o → o ≡ None
    by None e = refl
    by (Some v) e = absurd (impossible (next m (late w) step) refl (possible v e))

-- Nothing is tried but what is no tick

all_append : (p : Step → Bool) (xs ys : List Step) → list_all p xs ≡ true → list_all p ys ≡ true → list_all p (xs ++ ys) ≡ true
all_append p [] ys hx hy = hy
all_append p (x ∷ xs) ys hx hy = let both = and_true (p x) (list_all p xs) hx in rw both.0 (all_append p xs ys both.1 hy)

all_from : (p q : Step → Bool) (xs : List Step) → ((x : Step) → p x ≡ true → q x ≡ true) → list_all p xs ≡ true → list_all q xs ≡ true
all_from p q [] then h = refl
all_from p q (x ∷ xs) then h = let both = and_true (p x) (list_all p xs) h in rw (then x both.0) (all_from p q xs then both.1)

abbrev is_no_tick : Step → Bool
is_no_tick step = not (is_tick step)

deliveries_no_tick : (m : Machine) (w : World) (o : Option Pending) (s : Name) → list_all is_no_tick (deliveries m w o s) ≡ true
deliveries_no_tick m w None s = refl
deliveries_no_tick m w (Some p) s = by (receiver_of m w p) refl
  where
    by : (r : Option Found) → receiver_of m w p ≡ r → list_all is_no_tick (deliveries m w (Some p) s) ≡ true
    by None e = rw e
    by (Some r) e = rw e

orders_no_tick : (id : GlobalId) (o : Option PendingOrder) → list_all is_no_tick (orders id o) ≡ true
orders_no_tick id None = refl
orders_no_tick id (Some order) = refl

candidates_no_tick : (m : Machine) (w : World) (o : Option Found) → list_all is_no_tick (candidates m w o) ≡ true
candidates_no_tick m w None = refl
candidates_no_tick m w (Some t) =
    all_append is_no_tick (deliveries m w (undecided m w (last_of t)) (last_of t)) (orders t.declared.id (order_of (act_of m t)))
    (deliveries_no_tick m w (undecided m w (last_of t)) (last_of t)) (orders_no_tick t.declared.id (order_of (act_of m t)))

still_to : (m : Machine) (w : World) → Sized m w → IsStill m w → is_still m w ≡ true
still_to m w sized still =
    and_from (list_all (λ d. is_still_thread m (late w) d.id) m.threads) (list_all (λ o. is_none (next m (late w) (Retarget o.send))) w.owed) (over m.threads) (over_owed w.owed)
  where
    none : (step : Step) → is_no_tick step ≡ true → is_none (next m (late w) step) ≡ true
    none step h = ap is_none (still (ticks_from 0 w.clocks) (late w) step (are_ticks 0 w.clocks) (run_ticks m w [] w.clocks 0 refl sized.low) (not-true (is_tick step) h))

    over : (ds : List Declaration) → list_all (λ d. is_still_thread m (late w) d.id) ds ≡ true
    over [] = refl
    over (d ∷ ds) =
        let here : is_still_thread m (late w) d.id ≡ true = all_from is_no_tick (λ step. is_none (next m (late w) step)) (candidates m (late w) (found m (late w) d.id)) none (candidates_no_tick m (late w) (found m (late w) d.id)) in
        and_from (is_still_thread m (late w) d.id) (list_all (λ x. is_still_thread m (late w) x.id) ds) here (over ds)

    over_owed : (os : List Owed) → list_all (λ o. is_none (next m (late w) (Retarget o.send))) os ≡ true
    over_owed [] = refl
    over_owed (o ∷ os) =
        and_from (is_none (next m (late w) (Retarget o.send))) (list_all (λ x. is_none (next m (late w) (Retarget x.send))) os) (none (Retarget o.send) refl) (over_owed os)

pub still_exactly : (m : Machine) (h : List Step) (w : World) → reached m h ≡ Some w → (is_still m w ≡ true) ↔ IsStill m w
still_exactly m h w r =
    let sized = (standing m h w r).sized in
    (still_from m w sized, still_to m w sized)
