-- Each possible step but a tick is listed, and no other, and none twice.
use Rattle.std.proofs.Common.{◌≡◌, ℕ, ◌≤◌, ◌+◌, zero, suc, Bool, true, false, cond, Option, Some, None, List, [], ◌∷◌, ◌++◌, map, refl, ap, sym, ◌∙◌, subst, arith}
use Rattle.std.specs.Prelude.{slice_get, filter_map, flat_map, is_some, option_map, ◌==◌, find, ◌↔◌}
use Rattle.std.specs.List.{cons_option, AllByRecursion}
use Rattle.std.proofs.lemmas.Bool.{eqb-true}
use Rattle.std.proofs.lemmas.Option.{slice_get_within, get_or_from_slice_get}
use Rattle.std.proofs.lemmas.Slice.Eq.{bytes_eq-Decides}
use Rattle.l4_model.specs.Words.{GlobalId, same_id}
use Rattle.l4_model.specs.Machine.{Machine, Declaration, OrderKind, CancelSend, CancelReceive, CancelBoth, Delete, place_of}
use Rattle.l4_model.specs.World.{Name, Owed, PendingOrder, World, same_name}
use Rattle.l4_model.specs.Rules.{Failure, TimeOver, NobodyThere, CancelAsked, received_tag, is_cross}
use Rattle.l4_model.specs.Conditions.{◌>>=◌, Found, Pending, found, undecided, receiver_of, act_of}
use Rattle.l4_model.specs.Steps.{SendStep, ThreadStep, Step, Begin, Queue, Deliver, Drop, Order, Tick, Retarget, order_of, next, order_kind_code, OfThread, OfSend, Runs, Waits, Fails, Obeys, Begun, Queued, Failed, Dropped, Retargeted}
use Rattle.l4_model.specs.Reached.{AreNamedOnce}
use Rattle.l4_model.specs.Still.{is_tick}
use Rattle.l4_model.proofs.Chains.{bind_then, guard_then, some_is, get-map}
use Rattle.l4_model.proofs.Inversions.{begin_taken, queue_taken, deliver_taken, drop_taken, order_taken, retarget_taken, send_failed, thread_found}
use Rattle.l4_model.proofs.Places.{and_true, eqb_same, id_of, known, sender_found, same_id_is, same_name_is, same_name_refl, known_send}
use Rattle.l4_model.proofs.Worlds.{reached_facts}
use Rattle.l4_core_model.specs.Local.{declared, undeclared}
use Rattle.l4_core_model.specs.Runs.{IsMachine}
use Rattle.l4_audit.specs.Possible.{is_number, name_of, delivery, order, turn, in_order, candidates, where_possible, possible_of, possible, has_number, IsOpen, IsListed, AreListedOnce, ListsPossible}

-- Standing in a list

abbrev IsIn : {A : Type 0} → A → List A → Type 0
IsIn x xs = (i : ℕ) × (slice_get xs i ≡ Some x)

-- What a list gives by a function that may give nothing.
in_filter_map : {A B : Type 0} (f : A → Option B) (xs : List A) (i : ℕ) (x : A) (y : B) → slice_get xs i ≡ Some x → f x ≡ Some y → IsIn y (filter_map f xs)
in_filter_map f [] i x y at e = cc
in_filter_map f (z ∷ xs) zero x y at e = rw (some_is z x at, e) (0, refl)
in_filter_map {B = B} f (z ∷ xs) (suc i) x y at e = by (f z) (in_filter_map f xs i x y at e)
  where
    by : (o : Option B) → IsIn y (filter_map f xs) → IsIn y (cons_option o (filter_map f xs))
    by None rest = rest
    by (Some v) rest = (suc rest.0, rest.1)

in_left : {A : Type 0} (xs ys : List A) (i : ℕ) (x : A) → slice_get xs i ≡ Some x → IsIn x (xs ++ ys)
in_left [] ys i x at = cc
in_left (z ∷ xs) ys zero x at = (0, at)
in_left (z ∷ xs) ys (suc i) x at = let r = in_left xs ys i x at in (suc r.0, r.1)

in_right : {A : Type 0} (xs ys : List A) (i : ℕ) (x : A) → slice_get ys i ≡ Some x → IsIn x (xs ++ ys)
in_right [] ys i x at = (i, at)
in_right (z ∷ xs) ys i x at = let r = in_right xs ys i x at in (suc r.0, r.1)

in_flat_map : {A B : Type 0} (f : A → List B) (xs : List A) (i : ℕ) (x : A) (j : ℕ) (y : B) → slice_get xs i ≡ Some x → slice_get (f x) j ≡ Some y → IsIn y (flat_map f xs)
in_flat_map f [] i x j y at here = cc
in_flat_map f (z ∷ xs) zero x j y at here = in_left (f z) (flat_map f xs) j y (rw (some_is z x at) here)
in_flat_map f (z ∷ xs) (suc i) x j y at here = let r = in_flat_map f xs i x j y at here in in_right (f z) (flat_map f xs) r.0 y r.1

-- Where an element of two lists stands.
in_append : {A P : Type 0} (xs ys : List A) (i : ℕ) (x : A) → slice_get (xs ++ ys) i ≡ Some x → (IsIn x xs → P) → (IsIn x ys → P) → P
in_append [] ys i x at left right = right (i, at)
in_append (z ∷ xs) ys zero x at left right = left (0, at)
in_append (z ∷ xs) ys (suc i) x at left right = in_append xs ys i x at (λ h. left (suc h.0, h.1)) right

record OfList {A B : Type 0} (f : A → List B) (xs : List A) (y : B) : Type 0 where
  pub i : ℕ
  pub x : A
  pub at : slice_get xs i ≡ Some x
  pub inside : IsIn y (f x)

of_flat_map : {A B : Type 0} (f : A → List B) (xs : List A) (j : ℕ) (y : B) → slice_get (flat_map f xs) j ≡ Some y → OfList f xs y
of_flat_map f [] j y at = cc
of_flat_map f (z ∷ xs) j y at =
    in_append (f z) (flat_map f xs) j y at
    (λ here. record { i = 0; x = z; at = refl; inside = here })
    (λ later. let r = of_flat_map f xs later.0 y later.1 in record { i = suc r.i; x = r.x; at = r.at; inside = r.inside })

find_at : {A : Type 0} (p : A → Bool) (xs : List A) (x : A) → find p xs ≡ Some x → IsIn x xs × (p x ≡ true)
find_at p [] x h = cc
find_at p (y ∷ xs) x h = by (p y) refl h (find_at p xs x)
  where
    by : (b : Bool) → p y ≡ b → cond b (Some y) (find p xs) ≡ Some x → (find p xs ≡ Some x → IsIn x xs × (p x ≡ true)) → IsIn x (y ∷ xs) × (p x ≡ true)
    by true is h rest = ((0, h), ap p (sym (some_is y x h)) ∙ is)
    by false is h rest = let r = rest h in ((suc r.0.0, r.0.1), r.1)

-- Each possible step is listed

shown_possible : (m : Machine) (w : World) (step : Step) → is_some (next m w step) ≡ true → where_possible m w (Some step) ≡ Some step
shown_possible m w step h = rw h refl

-- A candidate is listed where it is possible.
listed_in : (m : Machine) (w : World) (id : GlobalId) (t : Found) (step : Step) → found m w id ≡ Some t → IsIn (Some step) (candidates m w t) → is_some (next m w step) ≡ true → IsListed step (possible m w)
listed_in m w id t step is at h =
    let k = known m w id t is in
    let here : found m w t.declared.id ≡ Some t = ap (found m w) (id_of m w id t is).0 ∙ is in
    let one = in_filter_map (where_possible m w) (candidates m w t) at.0 (Some step) step at.1 (shown_possible m w step h) in
    in_flat_map (λ (d : Declaration). possible_of m w (found m w d.id)) m.threads t.at t.declared one.0 step k.declared (ap (λ o. slice_get (possible_of m w o) one.0) here ∙ one.1)

named_some : (id : GlobalId) (k : ℕ) → is_number k ≡ true → name_of id k ≡ Some (record { thread = id; k = k })
named_some id k h = by (is_number k) h
  where
    by : (b : Bool) → b ≡ true → cond {A = Option Name} b (Some (record { thread = id; k = k })) None ≡ Some (record { thread = id; k = k })
    by true h = refl
    by false h = cc

-- The names of the sends of a thread that was found.

coming_is : (m : Machine) (w : World) (s : Name) (t : Found) → found m w s.thread ≡ Some t → (s.k == t.now.context.begun + 1) ≡ true → is_number s.k ≡ true → name_of t.declared.id (t.now.context.begun + 1) ≡ Some s
coming_is m w s t is k number =
    ap (λ id. name_of id (t.now.context.begun + 1)) (id_of m w s.thread t is).0 ∙ ap (name_of s.thread) (sym (eqb-true s.k (t.now.context.begun + 1) k)) ∙ named_some s.thread s.k number

last_is : (m : Machine) (w : World) (s : Name) (p : Pending) → undecided m w s ≡ Some p → is_number s.k ≡ true → name_of p.sender.declared.id p.sender.now.context.begun ≡ Some s
last_is m w s p is number =
    ap (λ id. name_of id p.sender.now.context.begun) (id_of m w s.thread p.sender (sender_found m w s p is)).0
    ∙ ap (name_of s.thread) (known_send m w s p is).last ∙ named_some s.thread s.k number

what_is : (a b : OrderKind) → (order_kind_code a == order_kind_code b) ≡ true → a ≡ b
what_is CancelSend CancelSend h = refl
what_is CancelSend CancelReceive h = cc
what_is CancelSend CancelBoth h = cc
what_is CancelSend Delete h = cc
what_is CancelReceive CancelSend h = cc
what_is CancelReceive CancelReceive h = refl
what_is CancelReceive CancelBoth h = cc
what_is CancelReceive Delete h = cc
what_is CancelBoth CancelSend h = cc
what_is CancelBoth CancelReceive h = cc
what_is CancelBoth CancelBoth h = refl
what_is CancelBoth Delete h = cc
what_is Delete CancelSend h = cc
what_is Delete CancelReceive h = cc
what_is Delete CancelBoth h = cc
what_is Delete Delete h = refl

same_id_refl : (a : GlobalId) → same_id a a ≡ true
same_id_refl a = rw (eqb_same a.number, eqb_same a.version)

delivery_is : (m : Machine) (w : World) (s : Name) (p : Pending) (r : Found) → undecided m w s ≡ Some p → receiver_of m w p ≡ Some r →
    delivery m w (Some s)
    ≡ Some (Deliver s r.declared.id p.send.message.shown p.send.message.actual (received_tag (is_cross m r.declared.id p.send.message) p.send.message) p.send.message.words)
delivery_is m w s p r is to = rw (is, to) refl

delivery_listed : (m : Machine) (w v : World) (s : Name) (receiver shown actual : GlobalId) (tag : ℕ) (words : List ℕ) → next m w (Deliver s receiver shown actual tag words) ≡ Some v → is_number s.k ≡ true →
    IsListed (Deliver s receiver shown actual tag words) (possible m w)
delivery_listed m w v s receiver shown actual tag words h number =
    let k = deliver_taken m w v s receiver shown actual tag words h in
    let message = k.p.send.message in
    let told : Step = Deliver s k.r.declared.id message.shown message.actual (received_tag (is_cross m k.r.declared.id message) message) message.words in
    let receiver_is : receiver ≡ k.r.declared.id = same_id_is receiver k.r.declared.id k.same_receiver in
    let tag_is : tag ≡ received_tag (is_cross m k.r.declared.id message) message = eqb-true tag _ k.same_tag ∙ ap (λ r. received_tag (is_cross m r message) message) receiver_is in
    let same : Deliver s receiver shown actual tag words ≡ told =
    ap (λ x. Deliver s x shown actual tag words) receiver_is
    ∙ ap (λ x. Deliver s k.r.declared.id x actual tag words) (same_id_is shown message.shown k.same_shown)
    ∙ ap (λ x. Deliver s k.r.declared.id message.shown x tag words) (same_id_is actual message.actual k.same_actual)
    ∙ ap (λ x. Deliver s k.r.declared.id message.shown message.actual x words) tag_is
    ∙ ap (λ x. Deliver s k.r.declared.id message.shown message.actual (received_tag (is_cross m k.r.declared.id message) message) x) ((bytes_eq-Decides words message.words).0 k.same_words) in
    let at : slice_get (candidates m w k.p.sender) 3 ≡ Some (Some told) =
    ap (λ o. Some (delivery m w o)) (last_is m w s k.p k.is_undecided number) ∙ ap Some (delivery_is m w s k.p k.r k.is_undecided k.to) in
    let possible_so : is_some (next m w told) ≡ true = ap (λ x. is_some (next m w x)) (sym same) ∙ ap is_some h in
    subst (λ x. IsListed x (possible m w)) (sym same) (listed_in m w s.thread k.p.sender told (sender_found m w s k.p k.is_undecided) (3, at) possible_so)

order_listed : (m : Machine) (w v : World) (caller target : GlobalId) (what : OrderKind) → next m w (Order caller target what) ≡ Some v → IsListed (Order caller target what) (possible m w)
order_listed m w v caller target what h =
    let k = order_taken m w v caller target what h in
    let both = and_true (same_id target k.order.target) (order_kind_code what == order_kind_code k.order.what) k.same_order in
    let told : Step = Order caller k.order.target k.order.what in
    let same : Order caller target what ≡ told =
    ap (λ x. Order caller x what) (same_id_is target k.order.target both.0) ∙ ap (Order caller k.order.target) (what_is what k.order.what both.1) in
    let at : slice_get (candidates m w k.t) 12 ≡ Some (Some told) =
    ap (λ x. Some (order x (order_of (act_of m k.t)))) (id_of m w caller k.t k.found).0 ∙ ap (λ o. Some (order caller o)) k.ordered in
    let possible_so : is_some (next m w told) ≡ true = ap (λ x. is_some (next m w x)) (sym same) ∙ ap is_some h in
    subst (λ x. IsListed x (possible m w)) (sym same) (listed_in m w caller k.t told k.found (12, at) possible_so)

turn_is : (id : GlobalId) (o : Owed) → id ≡ o.originator → turn id o ≡ Some (Retarget o.send)
turn_is id o e =
    let same : same_id id o.originator ≡ true = ap (same_id id) (sym e) ∙ same_id_refl id in
    rw same refl

retarget_listed : (m : Machine) (w v : World) (s : Name) → next m w (Retarget s) ≡ Some v → IsListed (Retarget s) (possible m w)
retarget_listed m w v s h =
    let k = retarget_taken m w v s h in
    let there = find_at (λ (o : Owed). same_name s o.send) w.owed k.o k.is_owed in
    let same : Retarget s ≡ Retarget k.o.send = ap Retarget (same_name_is s k.o.send there.1) in
    let id : GlobalId = k.t.declared.id in
    let at : slice_get (map (turn id) w.owed) there.0.0 ≡ Some (Some (Retarget k.o.send)) =
    get-map (turn id) w.owed there.0.0 k.o there.0.1 ∙ ap Some (turn_is id k.o (id_of m w k.o.originator k.t k.found).0) in
    let inside : IsIn (Some (Retarget k.o.send)) (candidates m w k.t) =
    in_right (in_order m w k.t id (name_of id (k.t.now.context.begun + 1)) (name_of id k.t.now.context.begun)) (map (turn id) w.owed) there.0.0 (Some (Retarget k.o.send)) at in
    let possible_so : is_some (next m w (Retarget k.o.send)) ≡ true = ap (λ x. is_some (next m w x)) (sym same) ∙ ap is_some h in
    subst (λ x. IsListed x (possible m w)) (sym same) (listed_in m w k.o.originator k.t (Retarget k.o.send) k.found inside possible_so)

-- A step of a thread, or of its last send: the number is the place in the table.

thread_listed : (m : Machine) (w : World) (id : GlobalId) (kind : ThreadStep) (n : ℕ) (t : Found) →
    found m w id ≡ Some t → slice_get (candidates m w t) n ≡ Some (Some (OfThread kind t.declared.id)) →
    is_some (next m w (OfThread kind id)) ≡ true → IsListed (OfThread kind id) (possible m w)
thread_listed m w id kind n t is at goes =
    listed_in m w id t (OfThread kind id) is
    (n, at ∙ ap (λ x. Some (Some (OfThread kind x))) (id_of m w id t is).0) goes

of_thread : (m : Machine) (w : World) (id : GlobalId) (kind : ThreadStep) (t : Found) → found m w id ≡ Some t →
    is_some (next m w (OfThread kind id)) ≡ true → IsListed (OfThread kind id) (possible m w)
of_thread m w id Runs t is goes = thread_listed m w id Runs 0 t is refl goes
of_thread m w id Waits t is goes = thread_listed m w id Waits 4 t is refl goes
of_thread m w id (Fails TimeOver) t is goes = thread_listed m w id (Fails TimeOver) 6 t is refl goes
of_thread m w id (Fails NobodyThere) t is goes = thread_listed m w id (Fails NobodyThere) 8 t is refl goes
of_thread m w id (Fails CancelAsked) t is goes = thread_listed m w id (Fails CancelAsked) 10 t is refl goes
of_thread m w id Obeys t is goes = thread_listed m w id Obeys 13 t is refl goes

last_listed : (m : Machine) (w v : World) (s : Name) (kind : SendStep) (n : ℕ) (p : Pending) →
    undecided m w s ≡ Some p → is_number s.k ≡ true →
    slice_get (candidates m w p.sender) n
    ≡ Some (option_map (OfSend kind) (name_of p.sender.declared.id p.sender.now.context.begun)) →
    next m w (OfSend kind s) ≡ Some v → IsListed (OfSend kind s) (possible m w)
last_listed m w v s kind n p is number at h =
    listed_in m w s.thread p.sender (OfSend kind s) (sender_found m w s p is)
    (n, at ∙ ap (λ o. Some (option_map (OfSend kind) o)) (last_is m w s p is number)) (ap is_some h)

refusal_listed : (m : Machine) (w v : World) (s : Name) (why : Failure) (p : Pending) → undecided m w s ≡ Some p →
    is_number s.k ≡ true → next m w (OfSend (Failed why) s) ≡ Some v → IsListed (OfSend (Failed why) s) (possible m w)
refusal_listed m w v s TimeOver p is number h = last_listed m w v s (Failed TimeOver) 5 p is number refl h
refusal_listed m w v s NobodyThere p is number h = last_listed m w v s (Failed NobodyThere) 7 p is number refl h
refusal_listed m w v s CancelAsked p is number h = last_listed m w v s (Failed CancelAsked) 9 p is number refl h

all_listed : (m : Machine) (w v : World) (step : Step) → next m w step ≡ Some v → is_tick step ≡ false →
    has_number step ≡ true → IsListed step (possible m w)
all_listed m w v (OfThread kind id) h tick number =
    let k = thread_found m w v kind id h in
    of_thread m w id kind k.0 k.1 (ap is_some h)
all_listed m w v (OfSend Begun s) h tick number =
    let k = begin_taken m w v s h in
    let name = coming_is m w s k.t k.found k.next_k number in
    listed_in m w s.thread k.t (OfSend Begun s) k.found (1, ap (λ o. Some (option_map Begin o)) name) (ap is_some h)
all_listed m w v (OfSend Queued s) h tick number =
    let k = queue_taken m w v s h in
    last_listed m w v s Queued 2 k.p k.is_undecided number refl h
all_listed m w v (OfSend (Failed why) s) h tick number =
    let k = send_failed m w v s why h in
    refusal_listed m w v s why k.p k.is_undecided number h
all_listed m w v (OfSend Dropped s) h tick number =
    let k = drop_taken m w v s h in
    last_listed m w v s Dropped 11 k.p k.is_undecided number refl h
all_listed m w v (OfSend Retargeted s) h tick number = retarget_listed m w v s h
all_listed m w v (Deliver s receiver shown actual tag words) h tick number =
    delivery_listed m w v s receiver shown actual tag words h number
all_listed m w v (Order caller target what) h tick number = order_listed m w v caller target what h
all_listed m w v (Tick cpu clock) h tick number = cc

-- What is known of a candidate

-- Of an owed retarget: how many are owed before it, and who is to turn by it.

abbrev place_named : List Owed → Name → ℕ
place_named [] s = 0
place_named (o ∷ os) s = cond (same_name o.send s) 0 (suc (place_named os s))

abbrev originator_named : List Owed → Name → Option GlobalId
originator_named [] s = None
originator_named (o ∷ os) s = cond (same_name o.send s) (Some o.originator) (originator_named os s)

all_at : {A : Type 0} (P : A → Type 0) (xs : List A) (i : ℕ) (x : A) → AllByRecursion P xs → slice_get xs i ≡ Some x → P x
all_at P [] i x all at = cc
all_at P (y ∷ xs) zero x all at = subst P (some_is y x at) all.0
all_at P (y ∷ xs) (suc i) x all at = all_at P xs i x all.1 at

turn_at : (os : List Owed) (j : ℕ) (o : Owed) → AreNamedOnce os → slice_get os j ≡ Some o → (place_named os o.send ≡ j) × (originator_named os o.send ≡ Some o.originator)
turn_at [] j o once at = cc
turn_at (x ∷ os) zero o once at =
    let first : same_name x.send o.send ≡ true = ap (λ (y : Owed). same_name y.send o.send) (some_is x o at) ∙ same_name_refl o.send in
    let who : Some x.originator ≡ Some o.originator = ap (λ (y : Owed). Some y.originator) (some_is x o at) in
    rw first (refl, who)
turn_at (x ∷ os) (suc j) o once at =
    let other : same_name x.send o.send ≡ false = all_at (λ (y : Owed). same_name x.send y.send ≡ false) os j o once.0 at in
    let rest = turn_at os j o once.1 at in
    rw other (ap suc rest.0, rest.1)

-- The thread that may be in for a step, and the step's place among its candidates.

abbrev owner : List Owed → Step → Option GlobalId
owner os (OfThread kind id) = Some id
owner os (OfSend Retargeted s) = originator_named os s
owner os (OfSend kind s) = Some s.thread
owner os (Deliver s receiver shown actual tag words) = Some s.thread
owner os (Order caller target what) = Some caller
owner os (Tick cpu clock) = None

abbrev rank : List Owed → Step → ℕ
rank os (OfThread Runs id) = 0
rank os (OfSend Begun s) = 1
rank os (OfSend Queued s) = 2
rank os (Deliver s receiver shown actual tag words) = 3
rank os (OfThread Waits id) = 4
rank os (OfSend (Failed TimeOver) s) = 5
rank os (OfThread (Fails TimeOver) id) = 6
rank os (OfSend (Failed NobodyThere) s) = 7
rank os (OfThread (Fails NobodyThere) id) = 8
rank os (OfSend (Failed CancelAsked) s) = 9
rank os (OfThread (Fails CancelAsked) id) = 10
rank os (OfSend Dropped s) = 11
rank os (Order caller target what) = 12
rank os (OfThread Obeys caller) = 13
rank os (Tick cpu clock) = 0
rank os (OfSend Retargeted s) = 14 + place_named os s

record Fits (os : List Owed) (id : GlobalId) (n : ℕ) (step : Step) : Type 0 where
  no_tick : is_tick step ≡ false
  number : has_number step ≡ true
  owned : AreNamedOnce os → owner os step ≡ Some id
  ranked : AreNamedOnce os → rank os step ≡ n

-- Each candidate of a list fits its place, counted from a number on.
abbrev AllFit : List Owed → GlobalId → ℕ → List (Option Step) → Type 0
AllFit os id n [] = Unit {0}
AllFit os id n (c ∷ cs) = ((step : Step) → c ≡ Some step → Fits os id n step) × AllFit os id (n + 1) cs

module _ (os : List Owed) (id : GlobalId) where
  fits_here : (n : ℕ) (x : Step) → Fits os id n x → (step : Step) → Some x ≡ Some step → Fits os id n step
  fits_here n x fit step e = subst (Fits os id n) (some_is x step e) fit

  fits_thread : (n : ℕ) (kind : ThreadStep) → ((os : List Owed) → rank os (OfThread kind id) ≡ n) → (step : Step) →
      Some (OfThread kind id) ≡ Some step → Fits os id n step
  fits_thread n kind ranked step e =
      subst (Fits os id n) (some_is (OfThread kind id) step e)
      (record { no_tick = refl; number = refl; owned = λ once. refl; ranked = λ once. ranked os })

  fits_named : (n : ℕ) (f : Name → Step) (k : ℕ) → (is_number k ≡ true → Fits os id n (f (record { thread = id; k = k }))) → (step : Step) → option_map f (name_of id k) ≡ Some step → Fits os id n step
  fits_named n f k fit step e = by (is_number k) refl e
    where
      by : (b : Bool) → is_number k ≡ b → option_map f (cond b (Some (record { thread = id; k = k })) None) ≡ Some step → Fits os id n step
      by true is e = subst (Fits os id n) (some_is _ step e) (fit is)
      by false is e = cc

  name_is : (k : ℕ) (s : Name) → name_of id k ≡ Some s → (s.thread ≡ id) × (is_number s.k ≡ true)
  name_is k s e = by (is_number k) refl e
    where
      by : (b : Bool) → is_number k ≡ b → cond b (Some (record { thread = id; k = k })) None ≡ Some s → (s.thread ≡ id) × (is_number s.k ≡ true)
      by true is e = subst (λ (x : Name). (x.thread ≡ id) × (is_number x.k ≡ true)) (some_is _ s e) (refl, is)
      by false is e = cc

  fits_delivery : (m : Machine) (w : World) (k : ℕ) (step : Step) → delivery m w (name_of id k) ≡ Some step → Fits os id 3 step
  fits_delivery m w k step e =
      bind_then (name_of id k) _ step e λ s is rest.
      bind_then (undecided m w s) _ step rest λ p there rest.
      bind_then (receiver_of m w p) _ step rest λ r to rest.
      let named = name_is k s is in
      subst (Fits os id 3) (some_is _ step rest) (record { no_tick = refl; number = named.1; owned = λ once. ap Some named.0; ranked = λ once. refl })

  fits_order : (asked : Option PendingOrder) (step : Step) → order id asked ≡ Some step → Fits os id 12 step
  fits_order None step e = cc
  fits_order (Some o) step e = subst (Fits os id 12) (some_is _ step e) (record { no_tick = refl; number = refl; owned = λ once. refl; ranked = λ once. refl })

  fits_turn : (j : ℕ) (o : Owed) (step : Step) → slice_get os j ≡ Some o → turn id o ≡ Some step → Fits os id (14 + j) step
  fits_turn j o step at e = by (same_id id o.originator) refl e
    where
      by : (b : Bool) → same_id id o.originator ≡ b → cond b (Some (Retarget o.send)) None ≡ Some step → Fits os id (14 + j) step
      by true is e =
          subst (Fits os id (14 + j)) (some_is _ step e)
          (record {
            no_tick = refl;
            number = refl;
            owned = λ once. (turn_at os j o once at).1 ∙ ap Some (sym (same_id_is id o.originator is));
            ranked = λ once. ap (λ n. 14 + n) (turn_at os j o once at).0;
          })
      by false is e = cc

  fit_turns : (n : ℕ) (rest : List Owed) → ((j : ℕ) (o : Owed) (step : Step) → slice_get rest j ≡ Some o → turn id o ≡ Some step → Fits os id (n + j) step) → AllFit os id n (map (turn id) rest)
  fit_turns n [] each = tt
  fit_turns n (o ∷ rest) each = (
    (λ step e. let here : n + 0 ≡ n = omega arith in subst (λ k. Fits os id k step) here (each 0 o step refl e)),
    fit_turns (n + 1) rest (λ j x step at e. let later : n + suc j ≡ n + 1 + j = omega arith in subst (λ k. Fits os id k step) later (each (suc j) x step at e)),
  )

  fit_all : (m : Machine) (w : World) (t : Found) (a b : ℕ) → AllFit os id 0 (in_order m w t id (name_of id a) (name_of id b) ++ map (turn id) os)
  fit_all m w t a b = (
    fits_thread 0 Runs (λ os. refl),
    (
      fits_named 1 Begin a (λ is. record { no_tick = refl; number = is; owned = λ once. refl; ranked = λ once. refl }),
      (
        fits_named 2 Queue b (λ is. record { no_tick = refl; number = is; owned = λ once. refl; ranked = λ once. refl }),
        (
          fits_delivery m w b,
          (
            fits_thread 4 Waits (λ os. refl),
            (
              fits_named 5 (OfSend (Failed TimeOver)) b (λ is. record { no_tick = refl; number = is; owned = λ once. refl; ranked = λ once. refl }),
              (
                fits_thread 6 (Fails TimeOver) (λ os. refl),
                (
                  fits_named 7 (OfSend (Failed NobodyThere)) b (λ is. record { no_tick = refl; number = is; owned = λ once. refl; ranked = λ once. refl }),
                  (
                    fits_thread 8 (Fails NobodyThere) (λ os. refl),
                    (
                      fits_named 9 (OfSend (Failed CancelAsked)) b (λ is. record { no_tick = refl; number = is; owned = λ once. refl; ranked = λ once. refl }),
                      (
                        fits_thread 10 (Fails CancelAsked) (λ os. refl),
                        (
                          fits_named 11 Drop b (λ is. record { no_tick = refl; number = is; owned = λ once. refl; ranked = λ once. refl }),
                          (
                            fits_order (order_of (act_of m t)),
                            (
                              fits_thread 13 Obeys (λ os. refl),
                              fit_turns 14 os fits_turn,
                            ),
                          ),
                        ),
                      ),
                    ),
                  ),
                ),
              ),
            ),
          ),
        ),
      ),
    ),
  )

-- What is listed

candidate_is : (m : Machine) (w : World) (c : Option Step) (step : Step) → where_possible m w c ≡ Some step → (c ≡ Some step) × (is_some (next m w step) ≡ true)
candidate_is m w None step e = cc
candidate_is m w (Some x) step e =
    guard_then (is_some (next m w x)) (Some x) step e λ possible_so same.
    (same, ap (λ y. is_some (next m w y)) (sym (some_is x step same)) ∙ possible_so)

-- What a list of candidates gives is one of them, and fits its place.
record Chosen (m : Machine) (w : World) (id : GlobalId) (n : ℕ) (step : Step) : Type 0 where
  place : ℕ
  from : n ≤ place
  fits : Fits w.owed id place step
  possible : is_some (next m w step) ≡ true

chosen : (m : Machine) (w : World) (id : GlobalId) (n : ℕ) (cs : List (Option Step)) (step : Step) → AllFit w.owed id n cs → IsIn step (filter_map (where_possible m w) cs) → Chosen m w id n step
chosen m w id n [] step all inside = let h = inside.1 in cc
chosen m w id n (c ∷ cs) step all inside = by (where_possible m w c) refl (λ h. chosen m w id (n + 1) cs step all.1 h) inside.0 inside.1
  where
    later : Chosen m w id (n + 1) step → Chosen m w id n step
    later k = let from = k.from in record { place = k.place; from = omega (arith, from); fits = k.fits; possible = k.possible }

    by : (o : Option Step) → where_possible m w c ≡ o → (IsIn step (filter_map (where_possible m w) cs) → Chosen m w id (n + 1) step) → (i : ℕ) →
        slice_get (cons_option o (filter_map (where_possible m w) cs)) i ≡ Some step → Chosen m w id n step
    by None is rest i at = later (rest (i, at))
    by (Some x) is rest zero at =
        let both = candidate_is m w c step (is ∙ at) in
        record { place = n; from = omega arith; fits = all.0 step both.0; possible = both.1 }
    by (Some x) is rest (suc i) at = later (rest (i, at))

-- A step that is listed, with the place of its thread.
record Told (m : Machine) (w : World) (id : GlobalId) (step : Step) : Type 0 where
  t : Found
  is : found m w id ≡ Some t
  choice : Chosen m w t.declared.id 0 step

told_of : (m : Machine) (w : World) (id : GlobalId) (step : Step) → IsIn step (possible_of m w (found m w id)) → Told m w id step
told_of m w id step inside = by (found m w id) refl inside
  where
    by : (o : Option Found) → found m w id ≡ o → IsIn step (possible_of m w o) → Told m w id step
    by None is inside = let h = inside.1 in cc
    by (Some t) is inside =
        record {
          t = t;
          is = is;
          choice = chosen m w t.declared.id 0 (candidates m w t) step (fit_all w.owed t.declared.id m w t (t.now.context.begun + 1) t.now.context.begun) inside;
        }

only_open : (m : Machine) (w : World) (step : Step) → IsListed step (possible m w) → IsOpen m w step
only_open m w step listed =
    let of = of_flat_map (λ (d : Declaration). possible_of m w (found m w d.id)) m.threads listed.0 step listed.1 in
    let k = (told_of m w of.x.id step of.inside).choice in
    record { possible = k.possible; no_tick = k.fits.no_tick; number = k.fits.number }

some_of : {A : Type 0} (o : Option A) → is_some o ≡ true → (x : A) × (o ≡ Some x)
some_of None h = cc
some_of (Some x) h = (x, refl)

listed_exactly : (m : Machine) (w : World) (step : Step) → IsListed step (possible m w) ↔ IsOpen m w step
listed_exactly m w step = (
  only_open m w step,
  λ is. let v = some_of (next m w step) is.possible in all_listed m w v.0 step v.1 is.no_tick is.number,
)

-- None is listed twice

abbrev AreDifferent : {A : Type 0} → List A → Type 0
AreDifferent [] = Unit {0}
AreDifferent (x ∷ xs) = (IsIn x xs → ⊥) × AreDifferent xs

different_at : {A : Type 0} (xs : List A) (i j : ℕ) (x : A) → AreDifferent xs → slice_get xs i ≡ Some x → slice_get xs j ≡ Some x → i ≡ j
different_at [] i j x d a b = cc
different_at (y ∷ xs) zero zero x d a b = refl
different_at (y ∷ xs) zero (suc j) x d a b = absurd (d.0 (j, b ∙ sym a))
different_at (y ∷ xs) (suc i) zero x d a b = absurd (d.0 (i, a ∙ sym b))
different_at (y ∷ xs) (suc i) (suc j) x d a b = ap suc (different_at xs i j x d.1 a b)

different_append : {A : Type 0} (xs ys : List A) → AreDifferent xs → AreDifferent ys → ((x : A) → IsIn x xs → IsIn x ys → ⊥) → AreDifferent (xs ++ ys)
different_append [] ys a b apart = b
different_append (x ∷ xs) ys a b apart =
    ((λ h. in_append xs ys h.0 x h.1 a.0 (apart x (0, refl))), different_append xs ys a.1 b (λ y p. apart y (suc p.0, p.1)))

-- Of one thread.
different_of : (m : Machine) (w : World) (id : GlobalId) (n : ℕ) (cs : List (Option Step)) → AreNamedOnce w.owed → AllFit w.owed id n cs → AreDifferent (filter_map (where_possible m w) cs)
different_of m w id n [] once all = tt
different_of m w id n (c ∷ cs) once all = by (where_possible m w c) refl (different_of m w id (n + 1) cs once all.1)
  where
    by : (o : Option Step) → where_possible m w c ≡ o → AreDifferent (filter_map (where_possible m w) cs) → AreDifferent (cons_option o (filter_map (where_possible m w) cs))
    by None is rest = rest
    by (Some x) is rest = (
      (λ h.
          let k = chosen m w id (n + 1) cs x all.1 h in
          let same : n ≡ k.place = sym ((all.0 x (candidate_is m w c x is).0).ranked once) ∙ k.fits.ranked once in
          let from = k.from in
          omega (arith, same, from)),
      rest,
    )

-- Of one thread after another: a step of theirs has the place of its owner.
different_all : (g : Declaration → List Step) (key : Step → Option ℕ) (n : ℕ) (ds : List Declaration) → ((i : ℕ) (d : Declaration) (step : Step) → slice_get ds i ≡ Some d → IsIn step (g d) → key step ≡ Some (n + i)) →
    ((d : Declaration) → AreDifferent (g d)) → AreDifferent (flat_map g ds)
different_all g key n [] keys each = tt
different_all g key n (d ∷ ds) keys each =
    different_append (g d) (flat_map g ds) (each d)
    (different_all g key (n + 1) ds (λ i x step at inside. let later : n + suc i ≡ n + 1 + i = omega arith in keys (suc i) x step at inside ∙ ap Some later) each)
    (λ step here there.
    let of = of_flat_map g ds there.0 step there.1 in
    let same : n + 0 ≡ n + suc of.i = some_is (n + 0) (n + suc of.i) (sym (keys 0 d step refl here) ∙ keys (suc of.i) of.x step of.at of.inside) in
    omega (arith, same))

abbrev listed_of : Machine → World → Declaration → List Step
listed_of m w d = possible_of m w (found m w d.id)

-- The place of the thread that may be in for a step.
abbrev owner_place : Machine → World → Step → Option ℕ
owner_place m w step = owner w.owed step >>= place_of m

placed : (m : Machine) (i : ℕ) (d : Declaration) → IsMachine m → slice_get m.threads i ≡ Some d → place_of m d.id ≡ Some i
placed m i d machine at =
    let lt = slice_get_within m.threads i d at in
    let is : declared m i ≡ d = get_or_from_slice_get m.threads i d undeclared at in
    ap (λ (x : Declaration). place_of m x.id) (sym is) ∙ machine.placed i lt

told_at : (m : Machine) (w : World) (i : ℕ) (d : Declaration) (step : Step) → IsMachine m → AreNamedOnce w.owed → slice_get m.threads i ≡ Some d → IsIn step (listed_of m w d) → owner_place m w step ≡ Some i
told_at m w i d step machine once at inside =
    let told = told_of m w d.id step inside in
    let owned : owner w.owed step ≡ Some d.id = told.choice.fits.owned once ∙ ap Some (id_of m w d.id told.t told.is).0 in
    ap (λ o. o >>= place_of m) owned ∙ placed m i d machine at

different_there : (m : Machine) (w : World) (o : Option Found) → AreNamedOnce w.owed → AreDifferent (possible_of m w o)
different_there m w None once = tt
different_there m w (Some t) once = different_of m w t.declared.id 0 (candidates m w t) once (fit_all w.owed t.declared.id m w t (t.now.context.begun + 1) t.now.context.begun)

listed_once : (m : Machine) (w : World) → IsMachine m → AreNamedOnce w.owed → AreListedOnce (possible m w)
listed_once m w machine once i j step a b =
    different_at (possible m w) i j step
    (different_all (listed_of m w) (owner_place m w) 0 m.threads
    (λ n d x at inside. let from : n ≡ 0 + n = omega arith in told_at m w n d x machine once at inside ∙ ap Some from)
    (λ d. different_there m w (found m w d.id) once)) a b

pub lists_possible : (m : Machine) (w : World) → ListsPossible m w
lists_possible m w = record { exactly = listed_exactly m w; once = λ machine h r. listed_once m w machine (reached_facts m h w r).owed_once }
