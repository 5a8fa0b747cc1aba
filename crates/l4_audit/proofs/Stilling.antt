-- The steps that a thread can be in for, test by test.
use Rattle.std.proofs.Common.{◌≡◌, ℕ, ◌+◌, ◌-◌, ◌^◌, Bool, true, false, Option, Some, None, List, [], ◌∷◌, ◌++◌, map, length, refl, ap, sym, ◌∙◌, ◌||◌, ◌&&◌}
use Rattle.std.proofs.Math.Bool.{and-true}
use Rattle.std.specs.Prelude.{not, ◌==◌, is_some, is_none, replicate}
use Rattle.std.specs.List.{list_all}
use Rattle.std.specs.Option.{option_map}
use Rattle.l4_model.proofs.Chains.{some_is}
use Rattle.l4_model.specs.Words.{GlobalId}
use Rattle.l4_model.specs.Machine.{Machine, place_of, is_place}
use Rattle.l4_model.specs.World.{Send, Receive, PendingOrder, Owed, World, Name, is_ready, is_deleted, is_alive, receive_now}
use Rattle.l4_model.specs.Rules.{Failure, TimeOver, NobodyThere, CancelAsked, Act, RunsAlone, Sends, Receives, Orders, received_tag, is_cross}
use Rattle.l4_model.specs.Conditions.{Found, found, found_by, Pending, undecided, receiver_of, act_of, is_waiting, first_accepted, is_nobody, is_no_destination, is_timed_out, ◌>>=◌, ◌>>◌}
use Rattle.l4_model.specs.Steps.{Step, next, order_kind_code, runs_alone, send_of, receive_of, order_of, receive_passed, after_local, after_begin, after_wait, after_obey, after_failure, may_fail, after_queue, after_refusal, after_drop}
use Rattle.l4_model.specs.Still.{late, candidates, deliveries, orders, is_still_thread}
use Rattle.l4_model.proofs.Places.{id_of, eqb_same}
use Rattle.l4_core_model.proofs.Changed.{same_ids, same_bytes}
use Rattle.l4_thread.specs.Inner.Parts.{Block}
use Rattle.l4_audit.specs.Inner.Audited.{Audited, with_world}
use Rattle.l4_audit.specs.Inner.Stillness.{may_obey, may_stop, is_taken, may_arrive, may_decide, may_send, is_still_found}
use Rattle.l4_audit.proofs.Writing.{audited}

-- Late clocks

all_late : (v : ℕ) (cs : List ℕ) → map (λ c. v) cs ≡ replicate (length cs) v
all_late v [] = refl
all_late v (c ∷ cs) = ap (λ xs. v ∷ xs) (all_late v cs)

pub stopped : (m : Machine) (bs : List Block) (ws : List (List ℕ)) (cs new : List ℕ) (os : List Owed) (a : Audited) → audited m bs ws cs os ≡ a → new ≡ replicate (length cs) (2 ^ 62 - 1) →
    audited m bs ws new os ≡ with_world a (late a.world)
stopped m bs ws cs new os a is e = rw (← is, e) (ap (λ xs. audited m bs ws xs os) (sym (all_late (2 ^ 62 - 1) cs)))

-- Tests

one_guard : {A : Type 0} (b : Bool) (x : A) → is_none (b >> Some x) ≡ not b
one_guard true x = refl
one_guard false x = refl

two_guards : {A : Type 0} (b d : Bool) (x : A) → is_none (b >> (d >> Some x)) ≡ not (b && d)
two_guards true true x = refl
two_guards true false x = refl
two_guards false d x = refl

guard_bind : {A B : Type 0} (b : Bool) (o : Option B) (f : B → A) → is_none (b >> (o >>= λ y. Some (f y))) ≡ not (b && is_some o)
guard_bind true None f = refl
guard_bind true (Some y) f = refl
guard_bind false o f = refl

bound : {A B : Type 0} (o : Option B) (f : B → A) → is_none (o >>= λ y. Some (f y)) ≡ not (is_some o)
bound None f = refl
bound (Some y) f = refl

bind_bind : {A B C : Type 0} (o : Option B) (g : B → Option C) (f : B → C → A) → is_none (o >>= λ y. g y >>= λ z. Some (f y z)) ≡ not (is_some (o >>= g))
bind_bind None g f = refl
bind_bind (Some y) g f = bound (g y) (f y)

obeys_as : (m : Machine) (o : Option PendingOrder) → is_some (o >>= λ order. place_of m order.target) ≡ may_obey m o
obeys_as m None = refl
obeys_as m (Some order) = refl

locals : (m : Machine) (w : World) (t : Found) → found m w t.declared.id ≡ Some t → is_none (after_local m w t.declared.id) ≡ not (is_ready t.now.phase && runs_alone (act_of m t))
locals m w t is = rw is (two_guards (is_ready t.now.phase) (runs_alone (act_of m t)) _)

begins_is : (m : Machine) (w : World) (t : Found) → found m w t.declared.id ≡ Some t →
    is_none (after_begin m w (record { thread = t.declared.id; k = t.now.context.begun + 1 })) ≡ not (is_ready t.now.phase && is_some (send_of (act_of m t)))
begins_is m w t is = let same = eqb_same (t.now.context.begun + 1) in rw (is, same) (guard_bind (is_ready t.now.phase) (send_of (act_of m t)) _)

waits_is : (m : Machine) (w : World) (t : Found) → found m w t.declared.id ≡ Some t → is_none (after_wait m w t.declared.id) ≡ not (is_ready t.now.phase && is_some (receive_of (act_of m t)))
waits_is m w t is = rw is (guard_bind (is_ready t.now.phase) (receive_of (act_of m t)) _)

obeys : (m : Machine) (w : World) (t : Found) → found m w t.declared.id ≡ Some t → is_none (after_obey m w t.declared.id) ≡ not (may_obey m t.now.order)
obeys m w t is = rw is (bind_bind t.now.order (λ order. place_of m order.target) _ ∙ ap not (obeys_as m t.now.order))

orders_is : (m : Machine) (w : World) (t : Found) → found m w t.declared.id ≡ Some t →
    list_all (λ step. is_none (next m w step)) (orders t.declared.id (order_of (act_of m t))) ≡ not (is_ready t.now.phase && is_some (order_of (act_of m t)))
orders_is m w t is = by (order_of (act_of m t)) refl
  where
    and_false : (b : Bool) → true ≡ not (b && false)
    and_false true = refl
    and_false false = refl

    both : (b : Bool) (v : World) → (is_none (b >> Some v) && true) ≡ not (b && true)
    both true v = refl
    both false v = refl

    by : (o : Option PendingOrder) → order_of (act_of m t) ≡ o → list_all (λ step. is_none (next m w step)) (orders t.declared.id o) ≡ not (is_ready t.now.phase && is_some o)
    by None e = and_false (is_ready t.now.phase)
    by (Some order) e =
        let id = same_ids order.target in
        let what = eqb_same (order_kind_code order.what) in
        rw (is, e, id, what) (both (is_ready t.now.phase) _)

-- the receive phase

abbrev holds : {B : Type 0} → Option B → (B → Bool) → Bool
holds None p = false
holds (Some y) p = p y

guard_bound : {A B : Type 0} (o : Option B) (p : B → Bool) (f : B → A) → is_none (o >>= λ y. p y >> Some (f y)) ≡ not (holds o p)
guard_bound None p f = refl
guard_bound (Some y) p f = one_guard (p y) (f y)

guards_bound : {A B : Type 0} (o : Option B) (p q : B → Bool) (f : B → A) → is_none (o >>= λ y. p y >> (q y >> Some (f y))) ≡ not (holds o (λ y. p y && q y))
guards_bound None p q f = refl
guards_bound (Some y) p q f = two_guards (p y) (q y) (f y)

stops : (m : Machine) (w : World) (t : Found) → found m w t.declared.id ≡ Some t →
    (is_none (after_failure m w t.declared.id TimeOver) && (is_none (after_failure m w t.declared.id NobodyThere)
    && is_none (after_failure m w t.declared.id CancelAsked)))
    ≡ not (may_stop m w t (receive_now t.now.phase))
stops m w t is =
    rw (fails_so TimeOver, fails_so NobodyThere, fails_so CancelAsked) (by (receive_now t.now.phase))
  where
    none : Receive → Bool
    none receive = is_none (first_accepted m w t receive.from)

    nobody : Receive → Bool
    nobody receive = is_nobody receive.from (found_by m w receive.from)

    passed : Receive → Bool
    passed receive = receive_passed t t.now.phase

    wish : Receive → Bool
    wish receive = t.now.cancel_receive

    fails_so : (why : Failure) → is_none (after_failure m w t.declared.id why) ≡
        not (holds (receive_now t.now.phase) (λ r. may_fail m w t r why))
    fails_so why = rw is (guard_bound (receive_now t.now.phase) (λ r. may_fail m w t r why) _)

    tests : (a b d e : Bool) → (not (a && d) && (not (b && d) && not e)) ≡ not (e || ((a || b) && d))
    tests true b true true = refl
    tests true b true false = refl
    tests true true false true = refl
    tests true true false false = refl
    tests true false false true = refl
    tests true false false false = refl
    tests false true true true = refl
    tests false true true false = refl
    tests false true false true = refl
    tests false true false false = refl
    tests false false d true = refl
    tests false false d false = refl

    by : (o : Option Receive) → (not (holds o (λ r. passed r && none r)) && (not (holds o (λ r. nobody r && none r)) && not (holds o wish))) ≡ not (may_stop m w t o)
    by None = refl
    by (Some receive) = tests (passed receive) (nobody receive) (none receive) (wish receive)

pub may_send_is : (m : Machine) (w : World) (t : Found) (o : Option Send) (p : Pending) → Some p ≡ option_map (λ send. record { sender = t; send = send }) o → may_decide m w p ≡ may_send m w t o
may_send_is m w t None p e = cc
may_send_is m w t (Some send) p e = ap (may_decide m w) (some_is p (record { sender = t; send = send }) e)

-- the undecided send

abbrev pending_of : Found → Send → Pending
pending_of t send = record { sender = t; send = send }

undecided_is : (m : Machine) (w : World) (t : Found) → found m w t.declared.id ≡ Some t →
    undecided m w (record { thread = t.declared.id; k = t.now.context.begun }) ≡ option_map (pending_of t) t.now.send
undecided_is m w t is = let same = eqb_same t.now.context.begun in rw (is, same) (by t.now.send)
  where
    some_pending : Send → Option Pending
    some_pending send = Some (pending_of t send)

    by : (o : Option Send) → (o >>= (λ send. some_pending send)) ≡ option_map (pending_of t) o
    by None = refl
    by (Some send) = refl

both_wishes : (w c g : Bool) → (not (w && c) && not (w && g)) ≡ not (w && (c || g))
both_wishes true true g = refl
both_wishes true false true = refl
both_wishes true false false = refl
both_wishes false c g = refl

all_tests : (q st sn x k : Bool) → (not q && (not st && (not sn && (not x && not k)))) ≡ not (st || sn || x || (q || k))
all_tests true true true true true = refl
all_tests true true true true false = refl
all_tests true true true false true = refl
all_tests true true true false false = refl
all_tests true true false true true = refl
all_tests true true false true false = refl
all_tests true true false false true = refl
all_tests true true false false false = refl
all_tests true false true true true = refl
all_tests true false true true false = refl
all_tests true false true false true = refl
all_tests true false true false false = refl
all_tests true false false true true = refl
all_tests true false false true false = refl
all_tests true false false false true = refl
all_tests true false false false false = refl
all_tests false true true true true = refl
all_tests false true true true false = refl
all_tests false true true false true = refl
all_tests false true true false false = refl
all_tests false true false true true = refl
all_tests false true false true false = refl
all_tests false true false false true = refl
all_tests false true false false false = refl
all_tests false false true true true = refl
all_tests false false true true false = refl
all_tests false false true false true = refl
all_tests false false true false false = refl
all_tests false false false true true = refl
all_tests false false false true false = refl
all_tests false false false false true = refl
all_tests false false false false false = refl

and_assoc : (a b d : Bool) → (a && (b && d)) ≡ ((a && b) && d)
and_assoc true b d = refl
and_assoc false b d = refl

taken_is : {A : Type 0} (m : Machine) (w : World) (r : Found) (i : ℕ) (o : Option Receive) (x : A) →
    (is_none (o >>= λ receive. first_accepted m w r receive.from >>= λ j. (j == i) >> Some x) && true) ≡ not (is_taken m w r i o)
taken_is m w r i None x = refl
taken_is m w r i (Some receive) x = at (first_accepted m w r receive.from)
  where
    one : (b : Bool) → (is_none (b >> Some x) && true) ≡ not b
    one true = refl
    one false = refl

    at : (o : Option ℕ) → (is_none (o >>= λ j. (j == i) >> Some x) && true) ≡ not (is_place o i)
    at None = refl
    at (Some j) = one (j == i)

deliver_is : (m : Machine) (w : World) (s : Name) (p : Pending) → undecided m w s ≡ Some p → (o : Option Found) → receiver_of m w p ≡ o →
    list_all (λ step. is_none (next m w step)) (deliveries m w (Some p) s) ≡ not (holds o (λ r. is_taken m w r p.sender.at (receive_now r.now.phase)))
deliver_is m w s p u None e = rw e refl
deliver_is m w s p u (Some r) e =
    let a = same_ids r.declared.id in
    let b = same_ids p.send.message.shown in
    let d = same_ids p.send.message.actual in
    let f = eqb_same (received_tag (is_cross m r.declared.id p.send.message) p.send.message) in
    let g = same_bytes p.send.message.words in
    rw (e, u, e, a, b, d, f, g) (taken_is m w r p.sender.at (receive_now r.now.phase) _)

six : (a b d e f g a2 b2 d2 e2 f2 g2 : Bool) → a ≡ a2 → b ≡ b2 → d ≡ d2 → e ≡ e2 → f ≡ f2 → g ≡ g2 →
    (a && (b && (d && (e && (f && g))))) ≡ (a2 && (b2 && (d2 && (e2 && (f2 && g2)))))
six a b d e f g a2 b2 d2 e2 f2 g2 p q r s t u = rw (p, q, r, s, t, u) refl

arrives : (m : Machine) (w : World) (p : Pending) (o : Option Found) →
    (holds o (λ r. is_alive r.now.phase && not (is_waiting w p)) || holds o (λ r. is_taken m w r p.sender.at (receive_now r.now.phase))) ≡ may_arrive m w p o
arrives m w p None = refl
arrives m w p (Some r) = refl

sends_still : (m : Machine) (w : World) (s : Name) (t : Found) (o : Option Send) → undecided m w s ≡ option_map (λ send. record { sender = t; send = send }) o → w.owed ≡ [] →
    (is_none (after_queue m w s) && (is_none (after_refusal m w s TimeOver) && (is_none (after_refusal m w s NobodyThere)
    && (is_none (after_refusal m w s CancelAsked) && (is_none (after_drop m w s) && list_all (λ step. is_none (next m w step)) (deliveries m w (undecided m w s) s))))))
    ≡ not (may_send m w t o)
sends_still m w s t None u none = rw u refl
sends_still m w s t (Some send) u none =
    let p : Pending = pending_of t send in
    let is : undecided m w s ≡ Some p = u in
    let alive : Found → Bool = λ r. is_alive r.now.phase in
    let out : Found → Bool = λ r. not (is_waiting w p) in
    let taken : Found → Bool = λ r. is_taken m w r p.sender.at (receive_now r.now.phase) in
    let to : Option Found = receiver_of m w p in
    let st : Bool = is_timed_out m w p in
    let sn : Bool = is_no_destination p.send.to to in
    let waits : Bool = is_waiting w p in
    let c : Bool = p.sender.now.cancel_send in
    let g : Bool = is_deleted p.sender.now.phase in
    let queues : is_none (after_queue m w s) ≡ not (holds to (λ r. alive r && out r)) = rw (is, none) (guards_bound to alive out _) in
    let times : is_none (after_refusal m w s TimeOver) ≡ not st =
    rw (is, none) (one_guard (st && true) _ ∙ ap not (and-true st)) in
    let nobodies : is_none (after_refusal m w s NobodyThere) ≡ not sn =
    rw (is, none) (one_guard (sn && true) _ ∙ ap not (and-true sn)) in
    let cancels : is_none (after_refusal m w s CancelAsked) ≡ not (waits && c) = rw is (one_guard (waits && c) _) in
    let drops : is_none (after_drop m w s) ≡ not (waits && g) = rw is (two_guards waits g _) in
    let delivers : list_all (λ step. is_none (next m w step)) (deliveries m w (undecided m w s) s) ≡ not (holds to taken) =
    ap (λ o. list_all (λ step. is_none (next m w step)) (deliveries m w o s)) is ∙ deliver_is m w s p is to refl in
    six _ _ _ _ _ _ _ _ _ _ _ _ queues times nobodies cancels drops delivers
    ∙ ap (λ b. not (holds to (λ r. alive r && out r)) && (not st && (not sn && b))) (and_assoc (not (waits && c)) (not (waits && g)) (not (holds to taken)) ∙ ap (λ b. b && not (holds to taken)) (both_wishes waits c g))
    ∙ all_tests (holds to (λ r. alive r && out r)) st sn (waits && (c || g)) (holds to taken)
    ∙ ap (λ b. not (st || sn || (waits && (c || g)) || b)) (arrives m w p to)

list_all-append : {A : Type 0} (p : A → Bool) (xs ys : List A) → list_all p (xs ++ ys) ≡ (list_all p xs && list_all p ys)
list_all-append p [] ys = refl
list_all-append p (x ∷ xs) ys = ap (λ b. p x && b) (list_all-append p xs ys) ∙ and_assoc (p x) (list_all p xs) (list_all p ys)

grouped : (a b d e f g h i j k : Bool) → (a && (b && (d && (e && (f && (g && (h && (i && (j && k))))))))) ≡ ((a && (b && d)) && ((e && (f && (g && (h && (i && j))))) && k))
grouped false b d e f g h i j k = refl
grouped true false d e f g h i j k = refl
grouped true true false e f g h i j k = refl
grouped true true true false f g h i j k = refl
grouped true true true true false g h i j k = refl
grouped true true true true true false h i j k = refl
grouped true true true true true true false i j k = refl
grouped true true true true true true true false j k = refl
grouped true true true true true true true true false k = refl
grouped true true true true true true true true true k = refl

finished : (act : Act) (r o s e : Bool) →
    (not (r && runs_alone act) && (not (r && is_some (send_of act)) && (not (r && is_some (receive_of act)) && (not o && (not s && (not e && not (r && is_some (order_of act)))))))) ≡ not (r || (o || (s || e)))
finished act false true s e = refl
finished act false false true e = refl
finished act false false false true = refl
finished act false false false false = refl
finished RunsAlone true o s e = refl
finished (Sends send) true o s e = refl
finished (Receives receive) true o s e = refl
finished (Orders order) true true s e = refl
finished (Orders order) true false true e = refl
finished (Orders order) true false false true = refl
finished (Orders order) true false false false = refl

seven : (a b d e f g h a2 b2 d2 e2 f2 g2 h2 : Bool) → a ≡ a2 → b ≡ b2 → d ≡ d2 → e ≡ e2 → f ≡ f2 → g ≡ g2 → h ≡ h2 →
    (a && (b && (d && (e && (f && (g && h)))))) ≡ (a2 && (b2 && (d2 && (e2 && (f2 && (g2 && h2))))))
seven a b d e f g h a2 b2 d2 e2 f2 g2 h2 p q r s t u v = rw (p, q, r, s, t, u, v) refl

-- Where no retarget is owed.
pub still_is : (m : Machine) (w : World) (id : GlobalId) (t : Found) → found m w id ≡ Some t → w.owed ≡ [] → is_still_thread m w id ≡ is_still_found m w t
still_is m w id t is nothing =
    let same = (id_of m w id t is).0 in
    let here : found m w t.declared.id ≡ Some t = ap (found m w) same ∙ is in
    let tid : GlobalId = t.declared.id in
    let last : Name = record { thread = tid; k = t.now.context.begun } in
    let none : Step → Bool = λ step. is_none (next m w step) in
    let ds : List Step = deliveries m w (undecided m w last) last in
    let os : List Step = orders tid (order_of (act_of m t)) in
    let l1 : Bool = is_none (after_local m w tid) in
    let l2 : Bool = is_none (after_begin m w (record { thread = tid; k = t.now.context.begun + 1 })) in
    let l3 : Bool = is_none (after_wait m w tid) in
    let ob : Bool = is_none (after_obey m w tid) in
    let rt : Bool = is_none (after_failure m w tid TimeOver) in
    let rn : Bool = is_none (after_failure m w tid NobodyThere) in
    let rc : Bool = is_none (after_failure m w tid CancelAsked) in
    let qu : Bool = is_none (after_queue m w last) in
    let st : Bool = is_none (after_refusal m w last TimeOver) in
    let sn : Bool = is_none (after_refusal m w last NobodyThere) in
    let sc : Bool = is_none (after_refusal m w last CancelAsked) in
    let dr : Bool = is_none (after_drop m w last) in
    let start : is_still_thread m w id ≡ (l1 && (l2 && (l3 && (ob && (rt && (rn && (rc && (qu && (st && (sn && (sc && (dr && list_all none (ds ++ os))))))))))))) =
    ap (λ o. list_all none (candidates m w o)) is in
    start
    ∙ ap (λ b. l1 && (l2 && (l3 && (ob && (rt && (rn && (rc && (qu && (st && (sn && (sc && (dr && b)))))))))))) (list_all-append none ds os)
    ∙ ap (λ b. l1 && (l2 && (l3 && (ob && b)))) (grouped rt rn rc qu st sn sc dr (list_all none ds) (list_all none os))
    ∙ seven _ _ _ _ _ _ _ _ _ _ _ _ _ _ (locals m w t here) (begins_is m w t here) (waits_is m w t here) (obeys m w t here) (stops m w t here)
    (sends_still m w last t t.now.send (undecided_is m w t here) nothing) (orders_is m w t here)
    ∙ finished (act_of m t) (is_ready t.now.phase) (may_obey m t.now.order) (may_stop m w t (receive_now t.now.phase)) (may_send m w t t.now.send)
