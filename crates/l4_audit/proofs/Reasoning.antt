-- A reason is told exactly where a step is not possible.
use Rattle.std.proofs.Common.{◌≡◌, ℕ, Bool, true, false, Option, Some, None, List, [], ◌∷◌, refl, ap, sym, ◌∙◌}
use Rattle.std.specs.Prelude.{◌&&◌, is_some, is_none, if◌then◌else◌, ◌==◌, ◌+◌, not, nat_lt, slice_get}
use Rattle.std.specs.Str.{bytes_eq}
use Rattle.l4_model.specs.Words.{same_id, clock_limit}
use Rattle.l4_model.specs.Machine.{Machine, place_of}
use Rattle.l4_model.specs.World.{World, owed_of, must_wait, is_ready, is_alive, is_deleted, receive_now}
use Rattle.l4_model.specs.Rules.{received_tag, is_cross}
use Rattle.l4_model.specs.Conditions.{◌>>=◌, ◌>>◌, found, found_by, undecided, receiver_of, act_of, is_waiting, first_accepted, is_nobody, is_no_destination, is_timed_out}
use Rattle.l4_model.specs.Steps.{Step, Local, Begin, Queue, Deliver, Wait, SendTimeout, ReceiveTimeout, SendNobody, ReceiveNobody, SendCancel, ReceiveCancel, Drop, Order, Obey, Tick, Retarget, order_kind_code, runs_alone, send_of, receive_of, order_of, receive_passed, next}
use Rattle.l4_model.proofs.Chains.{some_is}
use Rattle.l4_audit.specs.declared.reasons.Reason.{Reason}
use Rattle.l4_audit.specs.Reasons.{Condition, test, with_value, none_accepted, conditions, first_false, reason, IsFirstFalse, TellsWhy}

-- Line by line

-- No condition is false exactly where there is a value.
record Agrees {B : Type 0} (cs : List Condition) (o : Option B) : Type 0 where
  same : is_none (first_false cs) ≡ is_some o

needs : {A B : Type 0} (o : Option A) (r : Reason) (f : A → List Condition) (g : A → Option B) → ((x : A) → Agrees (f x) (g x)) → Agrees (with_value r o f) (o >>= g)
needs None r f g e = record { same = refl }
needs (Some x) r f g e = record { same = (e x).same }

tests : {B : Type 0} (b : Bool) (r : Reason) (cs : List Condition) (o : Option B) → Agrees cs o → Agrees (test b r ∷ cs) (b >> o)
tests true r cs o e = record { same = e.same }
tests false r cs o e = record { same = refl }

passes : {B : Type 0} (v : B) → Agrees [] (Some v)
passes v = record { same = refl }

both_tests : {B : Type 0} (a b : Bool) (r s : Reason) (v : B) → Agrees (test a r ∷ test b s ∷ []) ((a && b) >> Some v)
both_tests true true r s v = record { same = refl }
both_tests true false r s v = record { same = refl }
both_tests false b r s v = record { same = refl }

last_value : {A B : Type 0} (o : Option A) (r : Reason) (f : A → B) → Agrees (test (is_some o) r ∷ []) (o >>= λ x. Some (f x))
last_value None r f = record { same = refl }
last_value (Some x) r f = record { same = refl }

test_then_none : {B : Type 0} (m : Machine) (b : Bool) (r : Reason) (o : Option ℕ) (v : B) →
    Agrees (test b r ∷ none_accepted m o ∷ []) ((b && is_none o) >> Some v)
test_then_none m true r None v = record { same = refl }
test_then_none m true r (Some first) v = record { same = refl }
test_then_none m false r o v = record { same = refl }

agrees : (m : Machine) (w : World) (step : Step) → Agrees (conditions m w step) (next m w step)
agrees m w (Local id) =
    needs (found m w id) _ _ _ λ t.
    tests (is_ready t.now.phase) _ _ _ (tests (runs_alone (act_of m t)) _ [] _ (passes _))
agrees m w (Begin s) =
    needs (found m w s.thread) _ _ _ λ t.
    tests (is_ready t.now.phase) _ _ _ (tests (s.k == t.now.context.begun + 1) _ _ _ (last_value (send_of (act_of m t)) _ _))
agrees m w (Queue s) =
    needs (undecided m w s) _ _ _ λ p.
    needs (receiver_of m w p) _ _ _ λ r.
    tests (is_alive r.now.phase) _ _ _ (tests (not (is_waiting w p)) _ _ _ (tests (not (must_wait w.owed s.thread p.send.to)) _ [] _ (passes _)))
agrees m w (Deliver s receiver shown actual tag words) =
    needs (undecided m w s) _ _ _ λ p.
    needs (receiver_of m w p) _ _ _ λ r.
    needs (receive_now r.now.phase) _ _ _ λ receive.
    needs (first_accepted m w r receive.from) _ _ _ λ first.
    tests (first == p.sender.at) _ _ _
    (tests (same_id receiver r.declared.id) _ _ _
    (tests (same_id shown p.send.message.shown) _ _ _
    (tests (same_id actual p.send.message.actual) _ _ _
    (tests (tag == received_tag (is_cross m receiver p.send.message) p.send.message) _ _ _ (tests (bytes_eq words p.send.message.words) _ [] _ (passes _))))))
agrees m w (Wait id) =
    needs (found m w id) _ _ _ λ t.
    tests (is_ready t.now.phase) _ _ _ (last_value (receive_of (act_of m t)) _ _)
agrees m w (SendTimeout s) =
    needs (undecided m w s) _ _ _ λ p.
    both_tests (is_timed_out m w p) (not (must_wait w.owed s.thread p.send.to)) _ _ _
agrees m w (SendNobody s) =
    needs (undecided m w s) _ _ _ λ p.
    both_tests (is_no_destination p.send.to (receiver_of m w p)) (not (must_wait w.owed s.thread p.send.to)) _ _ _
agrees m w (SendCancel s) =
    needs (undecided m w s) _ _ _ λ p.
    both_tests (is_waiting w p) p.sender.now.cancel_send _ _ _
agrees m w (Drop s) =
    needs (undecided m w s) _ _ _ λ p.
    tests (is_waiting w p) _ _ _ (tests (is_deleted p.sender.now.phase) _ [] _ (passes _))
agrees m w (ReceiveTimeout id) =
    needs (found m w id) _ _ _ λ t.
    needs (receive_now t.now.phase) _ _ _ λ receive.
    test_then_none m (receive_passed t t.now.phase) _ (first_accepted m w t receive.from) _
agrees m w (ReceiveNobody id) =
    needs (found m w id) _ _ _ λ t.
    needs (receive_now t.now.phase) _ _ _ λ receive.
    test_then_none m (is_nobody receive.from (found_by m w receive.from)) _ (first_accepted m w t receive.from) _
agrees m w (ReceiveCancel id) =
    needs (found m w id) _ _ _ λ t.
    needs (receive_now t.now.phase) _ _ _ λ receive.
    tests t.now.cancel_receive _ [] _ (passes _)
agrees m w (Order caller target what) =
    needs (found m w caller) _ _ _ λ t.
    tests (is_ready t.now.phase) _ _ _
    (needs (order_of (act_of m t)) _ _ _ λ order.
    tests (same_id target order.target && order_kind_code what == order_kind_code order.what) _ [] _ (passes _))
agrees m w (Obey caller) =
    needs (found m w caller) _ _ _ λ t.
    needs t.now.order _ _ _ λ order.
    last_value (place_of m order.target) _ _
agrees m w (Tick cpu clock) =
    needs (slice_get w.clocks cpu) _ _ _ λ now.
    both_tests (nat_lt now clock) (nat_lt clock clock_limit) _ _ _
agrees m w (Retarget s) =
    needs (owed_of w.owed s) _ _ _ λ o.
    last_value (found m w o.originator) _ _

possible_exactly : (m : Machine) (w : World) (step : Step) → is_none (reason m w step) ≡ is_some (next m w step)
possible_exactly m w step = (agrees m w step).same

-- The first condition that is false

first_is : (r : Reason) (cs : List Condition) → first_false cs ≡ Some r → IsFirstFalse r cs
first_is r [] h = cc
first_is r (c ∷ cs) h = by c.reason c.holds (first_is r cs) h
  where
    by : (s : Reason) (b : Bool) → (first_false cs ≡ Some r → IsFirstFalse r cs) → (if b then first_false cs else Some s) ≡ Some r → IsFirstFalse r (test b s ∷ cs)
    by s true rest h =
        let k = rest h in
        record { before = test true s ∷ k.before; later = k.later; stands = ap (λ xs. test true s ∷ xs) k.stands; true_before = k.true_before }
    by s false rest h = record { before = []; later = cs; stands = ap (λ x. test false x ∷ cs) (some_is s r h); true_before = refl }

pub tells_why : (m : Machine) (w : World) (step : Step) → TellsWhy m w step
tells_why m w step = record { possible = possible_exactly m w step; first = λ r h. first_is r (conditions m w step) h }

-- What becomes of the world

some_of : {A : Type 0} (o : Option A) → is_some o ≡ true → (x : A) × (o ≡ Some x)
some_of None h = cc
some_of (Some x) h = (x, refl)

none_of : {A : Type 0} (o : Option A) → is_some o ≡ false → o ≡ None
none_of None h = refl
none_of (Some x) h = cc

pub is_possible : (m : Machine) (w : World) (step : Step) → reason m w step ≡ None → (v : World) × (next m w step ≡ Some v)
is_possible m w step h = some_of (next m w step) (sym (possible_exactly m w step) ∙ ap is_none h)

pub is_impossible : (m : Machine) (w : World) (step : Step) (r : Reason) → reason m w step ≡ Some r → next m w step ≡ None
is_impossible m w step r h = none_of (next m w step) (sym (possible_exactly m w step) ∙ ap is_none h)
