-- What is known of the world that entries lead to.
use Rattle.std.proofs.Common.{subst, ◌≡◌, ℕ, suc, ◌+◌, ◌<◌, ◌≤◌, true, Some, List, [], ◌∷◌, ◌++◌, length, map, refl, ap, sym, ◌∙◌, arith}
use Rattle.std.proofs.lemmas.Bool.{lt-ltb, eqb-true}
use Rattle.std.proofs.lemmas.List.{length-map}
use Rattle.std.specs.Prelude.{is_some, nat_lt, ◌&&◌}
use Rattle.std.specs.Option.{option_map}
use Rattle.l4_model.specs.Machine.{Machine}
use Rattle.l4_model.specs.World.{World, Name, Owed, opening}
use Rattle.l4_model.specs.Conditions.{◌>>=◌, Pending, undecided}
use Rattle.l4_model.specs.Steps.{Step, Local, Begin, Queue, Deliver, Wait, SendTimeout, ReceiveTimeout, SendNobody, ReceiveNobody, SendCancel, ReceiveCancel, Drop, Order, Obey, Tick, Retarget}
use Rattle.l4_model.specs.Reached.{WorldFacts}
use Rattle.l4_model.proofs.Chains.{bind_then, some_is}
use Rattle.l4_model.proofs.Inversions.{begin_taken, queue_taken, deliver_taken, send_nobody_taken, send_cancel_taken, drop_taken}
use Rattle.l4_model.proofs.Places.{known, known_send}
use Rattle.l4_model.proofs.Sends.{lasting}
use Rattle.l4_worlds.specs.Late.{next_late, run_late}
use Rattle.l4_worlds.specs.Histories.{IsTimed}
use Rattle.l4_worlds.proofs.LateWorlds.{late_facts}
use Rattle.l4_worlds.proofs.Taken.{late_send_timeout}
use Rattle.l4_futures.specs.Choices.{step_at, after_entry, after_entries}
use Rattle.l4_audit.specs.Inner.Audited.{Audited, IsPlaced}
use Rattle.l4_audit.specs.Possible.{is_number, has_number}
use Rattle.l4_audit.proofs.Placing.{Placed, opening_placed, placed_at, late_placed}
use Rattle.l4_outlooks.specs.Inner.Foreseen.{Foreseen, IsLed, IsBehind, IsForeseen}
use Rattle.l4_outlooks.proofs.Counting.{AreCounted, step_counted, opening_counted, counted_at}

pub record Knows (m : Machine) (w : World) (n : ℕ) : Type 0 where
  pub facts : WorldFacts m w
  pub counted : AreCounted n w
  pub placed : Placed m w

run_last : (m : Machine) (xs : List Step) (step : Step) (w v u : World) → run_late m w xs ≡ Some v → next_late m v step ≡ Some u → run_late m w (xs ++ step ∷ []) ≡ Some u
run_last m [] step w v u first second = ap (λ o. o >>= λ x. run_late m x []) (ap (λ x. next_late m x step) (some_is w v first) ∙ second)
run_last m (x ∷ xs) step w v u first second =
    bind_then (next_late m w x) (λ y. run_late m y xs) v first λ y is rest.
    ap (λ o. o >>= λ z. run_late m z (xs ++ step ∷ [])) is ∙ run_last m xs step y v u rest second

along : (m : Machine) (entries : List ℕ) (before : List Step) (n : ℕ) (w v : World) → IsTimed m → run_late m (opening m) before ≡ Some w → AreCounted n w → Placed m w →
    after_entries m w entries ≡ Some v → Knows m v (n + length entries)
along m [] before n w v timed r counted placed h =
    let zeros : n ≡ n + 0 = omega arith in
    subst (λ k. Knows m v k) zeros (subst (λ u. Knows m u n) (some_is w v h) (record { facts = late_facts m before w timed r; counted = counted; placed = placed }))
along m (e ∷ entries) before n w v timed r counted placed h =
    bind_then (after_entry m w e) (λ u. after_entries m u entries) v h λ u one rest.
    bind_then (step_at m w e) (next_late m w) u one λ step at goes.
    let moved : (n + 1) + length entries ≡ n + suc (length entries) = omega arith in
    subst (λ k. Knows m v k) moved
    (along m entries (before ++ step ∷ []) (n + 1) u v timed (run_last m before step (opening m) w u r goes) (step_counted m w u n step goes counted)
    (late_placed m w u step (late_facts m before w timed r) goes placed) rest)

pub knows : (m : Machine) (w : World) (taken : ℕ) → IsForeseen m w taken → Knows m w taken
knows m w taken h = subst (Knows m w) (let same : 0 + length h.entries ≡ taken = let as_many = h.as_many in omega arith in same) (along m h.entries [] 0 (opening m) w h.timed refl (opening_counted m) (opening_placed m) h.leads)

pub are_placed : (a : Audited) (n : ℕ) → Knows a.machine a.world n → IsPlaced a
are_placed a n k i d t declared now has = placed_at a.machine a.world i d t k.placed declared now has

-- A step that is possible names its send by a number that a trace can tell.

number : (k : ℕ) → 0 < k → k < 18446744073709551616 → is_number k ≡ true
number k some few = ap (λ b. b && nat_lt k 18446744073709551616) (lt-ltb 0 k some) ∙ lt-ltb k 18446744073709551616 few

last_number : (m : Machine) (w : World) (n : ℕ) (s : Name) (p : Pending) → n < 1048576 → AreCounted n w → undecided m w s ≡ Some p → is_number s.k ≡ true
last_number m w n s p low counted is =
    let k = known_send m w s p is in
    let c = counted_at n w p.sender.at p.sender.now counted k.sender.now in
    let some : 0 < p.sender.now.context.begun = c.some (ap (λ o. is_some (option_map lasting o)) k.send) in
    let few : p.sender.now.context.begun ≤ n = c.few in
    let last : p.sender.now.context.begun ≡ s.k = k.last in
    number s.k (omega arith) (omega arith)

pub numbered : (m : Machine) (w v : World) (n : ℕ) (step : Step) → n < 1048576 → AreCounted n w → next_late m w step ≡ Some v → has_number step ≡ true
numbered m w v n (Begin s) low counted h =
    let k = begin_taken m w v s h in
    let c = counted_at n w k.t.at k.t.now counted (known m w s.thread k.t k.found).now in
    let few : k.t.now.context.begun ≤ n = c.few in
    let next_k : s.k ≡ k.t.now.context.begun + 1 = eqb-true s.k (k.t.now.context.begun + 1) k.next_k in
    number s.k (omega arith) (omega arith)
numbered m w v n (Queue s) low counted h = let k = queue_taken m w v s h in last_number m w n s k.p low counted k.is_undecided
numbered m w v n (Deliver s receiver shown actual tag words) low counted h = let k = deliver_taken m w v s receiver shown actual tag words h in last_number m w n s k.p low counted k.is_undecided
numbered m w v n (SendTimeout s) low counted h = let k = late_send_timeout m w v s h in last_number m w n s k.p low counted k.is_undecided
numbered m w v n (SendNobody s) low counted h = let k = send_nobody_taken m w v s h in last_number m w n s k.p low counted k.is_undecided
numbered m w v n (SendCancel s) low counted h = let k = send_cancel_taken m w v s h in last_number m w n s k.p low counted k.is_undecided
numbered m w v n (Drop s) low counted h = let k = drop_taken m w v s h in last_number m w n s k.p low counted k.is_undecided
numbered m w v n (Local id) low counted h = refl
numbered m w v n (Wait id) low counted h = refl
numbered m w v n (ReceiveTimeout id) low counted h = refl
numbered m w v n (ReceiveNobody id) low counted h = refl
numbered m w v n (ReceiveCancel id) low counted h = refl
numbered m w v n (Order caller target what) low counted h = refl
numbered m w v n (Obey caller) low counted h = refl
numbered m w v n (Tick cpu clock) low counted h = refl
numbered m w v n (Retarget s) low counted h = refl

-- One more entry

after_last : (m : Machine) (entries : List ℕ) (entry : ℕ) (w v u : World) → after_entries m w entries ≡ Some v → after_entry m v entry ≡ Some u → after_entries m w (entries ++ entry ∷ []) ≡ Some u
after_last m [] entry w v u first second = ap (λ o. o >>= λ x. after_entries m x []) (ap (λ x. after_entry m x entry) (some_is w v first) ∙ second)
after_last m (e ∷ entries) entry w v u first second =
    bind_then (after_entry m w e) (λ y. after_entries m y entries) v first λ y is rest.
    ap (λ o. o >>= λ z. after_entries m z (entries ++ entry ∷ [])) is ∙ after_last m entries entry y v u rest second

last_length : (xs : List ℕ) (x : ℕ) → length (xs ++ x ∷ []) ≡ length xs + 1
last_length [] x = refl
last_length (y ∷ xs) x = let rest = last_length xs x in omega arith

pub led : (m : Machine) (entries : List ℕ) (entry : ℕ) (o p : Foreseen) → IsLed m entries o → IsBehind o entry p → IsLed m (entries ++ entry ∷ []) p
led m entries entry o p h b =
    let goes : after_entry m o.world entry ≡ Some p.world = ap (λ x. after_entry x o.world entry) (sym h.machine) ∙ b.leads in
    record {
      machine = b.machine ∙ h.machine;
      leads = after_last m entries entry (opening m) o.world p.world h.leads goes;
      as_many = b.one_more ∙ ap (λ n. n + 1) h.as_many ∙ sym (last_length entries entry);
    }

pub one_behind : (m : Machine) (w v : World) (taken entry : ℕ) → IsForeseen m w taken → after_entry m w entry ≡ Some v → taken + 1 < 1048576 → IsForeseen m v (taken + 1)
one_behind m w v taken entry h goes room = record {
  timed = h.timed;
  entries = h.entries ++ entry ∷ [];
  leads = after_last m h.entries entry (opening m) w v h.leads goes;
  as_many = ap (λ n. n + 1) h.as_many ∙ sym (last_length h.entries entry);
  few = room;
}

pub none_yet : (m : Machine) → IsTimed m → IsForeseen m (opening m) 0
none_yet m timed = record { timed = timed; entries = []; leads = refl; as_many = refl; few = omega arith }

-- Its owed retargets are few.
pub owed_few : {A : Type 0} (view : A → Owed) (m : Machine) (w : World) (taken : ℕ) (xs : List A) → IsForeseen m w taken → map view xs ≡ w.owed → length xs < 1048576
owed_few view m w taken xs h same =
    let owed : length w.owed ≤ taken = (knows m w taken h).counted.owed in
    let size : length xs ≡ length w.owed = sym (length-map xs view) ∙ ap length same in
    let few : taken < 1048576 = h.few in
    omega arith
