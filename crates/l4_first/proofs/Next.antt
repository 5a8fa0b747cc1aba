-- Of the next steps of a thread one alone is possible, and a thread with one is ready, with nothing undone.
use Rattle.std.proofs.Common.{◌≡◌, ◌+◌, Bool, true, false, Option, Some, None, refl, ap, sym, ◌∙◌, arith}
use Rattle.std.proofs.lemmas.Bool.{eqb-true}
use Rattle.std.specs.Prelude.{slice_get}
use Rattle.l4_model.specs.Words.{GlobalId}
use Rattle.l4_model.specs.Machine.{Machine}
use Rattle.l4_model.specs.World.{World, Thread, Name, Send, Receive, PendingOrder, is_in, list_at, is_ready}
use Rattle.l4_model.specs.Rules.{Act, RunsAlone, Sends, Receives, Orders}
use Rattle.l4_model.specs.Conditions.{Found, found, act_of}
use Rattle.l4_model.specs.Steps.{Step, Local, Begin, Wait, Order, runs_alone, send_of, receive_of, order_of}
use Rattle.l4_model.proofs.Chains.{some_is, get-map}
use Rattle.l4_model.proofs.Inversions.{local_taken, BeginTaken, begin_taken, WaitTaken, wait_taken, order_taken}
use Rattle.l4_model.proofs.Places.{known, same_id_is}
use Rattle.l4_model.proofs.Sends.{Status, status, statuses}
use Rattle.l4_model.proofs.Lists.{GoesTo, Listed}
use Rattle.l4_model.proofs.Sound.{AreSound, ready_has_none}
use Rattle.l4_worlds.specs.Late.{next_late}
use Rattle.l4_first.specs.First.{is_next_of, is_own_of, HasNothingUndone, IsUnlisted}
use Rattle.l4_first.proofs.Alone.{alone_sends, alone_receives}

-- A ready thread

pub record IsReadyNow (m : Machine) (w : World) (id : GlobalId) (t : Found) : Type 0 where
  pub found : found m w id ≡ Some t
  pub no_send : t.now.send ≡ None
  pub no_order : t.now.order ≡ None

pub own_ready : (m : Machine) (w a : World) (id : GlobalId) (own : Step) → is_own_of id own ≡ true → next_late m w own ≡ Some a → AreSound m w → (t : Found) × IsReadyNow m w id t
own_ready m w a id own is may sound = by own is may
  where
    of : (x : GlobalId) (t : Found) → x ≡ id → found m w x ≡ Some t → is_ready t.now.phase ≡ true → (t : Found) × IsReadyNow m w id t
    of x t one there ready =
        let k = known m w x t there in
        let none = ready_has_none t.now.phase t.now.send t.now.order ready (sound t.at t.declared t.now k.declared k.now).suits in
        (t, record { found = ap (found m w) (sym one) ∙ there; no_send = none.0; no_order = none.1 })

    by : (own : Step) → is_own_of id own ≡ true → next_late m w own ≡ Some a → (t : Found) × IsReadyNow m w id t
    by (Begin n) is may = let k = begin_taken m w a n may in of n.thread k.t (same_id_is n.thread id is) k.found k.ready
    by (Wait x) is may = let k = wait_taken m w a x may in of x k.t (same_id_is x id is) k.found k.ready
    by _ is may = cc

pub nothing_undone : (m : Machine) (w : World) (id : GlobalId) (t : Found) → IsReadyNow m w id t → HasNothingUndone m w id
nothing_undone m w id t r u is =
    let one : t ≡ u = some_is t u (sym r.found ∙ is) in
    (ap (λ (x : Found). x.now.send) (sym one) ∙ r.no_send, ap (λ (x : Found). x.now.order) (sym one) ∙ r.no_order)

false_unless : (b : Bool) → (b ≡ true → ⊥) → b ≡ false
false_unless true h = absurd (h refl)
false_unless false h = refl

pub unlisted : (m : Machine) (w : World) (id : GlobalId) (t : Found) → IsReadyNow m w id t → Listed m w → IsUnlisted m w id
unlisted m w id t r listed u is j =
    let one : t ≡ u = some_is t u (sym r.found ∙ is) in
    let now : slice_get (statuses w) u.at ≡ Some (status u.now) = get-map status w.threads u.at u.now (known m w id u is).now in
    let none : u.now.send ≡ None = ap (λ (x : Found). x.now.send) (sym one) ∙ r.no_send in
    false_unless (is_in u.at (list_at w.waiting j)) (λ stands. nobody (slice_get (statuses w) u.at) u.now now none (listed.goes_to j u.at stands))
  where
    nobody : (o : Option Status) (t : Thread) → o ≡ Some (status t) → t.send ≡ None → GoesTo m j o → ⊥
    nobody o t is none goes = rw (is, none) at goes

-- Of the next steps of a thread one alone is possible.

one_send : (a : Act) (send : Send) (receive : Receive) → send_of a ≡ Some send → receive_of a ≡ Some receive → ⊥
one_send RunsAlone send receive s r = cc
one_send (Sends x) send receive s r = cc
one_send (Receives x) send receive s r = cc
one_send (Orders x) send receive s r = cc

pub order_sends : (a : Act) (send : Send) (order : PendingOrder) → send_of a ≡ Some send → order_of a ≡ Some order → ⊥
order_sends RunsAlone send order s r = cc
order_sends (Sends x) send order s r = cc
order_sends (Receives x) send order s r = cc
order_sends (Orders x) send order s r = cc

pub order_receives : (a : Act) (receive : Receive) (order : PendingOrder) → receive_of a ≡ Some receive → order_of a ≡ Some order → ⊥
order_receives RunsAlone receive order s r = cc
order_receives (Sends x) receive order s r = cc
order_receives (Receives x) receive order s r = cc
order_receives (Orders x) receive order s r = cc

pub found_at_id : (m : Machine) (w : World) (x y : GlobalId) (t u : Found) → x ≡ y → found m w x ≡ Some t → found m w y ≡ Some u → t ≡ u
found_at_id m w x y t u one is other = some_is t u (sym is ∙ ap (found m w) one ∙ other)

name_is : (a b : Name) → a.thread ≡ b.thread → a.k ≡ b.k → a ≡ b
name_is a b thread k = ap (λ t. record { thread = t; k = a.k }) thread ∙ ap (λ k. record { thread = b.thread; k = k }) k

module _ (m : Machine) (w b : World) where
  next_of_begin : (n : Name) (a : World) → BeginTaken m w a n → (s : Step) → is_next_of n.thread s ≡ true → next_late m w s ≡ Some b → s ≡ Begin n
  next_of_begin n a k (Local x) is goes =
      let l = local_taken m w b x goes in
      let one = found_at_id m w x n.thread l.t k.t (same_id_is x n.thread is) l.found k.found in
      absurd (alone_sends (act_of m k.t) k.send (ap (λ y. runs_alone (act_of m y)) (sym one) ∙ l.alone) k.sends)
  next_of_begin n a k (Begin s) is goes =
      let l = begin_taken m w b s goes in
      let thread = same_id_is s.thread n.thread is in
      let one = found_at_id m w s.thread n.thread l.t k.t thread l.found k.found in
      let begun : l.t.now.context.begun ≡ k.t.now.context.begun = ap (λ (y : Found). y.now.context.begun) one in
      let first : s.k ≡ l.t.now.context.begun + 1 = eqb-true s.k (l.t.now.context.begun + 1) l.next_k in
      let second : n.k ≡ k.t.now.context.begun + 1 = eqb-true n.k (k.t.now.context.begun + 1) k.next_k in
      ap Begin (name_is s n thread (omega arith))
  next_of_begin n a k (Wait x) is goes =
      let l = wait_taken m w b x goes in
      let one = found_at_id m w x n.thread l.t k.t (same_id_is x n.thread is) l.found k.found in
      absurd (one_send (act_of m k.t) k.send l.receive k.sends (ap (λ y. receive_of (act_of m y)) (sym one) ∙ l.receiving))
  next_of_begin n a k (Order caller target what) is goes =
      let l = order_taken m w b caller target what goes in
      let one = found_at_id m w caller n.thread l.t k.t (same_id_is caller n.thread is) l.found k.found in
      absurd (order_sends (act_of m k.t) k.send l.order k.sends (ap (λ y. order_of (act_of m y)) (sym one) ∙ l.ordered))
  next_of_begin n a k _ is goes = cc

  next_of_wait : (x : GlobalId) (a : World) → WaitTaken m w a x → (s : Step) → is_next_of x s ≡ true → next_late m w s ≡ Some b → s ≡ Wait x
  next_of_wait x a k (Local y) is goes =
      let l = local_taken m w b y goes in
      let one = found_at_id m w y x l.t k.t (same_id_is y x is) l.found k.found in
      absurd (alone_receives (act_of m k.t) k.receive (ap (λ y. runs_alone (act_of m y)) (sym one) ∙ l.alone) k.receiving)
  next_of_wait x a k (Begin s) is goes =
      let l = begin_taken m w b s goes in
      let one = found_at_id m w s.thread x l.t k.t (same_id_is s.thread x is) l.found k.found in
      absurd (one_send (act_of m k.t) l.send k.receive (ap (λ y. send_of (act_of m y)) (sym one) ∙ l.sends) k.receiving)
  next_of_wait x a k (Wait y) is goes = ap Wait (same_id_is y x is)
  next_of_wait x a k (Order caller target what) is goes =
      let l = order_taken m w b caller target what goes in
      let one = found_at_id m w caller x l.t k.t (same_id_is caller x is) l.found k.found in
      absurd (order_receives (act_of m k.t) k.receive l.order k.receiving (ap (λ y. order_of (act_of m y)) (sym one) ∙ l.ordered))
  next_of_wait x a k _ is goes = cc

pub same_next : (m : Machine) (w a b : World) (id : GlobalId) (own s : Step) → is_own_of id own ≡ true → next_late m w own ≡ Some a → is_next_of id s ≡ true → next_late m w s ≡ Some b → s ≡ own
same_next m w a b id (Begin n) s is may its goes = next_of_begin m w b n a (begin_taken m w a n may) s (ap (λ x. is_next_of x s) (same_id_is n.thread id is) ∙ its) goes
same_next m w a b id (Wait x) s is may its goes = next_of_wait m w b x a (wait_taken m w a x may) s (ap (λ x. is_next_of x s) (same_id_is x id is) ∙ its) goes
same_next m w a b id _ s is may its goes = cc
