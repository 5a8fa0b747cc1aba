-- Where no script asks for propagation, each message shows its sender. Where none deletes the threads of a processor,
-- they live.
use Rattle.std.proofs.Common.{subst, ◌≡◌, ℕ, zero, suc, ◌+◌, ◌*◌, ◌/◌, ◌%◌, ◌<◌, ◌≤◌, ◌^◌, Bool, true, false, cond, Option, Some, None, List, [], ◌∷◌, length, map, refl, ap, sym, ◌∙◌, arith}
use Rattle.std.specs.Prelude.{◌==◌, ◌||◌, slice_get, slice_index, slice_index_or, slice_set, is_some, IfSome, unwrap_or}
use Rattle.std.specs.List.{list_any}
use Rattle.std.specs.Option.{option_map}
use Rattle.l4_model.specs.Words.{GlobalId}
use Rattle.l4_model.specs.Machine.{Machine, Declaration, Own, Assign, AssignTag, AssignVs, GoTo, GoToOnErr, GoToOnLabel, GoToOnWord, GoToOnFrom, Instr, Run, Ipc, Ask, End, OrderKind, CancelSend, CancelReceive, CancelBoth, Delete, place_of}
use Rattle.l4_model.specs.World.{Context, Thread, Message, Send, Receive, PendingOrder, Owed, Phase, Ready, Sending, Receiving, Ordering, Ended, Deleted, opening, opening_thread, is_alive, is_deleted}
use Rattle.l4_model.specs.Rules.{words_after, ran, bit, received_tag, message_of, permitted, act}
use Rattle.l4_model.specs.Effects.{phase_after, runs, fails, decided, goes_on, asked, obeyed, turned_send, turns_in, turns}
use Rattle.l4_model.specs.Steps.{order_of}
use Rattle.l4_model.proofs.Chains.{some_is, cond_keeps}
use Rattle.l4_model.proofs.Places.{place_id}
use Rattle.l4_model.proofs.Requests.{act_request, message_short}
use Rattle.l4_core_model.specs.Local.{declared, undeclared}
use Rattle.l4_core_model.proofs.Changed.{same_ids}
use Rattle.l4_refines.proofs.Relation.Views.{home}
use Rattle.l4_first.specs.First.{asks_to_propagate, may_ask, order_deletes, instruction_deletes}
use Rattle.l4_first.proofs.Spared.{instruction_spares, deletes_test}
use Rattle.l4_persistent.specs.Inner.Posts.{has_instruction, instruction_of, is_deletable, may_propagate}
use Rattle.l4_persistent.proofs.ByPlace.{Keeps, All, at_hand}

-- What no script has

pub or_none : (a b : Bool) → (a || b) ≡ false → (a ≡ false) × (b ≡ false)
or_none true b h = cc
or_none false b h = (refl, h)

none_in : (asks : Instr → Bool) (ds : List Declaration) (i : ℕ) →
    list_any (λ (d : Declaration). list_any asks d.script) ds ≡ false →
    list_any asks (slice_index_or ds i undeclared).script ≡ false
none_in asks [] i h = refl
none_in asks (d ∷ ds) zero h = (or_none (list_any asks d.script) _ h).0
none_in asks (d ∷ ds) (suc i) h = none_in asks ds i (or_none (list_any asks d.script) _ h).1

pub no_instruction : (m : Machine) (asks : Instr → Bool) (i k : ℕ) → asks End ≡ false → has_instruction m asks ≡ false →
    asks (instruction_of m i k) ≡ false
no_instruction m asks i k end none = instruction_spares asks (declared m i).script k end (none_in asks m.threads i none)

-- A tag that does not ask for propagation

abbrev IsQuiet : List ℕ → Type 0
IsQuiet words = asks_to_propagate (slice_index words 0) ≡ false

first_set : (words : List ℕ) (word : ℕ) → asks_to_propagate word ≡ false → IsQuiet words →
    IsQuiet (slice_set words 0 word)
first_set [] word h k = k
first_set (x ∷ words) word h k = h

other_set : (words : List ℕ) (a word : ℕ) → (a == 0) ≡ false →
    slice_index (slice_set words a word) 0 ≡ slice_index words 0
other_set [] a word h = refl
other_set (x ∷ words) zero word h = cc
other_set (x ∷ words) (suc a) word h = refl

own_quiet : (own : Own) (c : Context) → may_ask (Run own) ≡ false → IsQuiet c.words → IsQuiet (words_after c own)
own_quiet (Assign a value) c i h = ap asks_to_propagate (other_set c.words a _ i) ∙ h
own_quiet (AssignTag word) c i h = first_set c.words word i h
own_quiet (AssignVs from) c i h = h
own_quiet (GoTo place) c i h = h
own_quiet (GoToOnErr place) c i h = h
own_quiet (GoToOnLabel label place) c i h = h
own_quiet (GoToOnWord a word place) c i h = h
own_quiet (GoToOnFrom id place) c i h = h

ran_quiet : (i : Instr) (c : Context) → may_ask i ≡ false → IsQuiet c.words → IsQuiet (ran i c).words
ran_quiet (Run own) c i h = own_quiet own c i h
ran_quiet (Ipc to from send_period receive_period) c i h = first_set c.words 0 refl h
ran_quiet (Ask target what) c i h = h
ran_quiet End c i h = h

-- A message that shows its sender

pub record IsPlain (m : Machine) (i : ℕ) (message : Message) : Type 0 where
  pub shown : message.shown ≡ (declared m i).id
  pub plain : message.propagated ≡ false
  pub short : length message.words < 64

bit_small : (b : Bool) → bit b ≤ 1
bit_small true = omega arith
bit_small false = omega arith

quiet_sum : (l x n : ℕ) → x ≤ 1 → n < 64 → ((l * 2 ^ 16 + x * 2 ^ 14 + 0 * 2 ^ 12 + n) / 2 ^ 12) % 2 ≡ 0
quiet_sum l x n a b =
    let sum : ℕ = l * 2 ^ 16 + x * 2 ^ 14 + 0 * 2 ^ 12 + n in
    let whole : sum / 2 ^ 12 ≡ 2 * (8 * l + 2 * x) = omega (arith, a, b) in
    ap (λ q. q % 2) whole ∙ even (8 * l + 2 * x)
  where
    even : (n : ℕ) → (2 * n) % 2 ≡ 0
    even n = omega arith

tag_quiet : (m : Machine) (i : ℕ) (cross : Bool) (message : Message) → IsPlain m i message →
    asks_to_propagate (received_tag cross message) ≡ false
tag_quiet m i cross message h =
    ap (λ p. asks_to_propagate
    (message.label * 2 ^ 16 + bit cross * 2 ^ 14 + bit p * 2 ^ 12 + length message.words)) h.plain
    ∙ ap (λ r. r == 1) (quiet_sum message.label (bit cross) (length message.words) (bit_small cross) h.short)

its_own : (m : Machine) (i : ℕ) (c : Context) → IsQuiet c.words → IsPlain m i (message_of m (declared m i).id c)
its_own m i c h = record {
  shown = ap (λ b. unwrap_or (cond b (permitted m (declared m i).id c.actual) None) (declared m i).id) h;
  plain = ap (λ b. is_some {T = GlobalId} (cond b (permitted m (declared m i).id c.actual) None)) h;
  short = message_short m (declared m i).id c;
}

-- A thread of the processor that no script deletes
abbrev pub IsSpared : Machine → (cpu place : ℕ) → Type 0
IsSpared m cpu i = (home m i ≡ cpu) × (is_deletable m (declared m i).id ≡ false)

pub record IsTame (m : Machine) (cpu i : ℕ) (t : Thread) : Type 0 where
  pub tag : IsQuiet t.context.words
  pub message : IfSome t.send (λ s. IsPlain m i s.message)
  pub orders : (j : ℕ) → IsSpared m cpu j → j < length m.threads → order_deletes (declared m j).id t.order ≡ false
  pub alive : IsSpared m cpu i → is_deleted t.phase ≡ false

its_message : (m : Machine) (i : ℕ) (send : Option Send) (s : Send) → send ≡ Some s →
    IfSome send (λ s. IsPlain m i s.message) → IsPlain m i s.message
its_message m i send s e h = subst (λ (o : Option Send). IfSome o (λ s. IsPlain m i s.message)) e h

module _ (m : Machine) (cpu : ℕ) where
  run_tame : (i : ℕ) (t : Thread) → may_propagate m ≡ false → IsTame m cpu i t → IsTame m cpu i (runs (at_hand m i t) t)
  run_tame i t safe h =
      let quiet = no_instruction m may_ask i t.context.place refl safe in
      record {
        tag = ran_quiet (at_hand m i t) t.context quiet h.tag;
        message = h.message;
        orders = h.orders;
        alive = λ own. lives (at_hand m i t);
      }
    where
      lives : (i : Instr) → is_deleted (phase_after i) ≡ false
      lives End = refl
      lives (Run own) = refl
      lives (Ipc to from send_period receive_period) = refl
      lives (Ask target what) = refl

  failure_tame : (i code : ℕ) (t : Thread) → IsTame m cpu i t → IsTame m cpu i (fails code t)
  failure_tame i code t h =
      cond_keeps (IsTame m cpu i) (is_alive t.phase) _ t
      (λ alive. record {
        tag = first_set t.context.words 0x8000 refl h.tag;
        message = h.message;
        orders = h.orders;
        alive = λ own. refl;
      })
      (λ gone. h)

  delivery_tame : (i now : ℕ) (t : Thread) (receive : Option Receive) → IsTame m cpu i t →
      IsTame m cpu i (goes_on receive now t)
  delivery_tame i now t None h = record {
    tag = first_set t.context.words 0 refl h.tag;
    message = tt;
    orders = h.orders;
    alive = λ own. refl;
  }
  delivery_tame i now t (Some receive) h = record { tag = h.tag; message = tt; orders = h.orders; alive = λ own. refl }

  order_tame : (i now : ℕ) (t : Thread) (order : PendingOrder) → may_propagate m ≡ false →
      order_of (act m (declared m i).id now t.context (at_hand m i t)) ≡ Some order → IsTame m cpu i t →
      IsTame m cpu i (Rattle.l4_model.specs.Effects.orders order t)
  order_tame i now t order safe is h = record {
    tag = h.tag;
    message = h.message;
    orders = λ j own within.
        let id = (declared m j).id in
        (deletes_test id).orders m (declared m i).id now t.context (at_hand m i t) order is
        (no_instruction m (instruction_deletes id) i t.context.place refl own.1);
    alive = λ own. refl;
  }

  -- No order that is obeyed deletes a thread of the processor.
  asked_tame : (i j : ℕ) (t caller : Thread) (order : PendingOrder) → caller.order ≡ Some order →
      place_of m order.target ≡ Some i →
      IsTame m cpu j caller → IsTame m cpu i t → IsTame m cpu i (asked order.what t)
  asked_tame i j t caller order has at c h = by order.what refl
    where
      lives : IsSpared m cpu i → order.what ≡ Delete → true ≡ false
      lives own is =
          let target = place_id m order.target i at undeclared in
          let same : (declared m i).id ≡ order.target = target.1 in
          let spared : order_deletes (declared m i).id (Some order) ≡ false =
          subst (λ (o : Option PendingOrder). order_deletes (declared m i).id o ≡ false) has
          (c.orders i own target.0) in
          let here = same_ids order.target in
          let deletes : order_deletes order.target (Some order) ≡ true = rw (here, is) refl in
          sym deletes ∙ ap (λ id. order_deletes id (Some order)) (sym same) ∙ spared

      by : (what : OrderKind) → order.what ≡ what → IsTame m cpu i (asked what t)
      by CancelSend is = record { tag = h.tag; message = h.message; orders = h.orders; alive = h.alive }
      by CancelReceive is = record { tag = h.tag; message = h.message; orders = h.orders; alive = h.alive }
      by CancelBoth is = record { tag = h.tag; message = h.message; orders = h.orders; alive = h.alive }
      by Delete is = record { tag = h.tag; message = h.message; orders = h.orders; alive = λ own. lives own is }

  turn_tame : (i : ℕ) (t : Thread) (o : Owed) → IsTame m cpu i t → IsTame m cpu i (turns o t)
  turn_tame i t o h = by t.phase refl
    where
      turned : (send : Option Send) → IfSome send (λ s. IsPlain m i s.message) →
          IfSome (option_map (turned_send o) send) (λ s. IsPlain m i s.message)
      turned None h = tt
      turned (Some send) h = record { shown = h.shown; plain = h.plain; short = h.short }

      by : (p : Phase) → t.phase ≡ p → IsTame m cpu i (turns_in p o t)
      by Ready is = h
      by Sending is = record { tag = h.tag; message = turned t.send h.message; orders = h.orders; alive = h.alive }
      by (Receiving receive since) is = record {
        tag = h.tag;
        message = h.message;
        orders = h.orders;
        alive = λ own. refl;
      }
      by Ordering is = h
      by Ended is = h
      by Deleted is = h

  pub tame_kept : may_propagate m ≡ false → Keeps m (λ i. Unit {0}) (IsTame m cpu)
  tame_kept safe = record {
    at_run = λ i t ready none h. run_tame i t safe h;
    at_begin = λ i now t send may ready none sends h.
        let asks = act_request m (declared m i).id now t.context (at_hand m i t) send sends in
        record {
          tag = h.tag;
          message = subst (IsPlain m i) asks.message (its_own m i t.context h.tag);
          orders = h.orders;
          alive = λ own. refl;
        };
    at_wait = λ i now t receive ready none receives h. record {
      tag = h.tag;
      message = h.message;
      orders = h.orders;
      alive = λ own. refl;
    };
    at_order = λ i now t order ready none ordered h. order_tame i now t order safe ordered h;
    at_failure = λ i code t alive h. failure_tame i code t h;
    at_decision = λ i t h. record { tag = h.tag; message = tt; orders = h.orders; alive = h.alive };
    at_receipt = λ i j t sender send cross lives within has to s h.
        record {
          tag = tag_quiet m j cross send.message (its_message m j sender.send send has s.message);
          message = h.message;
          orders = h.orders;
          alive = λ own. refl;
        };
    at_delivery = λ i now t receive lives h. delivery_tame i now t receive h;
    at_asked = λ i j t caller order has at c h. asked_tame i j t caller order has at c h;
    at_obedience = λ i t order has h.
        cond_keeps (IsTame m cpu i) (is_alive t.phase) _ _
        (λ alive. record { tag = h.tag; message = h.message; orders = λ j own within. refl; alive = λ own. refl })
        (λ gone. record { tag = h.tag; message = h.message; orders = λ j own within. refl; alive = h.alive });
    at_turn = λ i t o h. turn_tame i t o h;
  }

  pub opening_tame : All (IsTame m cpu) (opening m)
  opening_tame i t now = subst (IsTame m cpu i) (at m.threads i now)
      (record { tag = refl; message = tt; orders = λ j own within. refl; alive = λ own. refl })
    where
      at : (ds : List Declaration) (i : ℕ) → slice_get (map (λ d. opening_thread) ds) i ≡ Some t → opening_thread ≡ t
      at [] i now = cc
      at (d ∷ ds) zero now = some_is opening_thread t now
      at (d ∷ ds) (suc i) now = at ds i now
