-- Where no script asks for propagation, and in profile 1, no retarget is ever owed.
use Rattle.std.proofs.Common.{subst, ◌≡◌, ℕ, zero, suc, ◌+◌, ◌*◌, ◌/◌, ◌%◌, ◌<◌, ◌≤◌, ◌^◌, Bool, true, false, cond, Option, Some, None, List, [], ◌∷◌, length, refl, ap, sym, ◌∙◌, arith}
use Rattle.std.proofs.lemmas.Option.{slice_get-map}
use Rattle.std.specs.Prelude.{◌==◌, ◌&&◌, ◌||◌, slice_get, slice_index, slice_set, is_some, IfSome}
use Rattle.std.specs.List.{list_any}
use Rattle.std.specs.Option.{option_map}
use Rattle.l4_model.specs.Words.{GlobalId}
use Rattle.l4_model.specs.Machine.{Machine, Declaration, Own, Assign, AssignTag, AssignVs, GoTo, GoToOnErr, GoToOnLabel, GoToOnWord, GoToOnFrom, Instr, Run, Ipc, Ask, End, OrderKind, CancelSend, CancelReceive, CancelBoth, Delete, instruction_at}
use Rattle.l4_model.specs.World.{Context, Thread, World, Message, Send, Receive, Owed, Name, Phase, Ready, Sending, Receiving, Ordering, Ended, Deleted, opening, is_alive, others_owed, one_more}
use Rattle.l4_model.specs.Rules.{words_after, ran, bit, received_tag, message_of, owed_by, permitted}
use Rattle.l4_model.specs.Effects.{fails, decided, goes_on, asked, turned_send, turns_in, turns}
use Rattle.l4_model.specs.Steps.{Step, Deliver, Retarget, next}
use Rattle.l4_model.proofs.Chains.{some_is, cond_keeps}
use Rattle.l4_model.proofs.Keeping.{Each, Maintained, step_each, sender_fact, opening_is}
use Rattle.l4_model.proofs.Owed.{OwedEffect, owed_effect}
use Rattle.l4_model.proofs.Places.{known_send}
use Rattle.l4_model.proofs.Requests.{act_request, message_short}
use Rattle.l4_worlds.specs.Timeless.{timeless_send, timeless_thread, timeless}
use Rattle.l4_worlds.proofs.LateWorlds.{IsKept}
use Rattle.l4_worlds.proofs.Passing.{map_from}
use Rattle.l4_first.specs.First.{asks_to_propagate, may_ask, may_turn}
use Rattle.l4_first.proofs.Spared.{instruction_spares}

-- What asks for propagation

first_set : (words : List ℕ) (word : ℕ) → asks_to_propagate word ≡ false → asks_to_propagate (slice_index words 0) ≡ false → asks_to_propagate (slice_index (slice_set words 0 word) 0) ≡ false
first_set [] word h k = k
first_set (x ∷ words) word h k = h

other_set : (words : List ℕ) (a word : ℕ) → (a == 0) ≡ false → slice_index (slice_set words a word) 0 ≡ slice_index words 0
other_set [] a word h = refl
other_set (x ∷ words) zero word h = cc
other_set (x ∷ words) (suc a) word h = refl

abbrev pub IsQuietTag : Context → Type 0
IsQuietTag c = asks_to_propagate (slice_index c.words 0) ≡ false

tag_stays : (own : Own) (c : Context) → may_ask (Run own) ≡ false → IsQuietTag c → asks_to_propagate (slice_index (words_after c own) 0) ≡ false
tag_stays (Assign a value) c i h = ap asks_to_propagate (other_set c.words a _ i) ∙ h
tag_stays (AssignTag word) c i h = first_set c.words word i h
tag_stays (AssignVs from) c i h = h
tag_stays (GoTo place) c i h = h
tag_stays (GoToOnErr place) c i h = h
tag_stays (GoToOnLabel label place) c i h = h
tag_stays (GoToOnWord a word place) c i h = h
tag_stays (GoToOnFrom id place) c i h = h

tag_ran : (i : Instr) (c : Context) → may_ask i ≡ false → IsQuietTag c → IsQuietTag (ran i c)
tag_ran (Run own) c i h = tag_stays own c i h
tag_ran (Ipc to from send_period receive_period) c i h = first_set c.words 0 refl h
tag_ran (Ask target what) c i h = h
tag_ran End c i h = h

-- A message that is not propagated

pub record IsPlain (message : Message) : Type 0 where
  pub plain : message.propagated ≡ false
  pub short : length message.words < 64

bit_small : (b : Bool) → bit b ≤ 1
bit_small true = omega arith
bit_small false = omega arith

quiet_sum : (l x n : ℕ) → x ≤ 1 → n < 64 → ((l * 2 ^ 16 + x * 2 ^ 14 + 0 * 2 ^ 12 + n) / 2 ^ 12) % 2 ≡ 0
quiet_sum l x n a b =
    let sum : ℕ = l * 2 ^ 16 + x * 2 ^ 14 + 0 * 2 ^ 12 + n in
    let whole : sum / 2 ^ 12 ≡ 2 * (8 * l + 2 * x) = omega (arith, a, b) in
    ap (λ q. q % 2) whole ∙ even (8 * l + 2 * x)
  where
    even : (n : ℕ) → (2 * n) % 2 ≡ 0
    even n = omega arith

quiet_tag : (cross : Bool) (message : Message) → IsPlain message → asks_to_propagate (received_tag cross message) ≡ false
quiet_tag cross message h =
    ap (λ p. asks_to_propagate (message.label * 2 ^ 16 + bit cross * 2 ^ 14 + bit p * 2 ^ 12 + length message.words)) h.plain
    ∙ ap (λ r. r == 1) (quiet_sum message.label (bit cross) (length message.words) (bit_small cross) h.short)

plain_message : (m : Machine) (d : Declaration) (c : Context) → IsQuietTag c → IsPlain (message_of m d.id c)
plain_message m d c h = record { plain = ap (λ b. is_some {T = GlobalId} (cond b (permitted m d.id c.actual) None)) h; short = message_short m d.id c }

pub record Keeps (d : Declaration) (now : ℕ) (t : Thread) : Type 0 where
  pub script : list_any may_ask d.script ≡ false
  pub tag : IsQuietTag t.context
  pub message : IfSome t.send (λ s. IsPlain s.message)

its_message : (send : Option Send) (s : Send) → send ≡ Some s → IfSome send (λ s. IsPlain s.message) → IsPlain s.message
its_message send s e h = subst (λ (o : Option Send). IfSome o (λ s. IsPlain s.message)) e h

failed_keeps : (d : Declaration) (now code : ℕ) (t : Thread) → Keeps d now t → Keeps d now (fails code t)
failed_keeps d now code t h = cond_keeps (Keeps d now) (is_alive t.phase) _ t (λ alive. record { script = h.script; tag = first_set t.context.words 0x8000 refl h.tag; message = h.message }) (λ gone. h)

decided_keeps : (d : Declaration) (now : ℕ) (t : Thread) → Keeps d now t → Keeps d now (decided t)
decided_keeps d now t h = record { script = h.script; tag = h.tag; message = tt }

goes_on_keeps : (d : Declaration) (now : ℕ) (t : Thread) (receive : Option Receive) (later : ℕ) → Keeps d now t → Keeps d now (goes_on receive later t)
goes_on_keeps d now t None later h = record { script = h.script; tag = first_set t.context.words 0 refl h.tag; message = tt }
goes_on_keeps d now t (Some receive) later h = record { script = h.script; tag = h.tag; message = tt }

asked_keeps : (d : Declaration) (now : ℕ) (t : Thread) (what : OrderKind) → Keeps d now t → Keeps d now (asked what t)
asked_keeps d now t CancelSend h = record { script = h.script; tag = h.tag; message = h.message }
asked_keeps d now t CancelReceive h = record { script = h.script; tag = h.tag; message = h.message }
asked_keeps d now t CancelBoth h = record { script = h.script; tag = h.tag; message = h.message }
asked_keeps d now t Delete h = record { script = h.script; tag = h.tag; message = h.message }

message_turned : (o : Owed) (send : Option Send) → IfSome send (λ s. IsPlain s.message) → IfSome (option_map (turned_send o) send) (λ s. IsPlain s.message)
message_turned o None h = tt
message_turned o (Some send) h = record { plain = h.plain; short = h.short }

turn_keeps : (d : Declaration) (now : ℕ) (t : Thread) (o : Owed) → Keeps d now t → Keeps d now (turns o t)
turn_keeps d now t o h = by t.phase
  where
    by : (p : Phase) → Keeps d now (turns_in p o t)
    by Ready = h
    by Sending = record { script = h.script; tag = h.tag; message = message_turned o t.send h.message }
    by (Receiving receive since) = record { script = h.script; tag = h.tag; message = h.message }
    by Ordering = h
    by Ended = h
    by Deleted = h

kept : (m : Machine) → Maintained m Keeps
kept m =
    record {
      at_run = λ d now t ready h. record { script = h.script; tag = tag_ran (instruction_at d.script t.context.place) t.context (instruction_spares may_ask d.script t.context.place refl h.script) h.tag; message = h.message };
      at_begin = λ d now t send declared ready sends h.
          let asks = act_request m d.id now t.context (instruction_at d.script t.context.place) send sends in
          record { script = h.script; tag = h.tag; message = subst IsPlain asks.message (plain_message m d t.context h.tag) };
      at_wait = λ d now t receive ready h. record { script = h.script; tag = h.tag; message = h.message };
      at_order = λ d now t order ready h. record { script = h.script; tag = h.tag; message = h.message };
      at_failure = λ d now t code receive receiving h. failed_keeps d now code t h;
      at_refusal = λ d now t code send has h. failed_keeps d now code (decided t) (decided_keeps d now t h);
      at_drop = λ d now t gone h. decided_keeps d now t h;
      at_receipt = λ d sd now sender_now t sender receive send cross receiving has sent h.
          record { script = h.script; tag = quiet_tag cross send.message (its_message sender.send send has sent.message); message = h.message };
      at_delivery = λ d now t send has h. cond_keeps (Keeps d now) (is_alive t.phase) _ (decided t) (λ alive. goes_on_keeps d now t send.receive now h) (λ gone. decided_keeps d now t h);
      at_asked = λ d now t what h. asked_keeps d now t what h;
      at_obedience = λ d now t order has h.
          cond_keeps (Keeps d now) (is_alive t.phase) _ _ (λ alive. record { script = h.script; tag = h.tag; message = h.message }) (λ gone. record { script = h.script; tag = h.tag; message = h.message });
      at_turn = λ d now t o h. turn_keeps d now t o h;
      at_tick = λ d now later t le h. record { script = h.script; tag = h.tag; message = h.message };
    }

-- Nothing is owed

-- In profile 2 since no message is propagated.
pub record NothingOwed (m : Machine) (w : World) : Type 0 where
  pub none : w.owed ≡ []
  pub plain : m.retargeting ≡ true → Each m Keeps w

owes_none : (m : Machine) (s : Name) (message : Message) → (m.retargeting ≡ true → message.propagated ≡ false) → (receiver : GlobalId) → owed_by m s message receiver ≡ None
owes_none m s message plain receiver = by m.retargeting refl
  where
    by : (b : Bool) → m.retargeting ≡ b → owed_by m s message receiver ≡ None
    by true is = rw (is, plain is) refl
    by false is = rw is refl

step_owes : (m : Machine) (w v : World) (step : Step) → next m w step ≡ Some v → NothingOwed m w → v.owed ≡ []
step_owes m w v step h n = by step (owed_effect m w v step h)
  where
    by : (step : Step) → OwedEffect m w v step → v.owed ≡ []
    by (Deliver s receiver shown actual tag words) e =
        let message = e.p.send.message in
        let none = owes_none m s message (λ is. (its_message e.p.sender.now.send e.p.send (known_send m w s e.p e.is_undecided).send (sender_fact m Keeps w s e.p e.is_undecided (n.plain is)).message).plain) receiver in
        ap (λ (x : World). x.owed) (sym e.leads_to) ∙ ap (λ o. one_more o w.owed) none ∙ n.none
    by (Retarget s) e = e ∙ ap (λ os. others_owed os s) n.none
    by _ e = e ∙ n.none

plain_send : (o : Option Send) → IfSome o (λ s. IsPlain s.message) → IfSome (option_map timeless_send o) (λ s. IsPlain s.message)
plain_send None h = tt
plain_send (Some send) h = record { plain = h.plain; short = h.short }

keeps_timeless : (m : Machine) (w : World) → Each m Keeps w → Each m Keeps (timeless w)
keeps_timeless m w each i d t declared now =
    let was = map_from timeless_thread (slice_get w.threads i) t (sym (slice_get-map timeless_thread w.threads i) ∙ now) in
    let h = each i d was.0 declared was.1 in
    subst (Keeps d (slice_index (timeless w).clocks d.cpu)) was.2 (record { script = h.script; tag = h.tag; message = plain_send was.0.send h.message })

pub owes_kept : (m : Machine) → IsKept m (NothingOwed m)
owes_kept m = record {
  by_step = λ w v step h s n. record { none = step_owes m w v step h n; plain = λ is. step_each m Keeps w v step (kept m) h (n.plain is) };
  without_time = λ w n. record { none = n.none; plain = λ is. keeps_timeless m w (n.plain is) };
}

or_none : (a b : Bool) → (a || b) ≡ false → (a ≡ false) × (b ≡ false)
or_none true b h = cc
or_none false b h = (refl, h)

none_at : (ds : List Declaration) (i : ℕ) (d : Declaration) → list_any (λ d. list_any may_ask d.script) ds ≡ false → slice_get ds i ≡ Some d → list_any may_ask d.script ≡ false
none_at [] i d h at = cc
none_at (x ∷ ds) zero d h at = ap (λ (y : Declaration). list_any may_ask y.script) (sym (some_is x d at)) ∙ (or_none (list_any may_ask x.script) (list_any (λ d. list_any may_ask d.script) ds) h).0
none_at (x ∷ ds) (suc i) d h at = none_at ds i d (or_none (list_any may_ask x.script) (list_any (λ d. list_any may_ask d.script) ds) h).1 at

none_asks : (m : Machine) → may_turn m ≡ false → m.retargeting ≡ true → list_any (λ d. list_any may_ask d.script) m.threads ≡ false
none_asks m still is = ap (λ b. b && list_any (λ d. list_any may_ask d.script) m.threads) (sym is) ∙ still

pub opening_owes : (m : Machine) → may_turn m ≡ false → NothingOwed m (opening m)
opening_owes m still = record {
  none = refl;
  plain = λ is i d t declared now.
      subst (Keeps d (slice_index (opening m).clocks d.cpu)) (opening_is m i t now) (record { script = none_at m.threads i d (none_asks m still is) declared; tag = refl; message = tt });
}
