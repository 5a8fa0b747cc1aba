-- What the report of a history of a machine text tells of each thread and each undecided send.
use Rattle.std.proofs.Common.{◌≡◌, ℕ, zero, suc, ◌+◌, ◌-◌, ◌*◌, ◌/◌, ◌%◌, ◌^◌, ◌<◌, Bool, true, false, not, cond, Option, Some, None, List, [], ◌∷◌, length, refl, sym, ap, subst, ◌∙◌, arith}
use Rattle.std.specs.Prelude.{◌==◌, ◌&&◌, nat_le, nat_lt, slice_get, slice_index, slice_set, unwrap_or, IfSome}
use Rattle.std.specs.List.{cons_option, list_all}
use Rattle.std.specs.Option.{option_map}
use Rattle.std.proofs.lemmas.Bool.{and_parts, and_from, ltb-true, lt-ltb, eq-eqb, eqb-true, false_from_ne_true, not_from_false}
use Rattle.l4_model.specs.Words.{Format, W64, W32, GlobalId, Id, NilThread, AnyThread, AnyLocalThread, LocalThread, GlobalThread, Period, has_typed_words, has_word_in, id_in, same_format, is_global, is_word_in, last_register}
use Rattle.l4_model.specs.Machine.{Declaration, Value, Word, Register, Computed, From, Assign, Instr, Run, Tag, Vs, Ipc, Ask, Jump, OnErr, OnLabel, OnWord, OnFrom, End, Machine, OrderKind, CancelSend, CancelReceive, CancelBoth, Delete, IdFrom, Fixed, Last, InRegister, instruction_at, same_space}
use Rattle.l4_model.specs.World.{Context, Message, Name, Owed, Phase, Ready, Sending, Receiving, Ordering, Ended, Deleted, Receive, Send, Thread, World, is_alive, opening}
use Rattle.l4_model.specs.Rules.{RunsAlone, Orders, act, ask_act, bit, id_from, failed, ipc_act, is_admitted, message_of, originator, permitted, ran, receive_phase, received, received_tag, register}
use Rattle.l4_model.specs.Conditions.{◌>>=◌, Pending, undecided}
use Rattle.l4_model.specs.Effects.{asked, decided, fails, goes_on, turned_send, turns, turns_in}
use Rattle.l4_model.specs.Steps.{Step, Begin, next, send_of}
use Rattle.l4_model.specs.History.{reached, run, waiting, waiting_name}
use Rattle.l4_model.proofs.Chains.{bind_then, cond_keeps, some_is}
use Rattle.l4_model.proofs.Keeping.{Each, Maintained, opening_is, sender_fact, step_each}
use Rattle.l4_model.proofs.Places.{known_send}
use Rattle.l4_model.proofs.Requests.{act_request, message_short}
use Rattle.l4_types.proofs.InFormats.{is_global_too}
use Rattle.l4_script.specs.Canonical.{can_be_assigned, is_register}
use Rattle.l4_script.specs.Second.Canonical.{HasSecondText, has_id_from, second_can_be_declared, second_can_be_written}
use Rattle.l4_script.proofs.AcceptedLines.{id_in_said}
use Rattle.l4_trace.specs.Lines.{has_line}
use Rattle.l4_words.specs.Names.{is_name}
use Rattle.l4_expect.proofs.Reported.{is_sender, is_some_thread}
use Rattle.l4_expect.proofs.Told.{Every, IsUndecided}

-- What a machine text writes

-- What a register has is an id that has a word, or counts as nilthread.
abbrev from_suits : IdFrom → Bool
from_suits (Fixed id) = has_word_in W64 id
from_suits Last = true
from_suits (InRegister format a) = true

-- No instruction but `tag` writes MR0, and that no typed items; each id has a word.
abbrev suits : Instr → Bool
suits (Run (Assign a value)) = nat_le 1 a
suits (Tag word) = word / 2 ^ 6 % 64 == 0
suits (Vs from) = from_suits from
suits (Ipc to from send receive) = from_suits to
suits _ = true

has_word_too : (f : Format) (id : Id) → has_word_in f id ≡ true → has_word_in W64 id ≡ true
has_word_too W64 id h = h
has_word_too W32 NilThread h = refl
has_word_too W32 AnyThread h = refl
has_word_too W32 AnyLocalThread h = refl
has_word_too W32 (LocalThread word) h =
    let parts = and_parts (nat_lt word (2 ^ 32) && not (word == 0) && not (word == 2 ^ 32 - 64)) (word % 64 == 0) h in
    let more = and_parts (nat_lt word (2 ^ 32) && not (word == 0)) (not (word == 2 ^ 32 - 64)) parts.0 in
    let some = and_parts (nat_lt word (2 ^ 32)) (not (word == 0)) more.0 in
    let small : word < 2 ^ 32 = ltb-true word (2 ^ 32) some.0 in
    let other : not (word == 2 ^ 64 - 64) ≡ true =
    not_from_false (word == 2 ^ 64 - 64) (false_from_ne_true (word == 2 ^ 64 - 64) (λ e. omega (arith, small, eqb-true word (2 ^ 64 - 64) e))) in
    and_from _ _ (and_from _ _ (and_from _ _ (lt-ltb word (2 ^ 64) (omega (arith, small))) some.1) other) parts.1
has_word_too W32 (GlobalThread t) h = is_global_too W32 t h

from_too : (f : Format) (from : IdFrom) → has_id_from f from ≡ true → from_suits from ≡ true
from_too f (Fixed id) h = has_word_too f id h
from_too f Last h = refl
from_too f (InRegister format a) h = refl

register_suits : (a : ℕ) → is_register a ≡ true → nat_le 1 a ≡ true
register_suits a h = (and_parts (nat_le 1 a) (nat_le a last_register) h).0

assigned_suits : (f : Format) (a : ℕ) (value : Value) → (is_register a && can_be_assigned f value) ≡ true → nat_le 1 a ≡ true
assigned_suits f a value h = register_suits a (and_parts (is_register a) (can_be_assigned f value) h).0

written_suits : (f : Format) (size : ℕ) (i : Instr) → second_can_be_written f size i ≡ true → suits i ≡ true
written_suits f size (Run (Assign a (Word word))) h = assigned_suits f a (Word word) h
written_suits f size (Run (Assign a (Register b))) h = assigned_suits f a (Register b) h
written_suits f size (Run (Assign a (Computed operation format word))) h = assigned_suits f a (Computed operation format word) h
written_suits f size (From format a) h = register_suits a (and_parts (is_register a) (same_format format f) h).0
written_suits f size (Tag word) h = (and_parts (is_word_in f word) (word / 2 ^ 6 % 64 == 0) h).1
written_suits f size (Vs from) h = from_too f from h
written_suits f size (Ipc to from send receive) h = from_too f to (and_parts _ _ (and_parts _ _ (and_parts _ _ h).0).0).0
written_suits f size (Ask target what) h = refl
written_suits f size (Jump place) h = refl
written_suits f size (OnErr place) h = refl
written_suits f size (OnLabel label place) h = refl
written_suits f size (OnWord a word place) h = refl
written_suits f size (OnFrom id place) h = refl
written_suits f size End h = refl

all_suit : (f : Format) (size : ℕ) (script : List Instr) → list_all (second_can_be_written f size) script ≡ true → list_all suits script ≡ true
all_suit f size [] h = refl
all_suit f size (i ∷ script) h =
    let parts = and_parts (second_can_be_written f size i) (list_all (second_can_be_written f size) script) h in
    and_from _ _ (written_suits f size i parts.0) (all_suit f size script parts.1)

at_place : (script : List Instr) (place : ℕ) → list_all suits script ≡ true → suits (instruction_at script place) ≡ true
at_place [] place h = refl
at_place (i ∷ script) zero h = (and_parts (suits i) (list_all suits script) h).0
at_place (i ∷ script) (suc place) h = at_place script place (and_parts (suits i) (list_all suits script) h).1

-- What a thread has

pub record IsPlain (c : Context) : Type 0 where
  pub from : is_sender c.from ≡ true
  pub actual : has_word_in W64 c.actual ≡ true
  pub tag : has_typed_words (slice_index c.words 0) ≡ false

pub record IsLawful (send : Send) : Type 0 where
  pub shown : is_global send.message.shown ≡ true
  pub actual : is_global send.message.actual ≡ true
  pub short : length send.message.words < 64
  pub to : has_word_in W64 send.to ≡ true
  pub some : is_some_thread send.to ≡ true

pub record Keeps (d : Declaration) (now : ℕ) (t : Thread) : Type 0 where
  pub script : list_all suits d.script ≡ true
  pub id : is_global d.id ≡ true
  pub context : IsPlain t.context
  pub send : IfSome t.send IsLawful

first_kept : (words : List ℕ) (a word : ℕ) → nat_le 1 a ≡ true → slice_index (slice_set words a word) 0 ≡ slice_index words 0
first_kept words zero word h = cc
first_kept [] (suc a) word h = refl
first_kept (x ∷ words) (suc a) word h = refl

tag_first : (words : List ℕ) (word : ℕ) → has_typed_words word ≡ false → has_typed_words (slice_index (slice_set words 0 word) 0) ≡ false
tag_first [] word h = refl
tag_first (x ∷ words) word h = h

sender_word : (id : Id) → is_sender id ≡ true → has_word_in W64 id ≡ true
sender_word NilThread h = refl
sender_word (GlobalThread t) h = h
sender_word AnyThread h = cc
sender_word AnyLocalThread h = cc
sender_word (LocalThread word) h = cc

in_register : (format : Format) (word : ℕ) (o : Option Id) → id_in format word ≡ o → has_word_in W64 (unwrap_or o NilThread) ≡ true
in_register format word None e = refl
in_register format word (Some id) e = has_word_too format id (id_in_said format word id e)

word_from : (c : Context) (from : IdFrom) → from_suits from ≡ true → IsPlain c → has_word_in W64 (id_from c from) ≡ true
word_from c (Fixed id) h plain = h
word_from c Last h plain = sender_word c.from plain.from
word_from c (InRegister format a) h plain = in_register format (register c a) (id_in format (register c a)) refl

ran_plain : (i : Instr) (c : Context) → suits i ≡ true → IsPlain c → IsPlain (ran i c)
ran_plain (Run (Assign a value)) c i h = record { from = h.from; actual = h.actual; tag = ap has_typed_words (first_kept c.words a _ i) ∙ h.tag }
ran_plain (Tag word) c i h = record { from = h.from; actual = h.actual; tag = tag_first c.words word (ap not i) }
ran_plain (Vs from) c i h = record { from = h.from; actual = word_from c from i h; tag = h.tag }
ran_plain (Ipc to from send receive) c i h = record { from = refl; actual = h.actual; tag = tag_first c.words 0 refl }
ran_plain (Ask target what) c i h = record { from = h.from; actual = h.actual; tag = h.tag }
ran_plain (Jump place) c i h = record { from = h.from; actual = h.actual; tag = h.tag }
ran_plain (OnErr place) c i h = record { from = h.from; actual = h.actual; tag = h.tag }
ran_plain (OnLabel label place) c i h = record { from = h.from; actual = h.actual; tag = h.tag }
ran_plain (OnWord a word place) c i h = record { from = h.from; actual = h.actual; tag = h.tag }
ran_plain (OnFrom id place) c i h = record { from = h.from; actual = h.actual; tag = h.tag }
ran_plain End c i h = h

failed_plain : (code : ℕ) (c : Context) → IsPlain c → IsPlain (failed code c)
failed_plain code c h = record { from = refl; actual = h.actual; tag = tag_first c.words 0x8000 refl }

untyped_sum : (l x p n : ℕ) → n < 64 → (l * 2 ^ 16 + x * 2 ^ 14 + p * 2 ^ 12 + n) / 2 ^ 6 % 64 ≡ 0
untyped_sum l x p n h = omega (arith, h)

tag_untyped : (cross : Bool) (message : Message) → length message.words < 64 → has_typed_words (received_tag cross message) ≡ false
tag_untyped cross message short = ap not (eq-eqb _ 0 (untyped_sum message.label (bit cross) (bit message.propagated) (length message.words) short))

received_plain : (message : Message) (tag : ℕ) (c : Context) → is_global message.shown ≡ true → is_global message.actual ≡ true → has_typed_words tag ≡ false →
    IsPlain (received message tag c)
received_plain message tag c shown actual untyped = record { from = shown; actual = actual; tag = untyped }

-- What a send has

permitted_global : (m : Machine) (id : GlobalId) (actual : Id) (t : GlobalId) → has_word_in W64 actual ≡ true → permitted m id actual ≡ Some t → is_global t ≡ true
permitted_global m id NilThread t h e = cc
permitted_global m id AnyThread t h e = cc
permitted_global m id AnyLocalThread t h e = cc
permitted_global m id (LocalThread word) t h e = cc
permitted_global m id (GlobalThread g) t h e = by (same_space m g id) e
  where
    by : (same : Bool) → cond same (Some g) None ≡ Some t → is_global t ≡ true
    by true e = ap is_global (sym (some_is g t e)) ∙ h
    by false e = cc

shown_by : (id : GlobalId) (o : Option GlobalId) → is_global id ≡ true → ((t : GlobalId) → o ≡ Some t → is_global t ≡ true) → is_global (unwrap_or o id) ≡ true
shown_by id None h is = h
shown_by id (Some t) h is = is t refl

shown_global : (m : Machine) (id : GlobalId) (c : Context) → is_global id ≡ true → IsPlain c → is_global (message_of m id c).shown ≡ true
shown_global m id c h plain = shown_by id (originator m id c) h (by ((register c 0 / 2 ^ 12) % 2 == 1))
  where
    by : (asked : Bool) (t : GlobalId) → cond asked (permitted m id c.actual) None ≡ Some t → is_global t ≡ true
    by true t e = permitted_global m id c.actual t plain.actual e
    by false t e = cc

abbrev IsTo : Send → Type 0
IsTo send = (has_word_in W64 send.to ≡ true) × (is_some_thread send.to ≡ true)

to_is : (s send : Send) → s ≡ send → IsTo s → IsTo send
to_is s send is h = subst IsTo is h

ipc_to : (m : Machine) (id : GlobalId) (now : ℕ) (c : Context) (to : Id) (period : Period) (receive : Option Receive) (send : Send) → has_word_in W64 to ≡ true →
    send_of (ipc_act m id now c to period receive) ≡ Some send → IsTo send
ipc_to m id now c NilThread period None send h e = cc
ipc_to m id now c NilThread period (Some receive) send h e = cc
ipc_to m id now c AnyThread period receive send h e = to_is _ send (some_is _ send e) (refl, refl)
ipc_to m id now c AnyLocalThread period receive send h e = to_is _ send (some_is _ send e) (refl, refl)
ipc_to m id now c (LocalThread word) period receive send h e = to_is _ send (some_is _ send e) (h, refl)
ipc_to m id now c (GlobalThread t) period receive send h e = to_is _ send (some_is _ send e) (h, refl)

ask_sends : (m : Machine) (id : GlobalId) (target : Id) (what : OrderKind) (send : Send) → send_of (ask_act m id target what) ≡ Some send → ⊥
ask_sends m id NilThread what send h = cc
ask_sends m id AnyThread what send h = cc
ask_sends m id AnyLocalThread what send h = cc
ask_sends m id (LocalThread word) what send h = cc
ask_sends m id (GlobalThread t) what send h = by (is_admitted m id t what) h
  where
    by : (b : Bool) → send_of (cond b (Orders (record { target = t; what = what })) RunsAlone) ≡ Some send → ⊥
    by true h = cc
    by false h = cc

act_to : (m : Machine) (id : GlobalId) (now : ℕ) (c : Context) (i : Instr) (send : Send) → suits i ≡ true → IsPlain c → send_of (act m id now c i) ≡ Some send → IsTo send
act_to m id now c (Ipc to from send_period receive_period) send i h e =
    ipc_to m id now c (id_from c to) send_period (receive_phase (id_from c from) receive_period) send (word_from c to i h) e
act_to m id now c (Ask target what) send i h e = absurd (ask_sends m id (id_from c target) what send e)
act_to m id now c (Run own) send i h e = cc
act_to m id now c End send i h e = cc

begun_lawful : (m : Machine) (d : Declaration) (now : ℕ) (c : Context) (i : Instr) (send : Send) → is_global d.id ≡ true → suits i ≡ true → IsPlain c →
    send_of (act m d.id now c i) ≡ Some send → IsLawful send
begun_lawful m d now c i send id is plain sends =
    let asks = act_request m d.id now c i send sends in
    let to = act_to m d.id now c i send is plain sends in
    record {
      shown = ap (λ (x : Message). is_global x.shown) (sym asks.message) ∙ shown_global m d.id c id plain;
      actual = ap (λ (x : Message). is_global x.actual) (sym asks.message) ∙ id;
      short = subst (λ (x : Message). length x.words < 64) asks.message (message_short m d.id c);
      to = to.0;
      some = to.1;
    }

its_send : (send : Option Send) (s : Send) → send ≡ Some s → IfSome send IsLawful → IsLawful s
its_send send s e h = subst (λ (o : Option Send). IfSome o IsLawful) e h

-- Each change of a thread keeps it

failed_keeps : (d : Declaration) (now code : ℕ) (t : Thread) → Keeps d now t → Keeps d now (fails code t)
failed_keeps d now code t h =
    cond_keeps (Keeps d now) (is_alive t.phase) _ t (λ alive. record { script = h.script; id = h.id; context = failed_plain code t.context h.context; send = h.send }) (λ gone. h)

decided_keeps : (d : Declaration) (now : ℕ) (t : Thread) → Keeps d now t → Keeps d now (decided t)
decided_keeps d now t h = record { script = h.script; id = h.id; context = h.context; send = tt }

goes_on_keeps : (d : Declaration) (now : ℕ) (t : Thread) (receive : Option Receive) (later : ℕ) → Keeps d now t → Keeps d now (goes_on receive later t)
goes_on_keeps d now t None later h =
    record { script = h.script; id = h.id; context = record { from = refl; actual = h.context.actual; tag = tag_first t.context.words 0 refl }; send = tt }
goes_on_keeps d now t (Some receive) later h = record { script = h.script; id = h.id; context = h.context; send = tt }

asked_keeps : (d : Declaration) (now : ℕ) (t : Thread) (what : OrderKind) → Keeps d now t → Keeps d now (asked what t)
asked_keeps d now t CancelSend h = record { script = h.script; id = h.id; context = h.context; send = h.send }
asked_keeps d now t CancelReceive h = record { script = h.script; id = h.id; context = h.context; send = h.send }
asked_keeps d now t CancelBoth h = record { script = h.script; id = h.id; context = h.context; send = h.send }
asked_keeps d now t Delete h = record { script = h.script; id = h.id; context = h.context; send = h.send }

send_turned : (o : Owed) (send : Option Send) → IfSome send IsLawful → IfSome (option_map (turned_send o) send) IsLawful
send_turned o None h = tt
send_turned o (Some send) h = record { shown = h.shown; actual = h.actual; short = h.short; to = h.to; some = h.some }

turn_keeps : (d : Declaration) (now : ℕ) (t : Thread) (o : Owed) → Keeps d now t → Keeps d now (turns o t)
turn_keeps d now t o h = by t.phase
  where
    by : (p : Phase) → Keeps d now (turns_in p o t)
    by Ready = h
    by Sending = record { script = h.script; id = h.id; context = h.context; send = send_turned o t.send h.send }
    by (Receiving receive since) = record { script = h.script; id = h.id; context = h.context; send = h.send }
    by Ordering = h
    by Ended = h
    by Deleted = h

kept : (m : Machine) → Maintained m Keeps
kept m =
    record {
      at_run = λ d now t ready h.
          record { script = h.script; id = h.id; context = ran_plain (instruction_at d.script t.context.place) t.context (at_place d.script t.context.place h.script) h.context; send = h.send };
      at_begin = λ d now t send declared ready sends h. record {
        script = h.script;
        id = h.id;
        context = record { from = h.context.from; actual = h.context.actual; tag = h.context.tag };
        send = begun_lawful m d now t.context (instruction_at d.script t.context.place) send h.id (at_place d.script t.context.place h.script) h.context sends;
      };
      at_wait = λ d now t receive ready h.
          record { script = h.script; id = h.id; context = record { from = h.context.from; actual = h.context.actual; tag = h.context.tag }; send = h.send };
      at_order = λ d now t order ready h. record { script = h.script; id = h.id; context = h.context; send = h.send };
      at_failure = λ d now t code receive receiving h. failed_keeps d now code t h;
      at_refusal = λ d now t code send has h. failed_keeps d now code (decided t) (decided_keeps d now t h);
      at_drop = λ d now t gone h. decided_keeps d now t h;
      at_receipt = λ d sd now sender_now t sender receive send cross receiving has sent h.
          let its = its_send sender.send send has sent.send in
          record {
            script = h.script;
            id = h.id;
            context = received_plain send.message (received_tag cross send.message) t.context its.shown its.actual (tag_untyped cross send.message its.short);
            send = h.send;
          };
      at_delivery = λ d now t send has h. cond_keeps (Keeps d now) (is_alive t.phase) _ (decided t) (λ alive. goes_on_keeps d now t send.receive now h) (λ gone. decided_keeps d now t h);
      at_asked = λ d now t what h. asked_keeps d now t what h;
      at_obedience = λ d now t order has h.
          cond_keeps (Keeps d now) (is_alive t.phase) _ _
          (λ alive. record { script = h.script; id = h.id; context = record { from = h.context.from; actual = h.context.actual; tag = h.context.tag }; send = h.send })
          (λ gone. record { script = h.script; id = h.id; context = h.context; send = h.send });
      at_turn = λ d now t o h. turn_keeps d now t o h;
      at_tick = λ d now later t le h. record { script = h.script; id = h.id; context = h.context; send = h.send };
    }

-- Histories

pub element : {A : Type 0} (p : A → Bool) (xs : List A) (i : ℕ) (x : A) → list_all p xs ≡ true → slice_get xs i ≡ Some x → p x ≡ true
element p [] i x h at = cc
element p (y ∷ xs) zero x h at = ap p (sym (some_is y x at)) ∙ (and_parts (p y) (list_all p xs) h).0
element p (y ∷ xs) (suc i) x h at = element p xs i x (and_parts (p y) (list_all p xs) h).1 at

opening_keeps : (f : Format) (m : Machine) → HasSecondText f m → Each m Keeps (opening m)
opening_keeps f m has i d t declared now =
    let can = element (second_can_be_declared f m.cpus) m.threads i d has.each declared in
    let size = and_parts _ _ can in
    let id = (and_parts _ _ (and_parts _ _ (and_parts _ _ size.0).0).0).0 in
    subst (Keeps d (slice_index (opening m).clocks d.cpu)) (opening_is m i t now)
    (record {
      script = all_suit f (length d.script) d.script size.1;
      id = is_global_too f d.id id;
      context = record { from = refl; actual = refl; tag = refl };
      send = tt;
    })

run_keeps : (m : Machine) (h : List Step) (w v : World) → run m w h ≡ Some v → Each m Keeps w → Each m Keeps v
run_keeps m [] w v r each = subst (Each m Keeps) (some_is w v r) each
run_keeps m (step ∷ h) w v r each =
    bind_then (next m w step) (λ u. run m u h) v r λ u is rest.
    run_keeps m h u v rest (step_each m Keeps w u step (kept m) is each)

pub reached_keeps : (f : Format) (m : Machine) (h : List Step) (w : World) → HasSecondText f m → reached m h ≡ Some w → Each m Keeps w
reached_keeps f m h w has r = run_keeps m h (opening m) w r (opening_keeps f m has)

-- Undecided sends

waiting_by : (m : Machine) (w : World) (s : Name) (p : Pending) → Each m Keeps w → undecided m w s ≡ Some p → is_name s ≡ true → IsUndecided (s, p.send.to)
waiting_by m w s p each is named =
    let its = its_send p.sender.now.send p.send (known_send m w s p is).send (sender_fact m Keeps w s p is each).send in
    record { name = named; destination = its.to; some = its.some }

begun_waiting : (m : Machine) (w : World) (s : Name) → Each m Keeps w → is_name s ≡ true → (p : Name × Id) →
    (undecided m w s >>= λ p. Some (s, p.send.to)) ≡ Some p → IsUndecided p
begun_waiting m w s each named p e =
    bind_then (undecided m w s) (λ p. Some (s, p.send.to)) p e λ q is rest.
    subst IsUndecided (some_is (s, q.send.to) p rest) (waiting_by m w s q each is named)

one_waiting : (m : Machine) (w : World) (step : Step) → Each m Keeps w → has_line step ≡ true → (p : Name × Id) → waiting_name m w step ≡ Some p → IsUndecided p
one_waiting m w (Begin s) each named p e = begun_waiting m w s each named p e
one_waiting m w step each named p e = cc

pub all_waiting : (m : Machine) (w : World) (h : List Step) → Each m Keeps w → list_all has_line h ≡ true → Every IsUndecided (waiting m w h)
all_waiting m w [] each lines = tt
all_waiting m w (step ∷ h) each lines =
    let parts = and_parts (has_line step) (list_all has_line h) lines in
    by (waiting_name m w step) (one_waiting m w step each parts.0) (all_waiting m w h each parts.1)
  where
    by : (o : Option (Name × Id)) → ((p : Name × Id) → o ≡ Some p → IsUndecided p) → Every IsUndecided (waiting m w h) → Every IsUndecided (cons_option o (waiting m w h))
    by None is later = later
    by (Some p) is later = (is p refl, later)
