-- Registers and messages keep to the format of the machine's scripts.
use Rattle.std.proofs.Common.{subst, ◌≡◌, ℕ, zero, suc, ◌+◌, ◌*◌, ◌/◌, ◌%◌, ◌^◌, ◌-◌, ◌<◌, ◌≤◌, Bool, true, false, cond, Option, Some, None, List, [], ◌∷◌, length, take, drop, refl, ap, ◌∙◌, arith}
use Rattle.std.specs.Prelude.{◌&&◌, slice_get, slice_index, slice_set, IfSome, nat_lt, unwrap_or}
use Rattle.std.specs.List.{list_all}
use Rattle.std.specs.Option.{option_map}
use Rattle.std.proofs.lemmas.Bool.{and_parts, and_from, ltb-true, lt-ltb, eqb-true}
use Rattle.std.proofs.lemmas.List.Folds.{list_all-append}
use Rattle.std.proofs.lemmas.Slice.Eq.{bytes_eq-Decides}
use Rattle.l4_model.specs.Words.{Format, W64, W32, word_limit, label_limit_in, is_word_in, same_format, GlobalId, Id, NilThread, AnyThread, AnyLocalThread, LocalThread, GlobalThread, has_word_in, word_by, word_in, number_limit, version_limit}
use Rattle.l4_model.specs.Machine.{Machine, Declaration, Value, Word, Register, Computed, FromWord, Own, Assign, AssignTag, AssignVs, GoTo, GoToOnErr, GoToOnLabel, GoToOnWord, GoToOnFrom, Instr, Run, Ipc, Ask, End, OrderKind, CancelSend, CancelReceive, CancelBoth, Delete, instruction_at}
use Rattle.l4_model.specs.World.{Context, Thread, World, Message, Send, Receive, Owed, Phase, Ready, Sending, Receiving, Ordering, Ended, Deleted, opening, opening_thread, is_alive}
use Rattle.l4_model.specs.Rules.{computed, assigned, words_after, ran, received_tag, is_cross, message_of, bit}
use Rattle.l4_model.specs.Steps.{Step, Deliver, next}
use Rattle.l4_model.specs.History.{run, reached}
use Rattle.l4_model.specs.Effects.{fails, decided, receives, goes_on, asked, turned_send, turns_in, turns}
use Rattle.l4_model.specs.Formats.{gives_words, writes_words, is_of_format, tells_words, has_words, StaysIn}
use Rattle.l4_model.proofs.Chains.{bind_then, some_is, cond_keeps}
use Rattle.l4_model.proofs.Inversions.{deliver_taken}
use Rattle.l4_model.proofs.Keeping.{Each, Maintained, step_each, sender_fact, opening_is}
use Rattle.l4_model.proofs.Places.{known_send}
use Rattle.l4_model.proofs.Requests.{act_request, message_short}

-- Lists

all_set : (f : Format) (words : List ℕ) (a word : ℕ) → list_all (is_word_in f) words ≡ true → is_word_in f word ≡ true → list_all (is_word_in f) (slice_set words a word) ≡ true
all_set f [] a word h k = refl
all_set f (x ∷ xs) zero word h k = and_from _ _ k (and_parts (is_word_in f x) (list_all (is_word_in f) xs) h).1
all_set f (x ∷ xs) (suc a) word h k =
    let parts = and_parts (is_word_in f x) (list_all (is_word_in f) xs) h in
    and_from _ _ parts.0 (all_set f xs a word parts.1 k)

zero_fits : (f : Format) → is_word_in f 0 ≡ true
zero_fits W64 = refl
zero_fits W32 = refl

error_fits : (f : Format) → is_word_in f 0x8000 ≡ true
error_fits W64 = refl
error_fits W32 = refl

all_at : (f : Format) (words : List ℕ) (a : ℕ) → list_all (is_word_in f) words ≡ true → is_word_in f (slice_index words a) ≡ true
all_at f [] a h = zero_fits f
all_at f (x ∷ xs) zero h = (and_parts (is_word_in f x) (list_all (is_word_in f) xs) h).0
all_at f (x ∷ xs) (suc a) h = all_at f xs a (and_parts (is_word_in f x) (list_all (is_word_in f) xs) h).1

all_drop : (f : Format) (n : ℕ) (words : List ℕ) → list_all (is_word_in f) words ≡ true → list_all (is_word_in f) (drop n words) ≡ true
all_drop f zero words h = h
all_drop f (suc n) [] h = refl
all_drop f (suc n) (x ∷ xs) h = all_drop f n xs (and_parts (is_word_in f x) (list_all (is_word_in f) xs) h).1

all_take : (f : Format) (n : ℕ) (words : List ℕ) → list_all (is_word_in f) words ≡ true → list_all (is_word_in f) (take n words) ≡ true
all_take f zero words h = refl
all_take f (suc n) [] h = refl
all_take f (suc n) (x ∷ xs) h =
    let parts = and_parts (is_word_in f x) (list_all (is_word_in f) xs) h in
    and_from _ _ parts.0 (all_take f n xs parts.1)

-- What a thread has

record IsMessageOf (f : Format) (message : Message) : Type 0 where
  label : message.label < label_limit_in f
  words : list_all (is_word_in f) message.words ≡ true
  short : length message.words < 64

record Keeps (f : Format) (d : Declaration) (now : ℕ) (t : Thread) : Type 0 where
  script : list_all (writes_words f) d.script ≡ true
  registers : has_words f t ≡ true
  message : IfSome t.send (λ s. IsMessageOf f s.message)

-- The instruction at a place is one of the script, or an `end`.
at_place : (f : Format) (script : List Instr) (place : ℕ) → list_all (writes_words f) script ≡ true → writes_words f (instruction_at script place) ≡ true
at_place f [] place h = refl
at_place f (i ∷ script) zero h = (and_parts (writes_words f i) (list_all (writes_words f) script) h).0
at_place f (i ∷ script) (suc place) h = at_place f script place (and_parts (writes_words f i) (list_all (writes_words f) script) h).1

counted_fits : (f format : Format) (n : ℕ) → same_format format f ≡ true → is_word_in f (n % word_limit format) ≡ true
counted_fits W64 W64 n h = lt-ltb (n % 2 ^ 64) (2 ^ 64) (omega arith)
counted_fits W32 W32 n h = lt-ltb (n % 2 ^ 32) (2 ^ 32) (omega arith)
counted_fits W64 W32 n h = cc
counted_fits W32 W64 n h = cc

-- The word of an id is one of the format.

global_fits : (f : Format) (t : GlobalId) → nat_lt t.number (number_limit f) ≡ true → nat_lt t.version (version_limit f) ≡ true → is_word_in f (t.number * version_limit f + t.version) ≡ true
global_fits W64 t n v = let number = ltb-true t.number (2 ^ 32) n in let version = ltb-true t.version (2 ^ 32) v in lt-ltb _ (2 ^ 64) (omega (arith, number, version))
global_fits W32 t n v = let number = ltb-true t.number (2 ^ 18) n in let version = ltb-true t.version (2 ^ 14) v in lt-ltb _ (2 ^ 32) (omega (arith, number, version))

any_fits : (f : Format) → is_word_in f (word_limit f - 1) ≡ true
any_fits W64 = refl
any_fits W32 = refl

local_fits : (f : Format) → is_word_in f (word_limit f - 64) ≡ true
local_fits W64 = refl
local_fits W32 = refl

id_fits : (f : Format) (id : Id) → has_word_in f id ≡ true → is_word_in f (word_by f id) ≡ true
id_fits f NilThread h = zero_fits f
id_fits f AnyThread h = any_fits f
id_fits f AnyLocalThread h = local_fits f
id_fits f (LocalThread word) h = first _ _ _ _ h
  where
    first : (a b c d : Bool) → (a && b && c && d) ≡ true → a ≡ true
    first a b c d h = (and_parts a b (and_parts (a && b) c (and_parts (a && b && c) d h).0).0).0
id_fits f (GlobalThread t) h = let both = two _ _ _ _ h in global_fits f t both.0 both.1
  where
    two : (a b c d : Bool) → (a && b && c && d) ≡ true → (a ≡ true) × (b ≡ true)
    two a b c d h = and_parts a b (and_parts (a && b) c (and_parts (a && b && c) d h).0).0

from_fits : (f format : Format) (id : Id) → same_format format f ≡ true → is_word_in f (unwrap_or (word_in format id) 0) ≡ true
from_fits W64 W64 id h = by (has_word_in W64 id) refl
  where
    by : (b : Bool) → has_word_in W64 id ≡ b → is_word_in W64 (unwrap_or (cond b (Some (word_by W64 id)) None) 0) ≡ true
    by true e = id_fits W64 id e
    by false e = refl
from_fits W32 W32 id h = by (has_word_in W32 id) refl
  where
    by : (b : Bool) → has_word_in W32 id ≡ b → is_word_in W32 (unwrap_or (cond b (Some (word_by W32 id)) None) 0) ≡ true
    by true e = id_fits W32 id e
    by false e = refl
from_fits W64 W32 id h = cc
from_fits W32 W64 id h = cc

assigned_fits : (f : Format) (value : Value) (a : ℕ) (c : Context) → gives_words f value ≡ true → list_all (is_word_in f) c.words ≡ true → is_word_in f (assigned c a value) ≡ true
assigned_fits f (Word word) a c i h = i
assigned_fits f (Register b) a c i h = all_at f c.words b h
assigned_fits f (Computed operation format word) a c i h = counted_fits f format (computed operation (slice_index c.words a) word) i
assigned_fits f (FromWord format) a c i h = from_fits f format c.from i

own_fits : (f : Format) (own : Own) (c : Context) → writes_words f (Run own) ≡ true → list_all (is_word_in f) c.words ≡ true → list_all (is_word_in f) (words_after c own) ≡ true
own_fits f (Assign a value) c i h = all_set f c.words a _ h (assigned_fits f value a c i h)
own_fits f (AssignTag word) c i h = all_set f c.words 0 word h i
own_fits f (AssignVs from) c i h = h
own_fits f (GoTo place) c i h = h
own_fits f (GoToOnErr place) c i h = h
own_fits f (GoToOnLabel label place) c i h = h
own_fits f (GoToOnWord a word place) c i h = h
own_fits f (GoToOnFrom id place) c i h = h

registers_ran : (f : Format) (i : Instr) (c : Context) → writes_words f i ≡ true → list_all (is_word_in f) c.words ≡ true → list_all (is_word_in f) (ran i c).words ≡ true
registers_ran f (Run own) c i h = own_fits f own c i h
registers_ran f (Ipc to from send_period receive_period) c i h = all_set f c.words 0 0 h (zero_fits f)
registers_ran f (Ask target what) c i h = h
registers_ran f End c i h = h

label_fits : (f : Format) (word : ℕ) → is_word_in f word ≡ true → word / 2 ^ 16 < label_limit_in f
label_fits W64 word h = let small = ltb-true word (2 ^ 64) h in omega (arith, small)
label_fits W32 word h = let small = ltb-true word (2 ^ 32) h in omega (arith, small)

bit_small : (b : Bool) → bit b ≤ 1
bit_small true = omega arith
bit_small false = omega arith

tag_fits : (f : Format) (cross : Bool) (message : Message) → IsMessageOf f message → is_word_in f (received_tag cross message) ≡ true
tag_fits W64 cross message h =
    let label = h.label in
    let short = h.short in
    lt-ltb (received_tag cross message) (2 ^ 64) (sum message.label (bit cross) (bit message.propagated) (length message.words) label (bit_small cross) (bit_small message.propagated) short)
  where
    sum : (l x p n : ℕ) → l < 2 ^ 48 → x ≤ 1 → p ≤ 1 → n < 64 → l * 2 ^ 16 + x * 2 ^ 14 + p * 2 ^ 12 + n < 2 ^ 64
    sum l x p n a b c d = omega (arith, a, b, c, d)
tag_fits W32 cross message h =
    let label = h.label in
    let short = h.short in
    lt-ltb (received_tag cross message) (2 ^ 32) (sum message.label (bit cross) (bit message.propagated) (length message.words) label (bit_small cross) (bit_small message.propagated) short)
  where
    sum : (l x p n : ℕ) → l < 2 ^ 16 → x ≤ 1 → p ≤ 1 → n < 64 → l * 2 ^ 16 + x * 2 ^ 14 + p * 2 ^ 12 + n < 2 ^ 32
    sum l x p n a b c d = omega (arith, a, b, c, d)

message_fits : (m : Machine) (f : Format) (id : GlobalId) (c : Context) → list_all (is_word_in f) c.words ≡ true → IsMessageOf f (message_of m id c)
message_fits m f id c h =
    record {
      label = label_fits f (slice_index c.words 0) (all_at f c.words 0 h);
      words = all_take f _ (drop 1 c.words) (all_drop f 1 c.words h);
      short = message_short m id c;
    }

its_message : (f : Format) (send : Option Send) (s : Send) → send ≡ Some s → IfSome send (λ s. IsMessageOf f s.message) → IsMessageOf f s.message
its_message f send s e h = subst (λ (o : Option Send). IfSome o (λ s. IsMessageOf f s.message)) e h

-- Each change of a thread keeps it

failed_keeps : (f : Format) (d : Declaration) (now code : ℕ) (t : Thread) → Keeps f d now t → Keeps f d now (fails code t)
failed_keeps f d now code t h =
    cond_keeps (Keeps f d now) (is_alive t.phase) _ t (λ alive. record { script = h.script; registers = all_set f t.context.words 0 0x8000 h.registers (error_fits f); message = h.message }) (λ gone. h)

decided_keeps : (f : Format) (d : Declaration) (now : ℕ) (t : Thread) → Keeps f d now t → Keeps f d now (decided t)
decided_keeps f d now t h = record { script = h.script; registers = h.registers; message = tt }

goes_on_keeps : (f : Format) (d : Declaration) (now : ℕ) (t : Thread) (receive : Option Receive) (later : ℕ) → Keeps f d now t → Keeps f d now (goes_on receive later t)
goes_on_keeps f d now t None later h = record { script = h.script; registers = all_set f t.context.words 0 0 h.registers (zero_fits f); message = tt }
goes_on_keeps f d now t (Some receive) later h = record { script = h.script; registers = h.registers; message = tt }

asked_keeps : (f : Format) (d : Declaration) (now : ℕ) (t : Thread) (what : OrderKind) → Keeps f d now t → Keeps f d now (asked what t)
asked_keeps f d now t CancelSend h = record { script = h.script; registers = h.registers; message = h.message }
asked_keeps f d now t CancelReceive h = record { script = h.script; registers = h.registers; message = h.message }
asked_keeps f d now t CancelBoth h = record { script = h.script; registers = h.registers; message = h.message }
asked_keeps f d now t Delete h = record { script = h.script; registers = h.registers; message = h.message }

received_keeps : (f : Format) (d : Declaration) (now : ℕ) (t : Thread) (message : Message) (tag : ℕ) → IsMessageOf f message → is_word_in f tag ≡ true → Keeps f d now t → Keeps f d now (receives message tag t)
received_keeps f d now t message tag its fits h =
    record {
      script = h.script;
      registers = and_from _ _ fits (list_all-append (is_word_in f) message.words (drop (1 + length message.words) t.context.words) ∙ and_from _ _ its.words (all_drop f (1 + length message.words) t.context.words h.registers));
      message = h.message;
    }

-- A send that turns to another partner has the same message.
message_turned : (f : Format) (o : Owed) (send : Option Send) → IfSome send (λ s. IsMessageOf f s.message) → IfSome (option_map (turned_send o) send) (λ s. IsMessageOf f s.message)
message_turned f o None h = tt
message_turned f o (Some send) h = h

turn_keeps : (f : Format) (d : Declaration) (now : ℕ) (t : Thread) (o : Owed) → Keeps f d now t → Keeps f d now (turns o t)
turn_keeps f d now t o h = by t.phase
  where
    by : (p : Phase) → Keeps f d now (turns_in p o t)
    by Ready = h
    by Sending = record { script = h.script; registers = h.registers; message = message_turned f o t.send h.message }
    by (Receiving receive since) = record { script = h.script; registers = h.registers; message = h.message }
    by Ordering = h
    by Ended = h
    by Deleted = h

kept : (m : Machine) (f : Format) → Maintained m (Keeps f)
kept m f =
    record {
      at_run = λ d now t ready h. record { script = h.script; registers = registers_ran f (instruction_at d.script t.context.place) t.context (at_place f d.script t.context.place h.script) h.registers; message = h.message };
      at_begin = λ d now t send declared ready sends h.
          let asks = act_request m d.id now t.context (instruction_at d.script t.context.place) send sends in
          record { script = h.script; registers = h.registers; message = subst (IsMessageOf f) asks.message (message_fits m f d.id t.context h.registers) };
      at_wait = λ d now t receive ready h. record { script = h.script; registers = h.registers; message = h.message };
      at_order = λ d now t order ready h. record { script = h.script; registers = h.registers; message = h.message };
      at_failure = λ d now t code receive receiving h. failed_keeps f d now code t h;
      at_refusal = λ d now t code send has h. failed_keeps f d now code (decided t) (decided_keeps f d now t h);
      at_drop = λ d now t gone h. decided_keeps f d now t h;
      at_receipt = λ d sd now sender_now t sender receive send cross receiving has sent h.
          let its = its_message f sender.send send has sent.message in
          received_keeps f d now t send.message (received_tag cross send.message) its (tag_fits f cross send.message its) h;
      at_delivery = λ d now t send has h. cond_keeps (Keeps f d now) (is_alive t.phase) _ (decided t) (λ alive. goes_on_keeps f d now t send.receive now h) (λ gone. decided_keeps f d now t h);
      at_asked = λ d now t what h. asked_keeps f d now t what h;
      at_obedience = λ d now t order has h.
          cond_keeps (Keeps f d now) (is_alive t.phase) _ _ (λ alive. record { script = h.script; registers = h.registers; message = h.message }) (λ gone. record { script = h.script; registers = h.registers; message = h.message });
      at_turn = λ d now t o h. turn_keeps f d now t o h;
      at_tick = λ d now later t le h. record { script = h.script; registers = h.registers; message = h.message };
    }

-- Histories

script_at : (f : Format) (ds : List Declaration) (i : ℕ) (d : Declaration) → list_all (λ d. list_all (writes_words f) d.script) ds ≡ true → slice_get ds i ≡ Some d → list_all (writes_words f) d.script ≡ true
script_at f [] i d h at = cc
script_at f (x ∷ ds) zero d h at =
    subst (λ (d : Declaration). list_all (writes_words f) d.script ≡ true) (some_is x d at) (and_parts (list_all (writes_words f) x.script) (list_all (λ d. list_all (writes_words f) d.script) ds) h).0
script_at f (x ∷ ds) (suc i) d h at = script_at f ds i d (and_parts (list_all (writes_words f) x.script) (list_all (λ d. list_all (writes_words f) d.script) ds) h).1 at

opening_fits : (f : Format) → has_words f opening_thread ≡ true
opening_fits W64 = refl
opening_fits W32 = refl

opening_keeps : (m : Machine) (f : Format) → is_of_format f m ≡ true → Each m (Keeps f) (opening m)
opening_keeps m f h i d t declared now =
    subst (Keeps f d (slice_index (opening m).clocks d.cpu)) (opening_is m i t now) (record { script = script_at f m.threads i d h declared; registers = opening_fits f; message = tt })

told : (m : Machine) (f : Format) (w v : World) (step : Step) → next m w step ≡ Some v → Each m (Keeps f) w → tells_words f step ≡ true
told m f w v (Deliver s receiver shown actual tag words) h each =
    let k = deliver_taken m w v s receiver shown actual tag words h in
    let message = k.p.send.message in
    let its = its_message f k.p.sender.now.send k.p.send (known_send m w s k.p k.is_undecided).send (sender_fact m (Keeps f) w s k.p k.is_undecided each).message in
    let tag_is : tag ≡ received_tag (is_cross m receiver message) message = eqb-true tag (received_tag (is_cross m receiver message) message) k.same_tag in
    let words_are : words ≡ message.words = (bytes_eq-Decides words message.words).0 k.same_words in
    and_from _ _ (ap (is_word_in f) tag_is ∙ tag_fits f (is_cross m receiver message) message its) (ap (list_all (is_word_in f)) words_are ∙ its.words)
told m f w v _ h each = refl

run_keeps : (m : Machine) (f : Format) (h : List Step) (w v : World) → run m w h ≡ Some v → Each m (Keeps f) w → Each m (Keeps f) v × (list_all (tells_words f) h ≡ true)
run_keeps m f [] w v r each = (subst (Each m (Keeps f)) (some_is w v r) each, refl)
run_keeps m f (step ∷ h) w v r each =
    bind_then (next m w step) (λ u. run m u h) v r λ u is rest.
    let later = run_keeps m f h u v rest (step_each m (Keeps f) w u step (kept m f) is each) in
    (later.0, and_from _ _ (told m f w u step is each) later.1)

pub stays_in : (f : Format) (m : Machine) (h : List Step) (w : World) → is_of_format f m ≡ true → reached m h ≡ Some w → StaysIn f m h w
stays_in f m h w of_format r =
    let all = run_keeps m f h (opening m) w r (opening_keeps m f of_format) in
    record { told = all.1; registers = λ i d t declared now. (all.0 i d t declared now).registers }
