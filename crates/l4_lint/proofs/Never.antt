-- What a thread whose script receives nothing never sends: a register that no tag sends, and a
-- propagated message where no `vs` permits one.
use Rattle.std.proofs.Common.{subst, ◌≡◌, ℕ, zero, suc, ◌+◌, ◌%◌, ◌<◌, ◌≤◌, Bool, true, false, cond, Option, Some, None, List, [], ◌∷◌, length, drop, refl, ap, sym, ◌∙◌, arith}
use Rattle.std.specs.Prelude.{◌==◌, ◌/◌, ◌*◌, ◌^◌, not, ◌&&◌, ◌||◌, nat_lt, nat_le, is_some, slice_get, IfSome}
use Rattle.std.specs.List.{list_any, list_all}
use Rattle.std.proofs.lemmas.Bool.{and_parts, or_from, or_parts, ltb-true, leb-true, leb-false, eqb-true}
use Rattle.std.proofs.lemmas.List.{length-take}
use Rattle.std.proofs.lemmas.Slice.Eq.{bytes_eq-Decides}
use Rattle.l4_model.specs.Words.{GlobalId, Id, NilThread, AnyThread, AnyLocalThread, LocalThread, GlobalThread, same_id, last_register}
use Rattle.l4_model.specs.Machine.{Machine, Declaration, IdFrom, Fixed, Last, InRegister, Assign, Instr, Run, Tag, Vs, Ipc, Ask, Jump, OnErr, OnLabel, OnWord, OnFrom, End, place_of, instruction_at}
use Rattle.l4_model.specs.World.{World, Message, Context, Name, opening}
use Rattle.l4_model.specs.Rules.{permitted, originator, message_of, register, received_tag, is_cross, bit}
use Rattle.l4_model.specs.Steps.{Step, Deliver, next}
use Rattle.l4_model.specs.History.{run, reached}
use Rattle.l4_model.proofs.Chains.{bind_then, some_is}
use Rattle.l4_model.proofs.Inversions.{DeliverTaken, deliver_taken}
use Rattle.l4_model.proofs.Places.{same_id_is, known_send, eqb_same}
use Rattle.l4_model.proofs.Requests.{message_short}
use Rattle.l4_script.specs.Canonical.{is_register}
use Rattle.l4_lint.specs.Always.{delivers_register, delivers_propagated}
use Rattle.l4_lint.specs.Doubts.{names_originator, asks_to_propagate}
use Rattle.l4_lint.specs.Scripts.{uses, may_receive, is_taken_from}
use Rattle.l4_lint.proofs.Changes.{Each, step_each, sender_fact}
use Rattle.l4_lint.proofs.Silent.{Allows, IsClosed, Silent, is_kept, opening_silent}

-- A declared thread at its place.
pub record IsPlaced (m : Machine) (i : ℕ) (d : Declaration) : Type 0 where
  pub declared : slice_get m.threads i ≡ Some d
  pub place : place_of m d.id ≡ Some i

-- What is delivered in a step: a message of this fact.
its_message : (m : Machine) (C : Declaration → ℕ → Id → Type 0) (M : Declaration → Message → Type 0) (i : ℕ) (d : Declaration) (w v : World) (s : Name)
    (receiver shown actual : GlobalId) (tag : ℕ) (words : List ℕ) → IsPlaced m i d → IsClosed m d (C d) (M d) → s.thread ≡ d.id →
    (k : DeliverTaken m w v s receiver shown actual tag words) → Each m (Silent m C M) w → M d k.p.send.message
its_message m C M i d w v s receiver shown actual tag words placed closed thread k each =
    let sender = known_send m w s k.p k.is_undecided in
    let at : k.p.sender.at ≡ i = some_is _ _ (sym sender.sender.place ∙ ap (place_of m) thread ∙ placed.place) in
    let same : k.p.sender.declared ≡ d = some_is _ _ (sym sender.sender.declared ∙ ap (slice_get m.threads) at ∙ placed.declared) in
    let silent : Silent m C M d k.p.sender.now = subst (λ (x : Declaration). Silent m C M x k.p.sender.now) same (sender_fact m (Silent m C M) w s k.p k.is_undecided each) in
    subst (λ o. IfSome o (λ x. M d x.message)) sender.send (silent closed).message

-- No step tells what no message of this fact tells.
run_never : (m : Machine) (C : Declaration → ℕ → Id → Type 0) (M : Declaration → Message → Type 0) (tells : Step → Bool) →
    ((w v : World) (step : Step) → next m w step ≡ Some v → Each m (Silent m C M) w → tells step ≡ false) →
    (h : List Step) (w v : World) → run m w h ≡ Some v → Each m (Silent m C M) w → list_any tells h ≡ false
run_never m C M tells never [] w v r each = refl
run_never m C M tells never (step ∷ h) w v r each =
    bind_then (next m w step) (λ u. run m u h) v r λ u is rest.
    or_from _ _ (never w u step is each) (run_never m C M tells never h u v rest (step_each m (Silent m C M) w u step (is_kept m C M) is each))

same_or_not : (a b : GlobalId) (test : Bool) → (b ≡ a → test ≡ false) → (same_id a b && test) ≡ false
same_or_not a b test h = by (same_id a b) refl
  where
    by : (x : Bool) → same_id a b ≡ x → (x && test) ≡ false
    by true is = h (sym (same_id_is a b is))
    by false is = refl

-- Each instruction of a script

each_allowed : (C : ℕ → Id → Type 0) (p q : Instr → Bool) (script : List Instr) → ((i : Instr) → p i ≡ false → q i ≡ true → Allows C i) →
    list_any p script ≡ false → list_all q script ≡ true → (place : ℕ) → Allows C (instruction_at script place)
each_allowed C p q [] allow none all place = tt
each_allowed C p q (i ∷ script) allow none all zero = allow i (or_parts (p i) (list_any p script) none).0 (and_parts (q i) (list_all q script) all).0
each_allowed C p q (i ∷ script) allow none all (suc place) =
    each_allowed C p q script allow (or_parts (p i) (list_any p script) none).1 (and_parts (q i) (list_all q script) all).1 place

receives_nothing : (from : IdFrom) → may_receive from ≡ false → from ≡ Fixed NilThread
receives_nothing (Fixed NilThread) h = refl
receives_nothing (Fixed AnyThread) h = cc
receives_nothing (Fixed AnyLocalThread) h = cc
receives_nothing (Fixed (LocalThread word)) h = cc
receives_nothing (Fixed (GlobalThread t)) h = cc
receives_nothing Last h = cc
receives_nothing (InRegister format a) h = cc

-- An instruction writes no register below the first.
abbrev pub writes_above : Instr → Bool
writes_above (Run (Assign a value)) = is_register a
writes_above _ = true

written_above : (a : ℕ) → is_register a ≡ true → 0 < a
written_above a h = let le : 1 ≤ a = leb-true 1 a (and_parts (nat_le 1 a) (nat_le a last_register) h).0 in omega (arith, le)

-- A register that no tag sends

abbrev Below : ℕ → Declaration → ℕ → Id → Type 0
Below r d tag actual = tag % 64 < r

abbrev Short : ℕ → Declaration → Message → Type 0
Short r d message = length message.words < r

uses_allows : (r : ℕ) (d : Declaration) (i : Instr) → uses r i ≡ false → writes_above i ≡ true → Allows (Below r d) i
uses_allows r d (Run (Assign a value)) u w = written_above a w
uses_allows r d (Tag word) u w = λ tag actual h. let lt : word % 64 < r = leb-false r (word % 64) u in lt
uses_allows r d (Vs from) u w = λ tag actual h c. h
uses_allows r d (Ipc to from send_period receive_period) u w =
    receives_nothing from (or_parts (may_receive from) (is_taken_from r to) u).0
uses_allows r d (Ask target what) u w = tt
uses_allows r d (Jump place) u w = tt
uses_allows r d (OnErr place) u w = tt
uses_allows r d (OnLabel label place) u w = tt
uses_allows r d (OnWord a word place) u w = tt
uses_allows r d (OnFrom id place) u w = tt
uses_allows r d End u w = tt

register_closed : (m : Machine) (r : ℕ) (d : Declaration) → 0 < r → list_any (uses r) d.script ≡ false →
    list_all writes_above d.script ≡ true → IsClosed m d (Below r d) (Short r d)
register_closed m r d some none all =
    record {
      each = each_allowed (Below r d) (uses r) writes_above d.script (uses_allows r d) none all;
      fresh = omega (arith, some);
      zero = λ tag actual h. omega (arith, some);
      error = λ tag actual h. omega (arith, some);
      message = λ c h. omega (arith, h, length-take (register c 0 % 64) (drop 1 c.words));
    }

pub never_delivers_register : (m : Machine) (i r : ℕ) (d : Declaration) (h : List Step) (w : World) → IsPlaced m i d →
    list_any (uses r) d.script ≡ false → list_all writes_above d.script ≡ true → reached m h ≡ Some w → list_any (delivers_register r d.id) h ≡ false
never_delivers_register m i r d h w placed none all reach =
    run_never m (Below r) (Short r) (delivers_register r d.id) step h (opening m) w reach (opening_silent m (Below r) (Short r))
  where
    delivery : (w v : World) (s : Name) (receiver shown actual : GlobalId) (tag : ℕ) (words : List ℕ) → DeliverTaken m w v s receiver shown actual tag words →
        Each m (Silent m (Below r) (Short r)) w → s.thread ≡ d.id → (b c : Bool) → nat_lt 0 r ≡ b → nat_le r (length words) ≡ c → (b && c) ≡ false
    delivery w v s receiver shown actual tag words k each thread false c lt le = refl
    delivery w v s receiver shown actual tag words k each thread true false lt le = refl
    delivery w v s receiver shown actual tag words k each thread true true lt le =
        let some : 0 < r = ltb-true 0 r lt in
        let long : r ≤ length words = leb-true r (length words) le in
        let short : length k.p.send.message.words < r =
        its_message m (Below r) (Short r) i d w v s receiver shown actual tag words placed (register_closed m r d some none all) thread k each in
        let same : length words ≡ length k.p.send.message.words = ap length ((bytes_eq-Decides words k.p.send.message.words).0 k.same_words) in
        absurd (omega (arith, long, short, same))

    step : (w v : World) (x : Step) → next m w x ≡ Some v → Each m (Silent m (Below r) (Short r)) w → delivers_register r d.id x ≡ false
    step w v (Deliver s receiver shown actual tag words) h each =
        same_or_not d.id s.thread (nat_lt 0 r && nat_le r (length words))
        (λ thread. delivery w v s receiver shown actual tag words (deliver_taken m w v s receiver shown actual tag words h) each thread (nat_lt 0 r) (nat_le r (length words)) refl refl)
    step w v _ h each = refl

-- A message in another's name

abbrev Unnamed : Machine → Declaration → ℕ → Id → Type 0
Unnamed m d tag actual = permitted m d.id actual ≡ None

pub record IsOwn (d : Declaration) (message : Message) : Type 0 where
  pub plain : message.propagated ≡ false
  pub shown : message.shown ≡ d.id
  pub short : length message.words < 64

is_none : {A : Type 0} (o : Option A) → is_some o ≡ false → o ≡ None
is_none None h = refl
is_none (Some x) h = cc

names_allows : (m : Machine) (d : Declaration) (i : Instr) → names_originator m d.id i ≡ false → writes_above i ≡ true →
    Allows (Unnamed m d) i
names_allows m d (Run (Assign a value)) u w = written_above a w
names_allows m d (Tag word) u w = λ tag actual h. h
names_allows m d (Vs (Fixed id)) u w = λ tag actual h c. is_none (permitted m d.id id) u
names_allows m d (Vs Last) u w = cc
names_allows m d (Vs (InRegister format a)) u w = cc
names_allows m d (Ipc to from send_period receive_period) u w = receives_nothing from u
names_allows m d (Ask target what) u w = tt
names_allows m d (Jump place) u w = tt
names_allows m d (OnErr place) u w = tt
names_allows m d (OnLabel label place) u w = tt
names_allows m d (OnWord a word place) u w = tt
names_allows m d (OnFrom id place) u w = tt
names_allows m d End u w = tt

own_message : (m : Machine) (d : Declaration) (c : Context) → permitted m d.id c.actual ≡ None → IsOwn d (message_of m d.id c)
own_message m d c none =
    let nobody : originator m d.id c ≡ None = by ((register c 0 / 2 ^ 12) % 2 == 1) none in
    record { plain = ap is_some nobody; shown = rw nobody refl; short = message_short m d.id c }
  where
    by : (b : Bool) → permitted m d.id c.actual ≡ None → cond b (permitted m d.id c.actual) None ≡ None
    by true h = h
    by false h = refl

own_closed : (m : Machine) (d : Declaration) → list_any (names_originator m d.id) d.script ≡ false →
    list_all writes_above d.script ≡ true → IsClosed m d (Unnamed m d) (IsOwn d)
own_closed m d none all =
    record {
      each = each_allowed (Unnamed m d) (names_originator m d.id) writes_above d.script (names_allows m d) none all;
      fresh = refl;
      zero = λ tag actual h. h;
      error = λ tag actual h. h;
      message = own_message m d;
    }

-- Bit 12 of the tag of such a message is clear.
plain_tag : (label cross count : ℕ) → cross ≤ 1 → count < 64 → ((label * 2 ^ 16 + cross * 2 ^ 14 + 0 * 2 ^ 12 + count) / 2 ^ 12) % 2 ≡ 0
plain_tag label cross count one few = omega (arith, one, few)

bit_small : (b : Bool) → bit b ≤ 1
bit_small true = omega arith
bit_small false = omega arith

asks_not : (tag : ℕ) → (tag / 2 ^ 12) % 2 ≡ 0 → asks_to_propagate tag ≡ false
asks_not tag h = rw h refl

same_id_refl : (t : GlobalId) → same_id t t ≡ true
same_id_refl t = rw (eqb_same t.number, eqb_same t.version) refl

pub never_delivers_propagated : (m : Machine) (i : ℕ) (d : Declaration) (h : List Step) (w : World) → IsPlaced m i d →
    list_any (names_originator m d.id) d.script ≡ false → list_all writes_above d.script ≡ true → reached m h ≡ Some w →
    list_any (delivers_propagated d.id) h ≡ false
never_delivers_propagated m i d h w placed none all reach =
    run_never m (Unnamed m) IsOwn (delivers_propagated d.id) step h (opening m) w reach (opening_silent m (Unnamed m) IsOwn)
  where
    delivery : (w v : World) (s : Name) (receiver shown actual : GlobalId) (tag : ℕ) (words : List ℕ) → DeliverTaken m w v s receiver shown actual tag words →
        Each m (Silent m (Unnamed m) IsOwn) w → s.thread ≡ d.id → (asks_to_propagate tag || not (same_id d.id shown)) ≡ false
    delivery w v s receiver shown actual tag words k each thread =
        let message = k.p.send.message in
        let own : IsOwn d message = its_message m (Unnamed m) IsOwn i d w v s receiver shown actual tag words placed (own_closed m d none all) thread k each in
        let cross = is_cross m receiver message in
        let tag_is : tag ≡ received_tag cross message = eqb-true tag (received_tag cross message) k.same_tag in
        let plain : received_tag cross message ≡ message.label * 2 ^ 16 + bit cross * 2 ^ 14 + 0 * 2 ^ 12 + length message.words =
        ap (λ (b : Bool). message.label * 2 ^ 16 + bit cross * 2 ^ 14 + bit b * 2 ^ 12 + length message.words) own.plain in
        let clear : (tag / 2 ^ 12) % 2 ≡ 0 =
        ap (λ (n : ℕ). (n / 2 ^ 12) % 2) (tag_is ∙ plain) ∙ plain_tag message.label (bit cross) (length message.words) (bit_small cross) own.short in
        let shown_is : shown ≡ d.id = same_id_is shown message.shown k.same_shown ∙ own.shown in
        or_from _ _ (asks_not tag clear) (ap not (ap (same_id d.id) shown_is ∙ same_id_refl d.id))

    step : (w v : World) (x : Step) → next m w x ≡ Some v → Each m (Silent m (Unnamed m) IsOwn) w → delivers_propagated d.id x ≡ false
    step w v (Deliver s receiver shown actual tag words) h each =
        same_or_not d.id s.thread (asks_to_propagate tag || not (same_id d.id shown))
        (λ thread. delivery w v s receiver shown actual tag words (deliver_taken m w v s receiver shown actual tag words h) each thread)
    step w v _ h each = refl
