-- Different values have different codes.
use Rattle.std.proofs.Common.{◌≡◌, ℕ, ◌+◌, ◌-◌, Bool, true, false, cond, ◌==◌, Option, None, Some, List, [], ◌∷◌, map, length, refl, sym, ap, ◌∙◌, arith}
use Rattle.std.proofs.lemmas.Bool.{eqb-true}
use Rattle.std.specs.Option.{option_map}
use Rattle.l4_model.specs.Words.{GlobalId, Id, NilThread, AnyThread, AnyLocalThread, LocalThread, GlobalThread, register_count}
use Rattle.l4_model.specs.Machine.{OrderKind, CancelSend, CancelReceive, CancelBoth, Delete}
use Rattle.l4_model.specs.World.{Name, Context, Receive, Message, Send, PendingOrder, Owed, Phase, Ready, Sending, Receiving, Ordering, Ended, Deleted, Thread}
use Rattle.l4_model.specs.Steps.{order_kind_code}
use Rattle.l4_core_model.specs.Letters.{Refusal, TimedOut, Nobody, Cancelled, Dropped, Result, Delivered, Refused, Cause, ByTimeout, ByCancel, ByDeletion, Content, SendLetter, DoneLetter, WithdrawLetter, GoneLetter, OrderLetter, OrderDoneLetter, RetargetLetter}
use Rattle.l4_core_model.specs.Plain.{Waiting, Plain}
use Rattle.l4_core_model.specs.Local.{Local}
use Rattle.l4_bisimilar.specs.Similar.{numberless_content, numberless_name, numberless_owed}
use Rattle.l4_bisimilar.specs.Shifted.{ahead, relative_thread, timeless_phase, timeless_send}
use Rattle.l4_bisimilar.proofs.Times.{bare_local}
use Rattle.l4_states.specs.Inner.Codes.{number_code, flag_code, optional, each, listed, chained, length_code, sized, global_code, id_code, receive_code, message_code, send_code, asked_code, phase_code, context_code, thread_code, waiting_code, armed_code, lists_code, name_code, owed_code, local_code, refusal_code, result_code, cause_code, content_code}
use Rattle.l4_states.proofs.Bytes.{first_is, rest_is}

-- A code has a value, and what follows, apart from all others.
abbrev pub IsApart : (A : Type 0) → (A → List ℕ → List ℕ) → Type 0
IsApart A code = (a b : A) (x y : List ℕ) → code a x ≡ code b y → (a ≡ b) × (x ≡ y)

-- Numbers, options, lists

number_apart : IsApart ℕ number_code
number_apart a b x y h = (first_is a b x y h, rest_is a b x y h)

flag_apart : IsApart Bool flag_code
flag_apart true true x y h = (refl, rest_is _ _ _ _ h)
flag_apart false false x y h = (refl, rest_is _ _ _ _ h)
flag_apart true false x y h = absurd (let e = first_is _ _ _ _ h in omega arith)
flag_apart false true x y h = absurd (let e = first_is _ _ _ _ h in omega arith)

length_apart : (usual m n : ℕ) → length_code usual m ≡ length_code usual n → m ≡ n
length_apart usual m n h = by (m == usual) (n == usual) refl refl h
  where
    by : (b c : Bool) → (m == usual) ≡ b → (n == usual) ≡ c →
        ◌≡◌ {A = ℕ} (cond b 0 (m + 1)) (cond c 0 (n + 1)) → m ≡ n
    by true true s t h = eqb-true m usual s ∙ sym (eqb-true n usual t)
    by true false s t h = absurd (omega arith)
    by false true s t h = absurd (omega arith)
    by false false s t h = omega arith

module _ (A : Type 0) (code : A → List ℕ → List ℕ) (is : IsApart A code) where
  optional_apart : IsApart (Option A) (optional code)
  optional_apart None None x y h = (refl, rest_is _ _ _ _ h)
  optional_apart (Some a) (Some b) x y h =
      let r = is a b x y (rest_is _ _ _ _ h) in
      (ap (λ (c : A). Some c) r.0, r.1)
  optional_apart None (Some b) x y h = absurd (let e = first_is _ _ _ _ h in omega arith)
  optional_apart (Some a) None x y h = absurd (let e = first_is _ _ _ _ h in omega arith)

  each_apart : (xs ys : List A) (v w : List ℕ) → length xs ≡ length ys →
      each code xs v ≡ each code ys w → (xs ≡ ys) × (v ≡ w)
  each_apart [] [] v w long h = (refl, h)
  each_apart (x ∷ xs) (y ∷ ys) v w long h =
      let r = is x y (each code xs v) (each code ys w) h in
      let s = each_apart xs ys v w (omega arith) r.1 in
      (λ i. r.0 i ∷ s.0 i, s.1)
  each_apart [] (y ∷ ys) v w long h = absurd (omega arith)
  each_apart (x ∷ xs) [] v w long h = absurd (omega arith)

  listed_apart : IsApart (List A) (listed code)
  listed_apart xs ys v w h = each_apart xs ys v w (first_is _ _ _ _ h) (rest_is _ _ _ _ h)

  chained_apart : IsApart (List A) (chained code)
  chained_apart [] [] v w h = (refl, rest_is _ _ _ _ h)
  chained_apart (x ∷ xs) (y ∷ ys) v w h =
      let r = is x y (chained code xs v) (chained code ys w) (rest_is _ _ _ _ h) in
      let s = chained_apart xs ys v w r.1 in
      (λ i. r.0 i ∷ s.0 i, s.1)
  chained_apart [] (y ∷ ys) v w h = absurd (let e = first_is _ _ _ _ h in omega arith)
  chained_apart (x ∷ xs) [] v w h = absurd (let e = first_is _ _ _ _ h in omega arith)

  sized_apart : (usual : ℕ) → IsApart (List A) (sized usual code)
  sized_apart usual xs ys v w h =
      each_apart xs ys v w (length_apart usual (length xs) (length ys) (first_is _ _ _ _ h))
      (rest_is _ _ _ _ h)

-- A code may tell less than all of a value: an image of it.

abbrev pub IsImageApart : (A B : Type 0) → (A → B) → (A → List ℕ → List ℕ) → Type 0
IsImageApart A B f code = (a b : A) (x y : List ℕ) → code a x ≡ code b y → (f a ≡ f b) × (x ≡ y)

module _ (A B : Type 0) (f : A → B) (code : A → List ℕ → List ℕ)
    (is : IsImageApart A B f code) where
  optional_image : IsImageApart (Option A) (Option B) (option_map f) (optional code)
  optional_image None None x y h = (refl, rest_is _ _ _ _ h)
  optional_image (Some a) (Some b) x y h =
      let r = is a b x y (rest_is _ _ _ _ h) in
      (ap (λ (c : B). Some c) r.0, r.1)
  optional_image None (Some b) x y h = absurd (let e = first_is _ _ _ _ h in omega arith)
  optional_image (Some a) None x y h = absurd (let e = first_is _ _ _ _ h in omega arith)

  each_image : (xs ys : List A) (v w : List ℕ) → length xs ≡ length ys →
      each code xs v ≡ each code ys w → (map f xs ≡ map f ys) × (v ≡ w)
  each_image [] [] v w long h = (refl, h)
  each_image (x ∷ xs) (y ∷ ys) v w long h =
      let r = is x y (each code xs v) (each code ys w) h in
      let s = each_image xs ys v w (omega arith) r.1 in
      (λ i. r.0 i ∷ s.0 i, s.1)
  each_image [] (y ∷ ys) v w long h = absurd (omega arith)
  each_image (x ∷ xs) [] v w long h = absurd (omega arith)

  chained_image : IsImageApart (List A) (List B) (map f) (chained code)
  chained_image [] [] v w h = (refl, rest_is _ _ _ _ h)
  chained_image (x ∷ xs) (y ∷ ys) v w h =
      let r = is x y (chained code xs v) (chained code ys w) (rest_is _ _ _ _ h) in
      let s = chained_image xs ys v w r.1 in
      (λ i. r.0 i ∷ s.0 i, s.1)
  chained_image [] (y ∷ ys) v w h = absurd (let e = first_is _ _ _ _ h in omega arith)
  chained_image (x ∷ xs) [] v w h = absurd (let e = first_is _ _ _ _ h in omega arith)

  sized_image : (usual : ℕ) → IsImageApart (List A) (List B) (map f) (sized usual code)
  sized_image usual xs ys v w h =
      each_image xs ys v w (length_apart usual (length xs) (length ys) (first_is _ _ _ _ h))
      (rest_is _ _ _ _ h)

-- Threads

abbrev uncounted : Context → Context
uncounted c = record c { begun = 0 }

global_apart : IsApart GlobalId global_code
global_apart a b x y h =
    let number = first_is _ _ _ _ h in
    let more = rest_is _ _ _ _ h in
    let version = first_is _ _ _ _ more in
    (λ i. record { number = number i; version = version i }, rest_is _ _ _ _ more)

id_apart : IsApart Id id_code
id_apart NilThread NilThread x y h = (refl, rest_is _ _ _ _ h)
id_apart AnyThread AnyThread x y h = (refl, rest_is _ _ _ _ h)
id_apart AnyLocalThread AnyLocalThread x y h = (refl, rest_is _ _ _ _ h)
id_apart (LocalThread v) (LocalThread w) x y h =
    let more = rest_is _ _ _ _ h in
    (ap LocalThread (first_is _ _ _ _ more), rest_is _ _ _ _ more)
id_apart (GlobalThread s) (GlobalThread t) x y h =
    let r = global_apart s t x y (rest_is _ _ _ _ h) in
    (ap GlobalThread r.0, r.1)
id_apart a b x y h = absurd (let e = first_is _ _ _ _ h in omega arith)

receive_apart : IsApart Receive receive_code
receive_apart a b x y h =
    let from = id_apart a.from b.from _ _ h in
    let period = optional_apart ℕ number_code number_apart a.period b.period x y from.1 in
    (λ i. record { from = from.0 i; period = period.0 i }, period.1)

message_apart : IsApart Message message_code
message_apart a b x y h =
    let label = first_is _ _ _ _ h in
    let words = listed_apart ℕ number_code number_apart a.words b.words _ _ (rest_is _ _ _ _ h) in
    let propagated = flag_apart a.propagated b.propagated _ _ words.1 in
    let shown = global_apart a.shown b.shown _ _ propagated.1 in
    let actual = global_apart a.actual b.actual x y shown.1 in (
      λ i. record {
        label = label i;
        words = words.0 i;
        propagated = propagated.0 i;
        shown =
            shown.0 i;
        actual = actual.0 i;
      },
      actual.1,
    )

-- All but when it began
send_apart : IsImageApart Send Send timeless_send send_code
send_apart a b x y h =
    let to = id_apart a.to b.to _ _ h in
    let message = message_apart a.message b.message _ _ to.1 in
    let period = optional_apart ℕ number_code number_apart a.period b.period _ _ message.1 in
    let receive = optional_apart Receive receive_code receive_apart a.receive b.receive x y
    period.1 in (
      λ i. record {
        to = to.0 i;
        message = message.0 i;
        period = period.0 i;
        since = 0;
        receive = receive.0 i;
      },
      receive.1,
    )

order_kind_apart : (a b : OrderKind) → order_kind_code a ≡ order_kind_code b → a ≡ b
order_kind_apart CancelSend CancelSend h = refl
order_kind_apart CancelReceive CancelReceive h = refl
order_kind_apart CancelBoth CancelBoth h = refl
order_kind_apart Delete Delete h = refl
order_kind_apart a b h = absurd (omega arith)

asked_apart : IsApart PendingOrder asked_code
asked_apart a b x y h =
    let target = global_apart a.target b.target _ _ h in
    let what = order_kind_apart a.what b.what (first_is _ _ _ _ target.1) in
    (λ i. record { target = target.0 i; what = what i }, rest_is _ _ _ _ target.1)

phase_apart : IsImageApart Phase Phase timeless_phase phase_code
phase_apart Ready Ready x y h = (refl, rest_is _ _ _ _ h)
phase_apart Sending Sending x y h = (refl, rest_is _ _ _ _ h)
phase_apart (Receiving r since) (Receiving s then) x y h =
    let receive = receive_apart r s x y (rest_is _ _ _ _ h) in
    (λ i. Receiving (receive.0 i) 0, receive.1)
phase_apart Ordering Ordering x y h = (refl, rest_is _ _ _ _ h)
phase_apart Ended Ended x y h = (refl, rest_is _ _ _ _ h)
phase_apart Deleted Deleted x y h = (refl, rest_is _ _ _ _ h)
phase_apart a b x y h = absurd (let e = first_is _ _ _ _ h in omega arith)

-- All but how many sends it began
context_apart : (a b : Context) (x y : List ℕ) → context_code a x ≡ context_code b y →
    (uncounted a ≡ uncounted b) × (x ≡ y)
context_apart a b x y h =
    let words = sized_apart ℕ number_code number_apart register_count a.words b.words _ _ h in
    let error = first_is _ _ _ _ words.1 in
    let from = id_apart a.from b.from _ _ (rest_is _ _ _ _ words.1) in
    let actual = id_apart a.actual b.actual _ _ from.1 in
    let place = first_is _ _ _ _ actual.1 in (
      λ i. record {
        words = words.0 i;
        error = error i;
        from = from.0 i;
        actual = actual.0 i;
        place =
            place i;
        begun = 0;
      },
      rest_is _ _ _ _ actual.1,
    )

thread_apart : IsImageApart Thread Thread relative_thread thread_code
thread_apart a b x y h =
    let context = context_apart a.context b.context _ _ h in
    let phase = phase_apart a.phase b.phase _ _ context.1 in
    let send = optional_image Send Send timeless_send send_code send_apart a.send b.send _ _ phase.1
    in
    let order = optional_apart PendingOrder asked_code asked_apart a.order b.order _ _ send.1 in
    let cancel_send = flag_apart a.cancel_send b.cancel_send _ _ order.1 in
    let cancel_receive = flag_apart a.cancel_receive b.cancel_receive x y cancel_send.1 in (
      λ i. record {
        context = context.0 i;
        phase = phase.0 i;
        send = send.0 i;
        order = order.0 i;
        cancel_send = cancel_send.0 i;
        cancel_receive = cancel_receive.0 i;
      },
      cancel_receive.1,
    )

-- What a processor knows

waiting_apart : IsApart Waiting waiting_code
waiting_apart a b x y h =
    let block = first_is _ _ _ _ h in
    let shown = global_apart a.shown b.shown _ _ (rest_is _ _ _ _ h) in
    let local = flag_apart a.local b.local x y shown.1 in
    (λ i. record { block = block i; shown = shown.0 i; local = local.0 i }, local.1)

-- How far ahead deadlines are, of two clocks
armed_apart : (c d : ℕ) (xs ys : List (ℕ × ℕ)) (v w : List ℕ) →
    chained (armed_code c) xs v ≡ chained (armed_code d) ys w →
    (map (ahead c) xs ≡ map (ahead d) ys) × (v ≡ w)
armed_apart c d [] [] v w h = (refl, rest_is _ _ _ _ h)
armed_apart c d (x ∷ xs) (y ∷ ys) v w h =
    let one = rest_is _ _ _ _ h in
    let deadline : x.0 - c ≡ y.0 - d = first_is _ _ _ _ one in
    let more = rest_is _ _ _ _ one in
    let block = first_is _ _ _ _ more in
    let s = armed_apart c d xs ys v w (rest_is _ _ _ _ more) in
    (λ i. (deadline i, block i) ∷ s.0 i, s.1)
armed_apart c d [] (y ∷ ys) v w h = absurd (let e = first_is _ _ _ _ h in omega arith)
armed_apart c d (x ∷ xs) [] v w h = absurd (let e = first_is _ _ _ _ h in omega arith)

abbrev told_lists : (clock : ℕ) → Plain → Plain
told_lists clock s = record s { armed = map (ahead clock) s.armed }

lists_apart : (threads c d : ℕ) (a b : Plain) (x y : List ℕ) →
    lists_code threads c a x ≡ lists_code threads d b y →
    (told_lists c a ≡ told_lists d b) × (x ≡ y)
lists_apart threads c d a b x y h =
    let waiting = sized_apart (List Waiting) (chained waiting_code)
    (chained_apart Waiting waiting_code waiting_apart) threads a.waiting b.waiting _ _ h in
    let ready = chained_apart ℕ number_code number_apart a.ready b.ready _ _ waiting.1 in
    let armed = armed_apart c d a.armed b.armed x y ready.1 in
    (λ i. record { waiting = waiting.0 i; ready = ready.0 i; armed = armed.0 i }, armed.1)

-- All but the numbers of sends
name_apart : IsImageApart Name Name numberless_name name_code
name_apart a b x y h =
    let thread = global_apart a.thread b.thread x y h in
    (λ i. record { thread = thread.0 i; k = 0 }, thread.1)

owed_apart : IsImageApart Owed Owed numberless_owed owed_code
owed_apart a b x y h =
    let send = name_apart a.send b.send _ _ h in
    let originator = global_apart a.originator b.originator _ _ send.1 in
    let old_partner = global_apart a.old_partner b.old_partner _ _ originator.1 in
    let new_partner = global_apart a.new_partner b.new_partner x y old_partner.1 in (
      λ i. record {
        send = send.0 i;
        originator = originator.0 i;
        old_partner =
            old_partner.0 i;
        new_partner = new_partner.0 i;
      },
      new_partner.1,
    )

-- all but the stamp, the numbers and the clock
pub local_apart : (count : ℕ) (a b : Local) (x y : List ℕ) →
    local_code count a x ≡ local_code count b y → (bare_local a ≡ bare_local b) × (x ≡ y)
local_apart count a b x y h =
    let threads = sized_image Thread Thread relative_thread thread_code thread_apart count
    a.threads b.threads _ _ (rest_is _ _ _ _ h) in
    let lists = lists_apart count a.clock b.clock a.lists b.lists _ _ threads.1 in
    let told = sized_apart ℕ number_code number_apart count a.told b.told _ _ lists.1 in
    let owed = sized_image (Option Owed) (Option Owed) (option_map numberless_owed)
    (optional owed_code) (optional_image Owed Owed numberless_owed owed_code owed_apart) count
    a.owed b.owed x y told.1 in (
      λ i. record {
        threads = threads.0 i;
        lists = lists.0 i;
        told = told.0 i;
        owed =
            owed.0 i;
        clock = 0;
        stamp = 0;
      },
      owed.1,
    )

-- All processors
pub locals_apart : (count usual : ℕ) (ls ns : List Local) (x y : List ℕ) →
    sized usual (local_code count) ls x ≡ sized usual (local_code count) ns y →
    (map bare_local ls ≡ map bare_local ns) × (x ≡ y)
locals_apart count usual ls ns x y h =
    each_local ls ns (length_apart usual (length ls) (length ns) (first_is _ _ _ _ h))
    (rest_is _ _ _ _ h)
  where
    each_local : (ls ns : List Local) → length ls ≡ length ns →
        each (local_code count) ls x ≡ each (local_code count) ns y →
        (map bare_local ls ≡ map bare_local ns) × (x ≡ y)
    each_local [] [] long h = (refl, h)
    each_local (l ∷ ls) (n ∷ ns) long h =
        let r = local_apart count l n (each (local_code count) ls x)
        (each (local_code count) ns y) h in
        let s = each_local ls ns (omega arith) r.1 in
        (λ i. r.0 i ∷ s.0 i, s.1)
    each_local [] (n ∷ ns) long h = absurd (omega arith)
    each_local (l ∷ ls) [] long h = absurd (omega arith)

-- Letters

refusal_apart : IsApart Refusal refusal_code
refusal_apart TimedOut TimedOut x y h = (refl, rest_is _ _ _ _ h)
refusal_apart Nobody Nobody x y h = (refl, rest_is _ _ _ _ h)
refusal_apart Cancelled Cancelled x y h = (refl, rest_is _ _ _ _ h)
refusal_apart Dropped Dropped x y h = (refl, rest_is _ _ _ _ h)
refusal_apart a b x y h = absurd (let e = first_is _ _ _ _ h in omega arith)

result_apart : IsApart Result result_code
result_apart Delivered Delivered x y h = (refl, rest_is _ _ _ _ h)
result_apart (Refused r) (Refused s) x y h =
    let refusal = refusal_apart r s x y (rest_is _ _ _ _ h) in
    (ap Refused refusal.0, refusal.1)
result_apart Delivered (Refused r) x y h = absurd (let e = first_is _ _ _ _ h in omega arith)
result_apart (Refused r) Delivered x y h = absurd (let e = first_is _ _ _ _ h in omega arith)

cause_apart : IsApart Cause cause_code
cause_apart ByTimeout ByTimeout x y h = (refl, rest_is _ _ _ _ h)
cause_apart ByCancel ByCancel x y h = (refl, rest_is _ _ _ _ h)
cause_apart ByDeletion ByDeletion x y h = (refl, rest_is _ _ _ _ h)
cause_apart a b x y h = absurd (let e = first_is _ _ _ _ h in omega arith)

content_apart : IsImageApart Content Content numberless_content content_code
content_apart (SendLetter s receiver m timeout) (SendLetter t receiver' n timeout') x y h =
    let name = name_apart s t _ _ (rest_is _ _ _ _ h) in
    let to = global_apart receiver receiver' _ _ name.1 in
    let message = message_apart m n _ _ to.1 in
    let zero_timeout = flag_apart timeout timeout' x y message.1 in
    (λ i. SendLetter (name.0 i) (to.0 i) (message.0 i) (zero_timeout.0 i), zero_timeout.1)
content_apart (DoneLetter s r) (DoneLetter t r') x y h =
    let name = name_apart s t _ _ (rest_is _ _ _ _ h) in
    let result = result_apart r r' x y name.1 in
    (λ i. DoneLetter (name.0 i) (result.0 i), result.1)
content_apart (WithdrawLetter s receiver c) (WithdrawLetter t receiver' c') x y h =
    let name = name_apart s t _ _ (rest_is _ _ _ _ h) in
    let to = global_apart receiver receiver' _ _ name.1 in
    let cause = cause_apart c c' x y to.1 in
    (λ i. WithdrawLetter (name.0 i) (to.0 i) (cause.0 i), cause.1)
content_apart (GoneLetter id) (GoneLetter id') x y h =
    let of = global_apart id id' x y (rest_is _ _ _ _ h) in
    (ap GoneLetter of.0, of.1)
content_apart (OrderLetter caller target what) (OrderLetter caller' target' what') x y h =
    let by = global_apart caller caller' _ _ (rest_is _ _ _ _ h) in
    let to = global_apart target target' _ _ by.1 in
    let order = order_kind_apart what what' (first_is _ _ _ _ to.1) in
    (λ i. OrderLetter (by.0 i) (to.0 i) (order i), rest_is _ _ _ _ to.1)
content_apart (OrderDoneLetter caller) (OrderDoneLetter caller') x y h =
    let of = global_apart caller caller' x y (rest_is _ _ _ _ h) in
    (ap OrderDoneLetter of.0, of.1)
content_apart (RetargetLetter o) (RetargetLetter o') x y h =
    let of = owed_apart o o' x y (rest_is _ _ _ _ h) in
    (ap RetargetLetter of.0, of.1)
content_apart a b x y h = absurd (let e = first_is _ _ _ _ h in omega arith)

pub contents_apart :
    IsImageApart (List Content) (List Content) (map numberless_content) (chained content_code)
contents_apart =
    chained_image Content Content numberless_content content_code content_apart
