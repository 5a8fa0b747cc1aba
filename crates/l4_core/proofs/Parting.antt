-- The duty of a thread by its parts.
use Rattle.std.proofs.Common.{◌≡◌, ℕ, Bool, true, false, cond, ◌&&◌, ◌||◌, not, Option, Some, None, List, [], ◌∷◌, map, refl, sym, ap, ◌∙◌}
use Rattle.std.specs.Prelude.{◌==◌, find, slice_get, slice_index_or, is_some}
use Rattle.std.specs.Option.{option_map}
use Rattle.std.specs.List.{list_any}
use Rattle.l4_model.specs.Words.{GlobalId, Id, NilThread, AnyThread, AnyLocalThread, LocalThread, GlobalThread}
use Rattle.l4_model.specs.Machine.{Machine, Declaration}
use Rattle.l4_model.specs.World.{Receive, Send, Owed, Phase, Ready, Sending, Receiving, Ordering, Ended, Deleted, Thread, is_deleted, is_alive, is_ready, is_sending, receive_now}
use Rattle.l4_model.specs.Conditions.{Found, is_nobody, is_zero, may_still_accept, call_accepts, ◌>>=◌, ◌>>◌}
use Rattle.l4_core_model.specs.Plain as plain
use Rattle.l4_core_model.specs.Local.{Local, thread, held, held_by, declared, owed_beside}
use Rattle.l4_core_model.specs.Acts.{first_of_list, zero_refusable}
use Rattle.l4_core_model.specs.Turns.{Duty, Retargets, DropsOwn, RefusesFirst, TellsGone, CancelsOwn, CancelsReceive, DeliversFirst, ClosesReceive, RefusesZero, next_untold, first_some}
use Rattle.l4_core.specs.Inner.Covered.{after_retarget, duty_at, is_zero_send, first_zero, names_nobody, first_refusable, untold_of, deleted_duty, or_close, or_refuse, receive_duty, living_duty, duty_of_thread, runs_or_sends}
use Rattle.l4_core.proofs.Zeros.{find_same}

-- A deleted thread's sends of timeout zero are not refused as such.

find_none : {A : Type 0} (p : A → Bool) (xs : List A) → ((x : A) → p x ≡ false) → find p xs ≡ None
find_none p [] f = refl
find_none p (x ∷ xs) f = ap (λ b. cond b (Some x) (find p xs)) (f x) ∙ find_none p xs f

none_dead : (m : Machine) (r : Found) (send : Option Send) → is_deleted r.now.phase ≡ true → zero_refusable m r send ≡ false
none_dead m r None e = refl
none_dead m r (Some send) e = by r.now.phase (is_zero send.period) e (may_still_accept m r send.message.shown r.now.phase)
  where
    by : (p : Phase) (zero : Bool) → is_deleted p ≡ true → (may : Bool) → (zero && (is_alive p && not may)) ≡ false
    by Ready zero e may = cc
    by Sending zero e may = cc
    by (Receiving receive since) zero e may = cc
    by Ordering zero e may = cc
    by Ended zero e may = cc
    by Deleted true e may = refl
    by Deleted false e may = refl

dead_refuses_none : (m : Machine) (l : Local) (i : ℕ) → is_deleted (thread l i).phase ≡ true → first_refusable m l i ≡ None
dead_refuses_none m l i e = find_none (λ w. zero_refusable m (held m l i) (thread l w.block).send) (plain.list_of l.lists i) (λ w. none_dead m (held m l i) (thread l w.block).send e)

-- The other duties, of which those of a deleted thread come first.

abbrev alive : (own : Option Duty) (cancels delivers closes : Option Duty) (zero : Option plain.Waiting) → Option Duty
alive own cancels delivers closes zero = first_some (None ∷ None ∷ None ∷ own ∷ cancels ∷ delivers ∷ closes ∷ (zero >>= λ w. Some (RefusesZero w.block)) ∷ [])

dead : (q cs : Bool) (ws : List plain.Waiting) (u : Option ℕ) (z : Option plain.Waiting) → z ≡ None →
    first_some ((q >> Some DropsOwn) ∷ (slice_get ws 0 >>= λ first. Some (RefusesFirst first.block)) ∷ (u >>= λ to. Some (TellsGone to)) ∷ (q >> (cs >> Some CancelsOwn)) ∷ None ∷ None ∷ None ∷ (z >>= λ w. Some (RefusesZero w.block)) ∷ [])
    ≡ deleted_duty q ws u
dead true cs ws u z e = refl
dead false cs (w ∷ ws) u z e = refl
dead false cs [] (Some to) z e = refl
dead false cs [] None z e = rw e

alive_idle : (q cs : Bool) (z : Option plain.Waiting) → alive (q >> (cs >> Some CancelsOwn)) None None None z ≡ cond (cs && q) (Some CancelsOwn) (or_refuse None z)
alive_idle true true z = refl
alive_idle true false None = refl
alive_idle true false (Some w) = refl
alive_idle false true None = refl
alive_idle false true (Some w) = refl
alive_idle false false None = refl
alive_idle false false (Some w) = refl

waits : (cr nobody : Bool) (o : Option ℕ) (z : Option plain.Waiting) → alive None (cr >> Some CancelsReceive) (o >>= λ first. Some (DeliversFirst first)) (nobody >> Some ClosesReceive) z ≡ or_refuse (cond cr (Some CancelsReceive) (or_close o nobody)) z
waits true nobody o z = refl
waits false nobody (Some s) z = refl
waits false true None z = refl
waits false false None None = refl
waits false false None (Some w) = refl

alive_waits : (q cs cr nobody : Bool) (o : Option ℕ) (z : Option plain.Waiting) → alive (q >> (cs >> Some CancelsOwn)) (cr >> Some CancelsReceive) (o >>= λ first. Some (DeliversFirst first)) (nobody >> Some ClosesReceive) z ≡
    cond (cs && q) (Some CancelsOwn) (or_refuse (cond cr (Some CancelsReceive) (or_close o nobody)) z)
alive_waits true true cr nobody o z = refl
alive_waits true false cr nobody o z = waits cr nobody o z
alive_waits false true cr nobody o z = waits cr nobody o z
alive_waits false false cr nobody o z = waits cr nobody o z

by_phase : (m : Machine) (l : Local) (p : Phase) (s : plain.Plain) (i : ℕ) (q cs cr : Bool) (u : Option ℕ) (z : Option plain.Waiting) → (is_deleted p ≡ true → z ≡ None) →
    first_some ((is_deleted p >> (q >> Some DropsOwn)) ∷ (is_deleted p >> (slice_get (plain.list_of s i) 0 >>= λ first. Some (RefusesFirst first.block))) ∷ (is_deleted p >> (u >>= λ to. Some (TellsGone to)))
    ∷ (q >> (cs >> Some CancelsOwn)) ∷ (is_some (receive_now p) >> (cr >> Some CancelsReceive)) ∷ (first_of_list s i p >>= λ first. Some (DeliversFirst first))
    ∷ (receive_now p >>= λ receive. is_nobody receive.from (held_by m l receive.from) >> Some ClosesReceive) ∷ (z >>= λ w. Some (RefusesZero w.block)) ∷ [])
    ≡ cond (is_deleted p) (deleted_duty q (plain.list_of s i) u) (cond (cs && q) (Some CancelsOwn) (or_refuse (receive_duty (names_nobody m l) cr (plain.list_of s i) (receive_now p)) z))
by_phase m l Ready s i q cs cr u z e = alive_idle q cs z
by_phase m l Sending s i q cs cr u z e = alive_idle q cs z
by_phase m l (Receiving receive since) s i q cs cr u z e = alive_waits q cs cr (is_nobody receive.from (held_by m l receive.from)) (plain.first_taken receive.from (plain.list_of s i)) z
by_phase m l Ordering s i q cs cr u z e = alive_idle q cs z
by_phase m l Ended s i q cs cr u z e = alive_idle q cs z
by_phase m l Deleted s i q cs cr u z e = dead q cs (plain.list_of s i) u z (e refl)

-- A retarget comes before them.
retarget_first : (o : Option Owed) (others : List (Option Duty)) → first_some ((o >>= λ owed. Some (Retargets owed)) ∷ others) ≡ after_retarget o (first_some others)
retarget_first None others = refl
retarget_first (Some owed) others = refl

pub duty_is : (m : Machine) (cpu : ℕ) (l : Local) (i : ℕ) →
    duty_at m cpu l i ≡ after_retarget (owed_beside l i) (duty_of_thread (names_nobody m l) (thread l i) (plain.is_queued l.lists i) (plain.list_of l.lists i) (untold_of m cpu l i) (first_refusable m l i))
duty_is m cpu l i =
    retarget_first (owed_beside l i) _
    ∙ ap (after_retarget (owed_beside l i))
    (by_phase m l (thread l i).phase l.lists i (plain.is_queued l.lists i) (thread l i).cancel_send (thread l i).cancel_receive (untold_of m cpu l i) (first_refusable m l i) (dead_refuses_none m l i))

nothing_kept : (o : Option Owed) (d : Option Duty) → is_some o ≡ false → after_retarget o d ≡ d
nothing_kept None d e = refl
nothing_kept (Some owed) d e = cc

pub deleted_is : (m : Machine) (cpu : ℕ) (l : Local) (i : ℕ) → is_some (owed_beside l i) ≡ false → is_deleted (thread l i).phase ≡ true →
    duty_at m cpu l i ≡ deleted_duty (plain.is_queued l.lists i) (plain.list_of l.lists i) (untold_of m cpu l i)
deleted_is m cpu l i none e =
    duty_is m cpu l i ∙ nothing_kept (owed_beside l i) _ none
    ∙ ap (λ b. cond b (deleted_duty (plain.is_queued l.lists i) (plain.list_of l.lists i) (untold_of m cpu l i)) (living_duty (names_nobody m l) (thread l i) (plain.is_queued l.lists i) (plain.list_of l.lists i) (first_refusable m l i))) e

pub living_is : (m : Machine) (cpu : ℕ) (l : Local) (i : ℕ) → is_some (owed_beside l i) ≡ false → is_deleted (thread l i).phase ≡ false →
    duty_at m cpu l i ≡ living_duty (names_nobody m l) (thread l i) (plain.is_queued l.lists i) (plain.list_of l.lists i) (first_refusable m l i)
living_is m cpu l i none e =
    duty_is m cpu l i ∙ nothing_kept (owed_beside l i) _ none
    ∙ ap (λ b. cond b (deleted_duty (plain.is_queued l.lists i) (plain.list_of l.lists i) (untold_of m cpu l i)) (living_duty (names_nobody m l) (thread l i) (plain.is_queued l.lists i) (plain.list_of l.lists i) (first_refusable m l i))) e

-- Where no send of timeout zero waits, none is refused.

find_fewer : {A : Type 0} (p q : A → Bool) (xs : List A) → ((x : A) → p x ≡ false → q x ≡ false) → find p xs ≡ None → find q xs ≡ None
find_fewer p q [] f e = refl
find_fewer p q (x ∷ xs) f e = by (p x) refl e (find_fewer p q xs f)
  where
    by : (b : Bool) → p x ≡ b → cond b (Some x) (find p xs) ≡ None → (find p xs ≡ None → find q xs ≡ None) → find q (x ∷ xs) ≡ None
    by true is e g = cc
    by false is e g = ap (λ b. cond b (Some x) (find q xs)) (f x is) ∙ g e

not_zero : (m : Machine) (r : Found) (send : Option Send) → is_zero_send send ≡ false → zero_refusable m r send ≡ false
not_zero m r None e = refl
not_zero m r (Some send) e = rw e

pub none_refusable : (m : Machine) (l : Local) (i : ℕ) → first_zero l (plain.list_of l.lists i) ≡ None → first_refusable m l i ≡ None
none_refusable m l i e =
    find_fewer (λ w. is_zero_send (thread l w.block).send) (λ w. zero_refusable m (held m l i) (thread l w.block).send) (plain.list_of l.lists i) (λ w. not_zero m (held m l i) (thread l w.block).send) e

-- A living thread without a receive phase, whose send is not both cancelled and queued, and at which no send of timeout zero waits, has no duty but a retarget that is kept beside it.
idle_owes : (m : Machine) (cpu : ℕ) (l : Local) (i : ℕ) → is_deleted (thread l i).phase ≡ false → receive_now (thread l i).phase ≡ None → ((thread l i).cancel_send && plain.is_queued l.lists i) ≡ false →
    first_zero l (plain.list_of l.lists i) ≡ None → is_some (duty_at m cpu l i) ≡ is_some (owed_beside l i)
idle_owes m cpu l i alive waits kept none =
    let t : Thread = thread l i in
    let ws : List plain.Waiting = plain.list_of l.lists i in
    let queued : Bool = plain.is_queued l.lists i in
    let nobody : Id → Bool = names_nobody m l in
    let idle : duty_of_thread nobody t queued ws (untold_of m cpu l i) (first_refusable m l i) ≡ None =
    ap (λ b. cond b (deleted_duty queued ws (untold_of m cpu l i)) (living_duty nobody t queued ws (first_refusable m l i))) alive
    ∙ ap (λ b. cond b (Some CancelsOwn) (or_refuse (receive_duty nobody t.cancel_receive ws (receive_now t.phase)) (first_refusable m l i))) kept
    ∙ ap (λ r. or_refuse (receive_duty nobody t.cancel_receive ws r) (first_refusable m l i)) waits
    ∙ ap (or_refuse None) (none_refusable m l i none) in
    ap is_some (duty_is m cpu l i ∙ ap (after_retarget (owed_beside l i)) idle) ∙ owes (owed_beside l i)
  where
    owes : (o : Option Owed) → is_some (after_retarget o None) ≡ is_some o
    owes None = refl
    owes (Some owed) = refl

-- So has one that is ready, or in a send phase that is not cancelled. What is ready stands in no list.
pub runs_or_sends_owes : (m : Machine) (cpu : ℕ) (l : Local) (i : ℕ) → runs_or_sends (thread l i) ≡ true → ((thread l i).phase ≡ Ready → plain.is_queued l.lists i ≡ false) → first_zero l (plain.list_of l.lists i) ≡ None →
    is_some (duty_at m cpu l i) ≡ is_some (owed_beside l i)
runs_or_sends_owes m cpu l i is free none = by (thread l i).phase refl is
  where
    never : (b : Bool) → (b && false) ≡ false
    never true = refl
    never false = refl

    uncancelled : (b queued : Bool) → not b ≡ true → (b && queued) ≡ false
    uncancelled true queued e = cc
    uncancelled false queued e = refl

    by : (phase : Phase) → (thread l i).phase ≡ phase → (is_ready phase || is_sending phase && not (thread l i).cancel_send) ≡ true → is_some (duty_at m cpu l i) ≡ is_some (owed_beside l i)
    by Ready e h = idle_owes m cpu l i (ap is_deleted e) (ap receive_now e) (ap (λ b. (thread l i).cancel_send && b) (free e) ∙ never (thread l i).cancel_send) none
    by Sending e h = idle_owes m cpu l i (ap is_deleted e) (ap receive_now e) (uncancelled (thread l i).cancel_send (plain.is_queued l.lists i) h) none
    by (Receiving receive since) e h = absurd cc
    by Ordering e h = absurd cc
    by Ended e h = absurd cc
    by Deleted e h = absurd cc

-- The first block that passes a test is that of the first send that does.
pub find_blocks : (test : ℕ → Bool) (ws : List plain.Waiting) → find test (map (λ w. w.block) ws) ≡ option_map (λ w. w.block) (find (λ w. test w.block) ws)
find_blocks test [] = refl
find_blocks test (w ∷ ws) = by (test w.block) (find_blocks test ws)
  where
    by : (b : Bool) → find test (map (λ (v : plain.Waiting). v.block) ws) ≡ option_map (λ (v : plain.Waiting). v.block) (find (λ (v : plain.Waiting). test v.block) ws) →
        cond b (Some w.block) (find test (map (λ (v : plain.Waiting). v.block) ws)) ≡ option_map (λ (v : plain.Waiting). v.block) (cond b (Some w) (find (λ (v : plain.Waiting). test v.block) ws))
    by true e = refl
    by false e = e

-- Clocks are of no matter.

accept_same : (m : Machine) (at : ℕ) (d : Declaration) (t : Thread) (a b : ℕ) (shown : GlobalId) (p : Phase) →
    may_still_accept m (record { at = at; declared = d; now = t; clock = a }) shown p ≡ may_still_accept m (record { at = at; declared = d; now = t; clock = b }) shown p
accept_same m at d t a b shown Ready = refl
accept_same m at d t a b shown Sending = by t.send
  where
    call : (send : Send) (to : Id) → call_accepts m (record { at = at; declared = d; now = t; clock = a }) (Some (record send { to = to })) shown ≡ call_accepts m (record { at = at; declared = d; now = t; clock = b }) (Some (record send { to = to })) shown
    call send NilThread = refl
    call send AnyThread = refl
    call send AnyLocalThread = refl
    call send (LocalThread word) = refl
    call send (GlobalThread id) = refl

    by : (o : Option Send) → call_accepts m (record { at = at; declared = d; now = t; clock = a }) o shown ≡ call_accepts m (record { at = at; declared = d; now = t; clock = b }) o shown
    by None = refl
    by (Some send) = call send send.to
accept_same m at d t a b shown (Receiving receive since) = refl
accept_same m at d t a b shown Ordering = refl
accept_same m at d t a b shown Ended = refl
accept_same m at d t a b shown Deleted = refl

blind : (m : Machine) (at : ℕ) (d : Declaration) (t : Thread) (a b : ℕ) (send : Option Send) →
    zero_refusable m (record { at = at; declared = d; now = t; clock = a }) send ≡ zero_refusable m (record { at = at; declared = d; now = t; clock = b }) send
blind m at d t a b None = refl
blind m at d t a b (Some send) = ap (λ may. is_zero send.period && (is_alive t.phase && not may)) (accept_same m at d t a b send.message.shown t.phase)

-- What two local states may differ in, where the duty of a thread is the same.

pub refusable_alike : (m : Machine) (k l : Local) (o : ℕ) (ws : List plain.Waiting) → thread k o ≡ thread l o →
    ((w : plain.Waiting) → list_any (λ (v : plain.Waiting). w.block == v.block) ws ≡ true → zero_refusable m (held m l o) (thread k w.block).send ≡ zero_refusable m (held m l o) (thread l w.block).send) →
    find (λ w. zero_refusable m (held m k o) (thread k w.block).send) ws ≡ find (λ w. zero_refusable m (held m l o) (thread l w.block).send) ws
refusable_alike m k l o ws e f =
    find_same (λ w. zero_refusable m (held m k o) (thread k w.block).send) (λ w. zero_refusable m (held m l o) (thread l w.block).send) ws
    (λ w there.
    ap (λ (t : Thread). zero_refusable m (record { at = o; declared = declared m o; now = t; clock = k.clock }) (thread k w.block).send) e
    ∙ blind m o (declared m o) (thread l o) k.clock l.clock (thread k w.block).send
    ∙ f w there)

pub refusable_same : (m : Machine) (k l : Local) (o : ℕ) (ws : List plain.Waiting) → thread k o ≡ thread l o → ((w : plain.Waiting) → list_any (λ (v : plain.Waiting). w.block == v.block) ws ≡ true → (thread k w.block).send ≡ (thread l w.block).send) →
    find (λ w. zero_refusable m (held m k o) (thread k w.block).send) ws ≡ find (λ w. zero_refusable m (held m l o) (thread l w.block).send) ws
refusable_same m k l o ws e f = refusable_alike m k l o ws e (λ w there. ap (λ send. zero_refusable m (held m l o) send) (f w there))

receive_same : (f g : Id → Bool) (cancelled : Bool) (ws : List plain.Waiting) (r : Option Receive) → ((from : Id) → f from ≡ g from) → receive_duty f cancelled ws r ≡ receive_duty g cancelled ws r
receive_same f g cancelled ws None e = refl
receive_same f g cancelled ws (Some receive) e = ap (λ b. cond cancelled (Some CancelsReceive) (or_close (plain.first_taken receive.from ws) b)) (e receive.from)

pub nobody_for : (f g : Id → Bool) (t : Thread) (q : Bool) (ws : List plain.Waiting) (u : Option ℕ) (z : Option plain.Waiting) → ((from : Id) → f from ≡ g from) → duty_of_thread f t q ws u z ≡ duty_of_thread g t q ws u z
nobody_for f g t q ws u z e = ap (λ d. cond (is_deleted t.phase) (deleted_duty q ws u) (cond (t.cancel_send && q) (Some CancelsOwn) (or_refuse d z))) (receive_same f g t.cancel_receive ws (receive_now t.phase) e)

pub same_duty : (m : Machine) (cpu : ℕ) (k l : Local) (o : ℕ) → ((from : Id) → names_nobody m k from ≡ names_nobody m l from) → thread k o ≡ thread l o → plain.is_queued k.lists o ≡ plain.is_queued l.lists o → plain.list_of k.lists o ≡ plain.list_of l.lists o →
    slice_index_or k.told o 0 ≡ slice_index_or l.told o 0 → owed_beside k o ≡ owed_beside l o → first_refusable m k o ≡ first_refusable m l o → duty_at m cpu k o ≡ duty_at m cpu l o
same_duty m cpu k l o nobody t q ws u kept z =
    duty_is m cpu k o
    ∙ ap (after_retarget (owed_beside k o))
    (nobody_for (names_nobody m k) (names_nobody m l) (thread k o) (plain.is_queued k.lists o) (plain.list_of k.lists o) (untold_of m cpu k o) (first_refusable m k o) nobody
    ∙ ap (λ (x : Thread). duty_of_thread (names_nobody m l) x (plain.is_queued k.lists o) (plain.list_of k.lists o) (untold_of m cpu k o) (first_refusable m k o)) t
    ∙ ap (λ b. duty_of_thread (names_nobody m l) (thread l o) b (plain.list_of k.lists o) (untold_of m cpu k o) (first_refusable m k o)) q
    ∙ ap (λ x. duty_of_thread (names_nobody m l) (thread l o) (plain.is_queued l.lists o) x (untold_of m cpu k o) (first_refusable m k o)) ws
    ∙ ap (λ n. duty_of_thread (names_nobody m l) (thread l o) (plain.is_queued l.lists o) (plain.list_of l.lists o) (next_untold m cpu n) (first_refusable m k o)) u
    ∙ ap (λ x. duty_of_thread (names_nobody m l) (thread l o) (plain.is_queued l.lists o) (plain.list_of l.lists o) (untold_of m cpu l o) x) z)
    ∙ ap (λ x. after_retarget x (duty_of_thread (names_nobody m l) (thread l o) (plain.is_queued l.lists o) (plain.list_of l.lists o) (untold_of m cpu l o) (first_refusable m l o))) kept
    ∙ sym (duty_is m cpu l o)
