-- All that turns and letters bring about is addressed: it is done to places of the machine.
use Rattle.l4_model.specs.Options.{if_some}
use Rattle.l4_core_model.specs.Plain.{Waiting, armed, popped_due}
use Rattle.std.proofs.Common.{◌≡◌, ℕ, ◌<◌, Bool, Option, Some, None, List, length, refl, subst, ap}
use Rattle.std.specs.Prelude.{is_some, find, slice_index_or, ◌==◌, ◌||◌, is_none}
use Rattle.std.specs.Option.{option_map}
use Rattle.std.specs.List.{AllByRecursion}
use Rattle.l4_model.specs.Machine.{Machine, is_declared, place_of}
use Rattle.l4_model.specs.World.{Phase, Ready, Sending, Receiving, Ordering, Ended, Deleted, receive_now, is_deleted}
use Rattle.l4_model.specs.Rules.{takes}
use Rattle.l4_model.specs.Conditions.{act_of}
use Rattle.l4_model.proofs.Chains.{some_is, cond_keeps, bind_then, guard_then}
use Rattle.l4_core_model.specs.Plain as plain
use Rattle.l4_core_model.specs.Letters.{Nobody, TimedOut, Cancelled, Dropped, ByTimeout, GoneLetter, Content, SendLetter, DoneLetter, WithdrawLetter, OrderLetter, OrderDoneLetter, refusal_of, RetargetLetter}
use Rattle.l4_core_model.specs.Local.{Local, declared, thread, held, relists, changes, stand_in, stands_in, keeps_beside}
use Rattle.l4_core_model.specs.Acts.{Work, ◌▷◌, does, first_of_list, first_acceptable, split_place, obeys, retargets}
use Rattle.l4_core_model.specs.Turns.{Duty, DropsOwn, RefusesFirst, TellsGone, CancelsOwn, CancelsReceive, DeliversFirst, ClosesReceive, RefusesZero, does_duty, has_told, times_out, Choice, ByDuty, ByDue, ByReady, does_choice, opened, turn, Retargets}
use Rattle.l4_core_model.specs.Runs.{IsMachine}
use Rattle.l4_core_model.proofs.Lists.{all_find}
use Rattle.l4_core_model.proofs.Choosing.{next_elsewhere}
use Rattle.l4_refines.proofs.Turns.Choices.{IsDuty, StandsIn, entry_of_all, IsChoice, turn_then}
use Rattle.l4_refines.proofs.Relation.Relates.{IsSized}
use Rattle.l4_refines.proofs.Letters.Addressed.{IsAddressed, IsThread, is_known, posts_addressed, refuses_addressed, delivers_addressed, withdraws_addressed, acts_addressed, arrives_addressed, home_below, obeys_addressed, thread_at}
use Rattle.l4_model.proofs.Rows.Writing.{id}
use Rattle.l4_model.specs.Words.{same_id}
use Rattle.l4_core_model.specs.Mail.{own_place, foreign_place, is_ordering, handled, waits_here}
use Rattle.l4_refines.proofs.Letters.Receiving.{own_place_is, foreign_place_is}

-- The sender of an entry of a list, and of the first that is accepted

entry_thread : (m : Machine) (l : Local) (r i : ℕ) (e : plain.Waiting) → IsMachine m → IsSized m l → StandsIn e (plain.list_of l.lists r) → e.block ≡ i →
    IsThread m i
entry_thread m l r i e machine z at same = record {
  machine = machine;
  within = subst (λ i. i < length m.threads) same
      (entry_of_all (λ (e : plain.Waiting). e.block < length m.threads) e (plain.list_of l.lists r) at (z.listed r));
}

first_within : (m : Machine) (p : plain.Waiting → Bool) (es : List plain.Waiting) (i : ℕ) →
    AllByRecursion (λ (e : plain.Waiting). e.block < length m.threads) es → option_map (λ (e : plain.Waiting). e.block) (find p es) ≡ Some i →
    i < length m.threads
first_within m p es i all h = by (find p es) refl h
  where
    by : (o : Option plain.Waiting) → find p es ≡ o → option_map (λ (e : plain.Waiting). e.block) o ≡ Some i → i < length m.threads
    by None is h = cc
    by (Some e) is h = subst (λ j. j < length m.threads) (some_is e.block i h) (all_find (λ (e : plain.Waiting). e.block < length m.threads) p es e all is).0

first_sender : (m : Machine) (l : Local) (r i : ℕ) → IsSized m l → first_acceptable l r ≡ Some i → i < length m.threads
first_sender m l r i z h = by (thread l r).phase h
  where
    by : (p : Phase) → first_of_list l.lists r p ≡ Some i → i < length m.threads
    by (Receiving receive since) h = first_within m (λ (e : plain.Waiting). takes receive.from e.shown e.local) (plain.list_of l.lists r) i (z.listed r) h
    by Ready h = cc
    by Sending h = cc
    by Ordering h = cc
    by Ended h = cc
    by Deleted h = cc

duty_addressed : (m : Machine) (cpu i : ℕ) (x : Work) (duty : Duty) → IsMachine m → IsSized m x.local → i < length m.threads → IsAddressed m x →
    IsDuty m cpu x.local i duty → IsAddressed m (does_duty m cpu i duty x)
duty_addressed m cpu i x (Retargets o) machine z lt a d = by (place_of m o.originator)
  where
    by : (q : Option ℕ) → IsAddressed m (x ▷ does (keeps_beside i None) ▷ if_some (retargets o) q)
    by None = a
    by (Some j) = a
duty_addressed m cpu i x DropsOwn machine z lt a d = refuses_addressed m cpu i Dropped x (record { machine = machine; within = lt }) a
duty_addressed m cpu i x (RefusesFirst sender) machine z lt a d =
    refuses_addressed m cpu sender Nobody x (entry_thread m x.local i sender d.1.0 machine z d.1.1.0 d.1.1.1) a
duty_addressed m cpu i x (TellsGone to) machine z lt a d =
    posts_addressed m to (GoneLetter (declared m i).id) (x ▷ does (has_told to i)) (is_known m i (record { machine = machine; within = lt }))
    (next_elsewhere m cpu (slice_index_or x.local.told i 0) to d.1).0 a
duty_addressed m cpu i x CancelsOwn machine z lt a d = refuses_addressed m cpu i Cancelled x (record { machine = machine; within = lt }) a
duty_addressed m cpu i x CancelsReceive machine z lt a d = a
duty_addressed m cpu i x (DeliversFirst sender) machine z lt a d =
    delivers_addressed m cpu i sender x (record { machine = machine; within = first_sender m x.local i sender z d }) a
duty_addressed m cpu i x ClosesReceive machine z lt a d = a
duty_addressed m cpu i x (RefusesZero sender) machine z lt a d =
    refuses_addressed m cpu sender TimedOut x (entry_thread m x.local i sender d.0 machine z d.1.0 d.1.1.0) a

-- A turn

due_addressed : (m : Machine) (cpu i : ℕ) (x : Work) → IsThread m i → IsAddressed m x → IsAddressed m (times_out m cpu i x)
due_addressed m cpu i x t a = cond_keeps (IsAddressed m) (is_some (receive_now (thread x.local i).phase)) _ _ (λ receiving. a)
    (λ sending. cond_keeps (IsAddressed m) (plain.is_queued x.local.lists i) _ _ (λ queued. refuses_addressed m cpu i TimedOut x t a)
    (λ other. withdraws_addressed m cpu ByTimeout i x t a))

choice_addressed : (m : Machine) (cpu : ℕ) (l : Local) (c : Choice) → IsMachine m → IsSized m l → IsChoice m cpu l c →
    IsAddressed m (does_choice m cpu c (opened 0 l))
choice_addressed m cpu l (ByDuty i duty) machine z c =
    duty_addressed m cpu i (opened 0 l) duty machine
    (z) c.0.within tt c.1
choice_addressed m cpu l (ByDue i) machine z c =
    due_addressed m cpu i (opened 0 l ▷ does (relists plain.popped_due))
    (record { machine = machine; within = (subst (AllByRecursion (λ (e : ℕ × ℕ). e.1 < length m.threads)) c.1.1.0 z.armed).0 }) tt
choice_addressed m cpu l (ByReady i) machine z c =
    acts_addressed m cpu i (act_of m (held m l i)) (opened 0 l ▷ does (relists plain.popped))
    (record { machine = machine; within = (subst (AllByRecursion (λ i. i < length m.threads)) c.1.0 z.ready).0 }) tt

-- All that a turn posts is so addressed.
pub turn_addressed : (m : Machine) (cpu : ℕ) (l : Local) (x : Work) → IsMachine m → IsSized m l → turn m cpu l ≡ Some x → IsAddressed m x
turn_addressed m cpu l x machine z h = turn_then m cpu l x (IsAddressed m) h λ c is. choice_addressed m cpu l c machine z is

-- A letter

pub handled_addressed : (m : Machine) (cpu : ℕ) (c : Content) (x y : Work) → IsMachine m → IsAddressed m x → handled m cpu c x ≡ Some y → IsAddressed m y
handled_addressed m cpu (SendLetter s receiver message zero_timeout) x y machine a h =
    bind_then (own_place m cpu receiver) _ y h λ r own rest.
    bind_then (foreign_place m cpu s.thread) _ y rest λ i foreign rest.
    guard_then (is_none (thread x.local i).send) _ y rest λ none rest.
    guard_then (same_id message.actual s.thread) _ y rest λ actual rest.
    guard_then (is_declared m message.shown) _ y rest λ shown rest.
    subst (IsAddressed m) (some_is _ y rest)
    (arrives_addressed m cpu r i (x ▷ does (changes i (stands_in s.k (stand_in receiver message zero_timeout))))
    (thread_at m s.thread i machine (foreign_place_is m cpu s.thread i foreign).0) a)
handled_addressed m cpu (DoneLetter s result) x y machine a h =
    bind_then (own_place m cpu s.thread) _ y h λ i own rest.
    guard_then (is_some (split_place m cpu x.local i)) _ y rest λ split rest.
    guard_then ((thread x.local i).context.begun == s.k) _ y rest λ number rest.
    subst (IsAddressed m) (some_is _ y rest) a
handled_addressed m cpu (WithdrawLetter s receiver cause) x y machine a h =
    bind_then (own_place m cpu receiver) _ y h λ r own rest.
    bind_then (foreign_place m cpu s.thread) _ y rest λ i foreign rest.
    subst (IsAddressed m) (some_is _ y rest)
    (cond_keeps (IsAddressed m) (waits_here x.local i s.k) _ x
    (λ waits. refuses_addressed m cpu i (refusal_of cause) x (thread_at m s.thread i machine (foreign_place_is m cpu s.thread i foreign).0) a) (λ late. a))
handled_addressed m cpu (GoneLetter id) x y machine a h =
    bind_then (foreign_place m cpu id) _ y h λ i foreign rest.
    subst (IsAddressed m) (some_is _ y rest) a
handled_addressed m cpu (OrderLetter caller target what) x y machine a h =
    bind_then (own_place m cpu target) _ y h λ j own rest.
    bind_then (foreign_place m cpu caller) _ y rest λ i foreign rest.
    let at = (foreign_place_is m cpu caller i foreign).0 in
    subst (IsAddressed m) (some_is _ y rest)
    (posts_addressed m (declared m i).cpu (OrderDoneLetter caller) (x ▷ obeys m cpu caller what j) (ap (λ o. is_some o) at)
    (home_below m i (thread_at m caller i machine at))
    (obeys_addressed m cpu caller what j x (thread_at m target j machine (own_place_is m cpu target j own).0) a))
handled_addressed m cpu (OrderDoneLetter caller) x y machine a h =
    bind_then (own_place m cpu caller) _ y h λ i own rest.
    guard_then (is_deleted (thread x.local i).phase || is_ordering (thread x.local i).phase) _ y rest λ calls rest.
    subst (IsAddressed m) (some_is _ y rest) a
handled_addressed m cpu (RetargetLetter o) x y machine a h =
    guard_then m.retargeting _ y h λ profile rest.
    bind_then (own_place m cpu o.originator) _ y rest λ j own rest.
    guard_then (is_declared m o.old_partner) _ y rest λ old rest.
    guard_then (is_some (foreign_place m cpu o.new_partner)) _ y rest λ foreign rest.
    subst (IsAddressed m) (some_is _ y rest) a
