-- An event's stamp is above that of its processor before it and that of the letter that it handles, and its letters have it.
use Rattle.std.proofs.Common.{◌≡◌, ℕ, ◌<◌, Option, Some, None, refl, sym, subst, arith}
use Rattle.std.specs.Prelude.{◌^◌, nat_lt, is_some, ◌==◌, ◌||◌, is_none}
use Rattle.std.specs.List.{AllByRecursion}
use Rattle.std.specs.Option.{option_map}
use Rattle.l4_model.specs.Machine.{Machine, is_declared, place_of}
use Rattle.l4_model.specs.Words.{same_id}
use Rattle.l4_model.specs.Effects.{obeyed}
use Rattle.l4_model.specs.World.{receive_now, is_deleted}
use Rattle.l4_model.specs.Rules.{TimeOver, NobodyThere, CancelAsked}
use Rattle.l4_model.specs.Steps.{Tick}
use Rattle.l4_model.specs.Conditions.{act_of}
use Rattle.l4_model.proofs.Chains.{bind_then, guard_then, some_is, cond_keeps}
use Rattle.l4_core_model.specs.Plain as plain
use Rattle.l4_core_model.specs.Letters.{Content, SendLetter, DoneLetter, WithdrawLetter, GoneLetter, OrderLetter, OrderDoneLetter, RetargetLetter}
use Rattle.l4_core_model.specs.Letters.{refusal_of, Cause, ByTimeout, Dropped, Nobody, Cancelled, TimedOut}
use Rattle.l4_core_model.specs.Local.{Local, declared, held, thread, relists, changes, comes_to, stands_in, stand_in, after_decision, is_gone_now, keeps_beside}
use Rattle.l4_core_model.specs.Acts.{Work, ◌▷◌, tells, does, split_place, retargets}
use Rattle.l4_core_model.specs.Turns.{Duty, DropsOwn, RefusesFirst, TellsGone, CancelsOwn, CancelsReceive, DeliversFirst, ClosesReceive, RefusesZero, Retargets}
use Rattle.l4_core_model.specs.Turns.{Choice, ByDuty, ByDue, ByReady, choice, does_duty, times_out, does_choice}
use Rattle.l4_core_model.specs.Turns.{next_stamp, opened, turn, advance, clock_is}
use Rattle.l4_core_model.specs.Mail.{own_place, foreign_place, waits_here, is_ordering, withdraws_here, handled}
use Rattle.l4_merge.specs.Transitions.{LocalEvent, Handled, Turned, Ticked, work_of, letter_of}
use Rattle.l4_merge.proofs.StampsOfActs.{IsStamped, KeepsStamp, posts_stamped, refuses_stamped, delivers_stamped, arrives_stamped, retargets_stamped}
use Rattle.l4_merge.proofs.StampsOfActs.{withdraws_stamped, fails_stamped, obeys_stamped, acts_stamped}

-- The first act of an event gives it its stamp.
pub opened_stamped : (letter_stamp : ℕ) (l : Local) → IsStamped (next_stamp letter_stamp l) (opened letter_stamp l)
opened_stamped letter_stamp l = record { local = refl; letters = tt }

-- What has the value of a chain is what the chain ends in.
is_of : (s : ℕ) (y x : Work) → IsStamped s y → Some y ≡ Some x → IsStamped s x
is_of s y x h is = subst (IsStamped s) (some_is y x is) h

-- a turn

does_duty_stamped : (m : Machine) (cpu i : ℕ) (duty : Duty) → KeepsStamp (does_duty m cpu i duty)
does_duty_stamped m cpu i (Retargets o) s x h =
    retargets_stamped o (place_of m o.originator) s (x ▷ does (keeps_beside i None)) (record { local = h.local; letters = h.letters })
does_duty_stamped m cpu i DropsOwn s x h = refuses_stamped m cpu Dropped i s x h
does_duty_stamped m cpu i (RefusesFirst sender) s x h = refuses_stamped m cpu Nobody sender s x h
does_duty_stamped m cpu i (TellsGone to) s x h = posts_stamped _ _ s _ (record { local = h.local; letters = h.letters })
does_duty_stamped m cpu i CancelsOwn s x h = refuses_stamped m cpu Cancelled i s x h
does_duty_stamped m cpu i CancelsReceive s x h = fails_stamped m CancelAsked i s x h
does_duty_stamped m cpu i (DeliversFirst sender) s x h = delivers_stamped m cpu i sender s x h
does_duty_stamped m cpu i ClosesReceive s x h = fails_stamped m NobodyThere i s x h
does_duty_stamped m cpu i (RefusesZero sender) s x h = refuses_stamped m cpu TimedOut sender s x h

times_out_stamped : (m : Machine) (cpu i : ℕ) → KeepsStamp (times_out m cpu i)
times_out_stamped m cpu i s x h =
    cond_keeps (IsStamped s) (is_some (receive_now (thread x.local i).phase)) _ _ (λ yes. fails_stamped m TimeOver i s x h)
    (λ no. cond_keeps (IsStamped s) (plain.is_queued x.local.lists i) _ _ (λ yes. refuses_stamped m cpu TimedOut i s x h)
    (λ no. withdraws_stamped m ByTimeout i (split_place m cpu x.local i) s x h))

does_choice_stamped : (m : Machine) (cpu : ℕ) (c : Choice) → KeepsStamp (does_choice m cpu c)
does_choice_stamped m cpu (ByDuty i duty) s x h = does_duty_stamped m cpu i duty s x h
does_choice_stamped m cpu (ByDue i) s x h =
    times_out_stamped m cpu i s (x ▷ does (relists plain.popped_due)) (record { local = h.local; letters = h.letters })
does_choice_stamped m cpu (ByReady i) s x h =
    acts_stamped m cpu i (act_of m (held m x.local i)) s (x ▷ does (relists plain.popped)) (record { local = h.local; letters = h.letters })

pub turn_stamped : (m : Machine) (cpu : ℕ) (l : Local) (x : Work) → turn m cpu l ≡ Some x → IsStamped (next_stamp 0 l) x
turn_stamped m cpu l x h = by (choice m cpu l) h
  where
    by : (c : Option Choice) → option_map (λ c. does_choice m cpu c (opened 0 l)) c ≡ Some x → IsStamped (next_stamp 0 l) x
    by None h = cc
    by (Some c) h = is_of _ _ x (does_choice_stamped m cpu c _ _ (opened_stamped 0 l)) h

-- a tick

pub advance_stamped : (m : Machine) (cpu clock : ℕ) (l : Local) (x : Work) → advance m cpu clock l ≡ Some x → IsStamped (next_stamp 0 l) x
advance_stamped m cpu clock l x h =
    let y : Work = opened 0 l ▷ tells (Tick cpu clock) ▷ does (clock_is clock) in
    guard_then (nat_lt l.clock clock) _ x h λ later h.
    guard_then (nat_lt clock (2 ^ 62)) (Some y) x h λ below h.
    is_of _ y x (record { local = refl; letters = tt }) h

-- a letter

withdraws_here_stamped : (m : Machine) (cpu i k : ℕ) (cause : Cause) → KeepsStamp (withdraws_here m cpu i k cause)
withdraws_here_stamped m cpu i k cause s x h =
    cond_keeps (IsStamped s) (waits_here x.local i k) _ _ (λ yes. refuses_stamped m cpu (refusal_of cause) i s x h) (λ no. h)

pub handled_stamped : (m : Machine) (cpu : ℕ) (content : Content) (s : ℕ) (x y : Work) → IsStamped s x → handled m cpu content x ≡ Some y → IsStamped s y
handled_stamped m cpu (SendLetter name receiver message zero_timeout) s x y h is =
    bind_then (own_place m cpu receiver) _ y is λ r _ is.
    bind_then (foreign_place m cpu name.thread) _ y is λ i _ is.
    guard_then (is_none (thread x.local i).send) _ y is λ _ is.
    guard_then (same_id message.actual name.thread) _ y is λ _ is.
    guard_then (is_declared m message.shown) _ y is λ _ is.
    let z : Work = x ▷ does (changes i (stands_in name.k (stand_in receiver message zero_timeout))) in
    is_of s _ y (arrives_stamped m cpu r i s z (record { local = h.local; letters = h.letters })) is
handled_stamped m cpu (DoneLetter name result) s x y h is =
    bind_then (own_place m cpu name.thread) _ y is λ i _ is.
    guard_then (is_some (split_place m cpu x.local i)) _ y is λ _ is.
    guard_then ((thread x.local i).context.begun == name.k) _ y is λ _ is.
    is_of s (x ▷ does (comes_to i (after_decision result x.local.clock))) y (record { local = h.local; letters = h.letters }) is
handled_stamped m cpu (WithdrawLetter name receiver cause) s x y h is =
    bind_then (own_place m cpu receiver) _ y is λ r _ is.
    bind_then (foreign_place m cpu name.thread) _ y is λ i _ is.
    is_of s _ y (withdraws_here_stamped m cpu i name.k cause s x h) is
handled_stamped m cpu (GoneLetter id) s x y h is =
    bind_then (foreign_place m cpu id) _ y is λ i _ is.
    is_of s (x ▷ does (changes i is_gone_now)) y (record { local = h.local; letters = h.letters }) is
handled_stamped m cpu (OrderLetter caller target what) s x y h is =
    bind_then (own_place m cpu target) _ y is λ j _ is.
    bind_then (foreign_place m cpu caller) _ y is λ i _ is.
    is_of s _ y (posts_stamped (declared m i).cpu (OrderDoneLetter caller) s _ (obeys_stamped m cpu caller what j s x h)) is
handled_stamped m cpu (OrderDoneLetter caller) s x y h is =
    bind_then (own_place m cpu caller) _ y is λ i _ is.
    guard_then (is_deleted (thread x.local i).phase || is_ordering (thread x.local i).phase) _ y is λ _ is.
    is_of s (x ▷ does (comes_to i obeyed)) y (record { local = h.local; letters = h.letters }) is
handled_stamped m cpu (RetargetLetter o) s x y h is =
    guard_then m.retargeting _ y is λ _ is.
    bind_then (own_place m cpu o.originator) _ y is λ j _ is.
    guard_then (is_declared m o.old_partner) _ y is λ _ is.
    guard_then (is_some (foreign_place m cpu o.new_partner)) _ y is λ _ is.
    is_of s (x ▷ retargets o j) y (record { local = h.local; letters = h.letters }) is

-- any event

-- The stamp of an event is above its processor's last one and above its letter's, and is that of the letters that it posts.
pub record IsLater (l : Local) (event : LocalEvent) (x : Work) : Type 0 where
  pub than_before : l.stamp < x.local.stamp
  pub than_letter : AllByRecursion (λ p. p.1.stamp < x.local.stamp) (letter_of event)
  pub letters : AllByRecursion (λ p. p.1.stamp ≡ x.local.stamp) x.letters

-- The letters of an event have the stamp that it leaves.
letters_stamped : (s : ℕ) (x : Work) → IsStamped s x → AllByRecursion (λ p. p.1.stamp ≡ x.local.stamp) x.letters
letters_stamped s x h = subst (λ n. AllByRecursion (λ p. p.1.stamp ≡ n) x.letters) (sym h.local) h.letters

pub work_later : (m : Machine) (cpu : ℕ) (l : Local) (event : LocalEvent) (x : Work) → work_of m cpu l event ≡ Some x → IsLater l event x
work_later m cpu l (Handled from letter) x is =
    let h = handled_stamped m cpu letter.content _ _ x (opened_stamped letter.stamp l) is in
    record { than_before = omega arith; than_letter = (omega arith, tt); letters = letters_stamped _ x h }
work_later m cpu l Turned x is =
    let h = turn_stamped m cpu l x is in
    record { than_before = omega arith; than_letter = tt; letters = letters_stamped _ x h }
work_later m cpu l (Ticked clock) x is =
    let h = advance_stamped m cpu clock l x is in
    record { than_before = omega arith; than_letter = tt; letters = letters_stamped _ x h }
