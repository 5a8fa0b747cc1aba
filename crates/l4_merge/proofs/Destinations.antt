-- An event tells at most three steps and posts at most two letters, which go to other processors of the machine.
use Rattle.std.proofs.Common.{◌≡◌, ◌≢◌, ℕ, ◌<◌, ◌≤◌, Option, Some, None, length, subst, arith}
use Rattle.std.specs.Prelude.{◌^◌, ◌==◌, ◌||◌, nat_lt, not, is_some, is_none}
use Rattle.std.specs.List.{AllByRecursion}
use Rattle.std.specs.Option.{IfSome, option_map}
use Rattle.std.proofs.lemmas.Bool.{not-true}
use Rattle.l4_model.specs.Words.{GlobalId, same_id}
use Rattle.l4_model.specs.Machine.{Machine, place_of, is_declared}
use Rattle.l4_model.specs.World.{is_deleted, receive_now}
use Rattle.l4_model.specs.Rules.{TimeOver, NobodyThere, CancelAsked}
use Rattle.l4_model.specs.Conditions.{act_of}
use Rattle.l4_model.proofs.Chains.{bind_then, guard_then, some_is, cond_keeps}
use Rattle.l4_core_model.specs.Plain as plain
use Rattle.l4_core_model.specs.Letters.{Letter, Content, SendLetter, DoneLetter, WithdrawLetter, GoneLetter, OrderLetter, OrderDoneLetter, RetargetLetter}
use Rattle.l4_core_model.specs.Letters.{refusal_of, Cause, ByTimeout, Dropped, Nobody, Cancelled, TimedOut}
use Rattle.l4_core_model.specs.Local.{Local, is_own, held, thread, relists, changes, stands_in, stand_in, keeps_beside}
use Rattle.l4_core_model.specs.Runs.{IsMachine}
use Rattle.l4_core_model.specs.Acts.{Work, ◌▷◌, does, split_place}
use Rattle.l4_core_model.specs.Turns.{Duty, DropsOwn, RefusesFirst, TellsGone, CancelsOwn, CancelsReceive, DeliversFirst, ClosesReceive, RefusesZero, Retargets}
use Rattle.l4_core_model.specs.Turns.{Choice, ByDuty, ByDue, ByReady, choice, does_duty, times_out, does_choice}
use Rattle.l4_core_model.specs.Turns.{opened, turn, advance}
use Rattle.l4_core_model.specs.Mail.{own_place, foreign_place, waits_here, is_ordering, withdraws_here, handled}
use Rattle.l4_core_model.proofs.Lists.{all-map}
use Rattle.l4_merge.specs.Transitions.{LocalEvent, Handled, Turned, Ticked, work_of}
use Rattle.l4_merge.proofs.Aims.{IsElsewhere, IsAimed, IsChoiceAimed, choice_aimed}
use Rattle.l4_merge.proofs.RoomOfActs.{all_homed, IsForeign, home_elsewhere, split_is_foreign, HasRoom, Fits, with_local, less, at_end, retargets_fits}
use Rattle.l4_merge.proofs.RoomOfActs.{posts_fits, refuses_fits, delivers_fits, arrives_fits, withdraws_fits, fails_fits, obeys_fits, acts_fits}

-- An event has room for three steps and two letters.
opened_fits : (m : Machine) (cpu letter_stamp : ℕ) (l : Local) → HasRoom m cpu 3 2 (opened letter_stamp l)
opened_fits m cpu letter_stamp l = record { of_steps = omega arith; of_letters = omega arith; goals = tt }

-- What has the value of a chain is what the chain ends in.
is_of : (m : Machine) (cpu : ℕ) (y x : Work) → Some y ≡ Some x → HasRoom m cpu 0 0 y → HasRoom m cpu 0 0 x
is_of m cpu y x is h = subst (HasRoom m cpu 0 0) (some_is y x is) h

-- a turn

does_duty_fits : (m : Machine) (cpu i : ℕ) (duty : Duty) → IsAimed m cpu duty → Fits m cpu 1 2 (does_duty m cpu i duty)
does_duty_fits m cpu i (Retargets o) aimed x h =
    retargets_fits m cpu o (place_of m o.originator) (x ▷ does (keeps_beside i None)) (with_local (less (omega arith) (omega arith) h))
does_duty_fits m cpu i DropsOwn aimed x h = refuses_fits m cpu Dropped i x (less (omega arith) (omega arith) h)
does_duty_fits m cpu i (RefusesFirst sender) aimed x h = refuses_fits m cpu Nobody sender x (less (omega arith) (omega arith) h)
does_duty_fits m cpu i (TellsGone to) aimed x h = posts_fits _ _ aimed (with_local (less (omega arith) (omega arith) h))
does_duty_fits m cpu i CancelsOwn aimed x h = refuses_fits m cpu Cancelled i x (less (omega arith) (omega arith) h)
does_duty_fits m cpu i CancelsReceive aimed x h = fails_fits m cpu CancelAsked i x (less (omega arith) (omega arith) h)
does_duty_fits m cpu i (DeliversFirst sender) aimed x h = delivers_fits m cpu i sender x h
does_duty_fits m cpu i ClosesReceive aimed x h = fails_fits m cpu NobodyThere i x (less (omega arith) (omega arith) h)
does_duty_fits m cpu i (RefusesZero sender) aimed x h = refuses_fits m cpu TimedOut sender x (less (omega arith) (omega arith) h)

times_out_fits : (m : Machine) (cpu i : ℕ) → Fits m cpu 1 1 (times_out m cpu i)
times_out_fits m cpu i x h =
    cond_keeps (HasRoom m cpu 0 0) (is_some (receive_now (thread x.local i).phase)) _ _
    (λ yes. fails_fits m cpu TimeOver i x (less (omega arith) (omega arith) h))
    (λ no. cond_keeps (HasRoom m cpu 0 0) (plain.is_queued x.local.lists i) _ _ (λ yes. refuses_fits m cpu TimedOut i x h)
    (λ no. withdraws_fits m cpu ByTimeout i _ (split_is_foreign m cpu (thread x.local i).send) 0 0 x (less (omega arith) (omega arith) h)))

does_choice_fits : (m : Machine) (cpu : ℕ) (c : Choice) → IsChoiceAimed m cpu c → Fits m cpu 3 2 (does_choice m cpu c)
does_choice_fits m cpu (ByDuty i duty) aimed x h = does_duty_fits m cpu i duty aimed x (less (omega arith) (omega arith) h)
does_choice_fits m cpu (ByDue i) aimed x h = times_out_fits m cpu i (x ▷ does (relists plain.popped_due)) (with_local (less (omega arith) (omega arith) h))
does_choice_fits m cpu (ByReady i) aimed x h = acts_fits m cpu i (act_of m (held m x.local i)) (x ▷ does (relists plain.popped)) (with_local h)

turn_fits : (m : Machine) (cpu : ℕ) (l : Local) (x : Work) → turn m cpu l ≡ Some x → HasRoom m cpu 0 0 x
turn_fits m cpu l x is = by (choice m cpu l) (choice_aimed m cpu l) is
  where
    by : (c : Option Choice) → IfSome c (IsChoiceAimed m cpu) → option_map (λ c. does_choice m cpu c (opened 0 l)) c ≡ Some x → HasRoom m cpu 0 0 x
    by None aimed is = cc
    by (Some c) aimed is =
        is_of m cpu _ x is (does_choice_fits m cpu c aimed (opened 0 l) (less (omega arith) (omega arith) (opened_fits m cpu 0 l)))

-- a tick

advance_fits : (m : Machine) (cpu clock : ℕ) (l : Local) (x : Work) → advance m cpu clock l ≡ Some x → HasRoom m cpu 0 0 x
advance_fits m cpu clock l x is =
    guard_then (nat_lt l.clock clock) _ x is λ later is.
    guard_then (nat_lt clock (2 ^ 62)) _ x is λ below is.
    is_of m cpu _ x is (record { of_steps = omega arith; of_letters = omega arith; goals = tt })

-- a letter

foreign_is : (m : Machine) (cpu : ℕ) (id : GlobalId) (i : ℕ) → foreign_place m cpu id ≡ Some i → IsForeign m cpu i
foreign_is m cpu id i h =
    bind_then (place_of m id) _ i h λ j _ rest.
    guard_then (not (is_own m cpu j)) _ i rest λ other rest.
    subst (IsForeign m cpu) (some_is j i rest) (not-true (is_own m cpu j) other)

withdraws_here_fits : (m : Machine) (cpu i k : ℕ) (cause : Cause) → Fits m cpu 1 1 (withdraws_here m cpu i k cause)
withdraws_here_fits m cpu i k cause x h =
    cond_keeps (HasRoom m cpu 0 0) (waits_here x.local i k) _ _ (λ yes. refuses_fits m cpu (refusal_of cause) i x h)
    (λ no. at_end h)

handled_fits : (m : Machine) (cpu : ℕ) (content : Content) (x y : Work) → HasRoom m cpu 3 2 x → handled m cpu content x ≡ Some y →
    HasRoom m cpu 0 0 y
handled_fits m cpu (SendLetter name receiver message zero_timeout) x y h is =
    bind_then (own_place m cpu receiver) _ y is λ r _ is.
    bind_then (foreign_place m cpu name.thread) _ y is λ i _ is.
    guard_then (is_none (thread x.local i).send) _ y is λ _ is.
    guard_then (same_id message.actual name.thread) _ y is λ _ is.
    guard_then (is_declared m message.shown) _ y is λ _ is.
    let z : Work = x ▷ does (changes i (stands_in name.k (stand_in receiver message zero_timeout))) in
    is_of m cpu _ y is (arrives_fits m cpu r i z (with_local (less (omega arith) (omega arith) h)))
handled_fits m cpu (DoneLetter name result) x y h is =
    bind_then (own_place m cpu name.thread) _ y is λ i _ is.
    guard_then (is_some (split_place m cpu x.local i)) _ y is λ _ is.
    guard_then ((thread x.local i).context.begun == name.k) _ y is λ _ is.
    is_of m cpu _ y is (with_local (at_end h))
handled_fits m cpu (WithdrawLetter name receiver cause) x y h is =
    bind_then (own_place m cpu receiver) _ y is λ r _ is.
    bind_then (foreign_place m cpu name.thread) _ y is λ i _ is.
    is_of m cpu _ y is (withdraws_here_fits m cpu i name.k cause x (less (omega arith) (omega arith) h))
handled_fits m cpu (GoneLetter id) x y h is =
    bind_then (foreign_place m cpu id) _ y is λ i _ is.
    is_of m cpu _ y is (with_local (at_end h))
handled_fits m cpu (OrderLetter caller target what) x y h is =
    bind_then (own_place m cpu target) _ y is λ j _ is.
    bind_then (foreign_place m cpu caller) _ y is λ i foreign is.
    let elsewhere = home_elsewhere m cpu i (foreign_is m cpu caller i foreign) in
    let obeyed = obeys_fits m cpu caller what j 1 x (less (omega arith) (omega arith) h) in
    is_of m cpu _ y is (posts_fits _ (OrderDoneLetter caller) elsewhere obeyed)
handled_fits m cpu (OrderDoneLetter caller) x y h is =
    bind_then (own_place m cpu caller) _ y is λ i _ is.
    guard_then (is_deleted (thread x.local i).phase || is_ordering (thread x.local i).phase) _ y is λ _ is.
    is_of m cpu _ y is (with_local (at_end h))
handled_fits m cpu (RetargetLetter o) x y h is =
    guard_then m.retargeting _ y is λ _ is.
    bind_then (own_place m cpu o.originator) _ y is λ j _ is.
    guard_then (is_declared m o.old_partner) _ y is λ _ is.
    guard_then (is_some (foreign_place m cpu o.new_partner)) _ y is λ _ is.
    is_of m cpu _ y is (retargets_fits m cpu o (Some j) x (less (omega arith) (omega arith) h))

-- any event

work_fits : (m : Machine) (cpu : ℕ) (l : Local) (event : LocalEvent) (x : Work) → work_of m cpu l event ≡ Some x → HasRoom m cpu 0 0 x
work_fits m cpu l (Handled from letter) x is = handled_fits m cpu letter.content _ x (opened_fits m cpu letter.stamp l) is
work_fits m cpu l Turned x is = turn_fits m cpu l x is
work_fits m cpu l (Ticked clock) x is = advance_fits m cpu clock l x is

-- A letter goes to another processor.
pub no_letter_stays : (m : Machine) (cpu : ℕ) (l : Local) (event : LocalEvent) (x : Work) → work_of m cpu l event ≡ Some x →
    AllByRecursion (λ p. p.0 ≢ cpu) x.letters
no_letter_stays m cpu l event x is =
    all-map (λ (p : ℕ × Letter). IsElsewhere m cpu p.0) (λ (p : ℕ × Letter). p.0 ≢ cpu) (λ p elsewhere. elsewhere.1) x.letters
    (work_fits m cpu l event x is).goals

-- Of a machine as a text declares it, it goes to another processor of the machine.
pub letters_go_elsewhere : (m : Machine) (cpu : ℕ) (l : Local) (event : LocalEvent) (x : Work) → IsMachine m → cpu < m.cpus →
    work_of m cpu l event ≡ Some x → AllByRecursion (λ p. (p.0 < m.cpus) × (p.0 ≢ cpu)) x.letters
letters_go_elsewhere m cpu l event x machine lt is =
    all-map (λ (p : ℕ × Letter). IsElsewhere m cpu p.0) (λ (p : ℕ × Letter). (p.0 < m.cpus) × (p.0 ≢ cpu))
    (λ p elsewhere. (elsewhere.0 (all_homed m cpu machine lt), elsewhere.1)) x.letters (work_fits m cpu l event x is).goals

pub at_most_two_letters : (m : Machine) (cpu : ℕ) (l : Local) (event : LocalEvent) (x : Work) → IsMachine m → cpu < m.cpus →
    work_of m cpu l event ≡ Some x → length x.letters ≤ 2
at_most_two_letters m cpu l event x machine lt is = let h = work_fits m cpu l event x is in omega (arith, h.of_letters)

pub at_most_three_steps : (m : Machine) (cpu : ℕ) (l : Local) (event : LocalEvent) (x : Work) →
    work_of m cpu l event ≡ Some x → length x.steps ≤ 3
at_most_three_steps m cpu l event x is = let h = work_fits m cpu l event x is in omega (arith, h.of_steps)
