-- No turn changes its processor's clock, so turns one after the other leave it.
use Rattle.std.proofs.Common.{◌≡◌, ℕ, true, Option, Some, None, List, [], ◌∷◌, refl, sym, ap, ◌∙◌}
use Rattle.std.specs.Prelude.{is_some, ◌==◌, ◌||◌, is_none}
use Rattle.std.specs.List.{AllByRecursion}
use Rattle.std.specs.Option.{option_map}
use Rattle.l4_model.specs.Machine.{Machine, is_declared, place_of}
use Rattle.l4_model.specs.Words.{same_id}
use Rattle.l4_model.specs.World.{receive_now, is_deleted}
use Rattle.l4_model.specs.Conditions.{act_of}
use Rattle.l4_model.proofs.Chains.{bind_then, guard_then, some_is, cond_keeps}
use Rattle.l4_core_model.specs.Plain as plain
use Rattle.l4_core_model.specs.Letters.{Content, SendLetter, DoneLetter, WithdrawLetter, GoneLetter, OrderLetter, OrderDoneLetter, RetargetLetter}
use Rattle.l4_core_model.specs.Letters.{refusal_of, Cause, ByTimeout, Dropped, Nobody, Cancelled, TimedOut}
use Rattle.l4_core_model.specs.Local.{Local, held, thread, relists, keeps_beside}
use Rattle.l4_core_model.specs.Acts.{Work, ◌▷◌, does, split_place}
use Rattle.l4_core_model.specs.Turns.{Duty, DropsOwn, RefusesFirst, TellsGone, CancelsOwn, CancelsReceive, DeliversFirst, ClosesReceive, RefusesZero, Retargets}
use Rattle.l4_core_model.specs.Turns.{Choice, ByDuty, ByDue, ByReady, choice, does_duty, times_out, does_choice, opened, turn}
use Rattle.l4_core_model.specs.Mail.{own_place, foreign_place, waits_here, is_ordering, withdraws_here, handled}
use Rattle.l4_merge.specs.Transitions.{LocalEvent, Handled, Turned, Ticked, is_turn, work_of, Transition, Lead}
use Rattle.l4_merge.specs.LocalTraces.{LocalTrace, HasTurned}
use Rattle.l4_merge.proofs.ClocksOfActs.{HasClock, KeepsClock, refuses_clock, delivers_clock, arrives_clock, withdraws_clock, obeys_clock, acts_clock, retargets_clock}

-- What has the value of a chain is what the chain ends in.
is_of : (clock : ℕ) (y x : Work) → HasClock clock y → Some y ≡ Some x → HasClock clock x
is_of clock y x h is = ap (λ (x : Work). x.local.clock) (sym (some_is y x is)) ∙ h

-- the core's turn

does_duty_clock : (m : Machine) (cpu i : ℕ) (duty : Duty) → KeepsClock (does_duty m cpu i duty)
does_duty_clock m cpu i (Retargets o) x = retargets_clock o (place_of m o.originator) (x ▷ does (keeps_beside i None))
does_duty_clock m cpu i DropsOwn x = refuses_clock m cpu Dropped i x
does_duty_clock m cpu i (RefusesFirst sender) x = refuses_clock m cpu Nobody sender x
does_duty_clock m cpu i (TellsGone to) x = refl
does_duty_clock m cpu i CancelsOwn x = refuses_clock m cpu Cancelled i x
does_duty_clock m cpu i CancelsReceive x = refl
does_duty_clock m cpu i (DeliversFirst sender) x = delivers_clock m cpu i sender x
does_duty_clock m cpu i ClosesReceive x = refl
does_duty_clock m cpu i (RefusesZero sender) x = refuses_clock m cpu TimedOut sender x

times_out_clock : (m : Machine) (cpu i : ℕ) → KeepsClock (times_out m cpu i)
times_out_clock m cpu i x =
    cond_keeps (HasClock x.local.clock) (is_some (receive_now (thread x.local i).phase)) _ _ (λ yes. refl)
    (λ no. cond_keeps (HasClock x.local.clock) (plain.is_queued x.local.lists i) _ _ (λ yes. refuses_clock m cpu TimedOut i x)
    (λ no. withdraws_clock m ByTimeout i (split_place m cpu x.local i) x))

does_choice_clock : (m : Machine) (cpu : ℕ) (c : Choice) → KeepsClock (does_choice m cpu c)
does_choice_clock m cpu (ByDuty i duty) x = does_duty_clock m cpu i duty x
does_choice_clock m cpu (ByDue i) x = times_out_clock m cpu i (x ▷ does (relists plain.popped_due))
does_choice_clock m cpu (ByReady i) x = acts_clock m cpu i (act_of m (held m x.local i)) (x ▷ does (relists plain.popped))

turn_clock : (m : Machine) (cpu : ℕ) (l : Local) (x : Work) → turn m cpu l ≡ Some x → HasClock l.clock x
turn_clock m cpu l x h = by (choice m cpu l) h
  where
    by : (c : Option Choice) → option_map (λ c. does_choice m cpu c (opened 0 l)) c ≡ Some x → HasClock l.clock x
    by None h = cc
    by (Some c) h = is_of _ _ x (does_choice_clock m cpu c (opened 0 l)) h

-- a letter

withdraws_here_clock : (m : Machine) (cpu i k : ℕ) (cause : Cause) → KeepsClock (withdraws_here m cpu i k cause)
withdraws_here_clock m cpu i k cause x =
    cond_keeps (HasClock x.local.clock) (waits_here x.local i k) _ _ (λ yes. refuses_clock m cpu (refusal_of cause) i x) (λ no. refl)

handled_clock : (m : Machine) (cpu : ℕ) (content : Content) (x y : Work) → handled m cpu content x ≡ Some y → HasClock x.local.clock y
handled_clock m cpu (SendLetter name receiver message zero_timeout) x y is =
    bind_then (own_place m cpu receiver) _ y is λ r _ is.
    bind_then (foreign_place m cpu name.thread) _ y is λ i _ is.
    guard_then (is_none (thread x.local i).send) _ y is λ _ is.
    guard_then (same_id message.actual name.thread) _ y is λ _ is.
    guard_then (is_declared m message.shown) _ y is λ _ is.
    is_of x.local.clock _ y (arrives_clock m cpu r i _) is
handled_clock m cpu (DoneLetter name result) x y is =
    bind_then (own_place m cpu name.thread) _ y is λ i _ is.
    guard_then (is_some (split_place m cpu x.local i)) _ y is λ _ is.
    guard_then ((thread x.local i).context.begun == name.k) _ y is λ _ is.
    is_of x.local.clock _ y refl is
handled_clock m cpu (WithdrawLetter name receiver cause) x y is =
    bind_then (own_place m cpu receiver) _ y is λ r _ is.
    bind_then (foreign_place m cpu name.thread) _ y is λ i _ is.
    is_of x.local.clock _ y (withdraws_here_clock m cpu i name.k cause x) is
handled_clock m cpu (GoneLetter id) x y is =
    bind_then (foreign_place m cpu id) _ y is λ i _ is.
    is_of x.local.clock _ y refl is
handled_clock m cpu (OrderLetter caller target what) x y is =
    bind_then (own_place m cpu target) _ y is λ j _ is.
    bind_then (foreign_place m cpu caller) _ y is λ i _ is.
    is_of x.local.clock _ y (obeys_clock m cpu caller what j x) is
handled_clock m cpu (OrderDoneLetter caller) x y is =
    bind_then (own_place m cpu caller) _ y is λ i _ is.
    guard_then (is_deleted (thread x.local i).phase || is_ordering (thread x.local i).phase) _ y is λ _ is.
    is_of x.local.clock _ y refl is
handled_clock m cpu (RetargetLetter o) x y is =
    guard_then m.retargeting _ y is λ _ is.
    bind_then (own_place m cpu o.originator) _ y is λ j _ is.
    guard_then (is_declared m o.old_partner) _ y is λ _ is.
    guard_then (is_some (foreign_place m cpu o.new_partner)) _ y is λ _ is.
    is_of x.local.clock _ y refl is

-- any turn

work_clock : (m : Machine) (cpu : ℕ) (l : Local) (event : LocalEvent) (x : Work) → is_turn event ≡ true → work_of m cpu l event ≡ Some x → HasClock l.clock x
work_clock m cpu l (Handled from letter) x turns is = handled_clock m cpu letter.content (opened letter.stamp l) x is
work_clock m cpu l Turned x turns is = turn_clock m cpu l x is
work_clock m cpu l (Ticked clock) x turns is = cc

-- turns one after the other

lead_clock : (m : Machine) (cpu : ℕ) (l now : Local) (ds : List Transition) → AllByRecursion (λ d. is_turn d.event ≡ true) ds → Lead m cpu l ds now →
    now.clock ≡ l.clock
lead_clock m cpu l now [] turns lead = ap (λ (l : Local). l.clock) (sym lead)
lead_clock m cpu l now (d ∷ ds) turns lead =
    lead_clock m cpu d.work.local now ds turns.1 lead.1 ∙ work_clock m cpu l d.event d.work turns.0 lead.0.work

pub turned_clock : (m : Machine) (cpu : ℕ) (old new : LocalTrace) → HasTurned m cpu old new → new.local.clock ≡ old.local.clock
turned_clock m cpu old new turned = lead_clock m cpu old.local new.local turned.worked.transitions turned.turns turned.worked.are.lead
