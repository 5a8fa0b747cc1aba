-- What is promised is kept by a duty, a due timeout and an instruction.
use Rattle.l4_refines.proofs.Promises.Retargets.{retargets_where}
use Rattle.std.proofs.Common.{◌≡◌, ℕ, ◌<◌, true, false, Option, Some, None, List, [], ◌∷◌, refl, ap, sym, ◌∙◌, subst}
use Rattle.std.specs.Prelude.{is_some}
use Rattle.l4_model.specs.Machine.{Machine, is_place, place_of}
use Rattle.l4_model.specs.World.{Send, Phase, Ready, Sending, Receiving, Ordering, Ended, Deleted, receive_now}
use Rattle.l4_model.specs.Rules.{TimeOver, NobodyThere, CancelAsked}
use Rattle.l4_model.specs.Steps.{SendTimeout}
use Rattle.l4_model.proofs.Chains.{cond_keeps}
use Rattle.l4_core_model.specs.Plain as plain
use Rattle.l4_core_model.specs.Letters.{TimedOut, Nobody, Cancelled, Dropped, Refused, ByTimeout}
use Rattle.l4_core_model.specs.Local.{Local, is_own, thread, relists, armed_period, keeps_beside}
use Rattle.l4_core_model.specs.Acts.{Work, ◌▷◌, tells_send, does}
use Rattle.l4_core_model.specs.Turns.{Duty, DropsOwn, RefusesFirst, TellsGone, CancelsOwn, CancelsReceive, DeliversFirst, ClosesReceive, RefusesZero, does_duty, times_out, opened, clock_is, Retargets}
use Rattle.l4_core_model.proofs.Changed.{same_nat}
use Rattle.l4_core_model.proofs.Apart.{apart}
use Rattle.l4_refines.proofs.Turns.Choices.{IsDuty, in_some_receive}
use Rattle.l4_refines.proofs.Relation.Views.{Scene, kept, home, amid}
use Rattle.l4_refines.proofs.Frames.Going.{opened_scene}
use Rattle.l4_refines.proofs.Turns.Timing.{popped_spares}
use Rattle.l4_refines.proofs.Promises.Promised.{IsSplitSend, IsArmedUnlessSplit, Promised}
use Rattle.l4_refines.proofs.Promises.Frames.{leaves_one}
use Rattle.l4_refines.proofs.Promises.Locals.{same_steady, IsHarmless, local_keeps}
use Rattle.l4_refines.proofs.Promises.Phases.{receiving_wishless}
use Rattle.l4_refines.proofs.Promises.Acts.{StaysPromised, ends_here, refuses_keeps, delivers_keeps, fails_keeps, beside_keeps}
use Rattle.l4_refines.proofs.Promises.Orders.{withdraws_keeps}
use Rattle.l4_refines.proofs.Promises.Telling.{tells_keeps}

-- The stamp or the clock alone changes.
same_harmless : (m : Machine) (cpu : ℕ) (except : List ℕ) (l : Local) (stamp clock : ℕ) → IsHarmless m cpu except l (record l { stamp = stamp; clock = clock })
same_harmless m cpu except l stamp clock = record {
  threads = refl;
  told_ones = refl;
  told = λ i. refl;
  calm = λ i lt here h. h;
  steady = λ i lt here out. record { armed = λ h. h; ending = λ send has ending. (has, (ending, refl)) };
  away = λ i lt away h. h;
}

-- An event opens.
pub opened_keeps : (m : Machine) (cpu stamp : ℕ) (except : List ℕ) (s : Scene) → cpu < m.cpus → Promised m except s →
    Promised m except (amid cpu s (opened stamp (s.locals cpu)))
opened_keeps m cpu stamp except s processor p =
    local_keeps m cpu except s (record { local = s.locals cpu; steps = []; letters = [] }) (λ l. (opened stamp l).local) processor
    (same_harmless m cpu except (s.locals cpu) (opened stamp (s.locals cpu)).local.stamp (s.locals cpu).clock)
    (subst (Promised m except) (opened_scene cpu s) p)

-- A tick.
pub ticks_keeps : (m : Machine) (cpu to : ℕ) (s : Scene) (x : Work) → cpu < m.cpus → StaysPromised m cpu s x → StaysPromised m cpu s (x ▷ does (clock_is to))
ticks_keeps m cpu to s x processor p = local_keeps m cpu [] s x (clock_is to) processor (same_harmless m cpu [] x.local x.local.stamp to) p

-- A deadline is past: a receive phase fails, a send that waits here is refused, and a split one is withdrawn.

-- A send that is not split stands in a list here.
abbrev pub IsListedHere : Machine → ℕ → Local → Type 0
IsListedHere m i l = (send : Send) → (thread l i).send ≡ Some send → (IsSplitSend m i (Some send) → ⊥) → plain.is_queued l.lists i ≡ true

armed_unless : (m : Machine) (i : ℕ) (l : Local) → is_some (receive_now (thread l i).phase) ≡ false → plain.is_queued l.lists i ≡ false → IsListedHere m i l →
    IsArmedUnlessSplit m i (kept l i)
armed_unless m i l none unqueued listed other empty = by (thread l i).phase none
  where
    sent : (o : Option Send) → (thread l i).send ≡ o → armed_period Sending o ≡ None
    sent None is = refl
    sent (Some send) is = let queued = listed send is (λ split. other (subst (IsSplitSend m i) (sym is) split)) in let both = sym unqueued ∙ queued in cc

    by : (p : Phase) → is_some (receive_now p) ≡ false → armed_period p (thread l i).send ≡ None
    by Ready none = refl
    by Sending none = sent (thread l i).send refl
    by (Receiving receive since) none = cc
    by Ordering none = refl
    by Ended none = refl
    by Deleted none = refl

times_out_keeps : (m : Machine) (cpu i : ℕ) (s : Scene) (x : Work) → cpu < m.cpus → home m i ≡ cpu → IsListedHere m i x.local →
    Promised m (i ∷ []) (amid cpu s x) → StaysPromised m cpu s (times_out m cpu i x)
times_out_keeps m cpu i s x processor here listed p =
    cond_keeps (StaysPromised m cpu s) (is_some (receive_now (thread x.local i).phase)) _ _
    (λ receiving. fails_keeps m cpu i TimeOver s x processor here
    (let r = in_some_receive x.local i receiving in receiving_wishless (thread x.local i).phase r.0 r.1.since r.1.is) p)
    (λ other. cond_keeps (StaysPromised m cpu s) (plain.is_queued x.local.lists i) _ _
    (λ queued. cond_keeps (StaysPromised m cpu s) (is_own m cpu i) _ _
    (λ own. ends_here m cpu i (Refused TimedOut) s (x ▷ tells_send m SendTimeout i) processor here p)
    (λ away. absurd (apart (home m i) cpu away here)))
    (λ split. withdraws_keeps m cpu i ByTimeout s x here (λ lt. armed_unless m i x.local other split listed) p))

-- A due timeout.
pub due_keeps : (m : Machine) (cpu : ℕ) (s : Scene) (x : Work) (a : ℕ × ℕ) (others : List (ℕ × ℕ)) → cpu < m.cpus → home m a.1 ≡ cpu →
    IsListedHere m a.1 x.local → x.local.lists.armed ≡ a ∷ others → StaysPromised m cpu s x →
    StaysPromised m cpu s (x ▷ does (relists plain.popped_due) ▷ times_out m cpu a.1)
due_keeps m cpu s x a others processor here listed at p =
    times_out_keeps m cpu a.1 s (x ▷ does (relists plain.popped_due)) processor here listed
    (local_keeps m cpu (a.1 ∷ []) s x (relists plain.popped_due) processor (record {
      threads = refl;
      told_ones = refl;
      told = λ i. refl;
      calm = λ i lt home_i h. h;
      steady = λ i lt home_i out.
          same_steady m i (kept x.local i) (kept (relists plain.popped_due x.local) i) ((popped_spares m x.local a others at).kept i out);
      away = λ i lt away h. h;
    }) (leaves_one m a.1 [] (amid cpu s x) p))

-- A duty
pub duty_keeps : (m : Machine) (cpu i : ℕ) (s : Scene) (x : Work) (duty : Duty) → cpu < m.cpus → home m i ≡ cpu → StaysPromised m cpu s x →
    IsDuty m cpu x.local i duty → StaysPromised m cpu s (does_duty m cpu i duty x)
duty_keeps m cpu i s x (Retargets o) processor here p d =
    retargets_where m cpu o (place_of m o.originator) s (x ▷ does (keeps_beside i None)) processor (beside_keeps m cpu i None s x processor p)
duty_keeps m cpu i s x DropsOwn processor here p d = refuses_keeps m cpu i Dropped s x processor p
duty_keeps m cpu i s x (RefusesFirst sender) processor here p d = refuses_keeps m cpu sender Nobody s x processor p
duty_keeps m cpu i s x (TellsGone to) processor here p d = tells_keeps m cpu to i s x processor here d.1 p
duty_keeps m cpu i s x CancelsOwn processor here p d = refuses_keeps m cpu i Cancelled s x processor p
duty_keeps m cpu i s x CancelsReceive processor here p d =
    fails_keeps m cpu i CancelAsked s x processor here (receiving_wishless (thread x.local i).phase d.0 d.1.0.since d.1.0.is)
    (leaves_one m i [] (amid cpu s x) p)
duty_keeps m cpu i s x (DeliversFirst sender) processor here p d =
    delivers_keeps m cpu i sender s x processor here (ap (λ o. is_place o sender) d ∙ same_nat sender) p
duty_keeps m cpu i s x ClosesReceive processor here p d =
    fails_keeps m cpu i NobodyThere s x processor here (receiving_wishless (thread x.local i).phase d.0 d.1.0.since d.1.0.is)
    (leaves_one m i [] (amid cpu s x) p)
duty_keeps m cpu i s x (RefusesZero sender) processor here p d = refuses_keeps m cpu sender TimedOut s x processor p
