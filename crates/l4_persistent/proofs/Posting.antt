-- What an event tells and posts: it begins sends of its processor's threads alone, tells of their deletion alone, and
-- withdraws only where one of their sends goes.
use Rattle.l4_model.specs.Options.{if_some}
use Rattle.std.proofs.Common.{◌≡◌, ℕ, zero, suc, ◌+◌, ◌≤◌, Bool, cond, true, false, Option, Some, None, List, [], ◌∷◌, refl, ap, sym, ◌∙◌, subst, arith}
use Rattle.std.specs.Prelude.{is_some, is_none, nat_lt, ◌==◌, ◌||◌, slice_index_or}
use Rattle.std.specs.List.{AllByRecursion}
use Rattle.std.proofs.lemmas.Bool.{eqb-true}
use Rattle.l4_model.specs.Words.{GlobalId, same_id}
use Rattle.l4_model.specs.Machine.{Machine, OrderKind, CancelSend, CancelReceive, CancelBoth, Delete, place_of, is_declared, is_place}
use Rattle.l4_model.specs.World.{Send, PendingOrder, Message, Thread, Owed, changed, is_deleted, receive_now, opening_thread}
use Rattle.l4_model.specs.Effects.{begins, orders, asked}
use Rattle.l4_model.specs.Rules.{Act, RunsAlone, Sends, Receives, Orders, received_tag, is_cross, owed_by}
use Rattle.l4_model.specs.Steps.{Step, OfSend, Begun, Queue, Order, Obey}
use Rattle.l4_model.specs.Conditions.{act_of}
use Rattle.l4_model.proofs.Chains.{bind_then, guard_then, some_is, cond_keeps}
use Rattle.l4_core_model.specs.Plain as plain
use Rattle.l4_core_model.specs.Letters.{Letter, Content, SendLetter, DoneLetter, WithdrawLetter, GoneLetter, OrderLetter, OrderDoneLetter, RetargetLetter, Refusal, TimedOut, Nobody, Cancelled, Dropped, Result, Delivered, Refused, Cause, ByTimeout, refusal_step, refusal_of, cause_of}
use Rattle.l4_core_model.specs.Local.{Local, declared, is_own, thread, held, destination_place, last_name, changes, relists, comes_to, keeps_beside, stands_in, stand_in}
use Rattle.l4_core_model.specs.Acts.{Work, ◌▷◌, tells, does, posts, tells_send, decides_send, refuses, delivers, delivers_send, delivers_message, first_acceptable, zero_refusable, entry, queues_send, arrives, send_goes_to, begins_send, split_place, split_receiver, withdraws, asks, withdraws_for, obeys, order_goes_to, gives_order, acts, owes, owes_for, retargets}
use Rattle.l4_core_model.specs.Turns.{Duty, DropsOwn, RefusesFirst, TellsGone, CancelsOwn, CancelsReceive, DeliversFirst, ClosesReceive, RefusesZero, Retargets, does_duty, has_told, times_out, Choice, ByDuty, ByDue, ByReady, does_choice, opened, next_untold}
use Rattle.l4_core_model.specs.Mail.{own_place, foreign_place, is_ordering, waits_here, handled}
use Rattle.l4_core_model.specs.Runs.{IsMachine}
use Rattle.l4_core_model.proofs.Changed.{same_nat}
use Rattle.l4_merge.specs.Transitions.{LocalEvent, Handled, Turned, Ticked, work_of}
use Rattle.l4_refines.proofs.Events.{advance_then}
use Rattle.l4_refines.proofs.Lists.{all_join}
use Rattle.l4_refines.proofs.Relation.Views.{home}
use Rattle.l4_refines.proofs.Letters.Noticing.{split_cases}
use Rattle.l4_refines.proofs.Letters.Receiving.{own_place_is}
use Rattle.l4_refines.proofs.Turns.Choices.{IsOwn, IsDuty, IsChoice, turn_then}
use Rattle.l4_persistent.specs.Inner.Posts.{sends_to, told_at}

-- Of a letter to a processor and of a step of an event of `cpu`: a withdrawal goes elsewhere than to `to`; who is told
-- to be gone, and who begins a send, is a thread of `cpu`.

abbrev pub IsOf : Machine → (cpu : ℕ) → GlobalId → Type 0
IsOf m cpu id = (i : ℕ) → place_of m id ≡ Some i → home m i ≡ cpu

-- No processor hears twice of a deletion.
abbrev pub IsUntold : Machine → (cpu : ℕ) → Local → (goal : ℕ) → GlobalId → Type 0
IsUntold m cpu before goal id = (i : ℕ) → place_of m id ≡ Some i → (home m i ≡ cpu) × (told_at before i ≤ goal)

abbrev pub IsFineContent : Machine → (cpu to : ℕ) → Local → (goal : ℕ) → Content → Type 0
IsFineContent m cpu to before goal (WithdrawLetter s receiver cause) = goal ≡ to → ⊥
IsFineContent m cpu to before goal (GoneLetter id) = IsUntold m cpu before goal id
IsFineContent m cpu to before goal content = Unit {0}

abbrev pub IsFineStep : Machine → (cpu : ℕ) → Step → Type 0
IsFineStep m cpu (OfSend Begun s) = IsOf m cpu s.thread
IsFineStep m cpu step = Unit {0}

pub record IsFine (m : Machine) (cpu to : ℕ) (before : Local) (x : Work) : Type 0 where
  pub letters : AllByRecursion (λ (p : ℕ × Letter). IsFineContent m cpu to before p.0 p.1.content) x.letters
  pub steps : AllByRecursion (IsFineStep m cpu) x.steps
  pub told : (i : ℕ) → told_at before i ≤ told_at x.local i

-- No send of a thread of the processor goes to one of `to`.
abbrev pub SendsElsewhere : Machine → (cpu to : ℕ) → Local → Type 0
SendsElsewhere m cpu to l = (j : ℕ) → home m j ≡ cpu → sends_to m to (thread l j).send ≡ false

-- Who is first among the ready and the armed ones is of the processor.
pub record HasOwnFirst (m : Machine) (cpu : ℕ) (l : Local) : Type 0 where
  pub ready : (i : ℕ) (others : List ℕ) → l.lists.ready ≡ i ∷ others → IsOwn m cpu i
  pub armed : (deadline i : ℕ) (others : List (ℕ × ℕ)) → l.lists.armed ≡ (deadline, i) ∷ others → IsOwn m cpu i

-- A change of one thread that leaves its send leaves all sends.
same_send : (f : Thread → Thread) → ((t : Thread) → (f t).send ≡ t.send) → (ts : List Thread) (i j : ℕ) →
    (slice_index_or (changed f ts i) j opening_thread).send ≡ (slice_index_or ts j opening_thread).send
same_send f same [] i j = refl
same_send f same (t ∷ ts) zero zero = same t
same_send f same (t ∷ ts) zero (suc j) = refl
same_send f same (t ∷ ts) (suc i) zero = refl
same_send f same (t ∷ ts) (suc i) (suc j) = same_send f same ts i j

send-asked : (what : OrderKind) (t : Thread) → (asked what t).send ≡ t.send
send-asked CancelSend t = refl
send-asked CancelReceive t = refl
send-asked CancelBoth t = refl
send-asked Delete t = refl

told-asks : (what : OrderKind) (j : ℕ) (l : Local) → (asks what j l).told ≡ l.told
told-asks CancelSend j l = refl
told-asks CancelReceive j l = refl
told-asks CancelBoth j l = refl
told-asks Delete j l = refl

-- Who is told next was not told before.
not_before : (m : Machine) (cpu told goal : ℕ) → next_untold m cpu told ≡ Some goal → told ≤ goal
not_before m cpu told goal h = by (told == cpu) h
  where
    within : (n : ℕ) (b : Bool) → cond b (Some n) None ≡ Some goal → n ≡ goal
    within n true h = some_is n goal h
    within n false h = cc

    by : (b : Bool) → cond (nat_lt (cond b (told + 1) told) m.cpus) (Some (cond b (told + 1) told)) None ≡ Some goal →
        told ≤ goal
    by true h = let same = within (told + 1) (nat_lt (told + 1) m.cpus) h in omega (arith, same)
    by false h = let same = within told (nat_lt told m.cpus) h in omega (arith, same)

told_rises : (ns : List ℕ) (i j n : ℕ) → slice_index_or ns i 0 ≤ n →
    slice_index_or ns j 0 ≤ slice_index_or (changed (λ k. n) ns i) j 0
told_rises [] i j n le = omega arith
told_rises (x ∷ ns) zero zero n le = le
told_rises (x ∷ ns) zero (suc j) n le = omega arith
told_rises (x ∷ ns) (suc i) zero n le = omega arith
told_rises (x ∷ ns) (suc i) (suc j) n le = told_rises ns i j n le

module _ (m : Machine) (cpu to : ℕ) (machine : IsMachine m) (before : Local) where
  own_id : (i : ℕ) → IsOwn m cpu i → IsOf m cpu (declared m i).id
  own_id i own j at = let same : i ≡ j = some_is i j (sym (machine.placed i own.within)
      ∙ at) in subst (λ k. home m k ≡ cpu) same own.home

  told : (step : Step) (x : Work) → IsFineStep m cpu step → IsFine m cpu to before x →
      IsFine m cpu to before (tells step x)
  told step x fine h = record {
    letters = h.letters;
    steps = all_join (IsFineStep m cpu) x.steps (step ∷ []) h.steps
        (fine, tt);
    told = h.told;
  }

  posted : (goal : ℕ) (content : Content) (x : Work) → IsFineContent m cpu to before goal content →
      IsFine m cpu to before x →
      IsFine m cpu to before (posts goal content x)
  posted goal content x fine h = record {
    letters = all_join (λ (p : ℕ × Letter). IsFineContent m cpu to before p.0 p.1.content) x.letters
        ((goal, record { stamp = x.local.stamp; content = content }) ∷ []) h.letters (fine, tt);
    steps = h.steps;
    told = h.told;
  }

  kept : (l : Local) (x : Work) → l.told ≡ x.local.told → IsFine m cpu to before x →
      IsFine m cpu to before (record x { local = l })
  kept l x same h = record {
    letters = h.letters;
    steps = h.steps;
    told = λ i. subst (λ ns. told_at before i ≤ slice_index_or ns i 0) (sym same) (h.told i);
  }

  begun : (stamp : ℕ) → IsFine m cpu to before (opened stamp before)
  begun stamp = record { letters = tt; steps = tt; told = λ i. omega arith }

  -- Sends

  ends_fine : (result : Result) (i : ℕ) (x : Work) → IsFine m cpu to before x →
      IsFine m cpu to before (decides_send m cpu result i x)
  ends_fine result i x h = cond_keeps (IsFine m cpu to before) (is_own m cpu i) _ _
      (λ own. kept _ x refl h)
      (λ other. posted (declared m i).cpu (DoneLetter (last_name m x.local i) result) _ tt (kept _ x refl h))

  refusal_fine : (refusal : Refusal) (s : _) → IsFineStep m cpu (refusal_step refusal s)
  refusal_fine TimedOut s = tt
  refusal_fine Nobody s = tt
  refusal_fine Cancelled s = tt
  refusal_fine Dropped s = tt

  refuses_fine : (refusal : Refusal) (i : ℕ) (x : Work) → IsFine m cpu to before x →
      IsFine m cpu to before (refuses m cpu refusal i x)
  refuses_fine refusal i x h = ends_fine (Refused refusal) i _
      (told (refusal_step refusal (last_name m x.local i)) x (refusal_fine refusal (last_name m x.local i)) h)

  owes_fine : (r : ℕ) (o : Option Owed) (x : Work) → IsFine m cpu to before x →
      IsFine m cpu to before (owes_for m cpu r o x)
  owes_fine r None x h = h
  owes_fine r (Some o) x h = by (place_of m o.originator)
    where
      by : (q : Option ℕ) → IsFine m cpu to before (owes m cpu r o q x)
      by None = h
      by (Some j) = cond_keeps (IsFine m cpu to before) (is_own m cpu j) _ _ (λ own. kept _ x refl h)
          (λ other. posted (declared m j).cpu (RetargetLetter o) x tt h)

  message_fine : (r i : ℕ) (message : Message) (tag : ℕ) (x : Work) → IsFine m cpu to before x →
      IsFine m cpu to before (delivers_message m cpu r i message tag x)
  message_fine r i message tag x h =
      owes_fine r (owed_by m (last_name m x.local i) message (declared m r).id) _
      (ends_fine Delivered i _ (kept _ _ refl (told _ x tt h)))

  delivers_fine : (r i : ℕ) (x : Work) → IsFine m cpu to before x → IsFine m cpu to before (delivers m cpu r i x)
  delivers_fine r i x h = by (thread x.local i).send
    where
      by : (o : Option Send) → IsFine m cpu to before (delivers_send m cpu r i o x)
      by None = h
      by (Some send) = message_fine r i send.message (received_tag
          (is_cross m (declared m r).id send.message) send.message) x h

  queues_fine : (r i : ℕ) (o : Option Send) (x : Work) → IsFine m cpu to before x →
      IsFine m cpu to before (queues_send m cpu r i o x)
  queues_fine r i None x h = h
  queues_fine r i (Some send) x h =
      let y : Work = x ▷ tells_send m Queue i ▷ does (relists (plain.queued r (entry m r i send))) in
      let fine : IsFine m cpu to before y = kept _ _ refl (told _ x tt h) in
      cond_keeps (IsFine m cpu to before) (is_place (first_acceptable y.local r) i) _ _
      (λ first. delivers_fine r i y fine)
      (λ other. fine)

  arrives_fine : (r i : ℕ) (x : Work) → IsFine m cpu to before x → IsFine m cpu to before (arrives m cpu r i x)
  arrives_fine r i x h = cond_keeps (IsFine m cpu to before) (is_deleted (thread x.local r).phase) _ _
      (λ gone. refuses_fine Nobody i x h)
      (λ alive. cond_keeps (IsFine m cpu to before) (zero_refusable m (held m x.local r) (thread x.local i).send) _ _
      (λ zero. refuses_fine TimedOut i x h)
      (λ other. queues_fine r i (thread x.local i).send x h))

  begins_fine : (i : ℕ) (send : Send) (x : Work) → IsOwn m cpu i → IsFine m cpu to before x →
      IsFine m cpu to before (begins_send m cpu i send x)
  begins_fine i send x own h = by (destination_place m send.to)
    where
      y : Work
      y = x ▷ does (comes_to i (begins send)) ▷ tells_send m (OfSend Begun) i

      fine : IsFine m cpu to before y
      fine = told _ (x ▷ does (comes_to i (begins send))) (own_id i own) (kept _ x refl h)

      by : (o : Option ℕ) → IsFine m cpu to before (send_goes_to m cpu i send o y)
      by None = refuses_fine Nobody i y fine
      by (Some r) = cond_keeps (IsFine m cpu to before) (is_own m cpu r) _ _ (λ own. arrives_fine r i y fine)
          (λ other. posted _ _ y tt fine)

  -- A withdrawal follows its send.
  withdraws_fine : (cause : Cause) (j : ℕ) (x : Work) → home m j ≡ cpu → SendsElsewhere m cpu to x.local →
      IsFine m cpu to before x →
      IsFine m cpu to before (withdraws m cause j (split_place m cpu x.local j) x)
  withdraws_fine cause j x own elsewhere h = by (thread x.local j).send refl
    where
      by : (o : Option Send) → (thread x.local j).send ≡ o →
          IsFine m cpu to before (withdraws m cause j (split_receiver m cpu o) x)
      by None has = h
      by (Some send) has = split_cases m cpu send (λ o. IsFine m cpu to before (withdraws m cause j o x)) h
          (λ r goal away. posted (declared m r).cpu (WithdrawLetter (last_name m x.local j) (declared m r).id cause) x
          (λ there.
          let sends : sends_to m to (Some send) ≡ true = rw goal (ap (λ h. h == to) there ∙ same_nat to) in
          let none : sends_to m to (Some send) ≡ false = ap (sends_to m to) (sym has) ∙ elsewhere j own in
          cc) h)

  -- Orders

  obeys_fine : (caller : GlobalId) (what : OrderKind) (j : ℕ) (x : Work) → home m j ≡ cpu →
      SendsElsewhere m cpu to x.local → IsFine m cpu to before x →
      IsFine m cpu to before (obeys m cpu caller what j x)
  obeys_fine caller what j x own elsewhere h = cond_keeps (IsFine m cpu to before)
      (is_deleted (thread x.local j).phase) _ _
      (λ gone. kept _ _ (told-asks what j x.local) (told _ x tt h))
      (λ alive. by (cause_of what))
    where
      y : Work
      y = x ▷ tells (Obey caller) ▷ does (asks what j)

      fine : IsFine m cpu to before y
      fine = kept _ _ (told-asks what j x.local) (told (Obey caller) x tt h)

      same : (what : OrderKind) (i : ℕ) → (thread (asks what j x.local) i).send ≡ (thread x.local i).send
      same CancelSend i = same_send (asked CancelSend) (send-asked CancelSend) x.local.threads j i
      same CancelReceive i = same_send (asked CancelReceive) (send-asked CancelReceive) x.local.threads j i
      same CancelBoth i = same_send (asked CancelBoth) (send-asked CancelBoth) x.local.threads j i
      same Delete i = same_send (asked Delete) (send-asked Delete) x.local.threads j i

      by : (o : Option Cause) → IsFine m cpu to before (withdraws_for m cpu j o y)
      by None = fine
      by (Some cause) = withdraws_fine cause j y own (λ i here. ap (sends_to m to) (same what i)
          ∙ elsewhere i here) fine

  order_fine : (i : ℕ) (order : PendingOrder) (x : Work) → SendsElsewhere m cpu to x.local → IsFine m cpu to before x →
      IsFine m cpu to before (gives_order m cpu i order x)
  order_fine i order x elsewhere h = by (place_of m order.target)
    where
      y : Work
      y = x ▷ does (comes_to i (orders order)) ▷ tells (Order (declared m i).id order.target order.what)

      fine : IsFine m cpu to before y
      fine = told _ (x ▷ does (comes_to i (orders order))) tt (kept _ x refl h)

      still : SendsElsewhere m cpu to y.local
      still j own = ap (sends_to m to) (same_send (orders order) (λ t. refl) x.local.threads i j) ∙ elsewhere j own

      by : (o : Option ℕ) → IsFine m cpu to before (order_goes_to m cpu i order o y)
      by None = fine
      by (Some j) = cond_keeps (IsFine m cpu to before) (is_own m cpu j) _ _
          (λ own. kept _ _ refl (obeys_fine (declared m i).id order.what j y (eqb-true (home m j) cpu own) still fine))
          (λ other. posted _ _ y tt fine)

  -- A turn

  acts_fine : (i : ℕ) (a : Act) (x : Work) → IsOwn m cpu i → SendsElsewhere m cpu to x.local →
      IsFine m cpu to before x →
      IsFine m cpu to before (acts m cpu i a x)
  acts_fine i RunsAlone x own elsewhere h = kept _ _ refl (told _ x tt h)
  acts_fine i (Sends send) x own elsewhere h = begins_fine i send x own h
  acts_fine i (Receives receive) x own elsewhere h = kept _ _ refl (told _ x tt h)
  acts_fine i (Orders order) x own elsewhere h = order_fine i order x elsewhere h

  duty_fine : (i : ℕ) (d : Duty) → IsOwn m cpu i → IsDuty m cpu (opened 0 before).local i d →
      IsFine m cpu to before (does_duty m cpu i d (opened 0 before))
  duty_fine i (Retargets o) own is = by (place_of m o.originator)
    where
      x : Work
      x = opened 0 before

      by : (q : Option ℕ) → IsFine m cpu to before (x ▷ does (keeps_beside i None) ▷ if_some (retargets o) q)
      by None = kept _ x refl (begun 0)
      by (Some j) = kept _ _ refl (told _ (x ▷ does (keeps_beside i None)) tt (kept _ x refl (begun 0)))
  duty_fine i DropsOwn own is = refuses_fine Dropped i (opened 0 before) (begun 0)
  duty_fine i (RefusesFirst sender) own is = refuses_fine Nobody sender (opened 0 before) (begun 0)
  duty_fine i (TellsGone goal) own is =
      let later : told_at before i ≤ goal = not_before m cpu (told_at before i) goal is.1 in
      posted goal (GoneLetter (declared m i).id) (opened 0 before ▷ does (has_told goal i))
      (λ j at.
      let same : i ≡ j = some_is i j (sym (machine.placed i own.within) ∙ at) in
      (own_id i own j at, subst (λ k. told_at before k ≤ goal) same later))
      (record {
        letters = tt;
        steps = tt;
        told = λ j. told_rises before.told i j (goal + 1) (omega (arith, later));
      })
  duty_fine i CancelsOwn own is = refuses_fine Cancelled i (opened 0 before) (begun 0)
  duty_fine i CancelsReceive own is = kept _ _ refl (told _ (opened 0 before) tt (begun 0))
  duty_fine i (DeliversFirst sender) own is = delivers_fine i sender (opened 0 before) (begun 0)
  duty_fine i ClosesReceive own is = kept _ _ refl (told _ (opened 0 before) tt (begun 0))
  duty_fine i (RefusesZero sender) own is = refuses_fine TimedOut sender (opened 0 before) (begun 0)

  due_fine : (i : ℕ) (x : Work) → IsOwn m cpu i → SendsElsewhere m cpu to x.local → IsFine m cpu to before x →
      IsFine m cpu to before (times_out m cpu i x)
  due_fine i x own elsewhere h = cond_keeps (IsFine m cpu to before)
      (is_some (receive_now (thread x.local i).phase)) _ _
      (λ receiving. kept _ _ refl (told _ x tt h))
      (λ sending. cond_keeps (IsFine m cpu to before) (plain.is_queued x.local.lists i) _ _
      (λ queued. refuses_fine TimedOut i x h)
      (λ other. withdraws_fine ByTimeout i x own.home elsewhere h))

  choice_fine : (c : Choice) → HasOwnFirst m cpu before → SendsElsewhere m cpu to before → IsChoice m cpu before c →
      IsFine m cpu to before (does_choice m cpu c (opened 0 before))
  choice_fine (ByDuty i d) first elsewhere c = duty_fine i d c.0 c.1
  choice_fine (ByDue i) first elsewhere c =
      due_fine i (opened 0 before ▷ does (relists plain.popped_due)) (first.armed c.0 i c.1.0 c.1.1.0) elsewhere
      (kept _ _ refl (begun 0))
  choice_fine (ByReady i) first elsewhere c =
      acts_fine i (act_of m (held m before i)) (opened 0 before ▷ does (relists plain.popped))
      (first.ready i c.0 c.1.0) elsewhere (kept _ _ refl (begun 0))

  -- A letter

  handled_fine : (c : Content) (x y : Work) → SendsElsewhere m cpu to x.local → IsFine m cpu to before x →
      handled m cpu c x ≡ Some y → IsFine m cpu to before y
  handled_fine (SendLetter s receiver message zero_timeout) x y elsewhere h is =
      bind_then (own_place m cpu receiver) _ y is λ r own rest.
      bind_then (foreign_place m cpu s.thread) _ y rest λ i foreign rest.
      guard_then (is_none (thread x.local i).send) _ y rest λ none rest.
      guard_then (same_id message.actual s.thread) _ y rest λ actual rest.
      guard_then (is_declared m message.shown) _ y rest λ shown rest.
      subst (IsFine m cpu to before) (some_is _ y rest)
      (arrives_fine r i (x ▷ does (changes i (stands_in s.k (stand_in receiver message zero_timeout))))
      (kept _ x refl h))
  handled_fine (DoneLetter s result) x y elsewhere h is =
      bind_then (own_place m cpu s.thread) _ y is λ i own rest.
      guard_then (is_some (split_place m cpu x.local i)) _ y rest λ split rest.
      guard_then ((thread x.local i).context.begun == s.k) _ y rest λ number rest.
      subst (IsFine m cpu to before) (some_is _ y rest) (kept _ x refl h)
  handled_fine (WithdrawLetter s receiver cause) x y elsewhere h is =
      bind_then (own_place m cpu receiver) _ y is λ r own rest.
      bind_then (foreign_place m cpu s.thread) _ y rest λ i foreign rest.
      subst (IsFine m cpu to before) (some_is _ y rest)
      (cond_keeps (IsFine m cpu to before) (waits_here x.local i s.k) _ x
      (λ waits. refuses_fine (refusal_of cause) i x h)
      (λ late. h))
  handled_fine (GoneLetter id) x y elsewhere h is =
      bind_then (foreign_place m cpu id) _ y is λ i foreign rest.
      subst (IsFine m cpu to before) (some_is _ y rest) (kept _ x refl h)
  handled_fine (OrderLetter caller target what) x y elsewhere h is =
      bind_then (own_place m cpu target) _ y is λ j own rest.
      bind_then (foreign_place m cpu caller) _ y rest λ i foreign rest.
      subst (IsFine m cpu to before) (some_is _ y rest)
      (posted (declared m i).cpu (OrderDoneLetter caller) (x ▷ obeys m cpu caller what j) tt
      (obeys_fine caller what j x (own_place_is m cpu target j own).1 elsewhere h))
  handled_fine (OrderDoneLetter caller) x y elsewhere h is =
      bind_then (own_place m cpu caller) _ y is λ i own rest.
      guard_then (is_deleted (thread x.local i).phase || is_ordering (thread x.local i).phase) _ y rest λ calls rest.
      subst (IsFine m cpu to before) (some_is _ y rest) (kept _ x refl h)
  handled_fine (RetargetLetter o) x y elsewhere h is =
      guard_then m.retargeting _ y is λ profile rest.
      bind_then (own_place m cpu o.originator) _ y rest λ j own rest.
      guard_then (is_declared m o.old_partner) _ y rest λ old rest.
      guard_then (is_some (foreign_place m cpu o.new_partner)) _ y rest λ foreign rest.
      subst (IsFine m cpu to before) (some_is _ y rest) (kept _ _ refl (told _ x tt h))

  -- Any event
  pub work_fine : (event : LocalEvent) (x : Work) → HasOwnFirst m cpu before → SendsElsewhere m cpu to before →
      work_of m cpu before event ≡ Some x → IsFine m cpu to before x
  work_fine (Handled from letter) x first elsewhere is =
      handled_fine letter.content (opened letter.stamp before) x elsewhere (begun letter.stamp) is
  work_fine Turned x first elsewhere is =
      turn_then m cpu before x (IsFine m cpu to before) is λ c chosen. choice_fine c first elsewhere chosen
  work_fine (Ticked clock) x first elsewhere is =
      advance_then m cpu clock before x (IsFine m cpu to before) is λ above below. record {
        letters = tt;
        steps = (tt, tt);
        told = λ i. omega arith;
      }
