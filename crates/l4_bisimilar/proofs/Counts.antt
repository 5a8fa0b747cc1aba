-- What an event does to the counts of threads, and the numbers of the sends that its letters name.
use Rattle.std.proofs.Common.{◌≡◌, ℕ, zero, suc, ◌+◌, ◌≤◌, ◌<◌, Option, Some, None, List, [], ◌∷◌, length, map, refl, sym, ap, subst, ◌∙◌, arith}
use Rattle.std.specs.Prelude.{is_none, is_some, slice_index_or, ◌==◌, ◌||◌}
use Rattle.std.specs.List.{AllByRecursion}
use Rattle.std.proofs.lemmas.Bool.{eqb-true}
use Rattle.std.proofs.Math.ListN.{get_or-map}
use Rattle.l4_model.specs.Options.{if_some}
use Rattle.l4_model.specs.Words.{GlobalId, same_id}
use Rattle.l4_model.specs.Machine.{Machine, Instr, Run, Ipc, Ask, End, OrderKind, CancelSend, CancelReceive, CancelBoth, Delete, is_declared, is_place, place_of}
use Rattle.l4_model.specs.World.{PendingOrder, Message, Owed, Phase, Ready, Sending, Receiving, Ordering, Ended, Deleted, Receive, Send, Thread, changed, is_alive, is_deleted, opening_thread, receive_now}
use Rattle.l4_model.specs.Rules.{Act, RunsAlone, Sends, Receives, Orders, is_cross, owed_by, received_tag}
use Rattle.l4_model.specs.Steps.{Begin, Deliver, Local as RanLocal, Obey, Order, Queue, Retarget, Wait}
use Rattle.l4_model.specs.Conditions.{act_of, instruction, is_zero}
use Rattle.l4_model.specs.Effects.{asked, begins, decided, fails, goes_on, obeyed, orders, receives, runs, turns, turns_in, waits}
use Rattle.l4_model.proofs.Chains.{bind_then, cond_both, cond_keeps, guard_then, map-changed, map-changed_same, some_is}
use Rattle.l4_core_model.specs.Plain as plain
use Rattle.l4_core_model.specs.Letters.{ByTimeout, Cancelled, Cause, Content, Delivered, DoneLetter, Dropped, GoneLetter, Letter, Nobody, OrderDoneLetter, OrderLetter, Refusal, Refused, Result, RetargetLetter, SendLetter, TimedOut, WithdrawLetter, cause_of, refusal_of, refusal_step}
use Rattle.l4_core_model.specs.Local.{Local, after_decision, changes, comes_to, declared, destination_place, held, is_gone_now, is_own, keeps_beside, last_name, relists, stand_in, stands_in, thread, was_delivered}
use Rattle.l4_core_model.specs.Acts.{Work, acts, arrives, asks, begins_send, decides_send, delivers, delivers_message, delivers_send, does, entry, first_acceptable, gives_order, obeys, order_goes_to, owes, owes_for, posts, queues_send, refuses, retargets, send_goes_to, split_place, split_receiver, tells, tells_send, withdraws, withdraws_for, zero_refusable, ◌▷◌}
use Rattle.l4_core_model.specs.Turns.{ByDue, ByDuty, ByReady, CancelsOwn, CancelsReceive, Choice, ClosesReceive, DeliversFirst, DropsOwn, Duty, RefusesFirst, RefusesZero, Retargets, TellsGone, does_choice, does_duty, has_told, opened, times_out, turn}
use Rattle.l4_core_model.specs.Mail.{foreign_place, handled, is_ordering, own_place, waits_here}
use Rattle.l4_core_model.specs.Runs.{IsMachine}
use Rattle.l4_core_model.proofs.Lists.{all-append}
use Rattle.l4_refines.proofs.Lists.{get_other_place}
use Rattle.l4_refines.proofs.Letters.Addressed.{IsThread, thread_at}
use Rattle.l4_refines.proofs.Letters.Noticing.{split_cases}
use Rattle.l4_refines.proofs.Letters.Receiving.{own_place_is}
use Rattle.l4_refines.proofs.Relation.Relates.{IsSized}
use Rattle.l4_refines.proofs.Relation.Views.{home}
use Rattle.l4_refines.proofs.Turns.Choices.{IsChoice, turn_then}

-- How many sends each thread has begun, as a processor has it.
abbrev pub counts : Local → List ℕ
counts l = map (λ (t : Thread). t.context.begun) l.threads

abbrev pub at : List ℕ → (place : ℕ) → ℕ
at cs i = slice_index_or cs i 0

pub count_at : (l : Local) (i : ℕ) → (thread l i).context.begun ≡ at (counts l) i
count_at l i = sym (get_or-map (λ (t : Thread). t.context.begun) l.threads i opening_thread)

-- What does not count a send.

abbrev IsUncounting : (Thread → Thread) → Type 0
IsUncounting f = (t : Thread) → (f t).context.begun ≡ t.context.begun

fails_keeps : (code : ℕ) → IsUncounting (fails code)
fails_keeps code t =
    cond_both (λ (u : Thread). u.context.begun) t.context.begun (is_alive t.phase) _ t refl refl

goes_on_keeps : (receive : Option Receive) (now : ℕ) → IsUncounting (goes_on receive now)
goes_on_keeps None now t = refl
goes_on_keeps (Some receive) now t = refl

was_delivered_keeps : (send : Option Send) (now : ℕ) → IsUncounting (was_delivered send now)
was_delivered_keeps None now t = refl
was_delivered_keeps (Some send) now t =
    cond_both (λ (u : Thread). u.context.begun) t.context.begun (is_alive t.phase) _ (decided t)
    (goes_on_keeps send.receive now t) refl

decision_keeps : (result : Result) (now : ℕ) → IsUncounting (after_decision result now)
decision_keeps Delivered now t = was_delivered_keeps t.send now t
decision_keeps (Refused TimedOut) now t = fails_keeps 2 (decided t)
decision_keeps (Refused Nobody) now t = fails_keeps 4 (decided t)
decision_keeps (Refused Cancelled) now t = fails_keeps 6 (decided t)
decision_keeps (Refused Dropped) now t =
    cond_both (λ (u : Thread). u.context.begun) t.context.begun (is_alive t.phase) _ (decided t)
    refl refl

turns_keeps : (o : Owed) → IsUncounting (turns o)
turns_keeps o t = by t.phase
  where
    by : (p : Phase) → (turns_in p o t).context.begun ≡ t.context.begun
    by Ready = refl
    by Sending = refl
    by (Receiving receive since) = refl
    by Ordering = refl
    by Ended = refl
    by Deleted = refl

obeyed_keeps : IsUncounting obeyed
obeyed_keeps t =
    cond_both (λ (u : Thread). u.context.begun) t.context.begun (is_alive t.phase) _ _ refl refl

runs_keeps : (i : Instr) → IsUncounting (runs i)
runs_keeps (Run own) t = refl
runs_keeps (Ipc to from send_period receive_period) t = refl
runs_keeps (Ask target what) t = refl
runs_keeps End t = refl

-- A letter that brings a send or withdraws it names the last one of its thread, and comes from the
-- thread's home. One that withdraws it goes to another processor.
abbrev pub IsNumbered : Machine → (cpu : ℕ) → (counts : List ℕ) → (to : ℕ) → Content → Type 0
IsNumbered m cpu cs to (SendLetter s receiver message zero_timeout) =
    (i : ℕ) → place_of m s.thread ≡ Some i → (s.k ≡ at cs i) × (home m i ≡ cpu)
IsNumbered m cpu cs to (WithdrawLetter s receiver cause) =
    (i : ℕ) → place_of m s.thread ≡ Some i →
    (s.k ≡ at cs i) × ((home m i ≡ cpu) × (to ≡ cpu → ⊥))
IsNumbered m cpu cs to _ = Unit {0}

-- These are the counts of the threads, and all letters that were posted fit them.
abbrev pub IsCounted : Machine → (cpu : ℕ) → (counts : List ℕ) → Work → Type 0
IsCounted m cpu cs x =
    (counts x.local ≡ cs)
    × AllByRecursion (λ (p : ℕ × Letter). IsNumbered m cpu cs p.0 p.1.content) x.letters

module _ (m : Machine) (cpu : ℕ) (cs : List ℕ) where
  abbrev Counted : Work → Type 0
  Counted x = IsCounted m cpu cs x

  comes_keeps : (i : ℕ) (f : Thread → Thread) (x : Work) → IsUncounting f → Counted x →
      Counted (does (comes_to i f) x)
  comes_keeps i f x e k =
      (map-changed_same (λ (t : Thread). t.context.begun) f e x.local.threads i ∙ k.0, k.1)

  changes_keeps : (i : ℕ) (f : Thread → Thread) (x : Work) → IsUncounting f → Counted x →
      Counted (does (changes i f) x)
  changes_keeps i f x e k =
      (map-changed_same (λ (t : Thread). t.context.begun) f e x.local.threads i ∙ k.0, k.1)

  posts_keeps : (to : ℕ) (content : Content) (x : Work) → IsNumbered m cpu cs to content →
      Counted x → Counted (posts to content x)
  posts_keeps to content x n k = (
    k.0,
    all-append (λ (p : ℕ × Letter). IsNumbered m cpu cs p.0 p.1.content) x.letters
        (to, record { stamp = x.local.stamp; content = content }) k.1 n,
  )

  -- The name of a thread's last send.
  last_is : (i j : ℕ) (x : Work) → IsThread m i → Counted x →
      place_of m (declared m i).id ≡ Some j → (last_name m x.local i).k ≡ at cs j
  last_is i j x t k place =
      count_at x.local i ∙ ap (λ ns. at ns i) k.0
      ∙ ap (at cs) (some_is i j (sym (t.machine.placed i t.within) ∙ place))

  home_is : (i j : ℕ) → IsThread m i → place_of m (declared m i).id ≡ Some j → home m i ≡ cpu →
      home m j ≡ cpu
  home_is i j t place own =
      ap (home m) (sym (some_is i j (sym (t.machine.placed i t.within) ∙ place))) ∙ own

  -- Sends

  decides_keeps : (i : ℕ) (result : Result) (x : Work) → Counted x →
      Counted (decides_send m cpu result i x)
  decides_keeps i result x k =
      let y : Work = x ▷ does (relists (plain.unqueued i)) in
      cond_keeps Counted (is_own m cpu i) _ _
      (λ own. comes_keeps i (after_decision result x.local.clock) y
      (decision_keeps result x.local.clock) k)
      (λ other. posts_keeps (declared m i).cpu (DoneLetter (last_name m x.local i) result)
      (y ▷ does (changes i decided)) tt (changes_keeps i decided y (λ t. refl) k))

  refuses_keeps : (i : ℕ) (refusal : Refusal) (x : Work) → Counted x →
      Counted (refuses m cpu refusal i x)
  refuses_keeps i refusal x k =
      decides_keeps i (Refused refusal) (x ▷ tells_send m (refusal_step refusal) i) k

  owes_keeps : (r : ℕ) (o : Option Owed) (x : Work) → Counted x → Counted (owes_for m cpu r o x)
  owes_keeps r None x k = k
  owes_keeps r (Some o) x k = by (place_of m o.originator)
    where
      by : (q : Option ℕ) → Counted (owes m cpu r o q x)
      by None = k
      by (Some j) = cond_keeps Counted (is_own m cpu j) (x ▷ does (keeps_beside r (Some o)))
          (posts (declared m j).cpu (RetargetLetter o) x) (λ own. k)
          (λ other. posts_keeps (declared m j).cpu (RetargetLetter o) x tt k)

  message_keeps : (r i : ℕ) (message : Message) (tag : ℕ) (x : Work) → Counted x →
      Counted (delivers_message m cpu r i message tag x)
  message_keeps r i message tag x k =
      let y : Work =
      x
      ▷ tells (Deliver (last_name m x.local i) (declared m r).id message.shown message.actual tag
      message.words) in
      owes_keeps r (owed_by m (last_name m x.local i) message (declared m r).id) _
      (decides_keeps i Delivered (y ▷ does (comes_to r (receives message tag)))
      (comes_keeps r (receives message tag) y (λ t. refl) k))

  delivers_keeps : (r i : ℕ) (x : Work) → Counted x → Counted (delivers m cpu r i x)
  delivers_keeps r i x k = by (thread x.local i).send
    where
      by : (o : Option Send) → Counted (delivers_send m cpu r i o x)
      by None = k
      by (Some send) = message_keeps r i send.message
          (received_tag (is_cross m (declared m r).id send.message) send.message) x k

  pub arrives_keeps : (r i : ℕ) (x : Work) → Counted x → Counted (arrives m cpu r i x)
  arrives_keeps r i x k =
      cond_keeps Counted (is_deleted (thread x.local r).phase) _ _
      (λ gone. refuses_keeps i Nobody x k)
      (λ alive. cond_keeps Counted
      (zero_refusable m (held m x.local r) (thread x.local i).send) _ _
      (λ zero. refuses_keeps i TimedOut x k) (λ other. queues (thread x.local i).send))
    where
      queues : (o : Option Send) → Counted (queues_send m cpu r i o x)
      queues None = k
      queues (Some send) =
          let y : Work = x ▷ tells_send m Queue i ▷ does (relists (plain.queued r (entry m r i send))) in
          cond_keeps Counted (is_place (first_acceptable y.local r) i) _ _
          (λ first. delivers_keeps r i y k) (λ other. k)

  goes_keeps : (i : ℕ) (send : Send) (to : Option ℕ) (x : Work) → IsThread m i →
      home m i ≡ cpu → Counted x → Counted (send_goes_to m cpu i send to x)
  goes_keeps i send None x t own k = refuses_keeps i Nobody x k
  goes_keeps i send (Some r) x t own k =
      cond_keeps Counted (is_own m cpu r) _ _ (λ own. arrives_keeps r i x k)
      (λ other. posts_keeps (declared m r).cpu
      (SendLetter (last_name m x.local i) (declared m r).id send.message (is_zero send.period)) x
      (λ j place. (last_is i j x t k place, home_is i j t place own)) k)

  pub withdraws_keeps : (cause : Cause) (i : ℕ) (x : Work) → IsThread m i → home m i ≡ cpu →
      Counted x → Counted (withdraws m cause i (split_place m cpu x.local i) x)
  withdraws_keeps cause i x t own k = by (thread x.local i).send
    where
      by : (o : Option Send) → Counted (withdraws m cause i (split_receiver m cpu o) x)
      by None = k
      by (Some send) = split_cases m cpu send (λ o. Counted (withdraws m cause i o x)) k
          (λ r to away. posts_keeps (declared m r).cpu
          (WithdrawLetter (last_name m x.local i) (declared m r).id cause) x
          (λ j place. (last_is i j x t k place, (home_is i j t place own, away))) k)

  -- Orders

  asks_keeps : (what : OrderKind) (j : ℕ) (x : Work) → Counted x → Counted (does (asks what j) x)
  asks_keeps CancelSend j x k = changes_keeps j (asked CancelSend) x (λ t. refl) k
  asks_keeps CancelReceive j x k = changes_keeps j (asked CancelReceive) x (λ t. refl) k
  asks_keeps CancelBoth j x k = changes_keeps j (asked CancelBoth) x (λ t. refl) k
  asks_keeps Delete j x k =
      comes_keeps j (asked Delete) (x ▷ does (relists (plain.dropped j))) (λ t. refl) k

  pub obeys_keeps : (caller : GlobalId) (what : OrderKind) (j : ℕ) (x : Work) → IsThread m j →
      home m j ≡ cpu → Counted x → Counted (obeys m cpu caller what j x)
  obeys_keeps caller what j x t own k =
      cond_keeps Counted (is_deleted (thread x.local j).phase) _ _ (λ gone. asked_then)
      (λ alive. by (cause_of what))
    where
      y : Work
      y = x ▷ tells (Obey caller) ▷ does (asks what j)

      asked_then : Counted y
      asked_then = asks_keeps what j (x ▷ tells (Obey caller)) k

      by : (o : Option Cause) → Counted (withdraws_for m cpu j o y)
      by None = asked_then
      by (Some cause) = withdraws_keeps cause j y t own asked_then

  order_keeps : (i : ℕ) (order : PendingOrder) (x : Work) → IsMachine m → Counted x →
      Counted (gives_order m cpu i order x)
  order_keeps i order x machine k = by (place_of m order.target) refl
    where
      y : Work
      y = x ▷ does (comes_to i (orders order))
          ▷ tells (Order (declared m i).id order.target order.what)

      counted : Counted y
      counted = comes_keeps i (orders order) x (λ t. refl) k

      by : (o : Option ℕ) → place_of m order.target ≡ o → Counted (order_goes_to m cpu i order o y)
      by None is = counted
      by (Some j) is = cond_keeps Counted (is_own m cpu j) _ _
          (λ own. comes_keeps i obeyed (y ▷ obeys m cpu (declared m i).id order.what j) obeyed_keeps
          (obeys_keeps (declared m i).id order.what j y (thread_at m order.target j machine is)
          (eqb-true (home m j) cpu own) counted))
          (λ other. posts_keeps (declared m j).cpu _ y tt counted)

  -- Duties and deadlines

  retargets_keeps : (o : Owed) (q : Option ℕ) (x : Work) → Counted x →
      Counted (if_some (retargets o) q x)
  retargets_keeps o None x k = k
  retargets_keeps o (Some j) x k =
      changes_keeps j (turns o) (x ▷ tells (Retarget o.send)) (turns_keeps o) k

  fails_receive_keeps : (code i : ℕ) (x : Work) → Counted x →
      Counted (does (comes_to i (fails code)) x)
  fails_receive_keeps code i x k = comes_keeps i (fails code) x (fails_keeps code) k

  duty_keeps : (i : ℕ) (duty : Duty) (x : Work) → Counted x → Counted (does_duty m cpu i duty x)
  duty_keeps i (Retargets o) x k =
      retargets_keeps o (place_of m o.originator) (x ▷ does (keeps_beside i None)) k
  duty_keeps i DropsOwn x k = refuses_keeps i Dropped x k
  duty_keeps i (RefusesFirst sender) x k = refuses_keeps sender Nobody x k
  duty_keeps i (TellsGone to) x k =
      posts_keeps to (GoneLetter (declared m i).id) (x ▷ does (has_told to i)) tt k
  duty_keeps i CancelsOwn x k = refuses_keeps i Cancelled x k
  duty_keeps i CancelsReceive x k = fails_receive_keeps 7 i x k
  duty_keeps i (DeliversFirst sender) x k = delivers_keeps i sender x k
  duty_keeps i ClosesReceive x k = fails_receive_keeps 5 i x k
  duty_keeps i (RefusesZero sender) x k = refuses_keeps sender TimedOut x k

  due_keeps : (i : ℕ) (x : Work) → IsThread m i → home m i ≡ cpu → Counted x →
      Counted (times_out m cpu i x)
  due_keeps i x t own k =
      cond_keeps Counted (is_some (receive_now (thread x.local i).phase)) _ _
      (λ receiving. fails_receive_keeps 3 i x k)
      (λ sending. cond_keeps Counted (plain.is_queued x.local.lists i) _ _
      (λ queued. refuses_keeps i TimedOut x k) (λ other. withdraws_keeps ByTimeout i x t own k))

-- A send that begins

begins_keeps : (m : Machine) (cpu : ℕ) (cs : List ℕ) (i : ℕ) (send : Send) (x : Work) →
    IsThread m i → home m i ≡ cpu → counts x.local ≡ cs →
    AllByRecursion (λ (p : ℕ × Letter). IsNumbered m cpu (changed (λ n. n + 1) cs i) p.0 p.1.content)
    x.letters →
    IsCounted m cpu (changed (λ n. n + 1) cs i) (begins_send m cpu i send x)
begins_keeps m cpu cs i send x t own is none =
    goes_keeps m cpu (changed (λ n. n + 1) cs i) i send (destination_place m send.to)
    (x ▷ does (comes_to i (begins send)) ▷ tells_send m Begin i) t own (
      map-changed (λ (t : Thread). t.context.begun) (begins send) (λ n. n + 1) (λ t. refl)
          x.local.threads i
          ∙ ap (λ ns. changed (λ n. n + 1) ns i) is,
      none,
    )

-- After an event of a processor the counts of its own threads are no less, and all others are as
-- they were.
pub record Grows (m : Machine) (cpu : ℕ) (cs : List ℕ) (x : Work) : Type 0 where
  pub after : List ℕ
  pub counted : IsCounted m cpu after x
  pub own : (j : ℕ) → at cs j ≤ at after j
  pub other : (j : ℕ) → (home m j ≡ cpu → ⊥) → at after j ≡ at cs j

pub stays : (m : Machine) (cpu : ℕ) (cs : List ℕ) (x : Work) → IsCounted m cpu cs x →
    Grows m cpu cs x
stays m cpu cs x k =
    record { after = cs; counted = k; own = λ j. omega arith; other = λ j away. refl }

one_more : (cs : List ℕ) (i j : ℕ) → at cs j ≤ at (changed (λ n. n + 1) cs i) j
one_more [] i j = omega arith
one_more (c ∷ cs) zero zero = omega arith
one_more (c ∷ cs) zero (suc j) = omega arith
one_more (c ∷ cs) (suc i) zero = omega arith
one_more (c ∷ cs) (suc i) (suc j) = one_more cs i j

acts_grow : (m : Machine) (cpu i : ℕ) (a : Act) (l : Local) → IsThread m i → home m i ≡ cpu →
    Grows m cpu (counts l) (acts m cpu i a (opened 0 l ▷ does (relists plain.popped)))
acts_grow m cpu i RunsAlone l t own =
    stays m cpu (counts l) _
    (comes_keeps m cpu (counts l) i (runs (instruction (held m l i)))
    (opened 0 l ▷ does (relists plain.popped) ▷ tells (RanLocal (declared m i).id))
    (runs_keeps (instruction (held m l i))) (refl, tt))
acts_grow m cpu i (Sends send) l t own = record {
  after = changed (λ n. n + 1) (counts l) i;
  counted = begins_keeps m cpu (counts l) i send (opened 0 l ▷ does (relists plain.popped)) t own
      refl tt;
  own = one_more (counts l) i;
  other = λ j away.
      get_other_place (λ n. n + 1) (counts l) i j 0 (λ e. away (ap (home m) (sym e) ∙ own));
}
acts_grow m cpu i (Receives receive) l t own =
    stays m cpu (counts l) _
    (comes_keeps m cpu (counts l) i (waits receive l.clock)
    (opened 0 l ▷ does (relists plain.popped) ▷ tells (Wait (declared m i).id)) (λ t. refl)
    (refl, tt))
acts_grow m cpu i (Orders order) l t own =
    stays m cpu (counts l) _
    (order_keeps m cpu (counts l) i order (opened 0 l ▷ does (relists plain.popped)) t.machine
    (refl, tt))

-- What is armed or ready is of this processor.
pub record ListsOwn (m : Machine) (cpu : ℕ) (l : Local) : Type 0 where
  pub armed : (deadline i : ℕ) (others : List (ℕ × ℕ)) →
      l.lists.armed ≡ (deadline, i) ∷ others → home m i ≡ cpu
  pub ready : (i : ℕ) (others : List ℕ) → l.lists.ready ≡ i ∷ others → home m i ≡ cpu

pub turn_grows : (m : Machine) (cpu : ℕ) (l : Local) (x : Work) → IsMachine m → IsSized m l →
    ListsOwn m cpu l → turn m cpu l ≡ Some x → Grows m cpu (counts l) x
turn_grows m cpu l x machine sized own h =
    turn_then m cpu l x (Grows m cpu (counts l)) h (λ c is. by c is)
  where
    thread_here : (i : ℕ) → i < length m.threads → IsThread m i
    thread_here i lt = record { machine = machine; within = lt }

    by : (c : Choice) → IsChoice m cpu l c →
        Grows m cpu (counts l) (does_choice m cpu c (opened 0 l))
    by (ByDuty i duty) c =
        stays m cpu (counts l) _ (duty_keeps m cpu (counts l) i duty (opened 0 l) (refl, tt))
    by (ByDue i) c =
        stays m cpu (counts l) _
        (due_keeps m cpu (counts l) i (opened 0 l ▷ does (relists plain.popped_due))
        (thread_here i
        (subst (AllByRecursion (λ (e : ℕ × ℕ). e.1 < length m.threads)) c.1.1.0 sized.armed).0)
        (own.armed c.0 i c.1.0 c.1.1.0) (refl, tt))
    by (ByReady i) c =
        acts_grow m cpu i (act_of m (held m l i)) l
        (thread_here i
        (subst (AllByRecursion (λ i. i < length m.threads)) c.1.0 sized.ready).0)
        (own.ready i c.0 c.1.0)

-- A letter is handled: a send that comes gives its number to the entry in which it stands.
abbrev pub HandledCounts : Machine → (cpu : ℕ) → (counts : List ℕ) → Content → Work → Type 0
HandledCounts m cpu cs (SendLetter s receiver message zero_timeout) x =
    (i : ℕ)
    × ((foreign_place m cpu s.thread ≡ Some i) × IsCounted m cpu (changed (λ n. s.k) cs i) x)
HandledCounts m cpu cs _ x = IsCounted m cpu cs x

pub handled_counts : (m : Machine) (cpu : ℕ) (c : Content) (stamp : ℕ) (l : Local) (y : Work) →
    IsMachine m → handled m cpu c (opened stamp l) ≡ Some y → HandledCounts m cpu (counts l) c y
handled_counts m cpu (SendLetter s receiver message zero_timeout) stamp l y machine h =
    let x : Work = opened stamp l in
    let put : Thread → Thread = stands_in s.k (stand_in receiver message zero_timeout) in
    bind_then (own_place m cpu receiver) _ y h λ r own rest.
    bind_then (foreign_place m cpu s.thread) _ y rest λ i foreign rest.
    guard_then (is_none (thread x.local i).send) _ y rest λ none rest.
    guard_then (same_id message.actual s.thread) _ y rest λ actual rest.
    guard_then (is_declared m message.shown) _ y rest λ shown rest. (
      i,
      (
        foreign,
        subst (IsCounted m cpu (changed (λ n. s.k) (counts l) i)) (some_is _ y rest)
            (arrives_keeps m cpu (changed (λ n. s.k) (counts l) i) r i (x ▷ does (changes i put)) (
              map-changed (λ (t : Thread). t.context.begun) put (λ n. s.k) (λ t. refl) l.threads i,
              tt,
            )),
      ),
    )
handled_counts m cpu (DoneLetter s result) stamp l y machine h =
    let x : Work = opened stamp l in
    bind_then (own_place m cpu s.thread) _ y h λ i own rest.
    guard_then (is_some (split_place m cpu x.local i)) _ y rest λ split rest.
    guard_then ((thread x.local i).context.begun == s.k) _ y rest λ number rest.
    subst (IsCounted m cpu (counts l)) (some_is _ y rest)
    (comes_keeps m cpu (counts l) i (after_decision result l.clock) x
    (decision_keeps result l.clock) (refl, tt))
handled_counts m cpu (WithdrawLetter s receiver cause) stamp l y machine h =
    let x : Work = opened stamp l in
    bind_then (own_place m cpu receiver) _ y h λ r own rest.
    bind_then (foreign_place m cpu s.thread) _ y rest λ i foreign rest.
    subst (IsCounted m cpu (counts l)) (some_is _ y rest)
    (cond_keeps (IsCounted m cpu (counts l)) (waits_here x.local i s.k) _ x
    (λ waits. refuses_keeps m cpu (counts l) i (refusal_of cause) x (refl, tt)) (λ late. (refl, tt)))
handled_counts m cpu (GoneLetter id) stamp l y machine h =
    bind_then (foreign_place m cpu id) _ y h λ i foreign rest.
    subst (IsCounted m cpu (counts l)) (some_is _ y rest)
    (changes_keeps m cpu (counts l) i is_gone_now (opened stamp l) (λ t. refl) (refl, tt))
handled_counts m cpu (OrderLetter caller target what) stamp l y machine h =
    let x : Work = opened stamp l in
    bind_then (own_place m cpu target) _ y h λ j own rest.
    bind_then (foreign_place m cpu caller) _ y rest λ i foreign rest.
    let here = own_place_is m cpu target j own in
    subst (IsCounted m cpu (counts l)) (some_is _ y rest)
    (posts_keeps m cpu (counts l) (declared m i).cpu (OrderDoneLetter caller)
    (x ▷ obeys m cpu caller what j) tt
    (obeys_keeps m cpu (counts l) caller what j x (thread_at m target j machine here.0) here.1
    (refl, tt)))
handled_counts m cpu (OrderDoneLetter caller) stamp l y machine h =
    let x : Work = opened stamp l in
    bind_then (own_place m cpu caller) _ y h λ i own rest.
    guard_then (is_deleted (thread x.local i).phase || is_ordering (thread x.local i).phase) _ y rest
    λ calls rest.
    subst (IsCounted m cpu (counts l)) (some_is _ y rest)
    (comes_keeps m cpu (counts l) i obeyed x obeyed_keeps (refl, tt))
handled_counts m cpu (RetargetLetter o) stamp l y machine h =
    let x : Work = opened stamp l in
    guard_then m.retargeting _ y h λ profile rest.
    bind_then (own_place m cpu o.originator) _ y rest λ j own rest.
    guard_then (is_declared m o.old_partner) _ y rest λ old rest.
    guard_then (is_some (foreign_place m cpu o.new_partner)) _ y rest λ foreign rest.
    subst (IsCounted m cpu (counts l)) (some_is _ y rest)
    (retargets_keeps m cpu (counts l) o (Some j) x (refl, tt))
