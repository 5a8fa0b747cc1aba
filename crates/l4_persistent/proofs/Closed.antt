-- A set that is closed under posting is persistent.
use Rattle.std.proofs.Common.{◌≡◌, ℕ, zero, suc, ◌+◌, ◌<◌, ◌≤◌, ◌⊎◌, inl, inr, ⊎_elim, Bool, true, false, cond, Option, Some, None, List, [], ◌∷◌, ◌++◌, filter, length, refl, ap, sym, ◌∙◌, subst, arith}
use Rattle.std.specs.Prelude.{slice_get, nat_lt, ◌==◌, ◌&&◌, ◌||◌, not, is_some}
use Rattle.std.specs.List.{AllByRecursion, list_any, range_with_len}
use Rattle.std.proofs.lemmas.Bool.{cases_lt, ltb-true}
use Rattle.std.proofs.lemmas.Option.{slice_get_within}
use Rattle.l4_model.specs.Words.{Id, NilThread}
use Rattle.l4_model.specs.Machine.{Machine}
use Rattle.l4_model.specs.World.{Thread, Send, PendingOrder, Phase, Ready, Sending, Receiving, Ordering, Ended, Deleted, is_alive}
use Rattle.l4_model.specs.Effects.{fails, decided, obeyed, goes_on as goes_receiving}
use Rattle.l4_model.proofs.Chains.{some_is, cond_keeps}
use Rattle.l4_core_model.specs.Letters.{Letter, Content, SendLetter, DoneLetter, WithdrawLetter, GoneLetter, OrderLetter, OrderDoneLetter, RetargetLetter, Result, Delivered, Refused, TimedOut, Nobody, Cancelled, Dropped}
use Rattle.l4_core_model.specs.Local.{Local, declared, is_own, own_places, thread, after_decision, was_delivered}
use Rattle.l4_core_model.specs.Laws.{IsCoreRun}
use Rattle.l4_core_model.specs.Runs.{Posted, IsMachine, Run, System, Action, Happened, letters, then_event, told}
use Rattle.l4_core_model.proofs.Changed.{same_nat}
use Rattle.l4_core_model.proofs.Lists.{all-filter}
use Rattle.l4_merge.specs.Transitions.{letter_of, letters_with}
use Rattle.l4_merge.proofs.Lists.{slice_get_none}
use Rattle.l4_merge.proofs.OneDeed.{given, done_by, given-mail, mail_then}
use Rattle.l4_refines.proofs.Events.{local_at}
use Rattle.l4_refines.proofs.Law.{RunFacts, run_facts}
use Rattle.l4_refines.proofs.Lists.{other_is}
use Rattle.l4_refines.proofs.Relation.Views.{home, world_thread, is_about, locators, is_locator}
use Rattle.l4_refines.proofs.Relation.Rows.{seats, Agrees, AgreesIn, learns, RowOf, IsOrdered}
use Rattle.l4_refines.proofs.Relation.Whereabouts.{where_then}
use Rattle.l4_refines.proofs.Sends.Waiting.{agrees_send}
use Rattle.l4_refines.proofs.Turns.Choices.{IsOwn}
use Rattle.l4_states.proofs.Reached.{run_within}
use Rattle.l4_persistent.specs.Persistent.{cpu_of, Leads, Done, Then, AreOutside, IsPersistent}
use Rattle.l4_persistent.specs.Inner.Posts.{is_at, names, At, AtLast, Aims, AreAims, sends_to, orders_to, waits_for, goes_on_at, may_aim, is_deletable, may_propagate, may_tell, told_at, may_post_by, may_post, IsClosed}
use Rattle.l4_persistent.proofs.Swaps.{deed_of, cpu_is}
use Rattle.l4_persistent.proofs.Sets.{apart_by}
use Rattle.l4_persistent.proofs.Tame.{or_none, IsTame, tame_kept, opening_tame}
use Rattle.l4_persistent.proofs.Away.{true_false, IsClearAt, IsClear, IsAway}
use Rattle.l4_persistent.proofs.UnderWay.{seen_at, kept_home, IsExplained, each_between, none_between}
use Rattle.l4_persistent.proofs.Silent.{one_more, each_kept, sends_true, world_at, at_home, IsUnanswered, IsUndecided, IsNoDecision, Stands, stands_on}

-- Tests

none_any : {A : Type 0} (p : A → Bool) (xs : List A) → list_any p xs ≡ false → AllByRecursion (λ x. p x ≡ false) xs
none_any p [] h = tt
none_any p (x ∷ xs) h = let two = or_none (p x) (list_any p xs) h in (two.0, none_any p xs two.1)

not_both : (a b : Bool) → (a && b) ≡ false → a ≡ true → b ≡ false
not_both true b h is = h
not_both false b h is = cc

-- What is true of all own places is true of each of them.
in_own : (m : Machine) (cpu : ℕ) (P : ℕ → Type 0) (first n i : ℕ) → first ≤ i → i < first + n → is_own m cpu i ≡ true →
    AllByRecursion P (filter (is_own m cpu) (range_with_len first n)) → P i
in_own m cpu P first zero i le lt own all = absurd (omega arith)
in_own m cpu P first (suc n) i le lt own all = by (cases_lt first i)
    (λ later all. in_own m cpu P (first + 1) n i (omega arith) (omega arith) own all)
  where
    left : (b : Bool) → AllByRecursion P (cond b (first ∷ filter (is_own m cpu) (range_with_len (first + 1) n))
        (filter (is_own m cpu) (range_with_len (first + 1) n))) →
        AllByRecursion P (filter (is_own m cpu) (range_with_len (first + 1) n))
    left true all = all.1
    left false all = all

    by : (first < i) ⊎ (i ≤ first) → (first < i → AllByRecursion P
        (filter (is_own m cpu) (range_with_len (first + 1) n)) → P i) → P i
    by (inl later) rest = rest later (left (is_own m cpu first) all)
    by (inr e) rest =
        let same : first ≡ i = omega arith in
        let here : is_own m cpu first ≡ true = ap (is_own m cpu) same ∙ own in
        subst P same (rw here at all).0

own_at : (m : Machine) (cpu i : ℕ) (P : ℕ → Type 0) → IsOwn m cpu i → AllByRecursion P (own_places m cpu) → P i
own_at m cpu i P own all =
    in_own m cpu P 0 (length m.threads) i (omega arith) (let lt = own.within in omega arith)
    (ap (λ h. h == cpu) own.home ∙ same_nat cpu) all

module _ (m : Machine) (aims : Aims) (to i : ℕ) where
  -- A thread of which less is left is clear too.

  without_send : (b c : Bool) (k : ℕ) (f : Id) (s : Option Send) (o : Option PendingOrder) → (c ≡ true → b ≡ true) →
      IsClearAt m aims to i b k f s o → IsClearAt m aims to i c k f None o
  without_send b c k f s o back h = record {
    to = λ alive. h.to (back alive);
    last = λ alive. h.last (back alive);
    send = refl;
    order = h.order;
  }

  from_nobody : (b c : Bool) (k : ℕ) (f : Id) (s : Option Send) (o : Option PendingOrder) → (c ≡ true → b ≡ true) →
      IsClearAt m aims to i b k f s o → IsClearAt m aims to i c k NilThread s o
  from_nobody b c k f s o back h = record {
    to = λ alive. h.to (back alive);
    last = λ alive is. refl;
    send = h.send;
    order = h.order;
  }

  decided_clear : (t : Thread) → IsClear m aims to i t → IsClear m aims to i (decided t)
  decided_clear t h =
      without_send (is_alive t.phase) (is_alive t.phase) (goes_on_at t) t.context.from t.send t.order (λ alive. alive) h

  -- It lives, and goes on with nobody in its register `from`, or as it is.
  failed_clear : (c : Bool) (t : Thread) → is_alive t.phase ≡ true → IsClear m aims to i t →
      IsClearAt m aims to i c (goes_on_at t) NilThread None t.order
  failed_clear c t lives h =
      from_nobody (is_alive t.phase) c (goes_on_at t) t.context.from None t.order (λ alive. lives) (decided_clear t h)

  lives_clear : (c : Bool) (t : Thread) → is_alive t.phase ≡ true → IsClear m aims to i t →
      IsClearAt m aims to i c (goes_on_at t) t.context.from None t.order
  lives_clear c t lives h = without_send (is_alive t.phase) c (goes_on_at t) t.context.from t.send t.order
      (λ alive. lives) h

  refused_clear : (code : ℕ) (t : Thread) → IsClear m aims to i t → IsClear m aims to i (fails code (decided t))
  refused_clear code t h =
      cond_keeps (IsClear m aims to i) (is_alive t.phase) _ (decided t)
      (λ alive. failed_clear _ t alive h) (λ gone. decided_clear t h)

  decision_clear : (result : Result) (clock : ℕ) (t : Thread) → IsClear m aims to i t →
      IsClear m aims to i (after_decision result clock t)
  decision_clear Delivered clock t h = by t.send
    where
      by : (o : Option Send) → IsClear m aims to i (was_delivered o clock t)
      by None = h
      by (Some send) =
          cond_keeps (IsClear m aims to i) (is_alive t.phase) _ (decided t)
          (λ alive. goes send.receive alive) (λ gone. decided_clear t h)
        where
          goes : (o : Option _) → is_alive t.phase ≡ true → IsClear m aims to i (goes_receiving o clock t)
          goes None alive = failed_clear _ t alive h
          goes (Some receive) alive = lives_clear _ t alive h
  decision_clear (Refused TimedOut) clock t h = refused_clear 2 t h
  decision_clear (Refused Nobody) clock t h = refused_clear 4 t h
  decision_clear (Refused Cancelled) clock t h = refused_clear 6 t h
  decision_clear (Refused Dropped) clock t h =
      cond_keeps (IsClear m aims to i) (is_alive t.phase) _ _
      (λ alive. lives_clear _ t alive h) (λ gone. decided_clear t h)

  -- What the world has of a thread is clear if it agrees with what is.
  agrees_clear : (world t : Thread) → Agrees m world t → IsClear m aims to i t → IsClear m aims to i world
  agrees_clear world t a h = by t.phase refl a.by_phase
    where
      same : world ≡ t → IsClear m aims to i world
      same e = subst (IsClear m aims to i) (sym e) h

      by : (p : Phase) → t.phase ≡ p → AgreesIn p world t → IsClear m aims to i world
      by Ready is a = same a
      by Sending is a = same a
      by (Receiving receive since) is a = subst (IsClear m aims to i) (sym a.same) (record {
        to = λ alive. h.to (ap is_alive is);
        last = λ alive. h.last (ap is_alive is);
        send = h.send;
        order = h.order;
      })
      by Ordering is a = same a
      by Ended is a = same a
      by Deleted is a = record {
        to = λ alive. true_false (is_alive world.phase) alive (ap is_alive a.deleted);
        last = λ alive. true_false (is_alive world.phase) alive (ap is_alive a.deleted);
        send = ap (sends_to m to) a.send ∙ h.send;
        order = ap (orders_to m to) a.order ∙ h.order;
      }

  -- What is read off a local state, of all but orders.
  record IsClearHere (t : Thread) : Type 0 where
    aimed : is_alive t.phase ≡ true → aims i (goes_on_at t) (At to) ≡ false
    last : is_alive t.phase ≡ true → aims i (goes_on_at t) AtLast ≡ true → names m to t.context.from ≡ false
    send : sends_to m to t.send ≡ false

  here_clear : (l : Local) → may_post_by m aims to l i ≡ false → IsClearHere (thread l i)
  here_clear l h =
      let t = thread l i in
      let two = or_none (sends_to m to t.send) ((is_alive t.phase && may_aim m aims to i t) || may_tell m to l i) h in
      let three = or_none (is_alive t.phase && may_aim m aims to i t) (may_tell m to l i) two.1 in
      let each : is_alive t.phase ≡ true → (aims i (goes_on_at t) (At to) ≡ false)
      × ((aims i (goes_on_at t) AtLast && names m to t.context.from) ≡ false) =
      λ alive. or_none (aims i (goes_on_at t) (At to)) (aims i (goes_on_at t) AtLast && names m to t.context.from)
      (not_both (is_alive t.phase) (may_aim m aims to i t) three.0 alive) in
      record {
        aimed = λ alive. (each alive).0;
        last = λ alive. not_both (aims i (goes_on_at t) AtLast) (names m to t.context.from) (each alive).1;
        send = two.0;
      }

  -- Whom no script deletes, or of whose deletion `to` was told
  here_heard : (l : Local) → may_post_by m aims to l i ≡ false →
      (is_deletable m (declared m i).id ≡ false) ⊎ (to < told_at l i)
  here_heard l h = by (is_deletable m (declared m i).id) refl three.1
    where
      t : Thread
      t = thread l i

      three : ((is_alive t.phase && may_aim m aims to i t) ≡ false) × (may_tell m to l i ≡ false)
      three = or_none (is_alive t.phase && may_aim m aims to i t) (may_tell m to l i)
          (or_none (sends_to m to t.send) ((is_alive t.phase && may_aim m aims to i t) || may_tell m to l i) h).1

      told : (b : Bool) → not b ≡ false → b ≡ true
      told true h = refl
      told false h = cc

      by : (b : Bool) → is_deletable m (declared m i).id ≡ b →
          (b && not (nat_lt to (told_at l i))) ≡ false →
          (is_deletable m (declared m i).id ≡ false) ⊎ (to < told_at l i)
      by false is none = inl is
      by true is none =
          inr (ltb-true to (told_at l i) (told (nat_lt to (told_at l i)) none))

  with_order : (t : Thread) → IsClearHere t → orders_to m to t.order ≡ false → IsClear m aims to i t
  with_order t h none = record { to = h.aimed; last = h.last; send = h.send; order = none }

  obeyed_clear : (t : Thread) (order : PendingOrder) → t.order ≡ Some order → IsClearHere t →
      IsClear m aims to i (obeyed t)
  obeyed_clear t order has h = by (is_alive t.phase) refl
    where
      on : goes_on_at t ≡ t.context.place + 1
      on = ap (λ o. cond (is_some {T = PendingOrder} o) (t.context.place + 1) t.context.place) has

      by : (b : Bool) → is_alive t.phase ≡ b → IsClear m aims to i (obeyed t)
      by true is = rw is (record {
        to = λ alive. ap (λ k. aims i k (At to)) (sym on) ∙ h.aimed is;
        last = λ alive yes. h.last is (ap (λ k. aims i k AtLast) on ∙ yes);
        send = h.send;
        order = refl;
      })
      by false is = rw is (record {
        to = λ alive. true_false (is_alive t.phase) alive is;
        last = λ alive. true_false (is_alive t.phase) alive is;
        send = h.send;
        order = refl;
      })

-- What a processor that may not post brings with it

module _ (m : Machine) (aims : Aims) (from to : ℕ) (r : Run) (f : RunFacts m r) (machine : IsMachine m) (l k : Local)
    (at_from : slice_get r.system.locals from ≡ Some l)
    (at_to : slice_get r.system.locals to ≡ Some k) (empty : letters r.system.mail from to ≡ [])
    (none : may_post m aims from to l k ≡ false) where
  parts : (may_propagate m ≡ false) × ((list_any (λ j. waits_for m from (thread k j)) (own_places m to) || list_any
      (may_post_by m aims to l) (own_places m from)) ≡ false)
  parts = or_none (may_propagate m) (list_any (λ j. waits_for m from (thread k j)) (own_places m to) || list_any
      (may_post_by m aims to l) (own_places m from)) none

  lists : (list_any (λ j. waits_for m from (thread k j)) (own_places m to) ≡ false)
      × (list_any (may_post_by m aims to l) (own_places m from) ≡ false)
  lists = or_none (list_any (λ j. waits_for m from (thread k j)) (own_places m to))
      (list_any (may_post_by m aims to l) (own_places m from)) parts.1

  pub unanswered : IsUnanswered m aims from to k
  unanswered j own = own_at m to j (λ j. waits_for m from (thread k j) ≡ false) own
      (none_any (λ j. waits_for m from (thread k j)) (own_places m to) lists.0)

  each : (i : ℕ) → IsOwn m from i → may_post_by m aims to l i ≡ false
  each i own = own_at m from i (λ i. may_post_by m aims to l i ≡ false) own
      (none_any (may_post_by m aims to l) (own_places m from) lists.1)

  pub harmless : may_propagate m ≡ false
  harmless = parts.0

  here : (i : ℕ) → i < length m.threads → home m i ≡ from → IsClearHere m aims to i
      (kept_home m r.system f.world i).thread
  here i within own =
      subst (IsClearHere m aims to i) (sym (at_home m r f from i l at_from own))
      (here_clear m aims to i l (each i (record { within = within; home = own })))

  -- No letter is under way.
  nothing : (i : ℕ) (p : Posted) → locators (seen_at m r.system f.world i).mail ≡ p ∷ [] → p.from ≡ from → p.to ≡ to → ⊥
  nothing i p is from_is to_is =
      let no_letters : AllByRecursion (λ (l : Letter). ⊥) (letters r.system.mail from to) =
      subst (AllByRecursion (λ (l : Letter). ⊥)) (sym empty) tt in
      let posted = none_between (λ (l : Letter). ⊥) from to r.system.mail no_letters in
      let about = all-filter _ (is_about m i) r.system.mail posted in
      let located = all-filter _ (λ (p : Posted). is_locator p.letter.content)
      (filter (is_about m i) r.system.mail) about in
      (subst (AllByRecursion (λ (p : Posted). p.from ≡ from → p.to ≡ to → ⊥)) is located).0 from_is to_is

  tame : (i : ℕ) (t : Thread) → slice_get f.world.threads i ≡ Some t → IsTame m from i t
  tame = each_kept m (IsTame m from) (tame_kept m from harmless) (opening_tame m from) (told r.events) f.world f.reaches

  clear : (i : ℕ) → i < length m.threads → home m i ≡ from → IsClear m aims to i (world_thread f.world i)
  clear i within own =
      where_then m i (seen_at m r.system f.world i) (f.relates.places i within tt).known
      (λ quiet none row a. agrees t a (with_order m aims to i t h (ap (orders_to m to) row.order)))
      (λ send quiet has row a. agrees t a (with_order m aims to i t h (ap (orders_to m to) row.order)))
      (λ p is row a. agrees t a (with_order m aims to i t h (ap (orders_to m to) row.goes.order)))
      (λ p s result is content row a. agrees _ a (decision_clear m aims to i result clock t
      (with_order m aims to i t h (ap (orders_to m to) row.goes.order))))
      (λ p is row a. agrees t a (with_order m aims to i t h (ordered p is row)))
      (λ p caller is content row a. agrees _ a (obeyed_clear m aims to i t row.orders.order row.orders.has h))
    where
      t : Thread
      t = (kept_home m r.system f.world i).thread

      clock : ℕ
      clock = (kept_home m r.system f.world i).clock

      h : IsClearHere m aims to i t
      h = here i within own

      agrees : (u : Thread) → Agrees m (world_thread f.world i) u → IsClear m aims to i u →
          IsClear m aims to i (world_thread f.world i)
      agrees u a h = agrees_clear m aims to i (world_thread f.world i) u a h

      ordered : (p : Posted) → locators (seen_at m r.system f.world i).mail ≡ p ∷ [] →
          IsOrdered m i (seats m i (seen_at m r.system f.world i)) p → orders_to m to t.order ≡ false
      ordered p is row =
          ap (orders_to m to) row.orders.has ∙ ap (is_at m to) row.orders.place
          ∙ other_is (home m row.orders.target) to (λ there. nothing i p is (row.from ∙ own) (row.to ∙ there))

  away : (i : ℕ) → i < length m.threads → home m i ≡ to → sends_to m from (world_thread f.world i).send ≡ false
  away i within own =
      where_then m i (seen_at m r.system f.world i) (f.relates.places i within tt).known
      (λ quiet none row a. agrees t a h)
      (λ send quiet has row a. agrees t a h)
      (λ p is row a. agrees t a h)
      (λ p s result is content row a. agrees _ a (decision result))
      (λ p is row a. agrees t a h)
      (λ p caller is content row a. agrees _ a (cond_keeps (λ (x : Thread). sends_to m from x.send ≡ false)
      (is_alive t.phase) _ _ (λ alive. h) (λ gone. h)))
    where
      t : Thread
      t = (kept_home m r.system f.world i).thread

      clock : ℕ
      clock = (kept_home m r.system f.world i).clock

      h : sends_to m from t.send ≡ false
      h =
          let same = at_home m r f to i k at_to own in
          ap (λ (t : Thread). sends_to m from t.send) same
          ∙ (or_none (sends_to m from (thread k i).send) (orders_to m from (thread k i).order)
          (unanswered i (record { within = within; home = own }))).0

      agrees : (u : Thread) → Agrees m (world_thread f.world i) u → sends_to m from u.send ≡ false →
          sends_to m from (world_thread f.world i).send ≡ false
      agrees u a h = ap (sends_to m from) (agrees_send (world_thread f.world i) u a) ∙ h

      gone : (code : ℕ) → sends_to m from (fails code (decided t)).send ≡ false
      gone code = cond_keeps (λ (x : Thread). sends_to m from x.send ≡ false) (is_alive t.phase) _ (decided t)
          (λ alive. refl) (λ gone. refl)

      decision : (result : Result) → sends_to m from (after_decision result clock t).send ≡ false
      decision Delivered = by t.send
        where
          by : (o : Option Send) → sends_to m from (was_delivered o clock t).send ≡ false
          by None = h
          by (Some send) = cond_keeps (λ (x : Thread). sends_to m from x.send ≡ false) (is_alive t.phase) _ (decided t)
              (λ alive. goes send.receive) (λ gone. refl)
            where
              goes : (o : Option _) → sends_to m from (goes_receiving o clock t).send ≡ false
              goes None = refl
              goes (Some receive) = refl
      decision (Refused TimedOut) = gone 2
      decision (Refused Nobody) = gone 4
      decision (Refused Cancelled) = gone 6
      decision (Refused Dropped) = cond_keeps (λ (x : Thread). sends_to m from x.send ≡ false) (is_alive t.phase) _ _
          (λ alive. refl) (λ gone. refl)

  pub stands : Stands m aims from to k r f
  stands = record {
    local = at_to;
    empty = empty;
    undecided =
        each_between m r f IsUndecided to from (λ p e from_is to_is. says p e from_is to_is p.letter.content refl);
    heard = λ i own within.
        let here = here_heard m aims to i l (each i (record { within = within; home = own })) in
        ⊎_elim (λ spared. inl spared) (λ told. inr (omega (
          arith,
          told,
          ap (λ l. told_at l i)
              (local_at r.system.locals from l at_from).1,
        ))) here;
    all = λ i t at.
        let within : i < length m.threads = omega (
          arith,
          slice_get_within f.world.threads i t at,
          f.relates.sized_world.threads,
        ) in
        let same : world_thread f.world i ≡ t = some_is _ _ (sym (world_at m r f i within) ∙ at) in
        subst (IsAway m aims from to i) same (record {
          tame = tame i (world_thread f.world i) (world_at m r f i within);
          clear = λ own. clear i within own;
          away = λ own. away i within own;
        });
  }
    where
      says : (p : Posted) → IsExplained m r.system f.world p → p.from ≡ to → p.to ≡ from → (c : Content) →
          p.letter.content ≡ c → IsNoDecision p.letter.content
      says p e from_is to_is (DoneLetter s result) content =
          let t : Thread = (kept_home m r.system f.world e.i).thread in
          let row = (subst (λ c. RowOf m e.i (seats m e.i (seen_at m r.system f.world e.i)) p c
          × Agrees m (world_thread f.world e.i) (learns c (kept_home m r.system f.world e.i).clock t)) content
          (e.locator (ap is_locator content))).0 in
          true_false (sends_to m to t.send)
          (ap (sends_to m to) row.goes.has ∙ sends_true m to row.goes.send row.goes.r row.goes.to (sym row.from
          ∙ from_is))
          (here e.i e.within (sym row.to ∙ to_is)).send
      says p e from_is to_is (SendLetter s receiver message zero_timeout) content = subst IsNoDecision (sym content) tt
      says p e from_is to_is (WithdrawLetter s receiver cause) content = subst IsNoDecision (sym content) tt
      says p e from_is to_is (GoneLetter id) content = subst IsNoDecision (sym content) tt
      says p e from_is to_is (OrderLetter caller target what) content = subst IsNoDecision (sym content) tt
      says p e from_is to_is (OrderDoneLetter caller) content = subst IsNoDecision (sym content) tt
      says p e from_is to_is (RetargetLetter o) content = subst IsNoDecision (sym content) tt

-- Runs of the others

module _ (m : Machine) (machine : IsMachine m) (set : ℕ → Bool) where
  silent : (aims : Aims) (from to : ℕ) (k : Local) → AreAims m aims → may_propagate m ≡ false → (from ≡ to → ⊥) →
      IsUnanswered m aims from to k → set to ≡ true →
      (es : List Action) (r : Run) (is : IsCoreRun m r) (h : System) → AreOutside set es → Leads m r.system es h →
      Stands m aims from to k r (run_facts m r machine is) →
      letters h.mail from to ≡ []
  silent aims from to k right safe apart waits inside [] r is h outside Done s = s.empty
  silent aims from to k right safe apart waits inside (a ∷ es) r is h outside (Then x goes rest) s =
      let next = one_more m r a x is goes.happens in
      silent aims from to k right safe apart waits inside es (then_event r x) next h outside.1 rest
      (stands_on m aims from to k right machine safe apart waits r (run_facts m r machine is) a x
      (run_facts m (then_event r x) machine next)
      (apart_by set (cpu_of a) to outside.0 inside) goes.happens s)

  -- Two of the set post nothing to each other.
  unposted : (from to : ℕ) → set from ≡ true → set to ≡ true → (es : List Action) (g h : System) → AreOutside set es →
      Leads m g es h → letters g.mail from to ≡ [] →
      letters h.mail from to ≡ []
  unposted from to from_in to_in [] g h outside Done empty = empty
  unposted from to from_in to_in (a ∷ es) g h outside (Then x goes rest) empty =
      let of = deed_of m g a x goes.happens in
      let d = of.transition in
      let cpu : d.cpu ≡ cpu_of a = sym (cpu_is d.cpu d.event) ∙ ap cpu_of of.action in
      let not_to = other_is d.cpu to (λ same. apart_by set (cpu_of a) to outside.0 to_in (sym cpu ∙ same)) in
      let not_from = other_is d.cpu from (λ same. apart_by set (cpu_of a) from outside.0 from_in (sym cpu ∙ same)) in
      let left : letters (given d.cpu d.event g).mail from to ≡ [] =
      ap (λ b. cond b (letters_with from (letter_of d.event)) [] ++ letters (given d.cpu d.event g).mail from to)
      (sym not_to)
      ∙ sym (given-mail d.cpu d.event g of.given from to) ∙ empty in
      let now : letters (done_by d g).system.mail from to ≡ [] =
      mail_then d g from to ∙ ap (λ ls. ls ++ cond (d.cpu == from) (letters_with to d.work.letters) []) left
      ∙ ap (λ b. cond b (letters_with to d.work.letters) []) not_from in
      unposted from to from_in to_in es x.system h outside.1 rest
      (subst (λ (x : Happened). letters x.system.mail from to ≡ []) of.is now)

  -- A run goes on to where events lead.
  goes_on : (es : List Action) (r : Run) → IsCoreRun m r → (h : System) → Leads m r.system es h →
      (t : Run) × (IsCoreRun m t × (t.system ≡ h))
  goes_on [] r is h Done = (r, (is, refl))
  goes_on (a ∷ es) r is h (Then x goes rest) = goes_on es (then_event r x) (one_more m r a x is goes.happens) h rest

  pub closed_persistent : (aims : Aims) (r : Run) → IsCoreRun m r → AreAims m aims → IsClosed m aims r.system set →
      IsPersistent m r.system set
  closed_persistent aims r is right closed es h outside leads from to inside empty = by (set from) refl
    where
      end : (t : Run) × (IsCoreRun m t × (t.system ≡ h))
      end = goes_on es r is h leads

      f : RunFacts m r
      f = run_facts m r machine is

      -- No letters come from or to what is no processor.
      past_from : slice_get r.system.locals from ≡ None → letters h.mail from to ≡ []
      past_from at = subst (λ (h : System). letters h.mail from to ≡ []) end.1.1
          ((run_within m end.1.0.0 end.0 machine end.1.0.1).from from to
          (omega (arith, slice_get_none r.system.locals from at, f.counted)))

      past_to : slice_get r.system.locals to ≡ None → letters h.mail from to ≡ []
      past_to at = subst (λ (h : System). letters h.mail from to ≡ []) end.1.1
          ((run_within m end.1.0.0 end.0 machine end.1.0.1).to from to
          (omega (arith, slice_get_none r.system.locals to at, f.counted)))

      both : (o p : Option Local) → set from ≡ false → slice_get r.system.locals from ≡ o →
          slice_get r.system.locals to ≡ p → letters h.mail from to ≡ []
      both None p out at_from at_to = past_from at_from
      both (Some l) None out at_from at_to = past_to at_to
      both (Some l) (Some k) out at_from at_to =
          let none = closed from to l k out inside at_from at_to empty in
          silent aims from to k right (harmless m aims from to r f machine l k at_from at_to empty none)
          (apart_by set from to out inside)
          (unanswered m aims from to r f machine l k at_from at_to empty none) inside es r is h outside leads
          (stands m aims from to r f machine l k at_from at_to empty none)

      by : (b : Bool) → set from ≡ b → letters h.mail from to ≡ []
      by true is_in = unposted from to is_in inside es r.system h outside leads empty
      by false out = both (slice_get r.system.locals from) (slice_get r.system.locals to) out refl refl
