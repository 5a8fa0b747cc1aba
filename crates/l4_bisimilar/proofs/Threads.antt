-- What a change of a thread does to two threads that are the same in some way.
use Rattle.std.proofs.Common.{◌≡◌, ℕ, ◌+◌, Bool, true, false, cond, Option, Some, None, refl, ap, sym, ◌∙◌}
use Rattle.std.specs.Prelude.{◌||◌}
use Rattle.std.specs.Option.{option_map}
use Rattle.l4_model.specs.Machine.{OrderKind, CancelSend, CancelReceive, CancelBoth, Delete, Instr, Run, Ipc, Ask, End}
use Rattle.l4_model.specs.World.{Send, Receive, Owed, Phase, Ready, Sending, Receiving, Ordering, Ended, Deleted, Thread, is_alive, is_sending}
use Rattle.l4_model.specs.Rules.{advanced}
use Rattle.l4_model.specs.Effects.{runs, begins, waits, fails, decided, goes_on, asked, has_receive_phase, turns, turned_send, turns_in, obeyed}
use Rattle.l4_core_model.specs.Letters.{Result, Delivered, Refused, TimedOut, Nobody, Cancelled, Dropped}
use Rattle.l4_core_model.specs.Local.{after_decision, armed_period, stands_in, was_delivered}
use Rattle.l4_bisimilar.proofs.Ways.{Way, bare_thread, counted_owed, timed_phase, timed_send}

abbrev pub AreSame : Way → Thread → Thread → Type 0
AreSame w t u = bare_thread w t ≡ bare_thread w u

-- Two changes, of one thread each, after which both are the same again.
abbrev pub AreBoth : Way → (f g : Thread → Thread) → Type 0
AreBoth w f g = (t u : Thread) → AreSame w t u → AreSame w (f t) (g u)

-- What does not depend on when a receive phase began

abbrev pub IsTimeless : {A : Type 0} → (Phase → A) → Type 0
IsTimeless f = (receive : Receive) (since other : ℕ) → f (Receiving receive since) ≡ f (Receiving receive other)

pub timeless : {A : Type 0} (f : Phase → A) → IsTimeless f → (time : ℕ → ℕ) (p : Phase) → f (timed_phase time p) ≡ f p
timeless f e time Ready = refl
timeless f e time Sending = refl
timeless f e time (Receiving receive since) = e receive (time since) since
timeless f e time Ordering = refl
timeless f e time Ended = refl
timeless f e time Deleted = refl

module _ (w : Way) where
  pub same_phase : {A : Type 0} (f : Phase → A) → IsTimeless f → (t u : Thread) → AreSame w t u →
      f t.phase ≡ f u.phase
  same_phase f e t u h =
      sym (timeless f e w.time t.phase) ∙ ap (λ (v : Thread). f v.phase) h ∙ timeless f e w.time u.phase

  pub same_send : {A : Type 0} (f : Option Send → A) →
      ((s : Send) → f (Some (timed_send w.time s)) ≡ f (Some s)) → (t u : Thread) → AreSame w t u →
      f t.send ≡ f u.send
  same_send f e t u h = sym (by t.send) ∙ ap (λ (v : Thread). f v.send) h ∙ by u.send
    where
      by : (o : Option Send) → f (option_map (timed_send w.time) o) ≡ f o
      by None = refl
      by (Some s) = e s

  receives_timeless : (p : Phase) (send : Option Send) →
      has_receive_phase (timed_phase w.time p) (option_map (timed_send w.time) send) ≡ has_receive_phase p send
  receives_timeless Ready send = refl
  receives_timeless Sending None = refl
  receives_timeless Sending (Some send) = refl
  receives_timeless (Receiving receive since) send = refl
  receives_timeless Ordering send = refl
  receives_timeless Ended send = refl
  receives_timeless Deleted send = refl

  period_timeless : (p : Phase) (send : Option Send) →
      armed_period (timed_phase w.time p) (option_map (timed_send w.time) send) ≡ armed_period p send
  period_timeless Ready send = refl
  period_timeless Sending None = refl
  period_timeless Sending (Some send) = refl
  period_timeless (Receiving receive since) send = refl
  period_timeless Ordering send = refl
  period_timeless Ended send = refl
  period_timeless Deleted send = refl

  pub same_period : (t u : Thread) → AreSame w t u → armed_period t.phase t.send ≡ armed_period u.phase u.send
  same_period t u h =
      sym (period_timeless t.phase t.send) ∙ ap (λ (v : Thread). armed_period v.phase v.send) h
      ∙ period_timeless u.phase u.send

  alive : (t : Thread) → is_alive t.phase ≡ is_alive (bare_thread w t).phase
  alive t = sym (timeless is_alive (λ r a b. refl) w.time t.phase)

  cond_same : (b c : Bool) (x y v u : Thread) → b ≡ c → bare_thread w x ≡ v → bare_thread w y ≡ u →
      bare_thread w (cond b x y) ≡ cond c v u
  cond_same true true x y v u e p q = p
  cond_same false false x y v u e p q = q
  cond_same true false x y v u e p q = cc
  cond_same false true x y v u e p q = cc

  -- Changes that do the same to a thread as it is and as the way takes it

  abbrev IsSame : (f g : Thread → Thread) → Type 0
  IsSame f g = (t : Thread) → bare_thread w (f t) ≡ g (bare_thread w t)

  pub both : (f : Thread → Thread) → IsSame f f → AreBoth w f f
  both f e t u h = e t ∙ ap f h ∙ sym (e u)

  pub fails_same : (code : ℕ) → IsSame (fails code) (fails code)
  fails_same code t = cond_same _ _ _ _ _ _ (alive t) refl refl

  goes_on_same : (receive : Option Receive) (now : ℕ) → IsSame (goes_on receive now) (goes_on receive (w.time now))
  goes_on_same None now t = refl
  goes_on_same (Some receive) now t = refl

  was_delivered_same : (send : Option Send) (now : ℕ) →
      IsSame (was_delivered send now) (was_delivered (option_map (timed_send w.time) send) (w.time now))
  was_delivered_same None now t = refl
  was_delivered_same (Some send) now t = cond_same _ _ _ _ _ _ (alive t) (goes_on_same send.receive now t) refl

  after_decision_same : (result : Result) (now : ℕ) →
      IsSame (after_decision result now) (after_decision result (w.time now))
  after_decision_same Delivered now t = was_delivered_same t.send now t
  after_decision_same (Refused TimedOut) now t = fails_same 2 (decided t)
  after_decision_same (Refused Nobody) now t = fails_same 4 (decided t)
  after_decision_same (Refused Cancelled) now t = fails_same 6 (decided t)
  after_decision_same (Refused Dropped) now t = cond_same _ _ _ _ _ _ (alive t) refl refl

  pub decision_both : (result : Result) (now then : ℕ) → w.time now ≡ w.time then →
      AreBoth w (after_decision result now) (after_decision result then)
  decision_both result now then e t u h =
      after_decision_same result now t ∙ (λ j. after_decision result (e j) (h j))
      ∙ sym (after_decision_same result then u)

  turned_timeless : (o : Owed) (send : Option Send) →
      option_map (timed_send w.time) (option_map (turned_send o) send)
      ≡ option_map (turned_send (counted_owed w.count o)) (option_map (timed_send w.time) send)
  turned_timeless o None = refl
  turned_timeless o (Some send) = refl

  turns_same : (o : Owed) → IsSame (turns o) (turns (counted_owed w.count o))
  turns_same o t = by t.phase
    where
      by : (p : Phase) → bare_thread w (turns_in p o (record t { phase = p }))
          ≡ turns_in (timed_phase w.time p) (counted_owed w.count o) (bare_thread w (record t { phase = p }))
      by Ready = refl
      by Sending = ap (λ (send : Option Send).
          let u : Thread = record (bare_thread w t) { phase = Sending; send = send } in u)
          (turned_timeless o t.send)
      by (Receiving receive since) = refl
      by Ordering = refl
      by Ended = refl
      by Deleted = refl

  pub turns_both : (o p : Owed) → counted_owed w.count o ≡ counted_owed w.count p → AreBoth w (turns o) (turns p)
  turns_both o p e t u h = turns_same o t ∙ (λ j. turns (e j) (h j)) ∙ sym (turns_same p u)

  asked_send_same : IsSame (asked CancelSend) (asked CancelSend)
  asked_send_same t =
      ap (λ b. let u : Thread = record (bare_thread w t) { cancel_send = t.cancel_send || b } in u)
      (sym (timeless is_sending (λ r a b. refl) w.time t.phase))

  asked_receive_same : IsSame (asked CancelReceive) (asked CancelReceive)
  asked_receive_same t =
      ap (λ b. let u : Thread = record (bare_thread w t) { cancel_receive = t.cancel_receive || b } in u)
      (sym (receives_timeless t.phase t.send))

  pub asked_same : (what : OrderKind) → IsSame (asked what) (asked what)
  asked_same CancelSend t = asked_send_same t
  asked_same CancelReceive t = asked_receive_same t
  asked_same CancelBoth t = asked_receive_same (asked CancelSend t) ∙ ap (asked CancelReceive) (asked_send_same t)
  asked_same Delete t = refl

  pub obeyed_same : IsSame obeyed obeyed
  obeyed_same t = cond_same _ _ _ _ _ _ (alive t) refl refl

  pub runs_same : (i : Instr) → IsSame (runs i) (runs i)
  runs_same (Run own) t = refl
  runs_same (Ipc to from send_period receive_period) t = refl
  runs_same (Ask target what) t = refl
  runs_same End t = refl

  -- A send begins, a foreign one stands here, and a receive phase begins.

  pub begins_both : (s r : Send) → timed_send w.time s ≡ timed_send w.time r → AreBoth w (begins s) (begins r)
  begins_both s r e t u h = λ j. record (h j) {
    context = record (advanced (h j).context) { begun = count j };
    phase = Sending;
    send = Some (e j);
  }
    where
      count : w.count (t.context.begun + 1) ≡ w.count (u.context.begun + 1)
      count = w.counted t.context.begun u.context.begun (ap (λ (v : Thread). v.context.begun) h)

  pub stands_both : (k n : ℕ) (send : Send) → w.count k ≡ w.count n → AreBoth w (stands_in k send) (stands_in n send)
  stands_both k n send e t u h = λ j. stands_in (e j) (timed_send w.time send) (h j)

  pub waits_both : (receive : Receive) (now then : ℕ) → w.time now ≡ w.time then →
      AreBoth w (waits receive now) (waits receive then)
  waits_both receive now then e t u h = λ j. waits receive (e j) (h j)
