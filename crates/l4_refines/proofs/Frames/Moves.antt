-- A thread comes to another phase at home, and all else that is said of it stays.
use Rattle.std.proofs.Common.{◌≡◌, ℕ, ◌≤◌, true, Option, Some, None, [], ◌∷◌, refl, ap, sym, ◌∙◌, subst, inl, arith}
use Rattle.std.specs.Prelude.{IfSome}
use Rattle.std.specs.List.{AllByRecursion}
use Rattle.l4_model.specs.Machine.{Machine}
use Rattle.l4_model.specs.World.{Thread, Send, Phase, Ready, Sending, Receiving, Ordering, Ended, Deleted, is_deleted, is_ready}
use Rattle.l4_core_model.specs.Letters.{Content, SendLetter, DoneLetter, WithdrawLetter, GoneLetter, OrderLetter, OrderDoneLetter, RetargetLetter, Cause}
use Rattle.l4_core_model.specs.Local.{armed_for, armed_period}
use Rattle.l4_core_model.specs.Runs.{Posted}
use Rattle.l4_core_model.proofs.Fit.{IsGood}
use Rattle.l4_core_model.proofs.Lists.{all-map}
use Rattle.l4_refines.proofs.Frames.Locals.{come}
use Rattle.l4_refines.proofs.Relation.Views.{Kept, View, kept, home, notices, locators}
use Rattle.l4_refines.proofs.Relation.Rows.{seats, Agrees, learned, Row, RowOf, IsKept, IsUnplaced, IsKeptAtHome, IsKeptElsewhere, deadlines, IsCause, IsNotice, IsNoticeOf, Known, OwesIn}

abbrev pub at_home : Machine → ℕ → View → Kept
at_home m i v = v.kept (home m i)

-- What is said of a thread by others is true of it later: it stays deleted, and no earlier send begins again.
pub record StaysTrue (k after : Kept) : Type 0 where
  pub deleted : k.thread.phase ≡ Deleted → after.thread.phase ≡ Deleted
  pub begun : k.thread.context.begun ≤ after.thread.context.begun
  pub causes : (cause : Cause) → k.thread.context.begun ≡ after.thread.context.begun → IfSome k.thread.send (IsCause cause k.clock k.thread) →
      IfSome after.thread.send (IsCause cause after.clock after.thread)

-- An entry elsewhere, but for its send
pub record IsAlike (k after : Kept) : Type 0 where
  pub ready : after.ready ≡ k.ready
  pub armed : after.armed ≡ k.armed
  pub phase : after.thread.phase ≡ k.thread.phase

pub same_alike : (k after : Kept) → after ≡ k → IsAlike k after
same_alike k after e = record { ready = ap (λ (k : Kept). k.ready) e; armed = ap (λ (k : Kept). k.armed) e; phase = ap (λ (k : Kept). k.thread.phase) e }

-- What is kept of it has changed in its send or at home, and a letter that says where its send is may have come or gone.
pub record Moves (m : Machine) (i : ℕ) (v after : View) : Type 0 where
  pub elsewhere : (cpu : ℕ) → (cpu ≡ home m i → ⊥) → IsAlike (v.kept cpu) (after.kept cpu)
  pub notices : notices after.mail ≡ notices v.mail
  pub stays_true : StaysTrue (at_home m i v) (at_home m i after)

pub deleted_phase : (p : Phase) → is_deleted p ≡ true → p ≡ Deleted
deleted_phase Ready h = cc
deleted_phase Sending h = cc
deleted_phase (Receiving receive since) h = cc
deleted_phase Ordering h = cc
deleted_phase Ended h = cc
deleted_phase Deleted h = refl

-- A ready thread is not deleted.
pub ready_is_alive : {P : Type 0} (p : Phase) → p ≡ Deleted → is_ready p ≡ true → P
ready_is_alive p gone ready = let h : is_ready Deleted ≡ true = subst (λ p. is_ready p ≡ true) gone ready in cc

-- Nothing is to be shown of a send that is not there.
pub of_none : (P : Send → Type 0) (o : Option Send) → o ≡ None → IfSome o P
of_none P o is = rw is tt

moved_elsewhere : (m : Machine) (i : ℕ) (v after : View) → IsKept m i v → Moves m i v after → (cpu : ℕ) → (cpu ≡ home m i → ⊥) →
    IsKeptElsewhere (at_home m i after).thread (after.kept cpu)
moved_elsewhere m i v after known moves cpu ne =
    let old = known.elsewhere cpu ne in
    let same = moves.elsewhere cpu ne in
    record {
      ready = same.ready ∙ old.ready;
      armed = same.armed ∙ old.armed;
      gone = λ h. ap is_deleted (moves.stays_true.deleted (deleted_phase _ (old.gone (sym (ap is_deleted same.phase) ∙ h))));
    }

moved_notice : (m : Machine) (i : ℕ) (k after : Kept) (p : Posted) (c : Content) → StaysTrue k after → IsNoticeOf m i k p c → IsNoticeOf m i after p c
moved_notice m i k after p (SendLetter s receiver message zero_timeout) stays_true h = h
moved_notice m i k after p (DoneLetter s result) stays_true h = h
moved_notice m i k after p (WithdrawLetter s receiver cause) stays_true h = record {
  r = h.r;
  place = h.place;
  split = h.split;
  to = h.to;
  number = let a = h.number in let b = stays_true.begun in omega arith;
  true_cause = λ e. let a = h.number in let b = stays_true.begun in
      let same : k.thread.context.begun ≡ after.thread.context.begun = omega arith in
      stays_true.causes cause same (h.true_cause (omega arith));
}
moved_notice m i k after p (GoneLetter id) stays_true h = (stays_true.deleted h.0, h.1)
moved_notice m i k after p (OrderLetter caller target what) stays_true h = h
moved_notice m i k after p (OrderDoneLetter caller) stays_true h = h
moved_notice m i k after p (RetargetLetter o) stays_true h = tt

moved_notices : (m : Machine) (i : ℕ) (v after : View) → IsKept m i v → Moves m i v after →
    AllByRecursion (IsNotice m i (at_home m i after)) (notices after.mail)
moved_notices m i v after known moves =
    subst (AllByRecursion (IsNotice m i (at_home m i after))) (sym moves.notices)
    (all-map (IsNotice m i (at_home m i v)) (IsNotice m i (at_home m i after))
    (λ p h. moved_notice m i (at_home m i v) (at_home m i after) p p.letter.content moves.stays_true h) (notices v.mail) known.notices)

pub moves_kept : (m : Machine) (i : ℕ) (v after : View) → IsKept m i v → Moves m i v after → IsKeptAtHome i (at_home m i after) → IsKept m i after
moves_kept m i v after known moves here = record {
  at_home = here;
  elsewhere = moved_elsewhere m i v after known moves;
  notices = moved_notices m i v after known moves;
}

-- It has neither send nor order now, and no letter says where they are.
pub plain_known : (m : Machine) (i : ℕ) (v : View) → IsKept m i v → IsUnplaced m i (seats m i v) → locators v.mail ≡ [] →
    (at_home m i v).thread.send ≡ None → (at_home m i v).thread.order ≡ None → Agrees m v.world (at_home m i v).thread → Known m i v
plain_known m i v kept none quiet no_send no_order agrees = record {
  agrees = subst (λ ps. Agrees m v.world (learned ps (at_home m i v).clock (at_home m i v).thread)) (sym quiet) agrees;
  row = subst (λ ps. Row m i (seats m i v) ps (at_home m i v).thread.send) (sym quiet)
      (subst (Row m i (seats m i v) []) (sym no_send) (record { order = no_order; unplaced = none }));
  kept = kept;
}

-- Its send is decided, or an order, or a letter says where it is.
pub located_known : (m : Machine) (i : ℕ) (v : View) (p : Posted) → IsKept m i v → locators v.mail ≡ p ∷ [] → RowOf m i (seats m i v) p p.letter.content →
    Agrees m v.world (learned (p ∷ []) (at_home m i v).clock (at_home m i v).thread) → Known m i v
located_known m i v p kept locator row agrees = record {
  agrees = subst (λ ps. Agrees m v.world (learned ps (at_home m i v).clock (at_home m i v).thread)) (sym locator) agrees;
  row = subst (λ ps. Row m i (seats m i v) ps (at_home m i v).thread.send) (sym locator) row;
  kept = kept;
}

-- What home keeps after a thread has come to a phase that begins now

-- A phase begins now: its deadline counts from the clock.
abbrev pub IsFresh : ℕ → Phase → Option Send → Type 0
IsFresh clock (Receiving receive since) send = since ≡ clock
IsFresh clock Sending (Some send) = send.since ≡ clock
IsFresh clock _ send = Unit {0}

fresh_armed : (i clock : ℕ) (p : Phase) (send : Option Send) → IsFresh clock p send → armed_for (armed_period p send) clock i [] ≡ deadlines i p send
fresh_armed i clock Ready send h = refl
fresh_armed i clock Sending None h = refl
fresh_armed i clock Sending (Some send) h = ap (λ c. armed_for (armed_period Sending (Some send)) c i []) (sym h)
fresh_armed i clock (Receiving receive since) send h = ap (λ c. armed_for receive.period c i []) (sym h)
fresh_armed i clock Ordering send h = refl
fresh_armed i clock Ended send h = refl
fresh_armed i clock Deleted send h = refl

pub come_kept : (i : ℕ) (f : Thread → Thread) (k : Kept) → IsGood k.clock (f k.thread) → IsFresh k.clock (f k.thread).phase (f k.thread).send →
    OwesIn (f k.thread).phase k.owed → IsKeptAtHome i (come i f k)
come_kept i f k good fresh owes = record { good = good; owes = owes; armed = inl (fresh_armed i k.clock (f k.thread).phase (f k.thread).send fresh) }
