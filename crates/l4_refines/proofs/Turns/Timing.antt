-- A deadline is past.
use Rattle.std.proofs.Common.{◌≡◌, ℕ, ◌+◌, ◌<◌, Bool, true, false, cond, Option, Some, None, List, [], ◌∷◌, filter, drop, length, refl, ap, sym, ◌∙◌, subst, inl, inr, arith}
use Rattle.std.specs.Prelude.{◌==◌, nat_le, is_some, IfSome}
use Rattle.std.specs.List.{AllByRecursion}
use Rattle.std.proofs.lemmas.Bool.Decides.{nat_tests}
use Rattle.l4_model.specs.Words.{Period}
use Rattle.l4_model.specs.Machine.{Machine}
use Rattle.l4_model.specs.World.{Thread, World, Send, Phase, Ready, Sending, Receiving, Ordering, Ended, Deleted, receive_now}
use Rattle.l4_model.specs.Conditions.{is_zero, has_passed}
use Rattle.l4_model.proofs.Chains.{some_is, cond_keeps}
use Rattle.l4_model.specs.Rules.{TimeOver}
use Rattle.l4_core_model.specs.Plain as plain
use Rattle.l4_core_model.specs.Letters.{ByTimeout, TimedOut}
use Rattle.l4_core_model.specs.Local.{Local, thread, relists, armed_for}
use Rattle.l4_core_model.specs.Acts.{Work, ◌▷◌, does, refuses, fails_for, first_acceptable, withdraws, split_place}
use Rattle.l4_core_model.specs.Turns.{times_out}
use Rattle.l4_core_model.specs.Runs.{IsMachine}
use Rattle.l4_core_model.proofs.Changed.{same_nat}
use Rattle.l4_core_model.proofs.Fit.{Justifies}
use Rattle.l4_core_model.proofs.Lists.{all-drop}
use Rattle.l4_core_model.proofs.Apart.{same_or_apart}
use Rattle.l4_refines.proofs.Lists.{other_is}
use Rattle.l4_refines.proofs.Relation.Views.{Scene, Kept, View, kept, view, home, put, amid}
use Rattle.l4_refines.proofs.Relation.Rows.{deadlines, IsArmed, IsCause, Matches}
use Rattle.l4_refines.proofs.Relation.Relates.{IsSized}
use Rattle.l4_refines.proofs.Frames.Places.{leaves_out, takes_in, Spares, local_changes}
use Rattle.l4_refines.proofs.Frames.Lists.{put_here}
use Rattle.l4_refines.proofs.Frames.Moves.{at_home}
use Rattle.l4_refines.proofs.Frames.Going.{Goes, IsHere, home_is, put_other}
use Rattle.l4_refines.proofs.Turns.Failing.{receive_timeout_goes}
use Rattle.l4_refines.proofs.Turns.Ending.{queued_here, refuses_timed_goes}
use Rattle.l4_refines.proofs.Letters.Noticing.{withdraws_goes}

-- What is armed for a thread justifies its deadline.
pub record IsDeadline (d : ℕ) (p : Phase) (send : Option Send) (others : List (ℕ × ℕ)) : Type 0 where
  pub just : Justifies d p send
  pub none : others ≡ []

none_armed : {P : Type 0} (a : ℕ × ℕ) (others : List (ℕ × ℕ)) → [] ≡ a ∷ others → P
none_armed a others h = cc

same_passed : (n since d : ℕ) → since + n ≡ d → nat_le (since + n) d ≡ true
same_passed n since d e = grind (arith, nat_tests)

deadline_is : (i : ℕ) (p : Phase) (send : Option Send) (a : ℕ × ℕ) (others : List (ℕ × ℕ)) → deadlines i p send ≡ a ∷ others → IsDeadline a.0 p send others
deadline_is i Ready send a others h = none_armed a others h
deadline_is i Sending None a others h = none_armed a others h
deadline_is i Sending (Some send) a others h = by (is_zero send.period) refl send.period refl h
  where
    by : (b : Bool) → is_zero send.period ≡ b → (period : Period) → send.period ≡ period → armed_for (cond b None period) send.since i [] ≡ a ∷ others →
        IsDeadline a.0 Sending (Some send) others
    by true z period is h = none_armed a others h
    by false z None is h = none_armed a others h
    by false z (Some n) is h =
        let first : (send.since + n, i) ≡ a = cc in
        let passed = same_passed n send.since a.0 (ap (λ (e : ℕ × ℕ). e.0) first) in
        record { just = (rw is passed, z); none = cc }
deadline_is i (Receiving receive since) send a others h = by receive.period refl h
  where
    by : (period : Period) → receive.period ≡ period → armed_for period since i [] ≡ a ∷ others → IsDeadline a.0 (Receiving receive since) send others
    by None is h = none_armed a others h
    by (Some n) is h =
        let first : (since + n, i) ≡ a = cc in
        let passed = same_passed n since a.0 (ap (λ (e : ℕ × ℕ). e.0) first) in
        record { just = rw is passed; none = cc }
deadline_is i Ordering send a others h = none_armed a others h
deadline_is i Ended send a others h = none_armed a others h
deadline_is i Deleted send a others h = none_armed a others h

-- The first armed entry is taken out.

abbrev entries : ℕ → List (ℕ × ℕ) → List (ℕ × ℕ)
entries i armed = filter (λ (e : ℕ × ℕ). i == e.1) armed

skipped : (j : ℕ) (a : ℕ × ℕ) (others : List (ℕ × ℕ)) → (a.1 ≡ j → ⊥) → entries j (a ∷ others) ≡ entries j others
skipped j a others ne = let apart = other_is j a.1 (λ e. ne (sym e)) in rw apart refl

first_kept : (a : ℕ × ℕ) (others : List (ℕ × ℕ)) → entries a.1 (a ∷ others) ≡ a ∷ entries a.1 others
first_kept a others = let same = same_nat a.1 in rw same refl

pub popped_spares : (m : Machine) (l : Local) (a : ℕ × ℕ) (others : List (ℕ × ℕ)) → l.lists.armed ≡ a ∷ others →
    Spares m (a.1 ∷ []) l (relists plain.popped_due l)
popped_spares m l a others at = record {
  sized = λ z. record {
    threads = z.threads;
    lists = z.lists;
    told = z.told;
    ready = z.ready;
    armed = all-drop (λ (e : ℕ × ℕ). e.1 < length m.threads) l.lists.armed z.armed;
    listed = z.listed;
  };
  clock = refl;
  owed = refl;
  kept = λ j out. ap (λ es. record (kept l j) { armed = es })
      (ap (λ es. entries j (drop 1 es)) at ∙ sym (skipped j a others (λ e. out.0 (sym e))) ∙ sym (ap (entries j) at));
}

-- Nothing else is said of what is armed.
abbrev with_armed : (ℕ → List (ℕ × ℕ)) → View → View
with_armed armed v = record v { kept = λ cpu. record (v.kept cpu) { armed = armed cpu } }

matches_with_armed : (m : Machine) (i : ℕ) (armed : ℕ → List (ℕ × ℕ)) (v : View) → IsArmed i (at_home m i v).thread (armed (home m i)) →
    ((cpu : ℕ) → (cpu ≡ home m i → ⊥) → armed cpu ≡ []) → Matches m i v → Matches m i (with_armed armed v)
matches_with_armed m i armed v here none h = record {
  known = record {
    agrees = h.known.agrees;
    row = h.known.row;
    kept = record {
      at_home = record { good = h.known.kept.at_home.good; armed = here; owes = h.known.kept.at_home.owes };
      elsewhere = λ c ne. let e = h.known.kept.elsewhere c ne in record { ready = e.ready; armed = none c ne; gone = e.gone };
      notices = h.known.kept.notices;
    };
  };
  ready = h.ready;
}

-- What is so after it
pub record IsDue (m : Machine) (cpu d i : ℕ) (s : Scene) (w : World) (x : Work) : Type 0 where
  pub here : IsHere m cpu i
  pub goes : Goes m cpu s w [] x
  pub just : Justifies d (thread x.local i).phase (thread x.local i).send

-- A thread whose deadline was armed here is of this processor, and its deadline is that of its phase.
pub due_goes : (m : Machine) (cpu : ℕ) (s : Scene) (w : World) (x : Work) (a : ℕ × ℕ) (others : List (ℕ × ℕ)) → IsMachine m → cpu < m.cpus →
    (e : Goes m cpu s w [] x) → x.local.lists.armed ≡ a ∷ others → IsDue m cpu a.0 a.1 s w (x ▷ does (relists plain.popped_due))
due_goes m cpu s w x a others machine processor e at =
    let i : ℕ = a.1 in
    let y : Work = x ▷ does (relists plain.popped_due) in
    let v : View = view m (amid cpu s x) e.now i in
    let after : View = view m (amid cpu s y) e.now i in
    let sized = subst (IsSized m) (put_here cpu cpu x.local s.locals refl) (e.relates.sized cpu processor) in
    let lt : i < length m.threads = (subst (AllByRecursion (λ (e : ℕ × ℕ). e.1 < length m.threads)) at sized.armed).0 in
    let h = e.relates.places i lt tt in
    let old : v.kept cpu ≡ kept x.local i = ap (λ l. kept l i) (put_here cpu cpu x.local s.locals refl) in
    let armed : (v.kept cpu).armed ≡ a ∷ entries i others = ap (λ (k : Kept). k.armed) old ∙ ap (entries i) at ∙ first_kept a others in
    let home_is_cpu : home m i ≡ cpu =
    same_or_apart (home m i ≡ cpu) cpu (home m i) (λ same. sym same)
    (λ ne. none_armed a (entries i others) (sym (h.known.kept.elsewhere cpu ne).armed ∙ armed)) in
    let here : IsHere m cpu i = record { machine = machine; within = lt; home = home_is_cpu } in
    let was : at_home m i v ≡ kept x.local i = home_is m cpu i s x e.now home_is_cpu in
    let mine : (at_home m i v).armed ≡ a ∷ entries i others = ap (λ c. (v.kept c).armed) home_is_cpu ∙ armed in
    let deadline = armed_is i (at_home m i v).thread a (entries i others) (at_home m i v).armed mine h.known.kept.at_home.armed in
    let is : at_home m i after ≡ kept y.local i = home_is m cpu i s y e.now home_is_cpu in
    let left : (at_home m i after).armed ≡ [] = ap (λ (k : Kept). k.armed) is ∙ ap (λ es. entries i (drop 1 es)) at ∙ deadline.none in
    record {
      here = here;
      goes = record {
        starts = e.starts;
        now = e.now;
        reaches = e.reaches;
        relates = takes_in m i [] (amid cpu s y) e.now
            (local_changes m cpu (i ∷ []) s e.now x (relists plain.popped_due) (popped_spares m x.local a others at) refl
            (leaves_out m i [] (amid cpu s x) e.now e.relates))
            (subst (Matches m i) (sym (seen i))
            (matches_with_armed m i (λ c. (after.kept c).armed) v (inr left)
            (λ c ne. ap (λ (k : Kept). k.armed) (put_other cpu c i x.local y.local s.locals (λ same. ne (sym same ∙ sym home_is_cpu)))
            ∙ (h.known.kept.elsewhere c ne).armed) h));
      };
      just = subst (λ (k : Kept). Justifies a.0 k.thread.phase k.thread.send) was deadline.just;
    }
  where
    seen_at : (i c : ℕ) (b : Bool) →
        kept (cond b (relists plain.popped_due x.local) (s.locals c)) i ≡ record
        (kept (cond b x.local (s.locals c)) i) { armed = (kept (cond b (relists plain.popped_due x.local) (s.locals c)) i).armed }
    seen_at i c true = refl
    seen_at i c false = refl

    seen : (i : ℕ) → view m (amid cpu s (x ▷ does (relists plain.popped_due))) e.now i ≡ with_armed
        (λ c. (kept (put cpu (relists plain.popped_due x.local) s.locals c) i).armed) (view m (amid cpu s x) e.now i)
    seen i = λ d. record (view m (amid cpu s x) e.now i) { kept = λ c. seen_at i c (cpu == c) d }

    armed_is : (i : ℕ) (t : Thread) (a : ℕ × ℕ) (others armed : List (ℕ × ℕ)) → armed ≡ a ∷ others → IsArmed i t armed → IsDeadline a.0 t.phase t.send others
    armed_is i t a others armed is (inl exact) = deadline_is i t.phase t.send a others (sym exact ∙ is)
    armed_is i t a others armed is (inr none) = none_armed a others (sym none ∙ is)

-- The receive phase or the send whose deadline it was fails, or is withdrawn.

later_passed : (period : Period) (since d now : ℕ) → has_passed period since d ≡ true → nat_le d now ≡ true → has_passed period since now ≡ true
later_passed None since d now h le = cc
later_passed (Some n) since d now h le = grind (arith, nat_tests)

-- Whatever is due fails, is refused or is withdrawn.
pub times_out_goes : (m : Machine) (cpu d i : ℕ) (s : Scene) (w : World) (x : Work) → cpu < m.cpus → IsDue m cpu d i s w x → nat_le d x.local.clock ≡ true →
    first_acceptable x.local i ≡ None → Goes m cpu s w [] (times_out m cpu i x)
times_out_goes m cpu d i s w x processor h past none = by (thread x.local i).phase (thread x.local i).send refl refl h.just
  where
    receiving_now : is_some (receive_now (thread x.local i).phase) ≡ true → Goes m cpu s w [] (fails_for m TimeOver i x) →
        Goes m cpu s w [] (times_out m cpu i x)
    receiving_now is g = rw is g

    sending_now : is_some (receive_now (thread x.local i).phase) ≡ false →
        Goes m cpu s w [] (cond (plain.is_queued x.local.lists i) (refuses m cpu TimedOut i x) (withdraws m ByTimeout i (split_place m cpu x.local i) x)) →
        Goes m cpu s w [] (times_out m cpu i x)
    sending_now is g = rw is g

    queued_goes : (send : Send) → (thread x.local i).send ≡ Some send → has_passed send.period send.since x.local.clock ≡ true → is_zero send.period ≡ false →
        plain.is_queued x.local.lists i ≡ true → Goes m cpu s w [] (refuses m cpu TimedOut i x)
    queued_goes send has passed finite queued =
        let q = queued_here m cpu i s w x processor h.goes h.here.machine h.here.within queued in
        let l = q.1 in
        let was = home_is m cpu i s x l.has.goes.now h.here.home in
        let same : send ≡ l.send = some_is send l.send (sym has ∙ sym (ap (λ (k : Kept). k.thread.send) was) ∙ l.has.at.has) in
        refuses_timed_goes m cpu q.0 i s w x l (ap (λ (s : Send). is_zero s.period) (sym same) ∙ finite)
        (subst (λ (s : Send). has_passed s.period s.since (at_home m i (view m (amid cpu s_here x) l.has.goes.now i)).clock ≡ true) same
        (subst (λ (k : Kept). has_passed send.period send.since k.clock ≡ true) (sym was) passed))
      where
        s_here : Scene
        s_here = s

    by : (p : Phase) (o : Option Send) → (thread x.local i).phase ≡ p → (thread x.local i).send ≡ o → Justifies d p o → Goes m cpu s w [] (times_out m cpu i x)
    by (Receiving receive since) o is has just =
        receiving_now (ap (λ p. is_some (receive_now p)) is)
        (receive_timeout_goes m cpu i s w x receive since (record { here = h.here; processor = processor; goes = h.goes; receiving = is })
        (later_passed receive.period since d x.local.clock just past) none)
    by Sending (Some send) is has just =
        let passed = later_passed send.period send.since d x.local.clock just.0 past in
        sending_now (ap (λ p. is_some (receive_now p)) is)
        (cond_keeps (Goes m cpu s w []) (plain.is_queued x.local.lists i) (refuses m cpu TimedOut i x) (withdraws m ByTimeout i (split_place m cpu x.local i) x)
        (λ queued. queued_goes send has passed just.1 queued)
        (λ other. withdraws_goes m cpu i ByTimeout s w x h.here h.goes
        (subst (λ o. IfSome o (IsCause ByTimeout x.local.clock (thread x.local i))) (sym has) (passed, just.1))))
    by Sending None is has just = absurd just
    by Ready o is has just = absurd just
    by Ordering o is has just = absurd just
    by Ended o is has just = absurd just
    by Deleted o is has just = absurd just
