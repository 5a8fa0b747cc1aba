-- What is promised is kept where a send is withdrawn, and where an order is given or obeyed.
use Rattle.l4_refines.proofs.Lists.{all_true, other_is}
use Rattle.std.proofs.Common.{◌≡◌, ℕ, ◌<◌, Bool, true, false, Option, Some, None, [], ◌∷◌, length, refl, ap, sym, ◌∙◌, subst, inr, arith}
use Rattle.std.specs.Prelude.{◌||◌}
use Rattle.l4_model.specs.Words.{GlobalId}
use Rattle.l4_model.specs.Machine.{Machine, OrderKind, CancelSend, CancelReceive, CancelBoth, Delete}
use Rattle.l4_model.specs.World.{Send, Thread, Phase, Ready, Sending, Receiving, Ordering, Ended, Deleted, is_deleted, is_sending}
use Rattle.l4_model.specs.Steps.{Obey}
use Rattle.l4_model.specs.Effects.{asked, asked_send}
use Rattle.l4_model.proofs.Chains.{cond_keeps, some_is}
use Rattle.l4_core_model.specs.Plain as plain
use Rattle.l4_core_model.specs.Letters.{Cause, ByCancel, ByDeletion, WithdrawLetter, cause_of}
use Rattle.l4_core_model.specs.Local.{Local, declared, is_own, thread, destination_place, last_name, relists, changes, comes_to}
use Rattle.l4_core_model.specs.Acts.{Work, ◌▷◌, tells, does, posts, asks, split_receiver, split_place, withdraws, withdraws_for, obeys}
use Rattle.l4_core_model.specs.Runs.{Posted, posted}
use Rattle.l4_refines.proofs.Relation.Views.{Kept, Scene, kept, home, amid}
use Rattle.l4_refines.proofs.Relation.Rows.{name_of}
use Rattle.l4_refines.proofs.Frames.Locals.{come, comes_here, changes_here}
use Rattle.l4_refines.proofs.Frames.Mail.{mail_posted}
use Rattle.l4_refines.proofs.Frames.Moves.{deleted_phase}
use Rattle.l4_refines.proofs.Frames.Going.{put_home}
use Rattle.l4_refines.proofs.Promises.Promised.{MayFollow, IsArmedUnlessSplit, IsCalm, kept_at, Promised, HasAnswer}
use Rattle.l4_refines.proofs.Promises.Letters.{any_last}
use Rattle.l4_refines.proofs.Promises.Frames.{leaves_one, takes_one, posts_keeps}
use Rattle.l4_refines.proofs.Promises.Locals.{IsSteady, size_now, local_keeps, relists_keeps, come_armed, comes_harmless, takes_harmless, changes_harmless}
use Rattle.l4_refines.proofs.Promises.Acts.{StaysPromised}

-- A split send is withdrawn.

split_is : (m : Machine) (cpu r : ℕ) (l : Local) (j : ℕ) (send : Send) → (thread l j).send ≡ Some send → destination_place m send.to ≡ Some r →
    (home m r ≡ cpu → ⊥) → split_place m cpu l j ≡ Some r
split_is m cpu r l j send has to away =
    let other : is_own m cpu r ≡ false = other_is (home m r) cpu away in
    ap (split_receiver m cpu) has ∙ (rw (to, other) refl)

-- Its withdrawal is the answer, where it is to end.
pub withdraws_keeps : (m : Machine) (cpu j : ℕ) (cause : Cause) (s : Scene) (x : Work) → home m j ≡ cpu →
    (j < length m.threads → IsArmedUnlessSplit m j (kept x.local j)) → Promised m (j ∷ []) (amid cpu s x) →
    StaysPromised m cpu s (withdraws m cause j (split_place m cpu x.local j) x)
withdraws_keeps m cpu j cause s x here armed p = by (split_place m cpu x.local j) refl
  where
    is : kept_at (amid cpu s x) (home m j) j ≡ kept x.local j
    is = ap (λ l. kept l j) (put_home m cpu j s x.local here)

    by : (o : Option ℕ) → split_place m cpu x.local j ≡ o → StaysPromised m cpu s (withdraws m cause j o x)
    by None none = takes_one m j [] (amid cpu s x) p (λ lt. subst (IsArmedUnlessSplit m j) (sym is) (armed lt))
        (λ lt send r has to away ending. none_split send r (sym (ap (λ (k : Kept). k.thread.send) is) ∙ has) to (λ e. away (e ∙ sym here)) none)
      where
        none_split : {P : Type 0} (send : Send) (r : ℕ) → (thread x.local j).send ≡ Some send → destination_place m send.to ≡ Some r → (home m r ≡ cpu → ⊥) →
            split_place m cpu x.local j ≡ None → P
        none_split send r has to away none = let both = sym (split_is m cpu r x.local j send has to away) ∙ none in cc
    by (Some q) some =
        let letter = WithdrawLetter (last_name m x.local j) (declared m q).id cause in
        let y : Work = x ▷ posts (declared m q).cpu letter in
        let last : Posted = posted cpu ((declared m q).cpu, record { stamp = x.local.stamp; content = letter }) in
        takes_one m j [] (amid cpu s y)
        (posts_keeps m cpu (declared m q).cpu letter (j ∷ []) s x
        (all_true (λ (p : Posted). MayFollow letter p.letter.content) (λ p. tt) (amid cpu s x).mail) p)
        (λ lt. subst (IsArmedUnlessSplit m j) (sym is) (armed lt))
        (λ lt send r has to away ending.
        let same : q ≡ r = some_is q r
        (sym some ∙ split_is m cpu r x.local j send (sym (ap (λ (k : Kept). k.thread.send) is) ∙ has) to (λ e. away (e ∙ sym here))) in
        subst (HasAnswer m j r (kept_at (amid cpu s x) (home m j) j))
        (sym (mail_posted cpu (declared m q).cpu letter s x))
        (any_last _ (amid cpu s x).mail last (ap (λ (k : Kept). name_of m j k.thread) is, (sym here, ap (home m) same))))

-- A deleted thread stays as it is, but for its registers.
pub comes_dead : (m : Machine) (cpu j : ℕ) (s : Scene) (x : Work) (f : Thread → Thread) → cpu < m.cpus → home m j ≡ cpu → (thread x.local j).phase ≡ Deleted →
    (f (thread x.local j)).phase ≡ Deleted →
    (f (thread x.local j)).send ≡ (thread x.local j).send → (thread x.local j).context.begun ≡ (f (thread x.local j)).context.begun → StaysPromised m cpu s x →
    StaysPromised m cpu s (x ▷ does (comes_to j f))
comes_dead m cpu j s x f processor here dead after send begun p =
    let steady : IsSteady m j (kept x.local j) (come j f (kept x.local j)) =
    record { armed = λ h. come_armed m j f (kept x.local j); ending = λ to_end has ending. (sym send ∙ has, (inr (inr dead), begun)) } in
    local_keeps m cpu [] s x (comes_to j f) processor (takes_harmless m cpu j x.local (comes_to j f x.local)
    (comes_harmless m cpu j [] x.local f here (λ h unsent living. absurd (living after)))
    (λ lt. subst (IsSteady m j (kept x.local j)) (sym (comes_here x.local j f lt)) steady)) p

-- What is asked of a thread

changes_steady : (m : Machine) (cpu j : ℕ) (s : Scene) (x : Work) (f : Thread → Thread) → cpu < m.cpus → home m j ≡ cpu →
    (IsCalm (thread x.local j) → IsCalm (f (thread x.local j))) →
    IsSteady m j (kept x.local j) (record (kept x.local j) { thread = f (thread x.local j) }) → StaysPromised m cpu s x →
    StaysPromised m cpu s (x ▷ does (changes j f))
changes_steady m cpu j s x f processor here calm steady p =
    local_keeps m cpu [] s x (changes j f) processor (takes_harmless m cpu j x.local (changes j f x.local) (changes_harmless m cpu j [] x.local f here calm)
    (λ lt. subst (IsSteady m j (kept x.local j)) (sym (changes_here x.local j f lt)) steady)) p

not_sending : (p : Phase) → (p ≡ Sending → ⊥) → is_sending p ≡ false
not_sending Sending h = absurd (h refl)
not_sending Ready h = refl
not_sending (Receiving receive since) h = refl
not_sending Ordering h = refl
not_sending Ended h = refl
not_sending Deleted h = refl

neither : (a b : Bool) → a ≡ false → b ≡ false → (a || b) ≡ false
neither false b p q = q
neither true b p q = cc

send_calm : (t : Thread) → IsCalm t → IsCalm (asked_send t)
send_calm t h unsent living = neither t.cancel_send (is_sending t.phase) (h unsent living) (not_sending t.phase unsent)

abbrev asks_at : ℕ → OrderKind → GlobalId → Work → Work
asks_at j what caller x = x ▷ tells (Obey caller) ▷ does (asks what j)

-- of a deleted thread
asks_dead : (m : Machine) (cpu j : ℕ) (caller : GlobalId) (what : OrderKind) (s : Scene) (x : Work) → cpu < m.cpus → home m j ≡ cpu →
    (thread x.local j).phase ≡ Deleted → StaysPromised m cpu s x → StaysPromised m cpu s (asks_at j what caller x)
asks_dead m cpu j caller CancelSend s x processor here dead p =
    changes_steady m cpu j s x (asked CancelSend) processor here (send_calm (thread x.local j))
    (record { armed = λ h. h; ending = λ send has ending. (has, (inr (inr dead), refl)) }) p
asks_dead m cpu j caller CancelReceive s x processor here dead p =
    changes_steady m cpu j s x (asked CancelReceive) processor here (λ h. h)
    (record { armed = λ h. h; ending = λ send has ending. (has, (inr (inr dead), refl)) }) p
asks_dead m cpu j caller CancelBoth s x processor here dead p =
    changes_steady m cpu j s x (asked CancelBoth) processor here (send_calm (thread x.local j))
    (record { armed = λ h. h; ending = λ send has ending. (has, (inr (inr dead), refl)) }) p
asks_dead m cpu j caller Delete s x processor here dead p =
    comes_dead m cpu j s (x ▷ does (relists (plain.dropped j))) (asked Delete) processor here dead refl refl refl
    (relists_keeps m cpu [] s x (plain.dropped j) processor refl p)

-- of a living one: what it asks for may end a split send, which is then withdrawn
asks_send : (m : Machine) (cpu j : ℕ) (cause : Cause) (f : Thread → Thread) (s : Scene) (x : Work) → cpu < m.cpus → home m j ≡ cpu →
    (IsCalm (thread x.local j) → IsCalm (f (thread x.local j))) →
    (IsArmedUnlessSplit m j (kept x.local j) → IsArmedUnlessSplit m j (record (kept x.local j) { thread = f (thread x.local j) })) → StaysPromised m cpu s x →
    StaysPromised m cpu s (withdraws m cause j (split_place m cpu (changes j f x.local) j) (x ▷ does (changes j f)))
asks_send m cpu j cause f s x processor here calm armed p =
    let size = size_now m cpu [] s x processor p in
    withdraws_keeps m cpu j cause s (x ▷ does (changes j f)) here
    (λ lt. subst (IsArmedUnlessSplit m j) (sym (changes_here x.local j f (omega arith)))
    (armed (subst (IsArmedUnlessSplit m j) (ap (λ l. kept l j) (put_home m cpu j s x.local here)) (p.armed j lt tt))))
    (local_keeps m cpu (j ∷ []) s x (changes j f) processor (changes_harmless m cpu j [] x.local f here calm) (leaves_one m j [] (amid cpu s x) p))

asks_living : (m : Machine) (cpu j : ℕ) (caller : GlobalId) (what : OrderKind) (s : Scene) (x : Work) → cpu < m.cpus → home m j ≡ cpu → StaysPromised m cpu s x →
    StaysPromised m cpu s (asks_at j what caller x ▷ withdraws_for m cpu j (cause_of what))
asks_living m cpu j caller CancelSend s x processor here p =
    asks_send m cpu j ByCancel (asked CancelSend) s (x ▷ tells (Obey caller)) processor here (send_calm (thread x.local j)) (λ h. h) p
asks_living m cpu j caller CancelReceive s x processor here p =
    changes_steady m cpu j s x (asked CancelReceive) processor here (λ h. h) (record { armed = λ h. h; ending = λ send has ending. (has, (ending, refl)) }) p
asks_living m cpu j caller CancelBoth s x processor here p =
    asks_send m cpu j ByCancel (asked CancelBoth) s (x ▷ tells (Obey caller)) processor here (send_calm (thread x.local j)) (λ h. h) p
asks_living m cpu j caller Delete s x processor here p =
    let y : Work = x ▷ tells (Obey caller) ▷ does (relists (plain.dropped j)) in
    let q = relists_keeps m cpu [] s x (plain.dropped j) processor refl p in
    let size = size_now m cpu [] s y processor q in
    withdraws_keeps m cpu j ByDeletion s (y ▷ does (comes_to j (asked Delete))) here
    (λ lt. subst (IsArmedUnlessSplit m j) (sym (comes_here y.local j (asked Delete) (omega arith))) (come_armed m j (asked Delete) (kept y.local j)))
    (local_keeps m cpu (j ∷ []) s y (comes_to j (asked Delete)) processor
    (comes_harmless m cpu j [] y.local (asked Delete) here (λ h unsent living. absurd (living refl))) (leaves_one m j [] (amid cpu s y) q))

-- The target of an order obeys.
pub obeys_keeps : (m : Machine) (cpu j : ℕ) (caller : GlobalId) (what : OrderKind) (s : Scene) (x : Work) → cpu < m.cpus → home m j ≡ cpu → StaysPromised m cpu s x →
    StaysPromised m cpu s (obeys m cpu caller what j x)
obeys_keeps m cpu j caller what s x processor here p =
    cond_keeps (StaysPromised m cpu s) (is_deleted (thread x.local j).phase) (asks_at j what caller x)
    (asks_at j what caller x ▷ withdraws_for m cpu j (cause_of what))
    (λ gone. asks_dead m cpu j caller what s x processor here (deleted_phase (thread x.local j).phase gone) p)
    (λ alive. asks_living m cpu j caller what s x processor here p)
