-- What is promised is kept where a withdrawal is handled: it finds its send, or the send was decided before.
use Rattle.l4_refines.proofs.Relation.Whereabouts.{where_then, not_both}
use Rattle.l4_refines.proofs.Lists.{any_kept, any_list, other_is}
use Rattle.std.proofs.Common.{◌≡◌, ℕ, ◌<◌, Bool, true, false, Some, List, [], ◌∷◌, map, filter, length, refl, ap, sym, ◌∙◌, subst, inl, inr, ◌⊎◌}
use Rattle.std.specs.Prelude.{◌==◌, ◌&&◌, slice_get}
use Rattle.std.proofs.lemmas.Bool.{eqb-true}
use Rattle.std.proofs.lemmas.List.{append-nil}
use Rattle.l4_model.specs.Words.{GlobalId}
use Rattle.l4_model.specs.Machine.{Machine}
use Rattle.l4_model.specs.World.{Name, World, Send}
use Rattle.l4_model.proofs.Chains.{bind_then, some_is, cond_keeps}
use Rattle.l4_core_model.specs.Plain as plain
use Rattle.l4_core_model.specs.Letters.{Cause, Refused, Content, SendLetter, DoneLetter, WithdrawLetter, GoneLetter, OrderLetter, OrderDoneLetter, Letter, refusal_of, refusal_step, Result, RetargetLetter}
use Rattle.l4_core_model.specs.Local.{declared, is_own, thread, destination_place, last_name, relists, changes}
use Rattle.l4_model.specs.Effects.{decided}
use Rattle.l4_core_model.specs.Acts.{Work, ◌▷◌, does, posts, tells_send, refuses}
use Rattle.l4_core_model.specs.Mail.{own_place, foreign_place, waits_here, withdraws_here, handled}
use Rattle.l4_core_model.specs.Runs.{Posted, is_between, letters}
use Rattle.l4_core_model.proofs.Changed.{same_nat}
use Rattle.l4_core_model.proofs.Choosing.{both}
use Rattle.l4_refines.proofs.Relation.Views.{Kept, Scene, View, view, home, amid, is_locator, is_about, is_of, locators}
use Rattle.l4_refines.proofs.Relation.Rows.{seats, name_of, IsDecided, IsSent, IsWaiting}
use Rattle.l4_refines.proofs.Frames.Mail.{mail_posted}
use Rattle.l4_refines.proofs.Frames.Moves.{at_home}
use Rattle.l4_refines.proofs.Letters.Receiving.{without, IsLetter, at_work, foreign_place_is}
use Rattle.l4_refines.proofs.Promises.Promised.{AnyOf, MayFollow, IsNotWithdrawalOf, InOrder, IsAnswer, IsAnswerIn, IsGoneIn, kept_at, Promised}
use Rattle.l4_refines.proofs.Promises.Letters.{any_last, any_map, any_filter, any_filtered, none_and_all, order_filter}
use Rattle.l4_refines.proofs.Promises.Acts.{StaysPromised, refuses_keeps}
use Rattle.l4_refines.proofs.Promises.Turns.{opened_keeps}
use Rattle.l4_refines.proofs.Promises.Taking.{taken_any, taken_keeps, same_place}

-- A letter brings this send,
abbrev IsSendOf : Name → Content → Type 0
IsSendOf s (SendLetter t receiver message zero_timeout) = t ≡ s
IsSendOf s _ = ⊥

-- or tells how it was decided.
abbrev IsDoneOf : Name → Content → Type 0
IsDoneOf s (DoneLetter t result) = s ≡ t
IsDoneOf s _ = ⊥

done_answers : (s : Name) (from to : ℕ) (p : Posted) (c : Content) → IsDoneOf s c → IsAnswerIn s from to p c
done_answers s from to p (DoneLetter t result) h = h
done_answers s from to p (SendLetter t receiver message zero_timeout) h = absurd h
done_answers s from to p (WithdrawLetter t receiver cause) h = absurd h
done_answers s from to p (GoneLetter id) h = absurd h
done_answers s from to p (OrderLetter caller target what) h = absurd h
done_answers s from to p (OrderDoneLetter caller) h = absurd h
done_answers s from to p (RetargetLetter o) h = absurd h

-- The send of the first letter of a pair, a withdrawal, does not stand behind it.
abbrev IsSendBetween : Name → (from cpu : ℕ) → Posted → Type 0
IsSendBetween s from cpu p = (p.from ≡ from) × ((p.to ≡ cpu) × IsSendOf s p.letter.content)

not_behind : {P : Type 0} (s : Name) (receiver : GlobalId) (cause : Cause) (from cpu : ℕ) (letter : Letter) (mail : List Posted) →
    letter.content ≡ WithdrawLetter s receiver cause → slice_get (letters mail from cpu) 0 ≡ Some letter → InOrder mail →
    AnyOf (IsSendBetween s from cpu) mail → P
not_behind {P = P} s receiver cause from cpu letter mail content first order h =
    by (filter (is_between from cpu) mail) first (order_filter (is_between from cpu) mail order)
    (any_filtered (IsSendBetween s from cpu) (is_between from cpu) mail (λ p h. between p h) h)
  where
    between : (p : Posted) → IsSendBetween s from cpu p → is_between from cpu p ≡ true
    between p h = subst (λ f. ((p.from == f) && (p.to == cpu)) ≡ true) h.0
        (subst (λ t. ((p.from == p.from) && (p.to == t)) ≡ true) h.1.0 (let a = same_nat p.from in let b = same_nat p.to in rw (a, b) refl))

    behind : (g p : Posted) (c : Content) → g.letter.content ≡ WithdrawLetter s receiver cause → IsSendOf s c → MayFollow c g.letter.content → P
    behind g p (SendLetter t other message zero_timeout) is h may = absurd (subst (IsNotWithdrawalOf t) is may h)
    behind g p (DoneLetter t result) is h may = absurd h
    behind g p (WithdrawLetter t other why) is h may = absurd h
    behind g p (GoneLetter id) is h may = absurd h
    behind g p (OrderLetter caller target what) is h may = absurd h
    behind g p (OrderDoneLetter caller) is h may = absurd h
    behind g p (RetargetLetter o) is h may = absurd h

    by : (ps : List Posted) → slice_get (map (λ (p : Posted). p.letter) ps) 0 ≡ Some letter → InOrder ps → AnyOf (IsSendBetween s from cpu) ps → P
    by [] none order h = absurd h
    by (g ∷ gs) is order h =
        let same : g.letter.content ≡ WithdrawLetter s receiver cause = ap (λ (l : Letter). l.content) (some_is g.letter letter is) ∙ content in
        which same order h
      where
        which : g.letter.content ≡ WithdrawLetter s receiver cause → InOrder (g ∷ gs) → AnyOf (IsSendBetween s from cpu) (g ∷ gs) → P
        which same order (inl mine) = absurd (subst (IsSendOf s) same mine.1.1)
        which same order (inr h) =
            none_and_all (IsSendBetween s from cpu) (λ (q : Posted). MayFollow q.letter.content g.letter.content)
            (λ p h may. behind g p p.letter.content same h.1.1 may) gs h order.0

-- What the withdrawal finds

and_true : {P : Type 0} (a b : Bool) → a ≡ true → b ≡ true → (a && b) ≡ false → P
and_true a b p q h = let p = p in let q = q in cc

-- A withdrawal is handled.
pub withdraw_keeps : (m : Machine) (from cpu : ℕ) (letter : Letter) (s : Scene) (w : World) (x : Work) (name : Name) (receiver : GlobalId) (cause : Cause) →
    IsLetter m from cpu letter s w → slice_get (letters s.mail from cpu) 0 ≡ Some letter →
    letter.content ≡ WithdrawLetter name receiver cause → Promised m [] s → handled m cpu (WithdrawLetter name receiver cause) (at_work cpu letter s) ≡ Some x →
    StaysPromised m cpu (without from cpu s) x
withdraw_keeps m from cpu letter s w x name receiver cause h first content promised is =
    bind_then (own_place m cpu receiver) _ x is λ r own rest.
    bind_then (foreign_place m cpu name.thread) _ x rest λ i foreign rest.
    let at = foreign_place_is m cpu name.thread i foreign in
    let p = opened_keeps m cpu letter.stamp [] s h.processor promised in
    let z : Work = withdraws_here m cpu i name.k cause y in
    subst (StaysPromised m cpu (without from cpu s)) (some_is z x rest) (taken_keeps m from cpu letter s z h.first (record {
      gone = λ j to lt g. absurd (subst (IsGoneIn (declared m j).id to last) content g);
      answer = λ j r send lt has to away answer.
          let a = subst (IsAnswerIn (name_of m j (kept_at (amid cpu s z) (home m j) j).thread) (home m j) (home m r) last) content answer in
          let is_j : i ≡ j = same_place m i j name.thread at.0 h.machine lt (ap (λ (n : Name). n.thread) a.0) in
          let old : kept_at (amid cpu s z) (home m j) j ≡ kept_at s (home m j) j = let other = other_is cpu (home m j) (λ e. at.1 (ap (home m) is_j ∙ sym e)) in
          rw other refl in
          let named : name_of m j (kept_at s (home m j) j).thread ≡ name = sym (ap (λ (k : Kept). name_of m j k.thread) old) ∙ a.0 in
          subst (λ n. AnyOf (IsAnswer n (home m j) (home m r)) (amid cpu (without from cpu s) z).mail) (sym a.0)
          (subst (λ i. AnyOf (IsAnswer name (home m j) (home m r)) (amid cpu (without from cpu s) (withdraws_here m cpu i name.k cause y)).mail) (sym is_j)
          (finds j r send lt (λ e. at.1 (ap (home m) is_j ∙ e)) (sym (ap (λ (k : Kept). k.thread.send) old) ∙ has) to away named a.1.0 a.1.1));
    }) (cond_keeps (StaysPromised m cpu s) (waits_here y.local i name.k) _ y (λ waits. refuses_keeps m cpu i (refusal_of cause) s y h.processor p) (λ none. p)))
  where
    y : Work
    y = at_work cpu letter s

    last : Posted
    last = record { from = from; to = cpu; letter = letter }

    finds : (j r : ℕ) (send : Send) → j < length m.threads → (home m j ≡ cpu → ⊥) → (kept_at s (home m j) j).thread.send ≡ Some send →
        destination_place m send.to ≡ Some r → (home m r ≡ home m j → ⊥) →
        name_of m j (kept_at s (home m j) j).thread ≡ name → from ≡ home m j → cpu ≡ home m r →
        AnyOf (IsAnswer name (home m j) (home m r)) (amid cpu (without from cpu s) (withdraws_here m cpu j name.k cause y)).mail
    finds j r send lt foreign has to away named poster here =
        cond_keeps Finds (waits_here y.local j name.k) (refuses m cpu (refusal_of cause) j y) y
        (λ waits. let t = both (plain.is_queued y.local.lists j) _ waits in refused (eqb-true (thread y.local j).context.begun name.k t.1))
        (λ none. where_then m j v (h.relates.places j lt tt).known
        (λ quiet no_send row a. not_both _ send has no_send)
        (λ other quiet is row a. waits none other (some_is other send (sym is ∙ has)) row)
        (λ q is row a. sent q is row)
        (λ q t result is content_is row a. done q t result is content_is row)
        (λ q is row a. not_both _ send has row.orders.no_send)
        (λ q caller is content row a. not_both _ send has row.orders.no_send))
      where
        v : View
        v = view m s w j

        Finds : Work → Type 0
        Finds z = AnyOf (IsAnswer name (home m j) (home m r)) (amid cpu (without from cpu s) z).mail

        refused : (thread y.local j).context.begun ≡ name.k → Finds (refuses m cpu (refusal_of cause) j y)
        refused number =
            let a : Work = y ▷ tells_send m (refusal_step (refusal_of cause)) j in
            let b : Work = a ▷ does (relists (plain.unqueued j)) ▷ does (changes j decided) in
            let done = DoneLetter (last_name m y.local j) (Refused (refusal_of cause)) in
            let thread_is : name.thread ≡ (declared m j).id = ap (λ (n : Name). n.thread) (sym named) in
            cond_keeps Finds (is_own m cpu j) _ (b ▷ posts (declared m j).cpu done)
            (λ own. absurd (foreign (eqb-true (home m j) cpu own)))
            (λ other. subst (AnyOf (IsAnswer name (home m j) (home m r))) (sym (mail_posted cpu (declared m j).cpu done (without from cpu s) b))
            (any_last (IsAnswer name (home m j) (home m r)) (amid cpu (without from cpu s) b).mail _ (λ d. record { thread = thread_is d; k = sym number d })))

        number_is : name.k ≡ (at_home m j v).thread.context.begun
        number_is = ap (λ (n : Name). n.k) (sym named)

        done : (q : Posted) (t : Name) (result : Result) → locators v.mail ≡ q ∷ [] → q.letter.content ≡ DoneLetter t result → IsDecided m j (seats m j v) q t →
            Finds y
        done q t result is content_is row = decided_is (taken_any (λ (p : Posted). IsDoneOf name p.letter.content) from cpu letter s y h.first
            (subst (AnyOf (λ (p : Posted). IsDoneOf name p.letter.content)) (sym (append-nil s.mail)) (any_filter _ (is_about m j) s.mail (any_filter _
            (λ (p : Posted). is_locator p.letter.content) v.mail
            (subst (AnyOf (λ (p : Posted). IsDoneOf name p.letter.content)) (sym is)
            (inl (subst (IsDoneOf name) (sym content_is) (sym named ∙ sym row.name))))))))
          where
            decided_is : IsDoneOf name letter.content ⊎ AnyOf (λ (p : Posted). IsDoneOf name p.letter.content) (amid cpu (without from cpu s) y).mail → Finds y
            decided_is (inl mine) = absurd (subst (IsDoneOf name) content mine)
            decided_is (inr h) = any_map (λ (p : Posted). IsDoneOf name p.letter.content) (IsAnswer name (home m j) (home m r))
                (λ p h. done_answers name (home m j) (home m r) p p.letter.content h) (amid cpu (without from cpu s) y).mail h

        sent : (q : Posted) → locators v.mail ≡ q ∷ [] → IsSent m j (seats m j v) q → Finds y
        sent q is row =
            let same : row.goes.send ≡ send = some_is row.goes.send send (sym row.goes.has ∙ has) in
            let r_is : row.goes.r ≡ r = some_is row.goes.r r (sym row.goes.to ∙ ap (λ (s : Send). destination_place m s.to) same ∙ to) in
            not_behind name receiver cause from cpu letter s.mail content first promised.in_order (any_filter _ (is_about m j) s.mail (any_filter _
            (λ (p : Posted). is_locator p.letter.content) v.mail
            (subst (AnyOf (IsSendBetween name from cpu)) (sym is)
            (inl (row.from ∙ sym poster, (row.to ∙ ap (home m) r_is ∙ sym here, subst (IsSendOf name) (sym row.letter) named))))))

        waits : waits_here y.local j name.k ≡ false → (other : Send) → other ≡ send → IsWaiting m j other (seats m j v) → Finds y
        waits none other same row =
            let r_is : row.r ≡ r = some_is row.r r (sym row.to ∙ ap (λ (s : Send). destination_place m s.to) same ∙ to) in
            let at : home m row.r ≡ cpu = ap (home m) r_is ∙ sym here in
            let listed = sym (ap (λ c. (v.kept c).listed row.r) at) ∙ row.listed in
            let number : (thread y.local j).context.begun ≡ name.k =
            sym (ap (λ c. (v.kept c).thread.context.begun) at) ∙ (row.stand_in (λ e. away (sym (ap (home m) r_is) ∙ e))).number ∙ sym number_is in
            and_true (plain.is_queued y.local.lists j) ((thread y.local j).context.begun == name.k)
            (any_list (is_of j) y.local.lists.waiting row.r (any_kept (is_of j) _ [] _ listed))
            (subst (λ n. ((thread y.local j).context.begun == n) ≡ true) number (same_nat (thread y.local j).context.begun)) none
