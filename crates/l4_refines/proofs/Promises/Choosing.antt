-- What is promised is kept by the core's turn.
use Rattle.l4_model.proofs.Chains.{some_is}
use Rattle.l4_refines.proofs.Relation.Whereabouts.{where_then, not_both}
use Rattle.l4_core_model.specs.Local.{destination_place, Local, thread, held, last_name, relists, comes_to}
use Rattle.l4_refines.proofs.Lists.{any_kept, any_list}
use Rattle.std.proofs.Common.{◌≡◌, ℕ, true, [], ap, sym, ◌∙◌, subst, ◌+◌, ◌<◌, Bool, false, cond, Some, List, ◌∷◌, filter, refl, arith}
use Rattle.l4_model.specs.Machine.{Machine, place_of, is_place}
use Rattle.l4_model.specs.World.{World, Send, Name, is_ready}
use Rattle.l4_core_model.specs.Plain as plain
use Rattle.l4_core_model.proofs.Apart.{same_or_apart}
use Rattle.l4_refines.proofs.Relation.Views.{Scene, View, view, home, is_of, Kept, kept, subject, is_locator, is_about}
use Rattle.l4_refines.proofs.Relation.Rows.{seats, IsSplit, Matches, IsWaiting, IsNotice, IsNoticeOf}
use Rattle.l4_refines.proofs.Promises.Promised.{IsSplitSend, IsNotWithdrawalOf, Promised}
use Rattle.l4_refines.proofs.Promises.Turns.{IsListedHere, opened_keeps, due_keeps, duty_keeps}
use Rattle.std.specs.Prelude.{not}
use Rattle.std.specs.List.{AllByRecursion}
use Rattle.std.proofs.lemmas.List.{append-nil}
use Rattle.l4_model.specs.Rules.{Act, RunsAlone, Sends, Receives, Orders}
use Rattle.l4_model.specs.Conditions.{act_of}
use Rattle.l4_model.specs.Effects.{begins}
use Rattle.l4_core_model.specs.Letters.{Content, SendLetter, DoneLetter, WithdrawLetter, GoneLetter, OrderLetter, OrderDoneLetter, RetargetLetter}
use Rattle.l4_core_model.specs.Acts.{Work, ◌▷◌, does, acts}
use Rattle.l4_core_model.specs.Turns.{Choice, ByDuty, ByDue, ByReady, does_choice, turn, opened}
use Rattle.l4_core_model.specs.Runs.{Posted, IsMachine}
use Rattle.l4_core_model.proofs.Changed.{same_nat}
use Rattle.l4_refines.proofs.Turns.Choices.{IsChoice, turn_then}
use Rattle.l4_refines.proofs.Relation.Relates.{RelatesExcept}
use Rattle.l4_refines.proofs.Frames.Locals.{comes_here}
use Rattle.l4_refines.proofs.Frames.Moves.{at_home}
use Rattle.l4_refines.proofs.Frames.Going.{IsHere, opened_goes, IsReached}
use Rattle.l4_refines.proofs.Turns.Timing.{due_goes}
use Rattle.l4_refines.proofs.Turns.Choosing.{ready_goes, nothing_beside}
use Rattle.l4_refines.proofs.Promises.Locals.{size_now, relists_keeps}
use Rattle.l4_refines.proofs.Promises.Acts.{StaysPromised, begins_keeps, runs_keeps, waits_keeps}
use Rattle.l4_refines.proofs.Promises.Giving.{gives_keeps}

-- A send that is not split stands in a list of its own processor.

listed_here : (m : Machine) (i : ℕ) (s : Scene) (w : World) → Matches m i (view m s w i) → IsListedHere m i (s.locals (home m i))
listed_here m i s w matches send has whole = where_then m i v matches.known
    (λ quiet none row a. not_both _ send has none)
    (λ other quiet is row a. waits other (some_is other send (sym is ∙ has)) row)
    (λ p is row a. split row.goes)
    (λ p name result is content row a. split row.goes)
    (λ p is row a. not_both _ send has row.orders.no_send)
    (λ p caller is content row a. not_both _ send has row.orders.no_send)
  where
    v : View
    v = view m s w i

    Queued : Type 0
    Queued = plain.is_queued (s.locals (home m i)).lists i ≡ true

    split : IsSplit m i (seats m i v) → Queued
    split goes = absurd (whole (subst (IsSplitSend m i) (sym goes.has ∙ has) (goes.r, (goes.to, goes.split))))

    waits : (other : Send) → other ≡ send → IsWaiting m i other (seats m i v) → Queued
    waits other same row = same_or_apart Queued (home m row.r) (home m i)
        (λ here. any_list (is_of i) (s.locals (home m i)).lists.waiting row.r
        (any_kept (is_of i) _ [] _ (sym (ap (λ c. (v.kept c).listed row.r) here) ∙ row.listed)))
        (λ away. absurd (whole (row.r, (ap (λ (s : Send). destination_place m s.to) (sym same) ∙ row.to, away))))

-- A turn

-- No send that is still to begin was withdrawn.

all_of_filtered : {A : Type 0} (P Q : A → Type 0) (p : A → Bool) → ((x : A) → p x ≡ false → Q x) → ((x : A) → P x → Q x) → (xs : List A) →
    AllByRecursion P (filter p xs) → AllByRecursion Q xs
all_of_filtered P Q p out kept [] h = tt
all_of_filtered P Q p out kept (x ∷ xs) h = by (p x) refl h (all_of_filtered P Q p out kept xs)
  where
    by : (b : Bool) → p x ≡ b → AllByRecursion P (cond b (x ∷ filter p xs) (filter p xs)) → (AllByRecursion P (filter p xs) → AllByRecursion Q xs) →
        AllByRecursion Q (x ∷ xs)
    by true is h rest = (kept x h.0, rest h.1)
    by false is h rest = (out x is, rest h)

none_of_next : (m : Machine) (i : ℕ) (s : Scene) (w : World) (name : Name) → place_of m name.thread ≡ Some i →
    (at_home m i (view m s w i)).thread.context.begun < name.k → Matches m i (view m s w i) →
    AllByRecursion (λ (q : Posted). IsNotWithdrawalOf name q.letter.content) s.mail
none_of_next m i s w name place above matches =
    all_of_filtered Not Not (is_about m i) (λ q out. not_about q q.letter.content out) (λ q h. h) s.mail
    (all_of_filtered (IsNotice m i k) Not (λ (q : Posted). not (is_locator q.letter.content)) (λ q out. not_late q.letter.content out)
    (λ q h. by q q.letter.content h) (filter (is_about m i) s.mail) matches.known.kept.notices)
  where
    k : Kept
    k = at_home m i (view m s w i)

    Not : Posted → Type 0
    Not q = IsNotWithdrawalOf name q.letter.content

    not_about : (q : Posted) (c : Content) → is_place (place_of m (subject c)) i ≡ false → IsNotWithdrawalOf name c
    not_about q (WithdrawLetter t receiver cause) out = λ e. let same : place_of m t.thread ≡ Some i = ap (λ (n : Name). place_of m n.thread) (sym e) ∙ place in
        let yes : is_place (place_of m t.thread) i ≡ true = ap (λ o. is_place o i) same ∙ same_nat i in
        let both = sym out ∙ yes in cc
    not_about q (SendLetter t receiver message zero_timeout) out = tt
    not_about q (DoneLetter t result) out = tt
    not_about q (GoneLetter id) out = tt
    not_about q (OrderLetter caller target what) out = tt
    not_about q (OrderDoneLetter caller) out = tt
    not_about q (RetargetLetter o) out = tt

    not_late : (c : Content) → not (is_locator c) ≡ false → IsNotWithdrawalOf name c
    not_late (WithdrawLetter t receiver cause) out = cc
    not_late (SendLetter t receiver message zero_timeout) out = tt
    not_late (DoneLetter t result) out = tt
    not_late (GoneLetter id) out = tt
    not_late (OrderLetter caller target what) out = tt
    not_late (OrderDoneLetter caller) out = tt
    not_late (RetargetLetter o) out = tt

    by : (q : Posted) (c : Content) → IsNoticeOf m i k q c → IsNotWithdrawalOf name c
    by q (WithdrawLetter t receiver cause) h = λ e. let same : name.k ≡ t.k = ap (λ (n : Name). n.k) e in let low = h.number in absurd (omega (arith, above))
    by q (SendLetter t receiver message zero_timeout) h = tt
    by q (DoneLetter t result) h = tt
    by q (GoneLetter id) h = tt
    by q (OrderLetter caller target what) h = tt
    by q (OrderDoneLetter caller) h = tt
    by q (RetargetLetter o) h = tt

-- The first ready thread goes on.
acts_keeps : (m : Machine) (cpu i : ℕ) (s : Scene) (w : World) (l : Local) → l ≡ s.locals cpu → cpu < m.cpus → IsHere m cpu i →
    is_ready (thread l i).phase ≡ true → Matches m i (view m s w i) →
    StaysPromised m cpu s (opened 0 l ▷ does (relists plain.popped)) →
    StaysPromised m cpu s (acts m cpu i (act_of m (held m l i)) (opened 0 l ▷ does (relists plain.popped)))
acts_keeps m cpu i s w l is processor here ready matches p = by (act_of m (held m l i))
  where
    x : Work
    x = opened 0 l ▷ does (relists plain.popped)

    by : (a : Act) → StaysPromised m cpu s (acts m cpu i a x)
    by RunsAlone = runs_keeps m cpu i s x processor here.home ready p
    by (Sends send) =
        let size = size_now m cpu [] s x processor p in
        let lt = here.within in
        let name : Name = last_name m (comes_to i (begins send) x.local) i in
        let next : name.k ≡ (thread l i).context.begun + 1 = ap (λ (k : Kept). k.thread.context.begun) (comes_here x.local i (begins send) (omega arith)) in
        let old : (at_home m i (view m s w i)).thread.context.begun ≡ (thread l i).context.begun =
        ap (λ c. (thread (s.locals c) i).context.begun) here.home ∙ sym (ap (λ l. (thread l i).context.begun) is) in
        begins_keeps m cpu i send s x processor here.home ready
        (subst (AllByRecursion (λ (q : Posted). IsNotWithdrawalOf name q.letter.content)) (sym (append-nil s.mail))
        (none_of_next m i s w name (here.machine.placed i lt) (omega arith) matches)) p
    by (Receives receive) = waits_keeps m cpu i receive s x processor here.home ready p
    by (Orders order) = gives_keeps m cpu i order s x processor here.within here.home ready p

-- The choice
choice_keeps : (m : Machine) (cpu : ℕ) (s : Scene) (w : World) (c : Choice) → IsMachine m → cpu < m.cpus → IsReached m w → RelatesExcept m (Matches m) [] s w →
    StaysPromised m cpu s (opened 0 (s.locals cpu)) → IsChoice m cpu (s.locals cpu) c →
    StaysPromised m cpu s (does_choice m cpu c (opened 0 (s.locals cpu)))
choice_keeps m cpu s w (ByDuty i duty) machine processor starts rel p c = duty_keeps m cpu i s (opened 0 (s.locals cpu)) duty processor c.0.home p c.1
choice_keeps m cpu s w (ByDue i) machine processor starts rel p c =
    let due = due_goes m cpu s w (opened 0 (s.locals cpu)) (c.0, i) c.1.0 machine processor (opened_goes m cpu 0 [] s w starts rel) c.1.1.0 in
    due_keeps m cpu s (opened 0 (s.locals cpu)) (c.0, i) c.1.0 processor due.here.home
    (subst (λ c. IsListedHere m i (s.locals c)) due.here.home (listed_here m i s w (rel.places i due.here.within tt))) c.1.1.0 p
choice_keeps m cpu s w (ByReady i) machine processor starts rel p c =
    let r = ready_goes m cpu s w (opened 0 (s.locals cpu)) i c.0 machine processor (opened_goes m cpu 0 [] s w starts rel) c.1.0
    (λ here. nothing_beside m cpu (s.locals cpu) i (c.1.1 i here)) in
    acts_keeps m cpu i s w (s.locals cpu) refl processor r.picked.here r.picked.ready (rel.places i r.picked.here.within tt)
    (relists_keeps m cpu [] s (opened 0 (s.locals cpu)) plain.popped processor refl p)

-- A turn.
pub turn_keeps : (m : Machine) (cpu : ℕ) (s : Scene) (w : World) (x : Work) → IsMachine m → cpu < m.cpus → IsReached m w → RelatesExcept m (Matches m) [] s w →
    Promised m [] s → turn m cpu (s.locals cpu) ≡ Some x → StaysPromised m cpu s x
turn_keeps m cpu s w x machine processor starts rel promised h =
    turn_then m cpu (s.locals cpu) x (StaysPromised m cpu s) h λ c is.
    choice_keeps m cpu s w c machine processor starts rel (opened_keeps m cpu 0 [] s processor promised) is
