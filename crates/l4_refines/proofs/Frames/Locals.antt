-- What a processor keeps of a thread after a piece of an event: of the thread that the piece is about, and of all others.
use Rattle.std.proofs.Common.{◌≡◌, ℕ, ◌+◌, ◌<◌, Bool, true, false, Some, None, List, [], ◌∷◌, ◌++◌, filter, drop, length, refl, ap, sym, ◌∙◌}
use Rattle.std.specs.Prelude.{◌==◌, not}
use Rattle.std.proofs.Math.ListN.{get_or-map}
use Rattle.l4_model.specs.Words.{Period}
use Rattle.l4_model.specs.World.{Thread, Phase, Ready, Sending, Receiving, Ordering, Ended, Deleted, opening_thread}
use Rattle.l4_core_model.specs.Plain as plain
use Rattle.l4_core_model.specs.Local.{Local, thread, changes, relists, comes_to, readied, armed_for, armed_period}
use Rattle.l4_core_model.proofs.Changed.{get-changed, same_nat}
use Rattle.l4_core_model.proofs.Fit.{get_other}
use Rattle.l4_core_model.proofs.Apart.{of_other}
use Rattle.l4_refines.proofs.Lists.{other_is, filter_kept, filter_out, filter_last, filter_last_other, filter_put_other, filter_put, changed_cases}
use Rattle.l4_refines.proofs.Relation.Views.{Kept, kept, is_of}

swapped : {i j : ℕ} → (i ≡ j → ⊥) → j ≡ i → ⊥
swapped ne e = ne (sym e)

-- A thread changes

pub changes_other : (l : Local) (i j : ℕ) (f : Thread → Thread) → (i ≡ j → ⊥) → kept (changes i f l) j ≡ kept l j
changes_other l i j f ne = ap (λ t. record (kept l j) { thread = t }) (get_other f l.threads i j ne)

pub changes_here : (l : Local) (i : ℕ) (f : Thread → Thread) → i < length l.threads → kept (changes i f l) i ≡ record (kept l i) { thread = f (thread l i) }
changes_here l i f lt = ap (λ t. record (kept l i) { thread = t }) (get-changed f l.threads i opening_thread lt)

-- A thread comes to a phase

readied_other : (i j : ℕ) (p : Phase) (ready : List ℕ) → (j == i) ≡ false → filter (λ k. j == k) (readied p i ready) ≡ filter (λ k. j == k) ready
readied_other i j Ready ready apart = filter_last_other (λ k. j == k) ready i apart
readied_other i j Sending ready apart = refl
readied_other i j (Receiving receive since) ready apart = refl
readied_other i j Ordering ready apart = refl
readied_other i j Ended ready apart = refl
readied_other i j Deleted ready apart = refl

readied_here : (i : ℕ) (p : Phase) (ready : List ℕ) → filter (λ k. i == k) (readied p i ready) ≡ readied p i (filter (λ k. i == k) ready)
readied_here i Ready ready = filter_last (λ k. i == k) ready i (same_nat i)
readied_here i Sending ready = refl
readied_here i (Receiving receive since) ready = refl
readied_here i Ordering ready = refl
readied_here i Ended ready = refl
readied_here i Deleted ready = refl

armed_other : (i j : ℕ) (period : Period) (clock : ℕ) (armed : List (ℕ × ℕ)) → (j == i) ≡ false →
    filter (λ (e : ℕ × ℕ). j == e.1) (armed_for period clock i armed) ≡ filter (λ (e : ℕ × ℕ). j == e.1) armed
armed_other i j None clock armed apart = refl
armed_other i j (Some n) clock armed apart = filter_put_other (λ (e : ℕ × ℕ). j == e.1) (clock + n, i) armed apart

armed_here : (i : ℕ) (period : Period) (clock : ℕ) (armed : List (ℕ × ℕ)) → filter (λ (e : ℕ × ℕ). i == e.1) armed ≡ [] →
    filter (λ (e : ℕ × ℕ). i == e.1) (armed_for period clock i armed) ≡ armed_for period clock i []
armed_here i None clock armed none = none
armed_here i (Some n) clock armed none = filter_put (λ (e : ℕ × ℕ). i == e.1) (clock + n, i) armed (same_nat i) none

without_other : (i j : ℕ) (armed : List (ℕ × ℕ)) → (i ≡ j → ⊥) →
    filter (λ (e : ℕ × ℕ). j == e.1) (plain.without_block i armed) ≡ filter (λ (e : ℕ × ℕ). j == e.1) armed
without_other i j armed ne = filter_kept (λ (e : ℕ × ℕ). j == e.1) (λ (e : ℕ × ℕ). not (i == e.1)) (λ e is. of_other i j e.1 ne is) armed

not_kept : (b : Bool) → b ≡ true → not b ≡ false
not_kept b h = rw h

without_here : (i : ℕ) (armed : List (ℕ × ℕ)) → filter (λ (e : ℕ × ℕ). i == e.1) (plain.without_block i armed) ≡ []
without_here i armed = filter_out (λ (e : ℕ × ℕ). i == e.1) (λ (e : ℕ × ℕ). not (i == e.1)) (λ e is. not_kept (i == e.1) is) armed

pub comes_other : (l : Local) (i j : ℕ) (f : Thread → Thread) → (i ≡ j → ⊥) → kept (comes_to i f l) j ≡ kept l j
comes_other l i j f ne =
    let apart = other_is j i (swapped ne) in
    let t : Thread = f (thread l i) in
    let threads = get_other f l.threads i j ne in
    let ready = readied_other i j t.phase l.lists.ready apart in
    let armed = armed_other i j (armed_period t.phase t.send) l.clock (plain.without_block i l.lists.armed) apart ∙ without_other i j l.lists.armed ne in
    λ d. record (kept l j) { thread = threads d; ready = ready d; armed = armed d }

-- A thread that has come to a phase stands last among the ready ones, or its deadline is armed.
abbrev pub come : ℕ → (Thread → Thread) → Kept → Kept
come i f k =
    record k {
      thread = f k.thread;
      ready = readied (f k.thread).phase i k.ready;
      armed = armed_for (armed_period (f k.thread).phase (f k.thread).send) k.clock i [];
    }

pub comes_here : (l : Local) (i : ℕ) (f : Thread → Thread) → i < length l.threads → kept (comes_to i f l) i ≡ come i f (kept l i)
comes_here l i f lt =
    let t : Thread = f (thread l i) in
    let threads = get-changed f l.threads i opening_thread lt in
    let ready = readied_here i t.phase l.lists.ready in
    let armed = armed_here i (armed_period t.phase t.send) l.clock (plain.without_block i l.lists.armed) (without_here i l.lists.armed) in
    λ d. record (kept l i) { thread = threads d; ready = ready d; armed = armed d }

-- A send leaves its list

pub list_unqueued : (l : Local) (i r : ℕ) →
    plain.list_of (plain.unqueued i l.lists) r ≡ filter (λ (e : plain.Waiting). not (i == e.block)) (plain.list_of l.lists r)
list_unqueued l i r = get_or-map (filter (λ (e : plain.Waiting). not (i == e.block))) l.lists.waiting r []

pub unqueued_other : (l : Local) (i j : ℕ) → (i ≡ j → ⊥) → kept (relists (plain.unqueued i) l) j ≡ kept l j
unqueued_other l i j ne =
    let listed = λ (r : ℕ). ap (filter (is_of j)) (list_unqueued l i r)
    ∙ filter_kept (is_of j) (λ (e : plain.Waiting). not (i == e.block)) (λ e is. of_other i j e.block ne is) (plain.list_of l.lists r) in
    λ d. record (kept l j) { listed = λ r. listed r d }

pub unqueued_here : (l : Local) (i : ℕ) → kept (relists (plain.unqueued i) l) i ≡ record (kept l i) { listed = λ r. [] }
unqueued_here l i =
    let listed = λ (r : ℕ). ap (filter (is_of i)) (list_unqueued l i r)
    ∙ filter_out (is_of i) (λ (e : plain.Waiting). not (i == e.block)) (λ e is. not_kept (i == e.block) is) (plain.list_of l.lists r) in
    λ d. record (kept l i) { listed = λ r. listed r d }

-- A send is appended to a list

pub list_queued : (r : ℕ) (e : plain.Waiting) (s : plain.Plain) (P : List plain.Waiting → Type 0) (q : ℕ) → r < length s.waiting →
    (r ≡ q → P (plain.list_of s q ++ e ∷ [])) → ((r ≡ q → ⊥) → P (plain.list_of s q)) → P (plain.list_of (plain.queued r e s) q)
list_queued r e s P q lt here other = changed_cases P (λ es. es ++ e ∷ []) s.waiting r q [] lt here other

pub queued_other : (l : Local) (r j : ℕ) (e : plain.Waiting) → r < length l.lists.waiting → (e.block ≡ j → ⊥) → kept (relists (plain.queued r e) l) j ≡ kept l j
queued_other l r j e lt ne =
    let apart = other_is j e.block (swapped ne) in
    let listed = λ (q : ℕ). list_queued r e l.lists (λ es. filter (is_of j) es ≡ filter (is_of j) (plain.list_of l.lists q)) q lt
    (λ is. filter_last_other (is_of j) (plain.list_of l.lists q) e apart) (λ other. refl) in
    λ d. record (kept l j) { listed = λ q. listed q d }

pub queued_listed : (l : Local) (r : ℕ) (e : plain.Waiting) → r < length l.lists.waiting →
    (kept (relists (plain.queued r e) l) e.block).listed r ≡ (kept l e.block).listed r ++ e ∷ []
queued_listed l r e lt = list_queued r e l.lists (λ es. filter (is_of e.block) es ≡ filter (is_of e.block) (plain.list_of l.lists r) ++ e ∷ []) r lt
    (λ is. filter_last (is_of e.block) (plain.list_of l.lists r) e (same_nat e.block)) (λ other. absurd (other refl))

pub queued_other_list : (l : Local) (r q : ℕ) (e : plain.Waiting) → r < length l.lists.waiting → (r ≡ q → ⊥) →
    (kept (relists (plain.queued r e) l) e.block).listed q ≡ (kept l e.block).listed q
queued_other_list l r q e lt ne =
    list_queued r e l.lists (λ es. filter (is_of e.block) es ≡ filter (is_of e.block) (plain.list_of l.lists q)) q lt (λ is. absurd (ne is)) (λ other. refl)

-- The first ready one is taken out

pub popped_other : (l : Local) (i j : ℕ) (is : List ℕ) → l.lists.ready ≡ i ∷ is → (i ≡ j → ⊥) → kept (relists plain.popped l) j ≡ kept l j
popped_other l i j is at ne =
    let apart = other_is j i (swapped ne) in
    ap (λ xs. record (kept l j) { ready = xs }) (ap (λ xs. filter (λ k. j == k) (drop 1 xs)) at ∙ sym (skipped apart) ∙ sym (ap (filter (λ k. j == k)) at))
  where
    skipped : (j == i) ≡ false → filter (λ k. j == k) (i ∷ is) ≡ filter (λ k. j == k) is
    skipped apart = rw apart
