-- The plain lists of an `Arena` beside the names in its rings.
use Rattle.std.specs.Prelude.{replicate, drop, Some, None, Option, is_some}
use Rattle.std.proofs.Common.{◌≡◌, ℕ, ◌<◌, ◌≤◌, Bool, true, false, not, cond, eqb, leb, ◌||◌, List, [], ◌∷◌, ◌++◌, length, map, filter, get_or, set, refl, sym, ◌∙◌, ap, subst, get_or-set_same, get_or-set_other, zero, suc}
use Rattle.std.proofs.lemmas.Bool.{eqb-false, or_parts}
use Rattle.std.proofs.lemmas.List.{map-set, map_push}
use Rattle.std.specs.List.{list_any}
use Rattle.l4_model.specs.World.{changed, is_in}
use Rattle.l4_core_model.specs.Plain.{Waiting, Plain, unqueued, queued, is_queued, due_block, popped_due, without_block}
use Rattle.tcb_arena.specs.declared.Sender.{Sender}
use Rattle.tcb_arena.specs.Inner.Blocks.{empty_lists, without_due}
use Rattle.tcb_arena.specs.Inner.Due.{Due, none_armed, armed_of, times_armed, without_first_due}
use Rattle.tcb_arena.specs.Inner.Rings.{Lists, list_at, no_names, taken_out, put_last, is_linked, without, is_in_any}
use Rattle.tcb_arena.specs.Inner.Shown.{waiting_of, waiting_at, sender_at, no_sender, shown_lists}
use Rattle.tcb_arena.proofs.Lists.{is_in-at}
use Rattle.tcb_arena.proofs.Entries.{E}
use Rattle.tcb_arena.proofs.Once.{first-out}

abbrev is_of : ℕ → Waiting → Bool
is_of x w = eqb x w.block

any-shown : (f : List Sender) (x : ℕ) (ys : List ℕ) → list_any (is_of x) (map (waiting_at f) ys) ≡ is_in x ys
any-shown f x [] = refl
any-shown f x (y ∷ ys) = ap (λ b. eqb x y || b) (any-shown f x ys)

any_any-shown : (f : List Sender) (x : ℕ) (ls : List (List ℕ)) → list_any (list_any (is_of x)) (map (map (waiting_at f)) ls) ≡ is_in_any x ls
any_any-shown f x [] = refl
any_any-shown f x (l ∷ ls) =
    ap (λ b. b || list_any (list_any (is_of x)) (map (map (waiting_at f)) ls)) (any-shown f x l) ∙ ap (λ b. is_in x l || b) (any_any-shown f x ls)

-- A block taken out

shown-without : (f : List Sender) (x : ℕ) (ys : List ℕ) → map (waiting_at f) (without x ys) ≡ filter (λ w. not (is_of x w)) (map (waiting_at f) ys)
shown-without f x [] = refl
shown-without f x (y ∷ ys) =
    elim (eqb x y) as (λ b. map (waiting_at f) (cond (not b) (y ∷ without x ys) (without x ys)) ≡ cond (not b) (waiting_at f y ∷ filter (λ w. not (is_of x w)) (map (waiting_at f) ys)) (filter (λ w. not (is_of x w)) (map (waiting_at f) ys)))
    [ true ↦ shown-without f x ys | false ↦ ap (λ (r : List Waiting). waiting_at f y ∷ r) (shown-without f x ys) ]

all_shown-without : (f : List Sender) (x : ℕ) (ls : List (List ℕ)) → map (map (waiting_at f)) (map (without x) ls) ≡ map (filter (λ w. not (is_of x w))) (map (map (waiting_at f)) ls)
all_shown-without f x [] = refl
all_shown-without f x (l ∷ ls) =
    ap (λ (r : List (List Waiting)). map (waiting_at f) (without x l) ∷ r) (all_shown-without f x ls)
    ∙ ap (λ (r : List Waiting). r ∷ map (filter (λ w. not (is_of x w))) (map (map (waiting_at f)) ls)) (shown-without f x l)

-- The sender of a block that stands in no list is written

shown-absent : (f : List Sender) (x : ℕ) (e : Sender) (ys : List ℕ) → is_in x ys ≡ false → map (waiting_at (set f x e)) ys ≡ map (waiting_at f) ys
shown-absent f x e [] h = refl
shown-absent f x e (y ∷ ys) h =
    let parts : (eqb x y ≡ false) × (is_in x ys ≡ false) = or_parts (eqb x y) (is_in x ys) h in
    let same : sender_at (set f x e) y ≡ sender_at f y = get_or-set_other f x y e no_sender (λ k. eqb-false x y parts.0 (sym k)) in
    ap (λ (w : Waiting). w ∷ map (waiting_at (set f x e)) ys) (ap (waiting_of y) same) ∙ ap (λ (r : List Waiting). waiting_at f y ∷ r) (shown-absent f x e ys parts.1)

all_shown-absent : (f : List Sender) (x : ℕ) (e : Sender) (ls : List (List ℕ)) → is_in_any x ls ≡ false → map (map (waiting_at (set f x e))) ls ≡ map (map (waiting_at f)) ls
all_shown-absent f x e [] h = refl
all_shown-absent f x e (l ∷ ls) h =
    let parts : (is_in x l ≡ false) × (is_in_any x ls ≡ false) = or_parts (is_in x l) (is_in_any x ls) h in
    ap (λ (r : List Waiting). r ∷ map (map (waiting_at (set f x e))) ls) (shown-absent f x e l parts.0) ∙ ap (λ (r : List (List Waiting)). map (waiting_at f) l ∷ r) (all_shown-absent f x e ls parts.1)

pub list-shown : (f : List Sender) (ls : List (List ℕ)) (h : ℕ) → get_or (map (map (waiting_at f)) ls) h [] ≡ map (waiting_at f) (get_or ls h [])
list-shown f [] h = refl
list-shown f (l ∷ ls) zero = refl
list-shown f (l ∷ ls) (suc h) = list-shown f ls h

-- A send put at the end of a list

abbrev sender_of : Waiting → Sender
sender_of w = record { shown = w.shown; local = w.local }

changed-is_set : {A : Type 0} (g : A → A) (xs : List A) (i : ℕ) (d : A) → changed g xs i ≡ set xs i (g (get_or xs i d))
changed-is_set g [] i d = refl
changed-is_set g (x ∷ xs) zero d = refl
changed-is_set {A = A} g (x ∷ xs) (suc i) d = ap (λ (r : List A). x ∷ r) (changed-is_set g xs i d)

all_shown-put : (f : List Sender) (h : ℕ) (w : Waiting) (ls : List (List ℕ)) → w.block < length f → is_in_any w.block ls ≡ false
    → map (map (waiting_at (set f w.block (sender_of w)))) (set ls h (get_or ls h [] ++ w.block ∷ [])) ≡ changed (λ ws. ws ++ w ∷ []) (map (map (waiting_at f)) ls) h
all_shown-put f h w ls lx free =
    let e : Sender = sender_of w in
    let g : ℕ → Waiting = waiting_at (set f w.block e) in
    let own : g w.block ≡ w = ap (waiting_of w.block) (get_or-set_same f w.block e no_sender lx) in
    map-set (map g) ls h (get_or ls h [] ++ w.block ∷ [])
    ∙ ap (λ (r : List (List Waiting)). set r h (map g (get_or ls h [] ++ w.block ∷ []))) (all_shown-absent f w.block e ls free)
    ∙ ap (λ (r : List Waiting). set (map (map (waiting_at f)) ls) h r)
    (map_push g (get_or ls h []) w.block
    ∙ ap (λ (r : List Waiting). r ++ g w.block ∷ []) (shown-absent f w.block e (get_or ls h []) (is_in-at w.block h ls free) ∙ sym (list-shown f ls h))
    ∙ ap (λ (v : Waiting). get_or (map (map (waiting_at f)) ls) h [] ++ v ∷ []) own)
    ∙ sym (changed-is_set (λ ws. ws ++ w ∷ []) (map (map (waiting_at f)) ls) h [])

-- The plain lists after each change of the rings

abbrev with_waiting : Lists → Due → List (List Waiting) → Plain
with_waiting ready due ws = record { waiting = ws; ready = list_at ready 0; armed = armed_of due }

pub shown-unqueued : (waiting waiting' : Lists) (f : List Sender) (ready : Lists) (due : Due) (s : Plain) (x : ℕ) → shown_lists waiting f ready due ≡ s → waiting' ≡ taken_out waiting x → shown_lists waiting' f ready due ≡ unqueued x s
shown-unqueued waiting waiting' f ready due s x v e =
    ap (λ (l : Lists). shown_lists l f ready due) e ∙ ap (with_waiting ready due) (all_shown-without f x waiting.lists) ∙ ap (unqueued x) v

pub free-shown : (waiting : Lists) (f : List Sender) (ready : Lists) (due : Due) (s : Plain) (x : ℕ) → shown_lists waiting f ready due ≡ s → is_linked waiting x ≡ is_queued s x
free-shown waiting f ready due s x v = sym (any_any-shown f x waiting.lists) ∙ ap (λ (a : Plain). is_queued a x) v

pub shown-queued : (waiting waiting' : Lists) (f : List Sender) (ready : Lists) (due : Due) (s : Plain) (h : ℕ) (w : Waiting) → shown_lists waiting f ready due ≡ s → w.block < length f → is_queued s w.block ≡ false → waiting' ≡ put_last waiting h w.block
    → shown_lists waiting' (set f w.block (sender_of w)) ready due ≡ queued h w s
shown-queued waiting waiting' f ready due s h w v lx free e =
    ap (λ (l : Lists). shown_lists l (set f w.block (sender_of w)) ready due) e
    ∙ ap (with_waiting ready due) (all_shown-put f h w waiting.lists lx (free-shown waiting f ready due s w.block v ∙ free))
    ∙ ap (queued h w) v

-- The armed blocks changed

abbrev with_armed : Plain → List E → Plain
with_armed s es = record s { armed = es }

-- The first armed block taken out where it is due.
first-undue : (now b : ℕ) (xs : List E) → due_block now xs ≡ Some b → times_armed b xs ≤ 1 → without_block b xs ≡ drop 1 xs
first-undue now b [] h once = absurd (cc)
first-undue now b (x ∷ xs) h once =
    let P : ℕ → Type 0 = λ (n : ℕ). times_armed n (x ∷ xs) ≤ 1 in
    let same : x.1 ≡ b = by (leb x.0 now) refl h in
    ap (λ n. without_block n (x ∷ xs)) (sym same) ∙ first-out (x ∷ xs) x refl (subst P (sym same) once)
  where
    by : (t : Bool) → leb x.0 now ≡ t → cond t (Some x.1) None ≡ Some b → x.1 ≡ b
    by true e k = cc
    by false e k = absurd (cc)

pub without-due : (now b : ℕ) (xs : List E) → due_block now xs ≡ Some b → times_armed b xs ≤ 1 → without_block b xs ≡ without_first_due now xs
without-due now b xs h once = first-undue now b xs h once ∙ sym (ap (λ (o : Option ℕ). cond (is_some o) (drop 1 xs) xs) h)

pub shown-undue : (now : ℕ) (waiting : Lists) (f : List Sender) (ready : Lists) (due after : Due) (s : Plain) → shown_lists waiting f ready due ≡ s → armed_of after ≡ without_first_due now (armed_of due)
    → shown_lists waiting f ready after ≡ without_due now s
shown-undue now waiting f ready due after s v e =
    let old : Plain = shown_lists waiting f ready due in
    ap (with_armed old) e
    ∙ elim (is_some (due_block now (armed_of due))) as (λ b. with_armed old (cond b (drop 1 (armed_of due)) (armed_of due)) ≡ cond b (popped_due old) old) [ true ↦ refl | false ↦ refl ]
    ∙ ap (without_due now) v

-- No block in any list

map-nils : (f : List Sender) (n : ℕ) → map (map (waiting_at f)) (replicate n []) ≡ replicate n []
map-nils f zero = refl
map-nils f (suc n) = ap (λ (r : List (List Waiting)). [] ∷ r) (map-nils f n)

pub shown-empty : (n : ℕ) (waiting : Lists) (f : List Sender) (ready : Lists) (due : Due) → waiting ≡ no_names n n → ready ≡ no_names n 1 → due ≡ none_armed n → shown_lists waiting f ready due ≡ empty_lists n
shown-empty n waiting f ready due s r d =
    ap (λ (l : Lists). shown_lists l f ready due) s ∙ ap (λ (l : Lists). shown_lists (no_names n n) f l due) r ∙ ap (λ (e : Due). shown_lists (no_names n n) f (no_names n 1) e) d
    ∙ ap (with_waiting (no_names n 1) (none_armed n)) (map-nils f n)
