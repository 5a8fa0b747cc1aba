-- Each waiting list is the undecided sends to its thread, in the order in which they were queued.
use Rattle.std.proofs.Common.{subst, ◌≡◌, ℕ, zero, suc, ◌+◌, ◌<◌, ◌≤◌, Bool, true, false, cond, Option, Some, None, List, [], ◌∷◌, ◌++◌, length, map, refl, ap, sym, ◌∙◌, arith, get_or, append_assoc, append-nil}
use Rattle.std.proofs.lemmas.Bool.{eqb-true}
use Rattle.std.proofs.lemmas.Bool.Decides.{nat_tests}
use Rattle.std.proofs.lemmas.List.Elements.{filter_map-append}
use Rattle.std.proofs.Math.ListN.{get_or-map}
use Rattle.std.specs.Prelude.{slice_get, ◌==◌, not, ◌&&◌, filter_map}
use Rattle.std.specs.List.{AllByRecursion, cons_option}
use Rattle.std.specs.Option.{option_map}
use Rattle.l4_model.specs.Words.{GlobalId}
use Rattle.l4_model.specs.Machine.{Machine, Declaration, place_of}
use Rattle.l4_model.specs.World.{World, Send, changed, opening, Name, list_at}
use Rattle.l4_model.specs.Steps.{Step, Begin, Queue, Deliver, Drop, next, OfSend, Failed}
use Rattle.l4_model.specs.Conditions.{Pending, undecided, ◌>>=◌, ◌>>◌}
use Rattle.l4_model.specs.History.{run}
use Rattle.l4_model.specs.Laws.{queued_name}
use Rattle.l4_model.proofs.Chains.{bind_then, some_is, get-map, get-changed_same, get-changed_other}
use Rattle.l4_model.proofs.Sends.{Status, status, statuses, with_begun, with_decided, Begins, Decides, Effect, effect}
use Rattle.l4_model.proofs.Sound.{AreSound, step_sound}
use Rattle.l4_model.proofs.Accounted.{idle}
use Rattle.l4_model.proofs.Inversions.{QueueTaken}
use Rattle.l4_model.proofs.Lists.{ListEffect, Unlists, list_effect, without}
use Rattle.l4_model.proofs.Sizes.{Sized, step_sized}
use Rattle.l4_model.proofs.Places.{known_send, place_id, receiver_place, found_place}
use Rattle.l4_model.specs.Reached.{place_to}

-- What a name says of a list: its sender's place, where it is undecided and sent to the list's thread.
abbrev pub goes : Machine → ℕ → Option Send → Bool
goes m j None = false
goes m j (Some send) = is_place (place_to m send.to)
  where
    is_place : Option ℕ → Bool
    is_place None = false
    is_place (Some i) = i == j

abbrev pub listed_at : Machine → (j k i : ℕ) → Option Status → Option ℕ
listed_at m j k i None = None
listed_at m j k i (Some x) = ((x.begun == k) && goes m j x.send) >> Some i

abbrev pub listed : Machine → List Status → ℕ → Name → Option ℕ
listed m all j s = place_of m s.thread >>= λ i. listed_at m j s.k i (slice_get all i)

-- the number of sends that the thread of a name began
abbrev pub begun_at : Option Status → ℕ
begun_at None = 0
begun_at (Some x) = x.begun

abbrev begun_by : Machine → List Status → GlobalId → ℕ
begun_by m all t = begun_at (place_of m t >>= slice_get all)

-- The names that were queued, in order, make the lists.
pub record MakeLists (m : Machine) (all : List Status) (lists : List (List ℕ)) (names : List Name) : Type 0 where
  pub lists_are : (j : ℕ) → list_at lists j ≡ filter_map (listed m all j) names
  pub begun : AllByRecursion (λ s. s.k ≤ begun_by m all s.thread) names

-- names of which something else is listed, in the same way
filter_map-same : (f g : Name → Option ℕ) (P : Name → Type 0) (names : List Name) → ((s : Name) → P s → g s ≡ f s) → AllByRecursion P names → filter_map g names ≡ filter_map f names
filter_map-same f g P [] same h = refl
filter_map-same f g P (s ∷ names) same h = ap (λ o. cons_option o (filter_map g names)) (same s h.0) ∙ ap (cons_option (f s)) (filter_map-same f g P names same h.1)

-- what a change of a status does to what is listed of a name
listed_changed : (m : Machine) (f : Status → Status) (all : List Status) (i j : ℕ) (s : Name) (P : Option ℕ → Option ℕ → Type 0) →
    P None None → ((x : ℕ) → (i ≡ x → ⊥) → (y : Option Status) → P (listed_at m j s.k x y) (listed_at m j s.k x y)) →
    (place_of m s.thread ≡ Some i → P (listed_at m j s.k i (slice_get all i)) (listed_at m j s.k i (option_map f (slice_get all i)))) →
    P (listed m all j s) (listed m (changed f all i) j s)
listed_changed m f all i j s P none other own = by (place_of m s.thread) refl
  where
    at_place : (x : ℕ) → place_of m s.thread ≡ Some x → (b : Bool) → (i == x) ≡ b → P (listed_at m j s.k x (slice_get all x)) (listed_at m j s.k x (slice_get (changed f all i) x))
    at_place x at true same =
        let one : i ≡ x = eqb-true i x same in
        subst (λ y. P (listed_at m j s.k y (slice_get all y)) (listed_at m j s.k y (slice_get (changed f all i) y))) one
        (subst (λ o. P (listed_at m j s.k i (slice_get all i)) (listed_at m j s.k i o)) (sym (get-changed_same f all i)) (own (at ∙ ap Some (sym one))))
    at_place x at false apart =
        let differ : i ≡ x → ⊥ = λ one. grind (arith, nat_tests) in
        subst (λ o. P (listed_at m j s.k x (slice_get all x)) (listed_at m j s.k x o)) (sym (get-changed_other f all i x differ)) (other x differ (slice_get all x))

    by : (o : Option ℕ) → place_of m s.thread ≡ o → P (o >>= λ x. listed_at m j s.k x (slice_get all x)) (o >>= λ x. listed_at m j s.k x (slice_get (changed f all i) x))
    by None e = none
    by (Some x) e = at_place x e (i == x) refl

-- A send begins: its name was not queued before, and its thread had none that was undecided.
begun_same : (m : Machine) (all : List Status) (place j : ℕ) (old : Status) (send : Send) (s : Name) → slice_get all place ≡ Some old → old.send ≡ None →
    s.k ≤ begun_by m all s.thread → listed m (changed (with_begun send) all place) j s ≡ listed m all j s
begun_same m all place j old send s was idle le =
    listed_changed m (with_begun send) all place j s (λ before after. after ≡ before) refl (λ x differ y. refl) own
  where
    before : (x : Status) → x.send ≡ None → listed_at m j s.k place (Some x) ≡ None
    before x none = rw none (by (x.begun == s.k))
      where
        by : (b : Bool) → (b && false) >> Some place ≡ None
        by true = refl
        by false = refl

    after : (x : Status) → s.k ≤ x.begun → listed_at m j s.k place (Some (with_begun send x)) ≡ None
    after x below = let apart : (x.begun + 1 == s.k) ≡ false = grind (arith, nat_tests) in rw apart

    own : place_of m s.thread ≡ Some place → listed_at m j s.k place (option_map (with_begun send) (slice_get all place)) ≡ listed_at m j s.k place (slice_get all place)
    own at =
        let below : s.k ≤ old.begun = rw (at, was) at le in
        rw was (after old below ∙ sym (before old idle))

-- A send is decided: it is listed no more.
abbrev drop_place : ℕ → Option ℕ → Option ℕ
drop_place i None = None
drop_place i (Some x) = not (i == x) >> Some x

dropped_other : (m : Machine) (j k i x : ℕ) → (i ≡ x → ⊥) → (y : Option Status) → listed_at m j k x y ≡ drop_place i (listed_at m j k x y)
dropped_other m j k i x differ None = refl
dropped_other m j k i x differ (Some y) = by ((y.begun == k) && goes m j y.send)
  where
    apart : (i == x) ≡ false
    apart = grind (arith, nat_tests)

    by : (b : Bool) → b >> Some x ≡ drop_place i (b >> Some x)
    by true = rw apart
    by false = refl

dropped_own : (m : Machine) (j k i : ℕ) (y : Option Status) → listed_at m j k i (option_map with_decided y) ≡ drop_place i (listed_at m j k i y)
dropped_own m j k i None = refl
dropped_own m j k i (Some y) = after (y.begun == k) ∙ sym (before ((y.begun == k) && goes m j y.send))
  where
    same : (i == i) ≡ true
    same = grind (arith, nat_tests)

    after : (b : Bool) → (b && false) >> Some i ≡ None
    after true = refl
    after false = refl

    before : (b : Bool) → drop_place i (b >> Some i) ≡ None
    before true = rw same
    before false = refl

decided_dropped : (m : Machine) (all : List Status) (place j : ℕ) (s : Name) → listed m (changed with_decided all place) j s ≡ drop_place place (listed m all j s)
decided_dropped m all place j s =
    listed_changed m with_decided all place j s (λ before after. after ≡ drop_place place before) refl
    (λ x differ y. dropped_other m j s.k place x differ y)
    (λ at. dropped_own m j s.k place (slice_get all place))

filter_map-dropped : (f g : Name → Option ℕ) (i : ℕ) (names : List Name) → ((s : Name) → g s ≡ drop_place i (f s)) → filter_map g names ≡ without i (filter_map f names)
filter_map-dropped f g i [] e = refl
filter_map-dropped f g i (s ∷ names) e =
    ap (λ o. cons_option o (filter_map g names)) (e s) ∙ ap (cons_option (drop_place i (f s))) (filter_map-dropped f g i names e) ∙ one (f s) (filter_map f names)
  where
    one : (o : Option ℕ) (xs : List ℕ) → cons_option (drop_place i o) (without i xs) ≡ without i (cons_option o xs)
    one None xs = refl
    one (Some x) xs = by (not (i == x))
      where
        by : (b : Bool) → cons_option (b >> Some x) (without i xs) ≡ cond b (x ∷ without i xs) (without i xs)
        by true = refl
        by false = refl

-- how many sends a thread began never falls
begun_grows : (f : Status → Status) → ((x : Status) → x.begun ≤ (f x).begun) → (m : Machine) (all : List Status) (i : ℕ) (t : GlobalId) → begun_by m all t ≤ begun_by m (changed f all i) t
begun_grows f up m all i t = by (place_of m t)
  where
    over : (all : List Status) (i j : ℕ) → begun_at (slice_get all j) ≤ begun_at (slice_get (changed f all i) j)
    over [] i j = omega arith
    over (x ∷ all) zero zero = up x
    over (x ∷ all) zero (suc j) = omega arith
    over (x ∷ all) (suc i) zero = omega arith
    over (x ∷ all) (suc i) (suc j) = over all i j

    by : (o : Option ℕ) → begun_at (o >>= slice_get all) ≤ begun_at (o >>= slice_get (changed f all i))
    by None = omega arith
    by (Some j) = over all i j

grown : (m : Machine) (old new : List Status) (names : List Name) → ((t : GlobalId) → begun_by m old t ≤ begun_by m new t) →
    AllByRecursion (λ s. s.k ≤ begun_by m old s.thread) names → AllByRecursion (λ s. s.k ≤ begun_by m new s.thread) names
grown m old new [] up h = tt
grown m old new (s ∷ names) up h = (omega (arith, h.0, up s.thread), grown m old new names up h.1)

-- A send is queued: it comes last in one list.
get_or-changed_same : (f : List ℕ → List ℕ) (xs : List (List ℕ)) (i : ℕ) → i < length xs → get_or (changed f xs i) i [] ≡ f (get_or xs i [])
get_or-changed_same f [] i lt = absurd (omega arith)
get_or-changed_same f (x ∷ xs) zero lt = refl
get_or-changed_same f (x ∷ xs) (suc i) lt = get_or-changed_same f xs i (omega arith)

get_or-changed_other : (f : List ℕ → List ℕ) (xs : List (List ℕ)) (i j : ℕ) → (i ≡ j → ⊥) → get_or (changed f xs i) j [] ≡ get_or xs j []
get_or-changed_other f [] i j ne = refl
get_or-changed_other f (x ∷ xs) zero zero ne = absurd (ne refl)
get_or-changed_other f (x ∷ xs) zero (suc j) ne = refl
get_or-changed_other f (x ∷ xs) (suc i) zero ne = refl
get_or-changed_other f (x ∷ xs) (suc i) (suc j) ne = get_or-changed_other f xs i j (λ e. ne (ap suc e))

pub listed_is : (m : Machine) (w : World) (s : Name) (p : Pending) (r j : ℕ) → undecided m w s ≡ Some p → place_to m p.send.to ≡ Some r → listed m (statuses w) j s ≡ (r == j) >> Some p.sender.at
listed_is m w s p r j is to =
    let k = known_send m w s p is in
    let now : slice_get (statuses w) p.sender.at ≡ Some (status p.sender.now) = get-map status w.threads p.sender.at p.sender.now k.sender.now in
    let last : (p.sender.now.context.begun == s.k) ≡ true = grind (arith, nat_tests, k.last) in
    rw (k.sender.place, now, k.send, to, last)

queue_makes : (m : Machine) (w v : World) (s : Name) (names : List Name) → QueueTaken m w v s → Sized m w → MakeLists m (statuses w) w.waiting names → MakeLists m (statuses v) v.waiting (names ++ s ∷ [])
queue_makes m w v s names k sized h = subst (λ u. MakeLists m (statuses u) u.waiting (names ++ s ∷ [])) k.leads_to (record { lists_are = are; begun = begun names h.begun })
  where
    within : k.r.at < length w.waiting
    within = let at = receiver_place m w k.p.send.to k.r k.to in omega (arith, (place_id m k.r.declared.id k.r.at at k.r.declared).0, sized.lists)

    by : (j : ℕ) (b : Bool) → (k.r.at == j) ≡ b → list_at (changed (λ xs. xs ++ k.p.sender.at ∷ []) w.waiting k.r.at) j ≡ list_at w.waiting j ++ cons_option (b >> Some k.p.sender.at) []
    by j true same =
        let one : k.r.at ≡ j = eqb-true k.r.at j same in
        subst (λ x. list_at (changed (λ xs. xs ++ k.p.sender.at ∷ []) w.waiting k.r.at) x ≡ list_at w.waiting x ++ k.p.sender.at ∷ []) one
        (get_or-changed_same (λ xs. xs ++ k.p.sender.at ∷ []) w.waiting k.r.at within)
    by j false apart = get_or-changed_other (λ xs. xs ++ k.p.sender.at ∷ []) w.waiting k.r.at j (λ one. grind (arith, nat_tests)) ∙ sym (append-nil (list_at w.waiting j))

    are : (j : ℕ) → list_at (changed (λ xs. xs ++ k.p.sender.at ∷ []) w.waiting k.r.at) j ≡ filter_map (listed m (statuses w) j) (names ++ s ∷ [])
    are j =
        by j (k.r.at == j) refl
        ∙ ap (λ xs. xs ++ cons_option ((k.r.at == j) >> Some k.p.sender.at) []) (h.lists_are j)
        ∙ ap (λ o. filter_map (listed m (statuses w) j) names ++ cons_option o []) (sym (listed_is m w s k.p k.r.at j k.is_undecided (found_place m w k.p.send.to k.r k.to)))
        ∙ sym (filter_map-append (listed m (statuses w) j) names (s ∷ []))

    own : s.k ≤ begun_by m (statuses w) s.thread
    own =
        let known = known_send m w s k.p k.is_undecided in
        let now : slice_get (statuses w) k.p.sender.at ≡ Some (status k.p.sender.now) = get-map status w.threads k.p.sender.at k.p.sender.now known.sender.now in
        rw (known.sender.place, now) (omega (arith, known.last))

    begun : (names : List Name) → AllByRecursion (λ t. t.k ≤ begun_by m (statuses w) t.thread) names → AllByRecursion (λ t. t.k ≤ begun_by m (statuses w) t.thread) (names ++ s ∷ [])
    begun [] h = (own, tt)
    begun (t ∷ names) h = (h.0, begun names h.1)

keeps_makes : (m : Machine) (w v : World) (names : List Name) → v.waiting ≡ w.waiting → statuses v ≡ statuses w → MakeLists m (statuses w) w.waiting names → MakeLists m (statuses v) v.waiting names
keeps_makes m w v names lists all h = subst (λ xs. MakeLists m (statuses v) xs names) (sym lists) (subst (λ xs. MakeLists m xs w.waiting names) (sym all) h)

begins_makes : (m : Machine) (w v : World) (s : Name) (names : List Name) → v.waiting ≡ w.waiting → Begins m w v s → AreSound m w → MakeLists m (statuses w) w.waiting names → MakeLists m (statuses v) v.waiting names
begins_makes m w v s names lists b sound h =
    let idle : b.old.send ≡ None = idle m w v s b sound in
    subst (λ xs. MakeLists m (statuses v) xs names) (sym lists) (subst (λ xs. MakeLists m xs w.waiting names) (sym b.now) (record {
      lists_are = λ j. h.lists_are j ∙ sym (filter_map-same (listed m (statuses w) j) (listed m (changed (with_begun b.send) (statuses w) b.place) j) _ names
          (λ t le. begun_same m (statuses w) b.place j b.old b.send t b.was idle le) h.begun);
      begun = grown m (statuses w) (changed (with_begun b.send) (statuses w) b.place) names (begun_grows (with_begun b.send) (λ x. omega arith) m (statuses w) b.place) h.begun;
    }))

decides_makes : (m : Machine) (w v : World) (s : Name) (names : List Name) → Unlists m w v s → Decides m w v s → MakeLists m (statuses w) w.waiting names → MakeLists m (statuses v) v.waiting names
decides_makes m w v s names u d h =
    let same : u.place ≡ d.place = some_is _ _ (sym u.named ∙ d.named) in
    let lists : v.waiting ≡ map (without d.place) w.waiting = u.now ∙ ap (λ i. map (without i) w.waiting) same in
    subst (λ xs. MakeLists m (statuses v) xs names) (sym lists) (subst (λ xs. MakeLists m xs (map (without d.place) w.waiting) names) (sym d.now) (record {
      lists_are = λ j. get_or-map (without d.place) w.waiting j [] ∙ ap (without d.place) (h.lists_are j)
          ∙ sym (filter_map-dropped (listed m (statuses w) j) (listed m (changed with_decided (statuses w) d.place) j) d.place names (decided_dropped m (statuses w) d.place j));
      begun = grown m (statuses w) (changed with_decided (statuses w) d.place) names (begun_grows with_decided (λ x. omega arith) m (statuses w) d.place) h.begun;
    }))

abbrev names_after : List Name → Option Name → List Name
names_after names None = names
names_after names (Some s) = names ++ s ∷ []

step_makes : (m : Machine) (w v : World) (step : Step) (names : List Name) → Effect m w v step → ListEffect m w v step → Sized m w → AreSound m w →
    MakeLists m (statuses w) w.waiting names → MakeLists m (statuses v) v.waiting (names_after names (queued_name step))
step_makes m w v (Begin s) names e l sized sound h = begins_makes m w v s names l e sound h
step_makes m w v (Queue s) names e l sized sound h = queue_makes m w v s names l sized h
step_makes m w v (Deliver s receiver shown actual tag words) names e l sized sound h = decides_makes m w v s names l e h
step_makes m w v (OfSend (Failed why) s) names e l sized sound h = decides_makes m w v s names l e h
step_makes m w v (Drop s) names e l sized sound h = decides_makes m w v s names l e h
step_makes m w v _ names e l sized sound h = keeps_makes m w v names l e h

names_on : (names : List Name) (o : Option Name) (rest : List Name) → names_after names o ++ rest ≡ names ++ cons_option o rest
names_on names None rest = refl
names_on names (Some s) rest = append_assoc names (s ∷ []) rest

pub run_makes : (m : Machine) (h : List Step) (w v : World) (names : List Name) → run m w h ≡ Some v → Sized m w → AreSound m w → MakeLists m (statuses w) w.waiting names →
    MakeLists m (statuses v) v.waiting (names ++ filter_map queued_name h)
run_makes m [] w v names r sized sound h = subst (λ u. MakeLists m (statuses u) u.waiting (names ++ [])) (some_is w v r) (subst (MakeLists m (statuses w) w.waiting) (sym (append-nil names)) h)
run_makes m (step ∷ h) w v names r sized sound makes =
    bind_then (next m w step) (λ u. run m u h) v r λ u is rest.
    subst (MakeLists m (statuses v) v.waiting) (names_on names (queued_name step) (filter_map queued_name h))
    (run_makes m h u v (names_after names (queued_name step)) rest (step_sized m w u step is sized) (step_sound m w u step is sound)
    (step_makes m w u step names (effect m w u step is) (list_effect m w u step is) sized sound makes))

pub opening_makes : (m : Machine) → MakeLists m (statuses (opening m)) (opening m).waiting []
opening_makes m = record { lists_are = empty m.threads; begun = tt }
  where
    empty : (ds : List Declaration) (j : ℕ) → list_at (map (λ d. []) ds) j ≡ []
    empty [] j = refl
    empty (d ∷ ds) zero = refl
    empty (d ∷ ds) (suc j) = empty ds j
