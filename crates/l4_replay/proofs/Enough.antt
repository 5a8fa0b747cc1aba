-- What the last steps or events begin is all that is sought, where it is as much as there is.
use Rattle.std.proofs.Common.{◌≡◌, ℕ, zero, suc, ◌+◌, ◌-◌, ◌<◌, ◌≤◌, Bool, true, false, cond, Option, Some, None, List, [], ◌∷◌, ◌++◌, set, refl, drop, take, length, length-append, ap, ap₂, sym, ◌∙◌, subst, inl, inr, ◌⊎◌, arith}
use Rattle.std.specs.Prelude.{IfSome, filter_map, get_or, is_some, slice_get, ◌==◌}
use Rattle.std.specs.Option.{option_to_list}
use Rattle.std.specs.List.{cons_option}
use Rattle.std.proofs.lemmas.Bool.{eqb-true}
use Rattle.std.proofs.lemmas.Bool.Decides.{nat_tests}
use Rattle.std.proofs.lemmas.List.{drop_more, take_more, take-append-drop}
use Rattle.std.proofs.lemmas.Option.{slice_get_cases}
use Rattle.std.proofs.lemmas.List.Elements.{filter_map-append}
use Rattle.std.proofs.lemmas.List.Sums.{sum_by-cons}
use Rattle.l4_model.specs.Conditions.{◌>>=◌}
use Rattle.l4_model.specs.Words.{Id}
use Rattle.l4_model.specs.Machine.{Machine, place_of}
use Rattle.l4_model.specs.Steps.{Step}
use Rattle.l4_model.specs.World.{Name}
use Rattle.l4_model.specs.History.{begun_name}
use Rattle.l4_model.specs.Laws.{begins_of, names, same_name}
use Rattle.l4_model.proofs.Chains.{bind_then}
use Rattle.l4_model.proofs.Places.{one_place, same_name_refl}
use Rattle.l4_core_model.specs.Runs.{Event, told}
use Rattle.l4_replay.specs.Inner.Homes.{sent_to, sent_waiting}
use Rattle.l4_replay.specs.Inner.Waiting.{count_sought, count_undecided, AreBegunOnce}
use Rattle.l4_replay.specs.declared.homes.LastSend.{LastSend}
use Rattle.l4_replay.proofs.Sought.{more_found}

-- No more steps are sought than sends are undecided, where no send is begun twice.

-- The last sends where that at a place is decided.
abbrev decided_at : ℕ → LastSend → List LastSend → List LastSend
decided_at i last sends = set sends i (record { k = last.k; to = None })

one_less : (sends : List LastSend) (i : ℕ) (last : LastSend) (to : Id) → slice_get sends i ≡ Some last → last.to ≡ Some to →
    count_undecided sends ≡ 1 + count_undecided (decided_at i last sends)
one_less [] i last to here is = absurd cc
one_less (s ∷ sends) zero last to here is =
    let same : s ≡ last = cc in
    let its : s.to ≡ Some to = ap (λ (s : LastSend). s.to) same ∙ is in
    let counted = ap (λ (o : Option Id). length (cons_option o (filter_map (λ (s : LastSend). s.to) sends))) its in
    omega (arith, counted)
one_less (s ∷ sends) (suc i) last to here is = by s.to (one_less sends i last to here is)
  where
    rest : List Id
    rest = filter_map (λ (s : LastSend). s.to) sends

    after : List Id
    after = filter_map (λ (s : LastSend). s.to) (decided_at i last sends)

    by : (o : Option Id) → length rest ≡ 1 + length after → length (cons_option o rest) ≡ 1 + length (cons_option o after)
    by None less = less
    by (Some to) less = omega arith

there : (sends : List LastSend) (i : ℕ) (was now : LastSend) → slice_get sends i ≡ Some was → slice_get (set sends i now) i ≡ Some now
there [] i was now here = absurd cc
there (s ∷ sends) zero was now here = refl
there (s ∷ sends) (suc i) was now here = there sends i was now here

elsewhere : (sends : List LastSend) (i j : ℕ) (now : LastSend) → (i == j) ≡ false → slice_get (set sends i now) j ≡ slice_get sends j
elsewhere [] i j now other = refl
elsewhere (s ∷ sends) zero zero now other = absurd cc
elsewhere (s ∷ sends) zero (suc j) now other = refl
elsewhere (s ∷ sends) (suc i) zero now other = refl
elsewhere (s ∷ sends) (suc i) (suc j) now other = elsewhere sends i j now (grind (arith, nat_tests))

abbrev to_of : Name → Id → Option (Name × Id)
to_of t to = Some (t, to)

-- A step that does not begin this send is sought as before where it is decided.
same_here : (m : Machine) (sends : List LastSend) (i : ℕ) (last : LastSend) (s : Name) (step : Step) → place_of m s.thread ≡ Some i →
    slice_get sends i ≡ Some last → last.k ≡ s.k → names s (begun_name step) ≡ false →
    sent_waiting m sends step ≡ sent_waiting m (decided_at i last sends) step
same_here m sends i last s step place here k other = by (begun_name step) other
  where
    news : List LastSend
    news = decided_at i last sends

    -- Another send of this place has another number.
    other_number : (t : Name) → same_name s t ≡ false → place_of m t.thread ≡ Some i → (last.k == t.k) ≡ true → ⊥
    other_number t other placed same =
        let number : s.k ≡ t.k = sym k ∙ eqb-true last.k t.k same in
        let thread : s.thread ≡ t.thread = one_place m s.thread t.thread i place placed in
        let is : s ≡ t = ap₂ (λ thread k. record { thread = thread; k = k }) thread number in
        let wrong : true ≡ false = sym (same_name_refl s) ∙ ap (same_name s) is ∙ other in
        cc

    decided : (t : Name) → ((last.k == t.k) ≡ true → ⊥) → (b : Bool) → (last.k == t.k) ≡ b → cond b last.to None ≡ cond {A = Option Id} b None None
    decided t none false apart = refl
    decided t none true same = absurd (none same)

    at_place : (t : Name) (j : ℕ) → same_name s t ≡ false → place_of m t.thread ≡ Some j → (b : Bool) → (i == j) ≡ b →
        sent_to t.k (slice_get sends j) ≡ sent_to t.k (slice_get news j)
    at_place t j other placed false apart = ap (sent_to t.k) (sym (elsewhere sends i j (record { k = last.k; to = None }) apart))
    at_place t j other placed true same =
        let is : i ≡ j = eqb-true i j same in
        let read : slice_get sends j ≡ Some last = ap (slice_get sends) (sym is) ∙ here in
        let now : slice_get news j ≡ Some (record { k = last.k; to = None }) =
        ap (slice_get news) (sym is) ∙ there sends i last (record { k = last.k; to = None }) here in
        ap (sent_to t.k) read ∙ decided t (other_number t other (placed ∙ ap Some (sym is))) (last.k == t.k) refl ∙ sym (ap (sent_to t.k) now)

    by : (o : Option Name) → names s o ≡ false →
        (o >>= λ t. place_of m t.thread >>= λ j. sent_to t.k (slice_get sends j) >>= to_of t)
        ≡ (o >>= λ t. place_of m t.thread >>= λ j. sent_to t.k (slice_get news j) >>= to_of t)
    by None other = refl
    by (Some t) other = placed (place_of m t.thread) refl
      where
        placed : (o : Option ℕ) → place_of m t.thread ≡ o →
            (o >>= λ j. sent_to t.k (slice_get sends j) >>= to_of t) ≡ (o >>= λ j. sent_to t.k (slice_get news j) >>= to_of t)
        placed None is = refl
        placed (Some j) is = ap (λ (o : Option Id). o >>= to_of t) (at_place t j other is (i == j) refl)

begins_next : (s : Name) (step : Step) (h : List Step) → begins_of s (step ∷ h) ≡ cond (names s (begun_name step)) 1 0 + begins_of s h
begins_next s step h = sum_by-cons (λ x. cond (names s (begun_name x)) 1 0) step h

same_behind : (m : Machine) (sends : List LastSend) (i : ℕ) (last : LastSend) (s : Name) (h : List Step) → place_of m s.thread ≡ Some i →
    slice_get sends i ≡ Some last → last.k ≡ s.k → begins_of s h ≡ 0 →
    filter_map (sent_waiting m sends) h ≡ filter_map (sent_waiting m (decided_at i last sends)) h
same_behind m sends i last s [] place here k none = refl
same_behind m sends i last s (step ∷ h) place here k none = by (names s (begun_name step)) refl (sym (begins_next s step h) ∙ none) (same_behind m sends i last s h place here k)
  where
    by : (b : Bool) → names s (begun_name step) ≡ b → cond b 1 0 + begins_of s h ≡ 0 →
        (begins_of s h ≡ 0 → filter_map (sent_waiting m sends) h ≡ filter_map (sent_waiting m (decided_at i last sends)) h) →
        filter_map (sent_waiting m sends) (step ∷ h) ≡ filter_map (sent_waiting m (decided_at i last sends)) (step ∷ h)
    by true is none rest = absurd (omega arith)
    by false is none rest = ap₂ cons_option (same_here m sends i last s step place here k is) (rest (omega arith))

-- What is known of a step that is sought.
record IsSought (m : Machine) (sends : List LastSend) (step : Step) : Type 0 where
  name : Name
  at : ℕ
  last : LastSend
  to : Id
  begins : begun_name step ≡ Some name
  place : place_of m name.thread ≡ Some at
  here : slice_get sends at ≡ Some last
  same : last.k ≡ name.k
  goes : last.to ≡ Some to

is_sought : (m : Machine) (sends : List LastSend) (step : Step) (r : Name × Id) → sent_waiting m sends step ≡ Some r → IsSought m sends step
is_sought m sends step r is =
    bind_then (begun_name step) _ r is λ name begins rest.
    bind_then (place_of m name.thread) _ r rest λ at place rest.
    bind_then (sent_to name.k (slice_get sends at)) _ r rest λ to sent rest.
    by name at begins place to (slice_get sends at) refl sent
  where
    last_is : (last : LastSend) (k : ℕ) (to : Id) (b : Bool) → (last.k == k) ≡ b → cond b last.to None ≡ Some to → (last.k ≡ k) × (last.to ≡ Some to)
    last_is last k to true same is = (eqb-true last.k k same, is)
    last_is last k to false same is = absurd cc

    by : (name : Name) (at : ℕ) → begun_name step ≡ Some name → place_of m name.thread ≡ Some at → (to : Id) (o : Option LastSend) → slice_get sends at ≡ o →
        sent_to name.k o ≡ Some to → IsSought m sends step
    by name at begins place to None here sent = absurd cc
    by name at begins place to (Some last) here sent =
        let known = last_is last name.k to (last.k == name.k) refl sent in
        record { name = name; at = at; last = last; to = to; begins = begins; place = place; here = here; same = known.0; goes = known.1 }

once_behind : (step : Step) (h : List Step) → AreBegunOnce (step ∷ h) → AreBegunOnce h
once_behind step h once s = omega (arith, begins_next s step h, once s)

none_behind : (s : Name) (step : Step) (h : List Step) → begun_name step ≡ Some s → begins_of s (step ∷ h) ≤ 1 → begins_of s h ≡ 0
none_behind s step h begins once =
    let its : names s (begun_name step) ≡ true = ap (names s) begins ∙ same_name_refl s in
    let next = begins_next s step h ∙ ap (λ b. cond b 1 0 + begins_of s h) its in
    omega (arith, next, once)

pub few_sought : (m : Machine) (h : List Step) (sends : List LastSend) → AreBegunOnce h → length (filter_map (sent_waiting m sends) h) ≤ count_undecided sends
few_sought m [] sends once = omega arith
few_sought m (step ∷ h) sends once = by (sent_waiting m sends step) refl (λ sends. few_sought m h sends (once_behind step h once))
  where
    by : (o : Option (Name × Id)) → sent_waiting m sends step ≡ o →
        ((sends : List LastSend) → length (filter_map (sent_waiting m sends) h) ≤ count_undecided sends) →
        length (cons_option o (filter_map (sent_waiting m sends) h)) ≤ count_undecided sends
    by None is few = few sends
    by (Some r) is few =
        let k = is_sought m sends step r is in
        let behind = same_behind m sends k.at k.last k.name h k.place k.here k.same (none_behind k.name step h k.begins (once k.name)) in
        let rest = few (decided_at k.at k.last sends) in
        omega (arith, rest, ap length behind, one_less sends k.at k.last k.to k.here k.goes)

pub count-append : {A : Type 0} (f : Step → Option A) (xs ys : List Event) → count_sought f (xs ++ ys) ≡ count_sought f xs + count_sought f ys
count-append f [] ys = let zero : count_sought f [] ≡ 0 = refl in omega (arith, zero)
count-append f (x ∷ xs) ys =
    let all = ap length (filter_map-append f x.steps (told (xs ++ ys))) ∙ length-append (filter_map f x.steps) (filter_map f (told (xs ++ ys))) in
    let first = ap length (filter_map-append f x.steps (told xs)) ∙ length-append (filter_map f x.steps) (filter_map f (told xs)) in
    omega (arith, all, first, count-append f xs ys)

pub none : {A : Type 0} (xs : List A) → length xs ≡ 0 → xs ≡ []
none [] is = refl
none (x ∷ xs) is = absurd cc

-- The next step, event or log is counted.

pub next_step : {A : Type 0} (f : Step → Option A) (h : List Step) (end place : ℕ) (o : Option A) → end ≤ length h → place < end →
    IfSome (slice_get h place) (λ step. o ≡ f step) →
    length (filter_map f (drop place (take end h))) ≡ length (option_to_list o) + length (filter_map f (drop (place + 1) (take end h)))
next_step f h end place o within before found =
    let parts = more_found f h end place [] (option_to_list o) o (filter_map f (drop place (take end h))) within before found refl refl in
    ap length (sym parts) ∙ length-append (option_to_list o) (filter_map f (drop (place + 1) (take end h)))

pub one_some : {A : Type 0} (o : Option A) → is_some o ≡ true → length (option_to_list o) ≡ 1
one_some None some = absurd cc
one_some (Some x) some = refl

pub one_none : {A : Type 0} (o : Option A) → is_some o ≡ false → length (option_to_list o) ≡ 0
one_none None none = refl
one_none (Some x) none = absurd cc

-- One step more at the front of those that were looked at, and one send more that was counted.

count_cons : {A : Type 0} (o : Option A) (xs : List A) → length (cons_option o xs) ≡ length (option_to_list o) + length xs
count_cons None xs = let none : length xs ≡ 0 + length xs = omega arith in none
count_cons (Some x) xs = let one : suc (length xs) ≡ 1 + length xs = omega arith in one

pub step_before : {A : Type 0} (f : Step → Option A) (h : List Step) (start : ℕ) (o : Option A) → 0 < start → start ≤ length h →
    IfSome (slice_get h (start - 1)) (λ step. o ≡ f step) →
    length (filter_map f (drop (start - 1) h)) ≡ length (option_to_list o) + length (filter_map f (drop start h))
step_before {A} f h start o some within found = by (slice_get_cases h (start - 1)).1
  where
    by : ((x : Step) × (start - 1 < length h) × (slice_get h (start - 1) ≡ Some x) × (get_or h (start - 1) x ≡ x)) ⊎ ((length h ≤ start - 1) × (slice_get h (start - 1) ≡ None)) →
        length (filter_map f (drop (start - 1) h)) ≡ length (option_to_list o) + length (filter_map f (drop start h))
    by (inl (x, less, at, is)) =
        let same : o ≡ f x = subst (λ (s : Option Step). IfSome s (λ step. o ≡ f step)) at found in
        let back : start - 1 + 1 ≡ start = omega (arith, some) in
        let next : drop (start - 1) h ≡ x ∷ drop start h = drop_more h (start - 1) x less ∙ ap₂ (λ (y : Step) (n : ℕ). y ∷ drop n h) is back in
        ap (λ (steps : List Step). length (filter_map f steps)) next ∙ ap (λ (o : Option A). length (cons_option o (filter_map f (drop start h)))) (sym same)
        ∙ count_cons o (filter_map f (drop start h))
    by (inr past) = let least : length h ≤ start - 1 = past.0 in absurd (omega (arith, some, within, least))

pub none_before : {A : Type 0} (f : Step → Option A) (h : List Step) (start count : ℕ) → length (filter_map f h) ≤ count →
    length (filter_map f (drop start h)) ≡ count → filter_map f (take start h) ≡ []
none_before f h start count few all =
    let parts = ap (λ (steps : List Step). length (filter_map f steps)) (sym (take-append-drop start h)) ∙ ap length (filter_map-append f (take start h) (drop start h))
    ∙ length-append (filter_map f (take start h)) (filter_map f (drop start h)) in
    none (filter_map f (take start h)) (omega (arith, parts, few, all))

pub all_behind : {A : Type 0} (f : Step → Option A) (h : List Step) (start : ℕ) → filter_map f (take start h) ≡ [] → filter_map f (drop start h) ≡ filter_map f h
all_behind {A} f h start silent =
    ap (λ (xs : List A). xs ++ filter_map f (drop start h)) (sym silent) ∙ sym (filter_map-append f (take start h) (drop start h))
    ∙ ap (filter_map f) (take-append-drop start h)

pub one_more : (sends : List LastSend) (i : ℕ) (d : LastSend) → i < length sends →
    count_undecided (take (i + 1) sends) ≡ count_undecided (take i sends) + length (option_to_list (get_or sends i d).to)
one_more sends i d within =
    let to = λ (s : LastSend). s.to in
    let last = count_cons (get_or sends i d).to [] in
    let parts = ap (λ (ss : List LastSend). length (filter_map to ss)) (take_more sends i d within) ∙ ap length (filter_map-append to (take i sends) (get_or sends i d ∷ []))
    ∙ length-append (filter_map to (take i sends)) (filter_map to (get_or sends i d ∷ [])) in
    omega (arith, parts, last)
