-- Counts of all threads, of one step more.
use Rattle.std.proofs.Common.{◌≡◌, ℕ, zero, suc, ◌+◌, ◌<◌, ◌^◌, Bool, true, false, true≢false, Option, Some, None, List, [], ◌∷◌, ◌++◌, length, get_or, take, replicate, refl, ap, sym, subst, ◌∙◌, arith}
use Rattle.std.specs.Prelude.{All, IfSome, slice_get, flat_map}
use Rattle.std.specs.List.{zip}
use Rattle.std.proofs.lemmas.List.{get_or-map, length-map, same_lists}
use Rattle.std.proofs.lemmas.List.Elements.{All-cons, All-get_or, All-nil}
use Rattle.std.proofs.lemmas.Option.{slice_get-get_or}
use Rattle.std.proofs.lemmas.Slice.Zip.{get_or-zip, length-zip}
use Rattle.l4_model.specs.Words.{GlobalId, same_id}
use Rattle.l4_model.specs.Machine.{Declaration, Machine, OrderKind, place_of}
use Rattle.l4_model.specs.Steps.{Step, Local, Begin, Deliver, Wait, SendTimeout, ReceiveTimeout, SendNobody, ReceiveNobody, SendCancel, ReceiveCancel, Order, Tick}
use Rattle.l4_model.specs.World.{Name, changed}
use Rattle.l4_model.proofs.Chains.{get-changed_other as slice-changed_other, length-changed}
use Rattle.l4_model.proofs.Places.{one_place, place_id, same_id_is}
use Rattle.l4_core_model.specs.Local.{declared, undeclared}
use Rattle.l4_core_model.specs.Runs.{IsMachine}
use Rattle.l4_core_model.proofs.Changed.{get-changed, same_ids}
use Rattle.l4_counts.specs.declared.counts.Counts.{Counts}
use Rattle.l4_counts.specs.Counts.{counts_of, with_step}
use Rattle.l4_counts.specs.Inner.Few.{AreFew}
use Rattle.l4_counts.specs.Lines.{counts_line}
use Rattle.l4_counts.specs.Inner.Threads.{counts_of_each, each_with_step, with_step_at, with_step_of, counts_lines}
use Rattle.l4_counts.proofs.Counting.{counts_more, few}

-- All threads

pub each_begun : (ds : List Declaration) (c : Counts) → ((id : GlobalId) → c ≡ counts_of id []) → replicate (length ds) c ≡ counts_of_each ds []
each_begun [] c is = refl
each_begun (d ∷ ds) c is =
    ap (λ (x : Counts). x ∷ replicate (length ds) c) (is d.id)
    ∙ ap (λ (cs : List Counts). counts_of d.id [] ∷ cs) (each_begun ds c is)

pub each_more : (ds : List Declaration) (steps : List Step) (n : ℕ) (step : Step) → slice_get steps n ≡ Some step →
    each_with_step step ds (counts_of_each ds (take n steps)) ≡ counts_of_each ds (take (n + 1) steps)
each_more [] steps n step at = refl
each_more (d ∷ ds) steps n step at =
    ap (λ (c : Counts). c ∷ each_with_step step ds (counts_of_each ds (take n steps))) (counts_more d.id steps n step at)
    ∙ ap (λ (cs : List Counts). counts_of d.id (take (n + 1) steps) ∷ cs) (each_more ds steps n step at)

pub each_few : (ds : List Declaration) (steps : List Step) (n : ℕ) → n < 2 ^ 63 → All AreFew (counts_of_each ds (take n steps))
each_few [] steps n lt = All-nil AreFew
each_few (d ∷ ds) steps n lt = All-cons AreFew _ _ (few d.id steps n lt) (each_few ds steps n lt)

pub lines_told : (ds : List Declaration) (steps : List Step) →
    counts_lines ds (counts_of_each ds steps) ≡ flat_map (λ (d : Declaration). counts_line d.id (counts_of d.id steps)) ds
lines_told [] steps = refl
lines_told (d ∷ ds) steps = ap (λ (text : List ℕ). counts_line d.id (counts_of d.id steps) ++ text) (lines_told ds steps)

-- A step that does not tell of a thread

plus_zero : (n : ℕ) → n + 0 ≡ n
plus_zero n = omega arith

spared : (c : Counts) →
    record {
      turns = c.turns + 0;
      sends = c.sends + 0;
      delivered = c.delivered + 0;
      received = c.received + 0;
      send_timeouts = c.send_timeouts + 0;
      receive_timeouts = c.receive_timeouts + 0;
      sends_to_nobody = c.sends_to_nobody + 0;
      receives_from_nobody = c.receives_from_nobody + 0;
      sends_cancelled = c.sends_cancelled + 0;
      receives_cancelled = c.receives_cancelled + 0;
    } ≡ c
spared c = λ j. record {
  turns = plus_zero c.turns j;
  sends = plus_zero c.sends j;
  delivered = plus_zero c.delivered j;
  received = plus_zero c.received j;
  send_timeouts = plus_zero c.send_timeouts j;
  receive_timeouts = plus_zero c.receive_timeouts j;
  sends_to_nobody = plus_zero c.sends_to_nobody j;
  receives_from_nobody = plus_zero c.receives_from_nobody j;
  sends_cancelled = plus_zero c.sends_cancelled j;
  receives_cancelled = plus_zero c.receives_cancelled j;
}

-- The step tells of nobody, of this thread alone, or of these two alone.

abbrev pub OfNobody : Step → Type 0
OfNobody step = (other : GlobalId) (c : Counts) → with_step other step c ≡ c

abbrev pub OfOne : GlobalId → Step → Type 0
OfOne id step = (other : GlobalId) → same_id id other ≡ false → (c : Counts) → with_step other step c ≡ c

abbrev pub OfTwo : (a b : GlobalId) → Step → Type 0
OfTwo a b step = (other : GlobalId) → same_id a other ≡ false → same_id b other ≡ false → (c : Counts) → with_step other step c ≡ c

pub of_nobody : (other : GlobalId) (c : Counts) → with_step other (Tick 0 0) c ≡ c
of_nobody other c = spared c

pub of_local : (t : GlobalId) → OfOne t (Local t)
of_local t other away c = rw away (spared c)

pub of_begin : (s : Name) → OfOne s.thread (Begin s)
of_begin s other away c = rw away (spared c)

pub of_wait : (t : GlobalId) → OfOne t (Wait t)
of_wait t other away c = rw away (spared c)

pub of_send_timeout : (s : Name) → OfOne s.thread (SendTimeout s)
of_send_timeout s other away c = rw away (spared c)

pub of_receive_timeout : (t : GlobalId) → OfOne t (ReceiveTimeout t)
of_receive_timeout t other away c = rw away (spared c)

pub of_send_nobody : (s : Name) → OfOne s.thread (SendNobody s)
of_send_nobody s other away c = rw away (spared c)

pub of_receive_nobody : (t : GlobalId) → OfOne t (ReceiveNobody t)
of_receive_nobody t other away c = rw away (spared c)

pub of_send_cancel : (s : Name) → OfOne s.thread (SendCancel s)
of_send_cancel s other away c = rw away (spared c)

pub of_receive_cancel : (t : GlobalId) → OfOne t (ReceiveCancel t)
of_receive_cancel t other away c = rw away (spared c)

pub of_order : (caller target : GlobalId) (what : OrderKind) → OfOne caller (Order caller target what)
of_order caller target what other away c = rw away (spared c)

pub of_delivery : (s : Name) (receiver shown actual : GlobalId) (tag : ℕ) (words : List ℕ) → OfTwo s.thread receiver (Deliver s receiver shown actual tag words)
of_delivery s receiver shown actual tag words other away neither c = rw (away, neither) (spared c)

pub of_own_delivery : (s : Name) (receiver shown actual : GlobalId) (tag : ℕ) (words : List ℕ) → receiver ≡ s.thread → OfOne s.thread (Deliver s receiver shown actual tag words)
of_own_delivery s receiver shown actual tag words own other away c =
    of_delivery s receiver shown actual tag words other away (ap (λ (t : GlobalId). same_id t other) own ∙ away) c

-- Looking at one place

get-changed_other : {A : Type 0} (f : A → A) (xs : List A) (i j : ℕ) (d : A) → (i ≡ j → ⊥) → get_or (changed f xs i) j d ≡ get_or xs j d
get-changed_other f [] i j d ne = refl
get-changed_other f (x ∷ xs) zero zero d ne = absurd (ne refl)
get-changed_other f (x ∷ xs) zero (suc j) d ne = refl
get-changed_other f (x ∷ xs) (suc i) zero d ne = refl
get-changed_other f (x ∷ xs) (suc i) (suc j) d ne = get-changed_other f xs i j d (λ e. ne (ap suc e))

length_at : (o : Option ℕ) (id : GlobalId) (step : Step) (cs : List Counts) → length (with_step_at o id step cs) ≡ length cs
length_at None id step cs = refl
length_at (Some i) id step cs = length-changed (with_step id step) cs i

length_each : (ds : List Declaration) (step : Step) (cs : List Counts) → length cs ≡ length ds → length (each_with_step step ds cs) ≡ length cs
length_each ds step cs long = length-map (zip ds cs) (with_step_of step) ∙ length-zip ds cs ∙ (omega (arith, long))

each_at : (ds : List Declaration) (step : Step) (cs : List Counts) (i : ℕ) (e : Declaration) (d : Counts) → length cs ≡ length ds → i < length ds →
    get_or (each_with_step step ds cs) i d ≡ with_step (get_or ds i e).id step (get_or cs i d)
each_at ds step cs i e d long lt =
    let within : i < length (zip ds cs) = let size = length-zip ds cs in omega (arith, size, long, lt) in
    let pair : get_or (zip ds cs) i (e, d) ≡ (get_or ds i e, get_or cs i d) = get_or-zip ds cs i (e, d) lt (omega (arith, long, lt)) in
    get_or-map (with_step_of step) (zip ds cs) i (e, d) d within ∙ ap (with_step_of step) pair

module _ (m : Machine) (lawful : IsMachine m) (id : GlobalId) (step : Step) (cs : List Counts) (i : ℕ) (d : Counts) where
  counted_here : i < length m.threads → length cs ≡ length m.threads → (declared m i).id ≡ id →
      get_or (with_step_at (place_of m id) id step cs) i d ≡ with_step id step (get_or cs i d)
  counted_here within long is =
      let at : place_of m id ≡ Some i = ap (place_of m) (sym is) ∙ lawful.placed i within in
      rw at (get-changed (with_step id step) cs i d (omega (arith, long, within)))

  counted_elsewhere : ((declared m i).id ≡ id → ⊥) → get_or (with_step_at (place_of m id) id step cs) i d ≡ get_or cs i d
  counted_elsewhere other = by (place_of m id) refl
    where
      by : (o : Option ℕ) → place_of m id ≡ o → get_or (with_step_at o id step cs) i d ≡ get_or cs i d
      by None e = refl
      by (Some j) e = get-changed_other (with_step id step) cs j i d
          (λ same. other (ap (λ (k : ℕ). (declared m k).id) (sym same) ∙ (place_id m id j e undeclared).1))

other_id : (a b : GlobalId) → same_id a b ≡ false → b ≡ a → ⊥
other_id a b away is = true≢false (sym (ap (same_id a) is ∙ same_ids a) ∙ away)

-- A step at the threads that it tells of

pub counted_none : (ds : List Declaration) (step : Step) (cs : List Counts) → OfNobody step → length cs ≡ length ds → cs ≡ each_with_step step ds cs
counted_none [] step [] none long = refl
counted_none [] step (c ∷ cs) none long = cc
counted_none (d ∷ ds) step [] none long = cc
counted_none (d ∷ ds) step (c ∷ cs) none long =
    ap (λ (x : Counts). x ∷ cs) (sym (none d.id c))
    ∙ ap (λ (xs : List Counts). with_step d.id step c ∷ xs) (counted_none ds step cs none (omega (arith, long)))

pub counted_one : (m : Machine) → IsMachine m → (id : GlobalId) (step : Step) (cs : List Counts) → OfOne id step → length cs ≡ length m.threads →
    with_step_at (place_of m id) id step cs ≡ each_with_step step m.threads cs
counted_one m lawful id step cs one long =
    same_lists _ _ (length_at (place_of m id) id step cs ∙ sym (length_each m.threads step cs long)) λ i d within.
    let size = length_at (place_of m id) id step cs in
    let lt : i < length m.threads = omega (arith, size, long, within) in
    at i d lt (same_id id (declared m i).id) refl ∙ sym (each_at m.threads step cs i undeclared d long lt)
  where
    at : (i : ℕ) (d : Counts) → i < length m.threads → (b : Bool) → same_id id (declared m i).id ≡ b →
        get_or (with_step_at (place_of m id) id step cs) i d ≡ with_step (declared m i).id step (get_or cs i d)
    at i d lt true same =
        let is : (declared m i).id ≡ id = sym (same_id_is id (declared m i).id same) in
        counted_here m lawful id step cs i d lt long is ∙ ap (λ (t : GlobalId). with_step t step (get_or cs i d)) (sym is)
    at i d lt false away =
        counted_elsewhere m lawful id step cs i d (other_id id (declared m i).id away) ∙ sym (one (declared m i).id away (get_or cs i d))

pub counted_two : (m : Machine) → IsMachine m → (a b : GlobalId) (step : Step) (cs : List Counts) → OfTwo a b step → same_id b a ≡ false → length cs ≡ length m.threads →
    with_step_at (place_of m b) b step (with_step_at (place_of m a) a step cs) ≡ each_with_step step m.threads cs
counted_two m lawful a b step cs two differ long =
    same_lists _ _ (size ∙ sym (length_each m.threads step cs long)) λ i d within.
    let lt : i < length m.threads = omega (arith, size, long, within) in
    at i d lt (same_id a (declared m i).id) refl (same_id b (declared m i).id) refl ∙ sym (each_at m.threads step cs i undeclared d long lt)
  where
    first : List Counts
    first = with_step_at (place_of m a) a step cs

    long_first : length first ≡ length m.threads
    long_first = length_at (place_of m a) a step cs ∙ long

    size : length (with_step_at (place_of m b) b step first) ≡ length cs
    size = length_at (place_of m b) b step first ∙ length_at (place_of m a) a step cs

    at : (i : ℕ) (d : Counts) → i < length m.threads → (p : Bool) → same_id a (declared m i).id ≡ p → (q : Bool) → same_id b (declared m i).id ≡ q →
        get_or (with_step_at (place_of m b) b step first) i d ≡ with_step (declared m i).id step (get_or cs i d)
    at i d lt true same q e =
        let is : (declared m i).id ≡ a = sym (same_id_is a (declared m i).id same) in
        let other : (declared m i).id ≡ b → ⊥ = λ is_b. other_id b a differ (sym is ∙ is_b) in
        counted_elsewhere m lawful b step first i d other ∙ counted_here m lawful a step cs i d lt long is
        ∙ ap (λ (t : GlobalId). with_step t step (get_or cs i d)) (sym is)
    at i d lt false away true same =
        let is : (declared m i).id ≡ b = sym (same_id_is b (declared m i).id same) in
        counted_here m lawful b step first i d lt long_first is
        ∙ ap (with_step b step) (counted_elsewhere m lawful a step cs i d (other_id a (declared m i).id away))
        ∙ ap (λ (t : GlobalId). with_step t step (get_or cs i d)) (sym is)
    at i d lt false away false neither =
        counted_elsewhere m lawful b step first i d (other_id b (declared m i).id neither)
        ∙ counted_elsewhere m lawful a step cs i d (other_id a (declared m i).id away)
        ∙ sym (two (declared m i).id away neither (get_or cs i d))

-- What may be counted once more

pub few_at : (m : Machine) (id : GlobalId) (cs : List Counts) → length cs ≡ length m.threads → All AreFew cs →
    IfSome (place_of m id) (λ place. IfSome (slice_get cs place) AreFew)
few_at m id cs long all = by (place_of m id) refl
  where
    by : (o : Option ℕ) → place_of m id ≡ o → IfSome o (λ place. IfSome (slice_get cs place) AreFew)
    by None e = tt
    by (Some i) e =
        let lt : i < length cs = let within = (place_id m id i e undeclared).0 in omega (arith, long, within) in
        let d : Counts = counts_of id [] in
        subst (λ (o : Option Counts). IfSome o AreFew) (sym (slice_get-get_or cs i d lt)) (All-get_or AreFew cs i d lt all)

-- The counts of one thread are not changed by those of another.
pub few_after : (m : Machine) (a b : GlobalId) (step : Step) (cs : List Counts) → length cs ≡ length m.threads → All AreFew cs → same_id b a ≡ false →
    IfSome (place_of m b) (λ place. IfSome (slice_get (with_step_at (place_of m a) a step cs) place) AreFew)
few_after m a b step cs long all differ = by (place_of m b) refl (place_of m a) refl
  where
    by : (o : Option ℕ) → place_of m b ≡ o → (p : Option ℕ) → place_of m a ≡ p → IfSome o (λ place. IfSome (slice_get (with_step_at p a step cs) place) AreFew)
    by None e p f = tt
    by (Some i) e None f = subst (λ (o : Option ℕ). IfSome o (λ place. IfSome (slice_get cs place) AreFew)) e (few_at m b cs long all)
    by (Some i) e (Some j) f =
        let apart : j ≡ i → ⊥ = λ same. other_id b a differ (one_place m a b j f (e ∙ ap (λ (k : ℕ). Some k) (sym same))) in
        subst (λ (o : Option Counts). IfSome o AreFew) (sym (slice-changed_other (with_step a step) cs j i apart))
        (subst (λ (o : Option ℕ). IfSome o (λ place. IfSome (slice_get cs place) AreFew)) e (few_at m b cs long all))
