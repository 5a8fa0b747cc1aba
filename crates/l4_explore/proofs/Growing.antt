-- The tree of what was found, and the list that it shows.
use Rattle.std.proofs.Common.{◌≡◌, ℕ, zero, suc, ◌+◌, ◌<◌, Bool, true, false, ◌⊎◌, inl, inr, List, [], ◌∷◌, ◌++◌, map, length, get_or, refl, sym, ap, subst, ◌∙◌, arith, append_assoc}
use Rattle.std.specs.List.{zip}
use Rattle.std.specs.Str.{bytes_eq}
use Rattle.std.proofs.Math.ListN.{length-append, get_or-map, get_or-append}
use Rattle.std.proofs.Math.Seq.{get_or-append_seam}
use Rattle.std.proofs.lemmas.List.Folds.{list_any_at}
use Rattle.std.proofs.lemmas.Slice.Eq.{bytes_eq-Decides}
use Rattle.std.proofs.lemmas.Slice.Zip.{get_or-zip, length-zip}
use Rattle.std.proofs.lemmas.List.{map-append, length-map}
use Rattle.l4_explore.specs.Tries.{State}
use Rattle.l4_explore.specs.Search.{Seen, seen_at, unseen, has_code}
use Rattle.l4_explore.specs.Inner.Grown.{Node, node_at, no_node, grown, all_grown, seen_of, AreNodes}
use Rattle.l4_explore.specs.Inner.Views.{all_arrived, arrived_by, node_from, nodes_from, AreArrivals, AreKept, Arrived, IsStep}
use Rattle.l4_explore.specs.Inner.Codes.{code_at}
use Rattle.l4_explore.specs.declared.found.Arrival.{Arrival}
use Rattle.l4_explore.proofs.Listed.{seen_at-old, seen_at-new, place_of_code}
use Rattle.l4_explore.proofs.Trying.{below_or_last}

-- What arrivals give past their end.
abbrev pub no_arrival : Arrived
no_arrival = record { from = 0; entry = 0; is_end = false }

-- A state is shown for each.
length-all_grown : (seen : List Seen) (ns : List Node) →
    length (all_grown seen ns) ≡ length seen + length ns
length-all_grown seen [] = omega arith
length-all_grown seen (n ∷ ns) =
    length-all_grown (seen ++ grown seen n ∷ []) ns
    ∙ omega (arith, length-append seen (grown seen n ∷ []))

pub length-seen_of : (ns : List Node) → length (seen_of ns) ≡ length ns
length-seen_of [] = refl
length-seen_of (n ∷ ns) = length-all_grown (record { state = n.state; schedule = [] } ∷ []) ns
    ∙ omega arith

-- One more node shows one state more.
all_grown-more : (seen : List Seen) (ns : List Node) (n : Node) →
    all_grown seen (ns ++ n ∷ []) ≡ all_grown seen ns ++ grown (all_grown seen ns) n ∷ []
all_grown-more seen [] n = refl
all_grown-more seen (k ∷ ns) n = all_grown-more (seen ++ grown seen k ∷ []) ns n

pub seen_of-more : (ns : List Node) (n : Node) → 0 < length ns →
    seen_of (ns ++ n ∷ []) ≡ seen_of ns ++ grown (seen_of ns) n ∷ []
seen_of-more [] n some = absurd (omega arith)
seen_of-more (k ∷ ns) n some = all_grown-more (record { state = k.state; schedule = [] } ∷ []) ns n

-- Those that were shown stay.
all_grown-old : (seen : List Seen) (ns : List Node) (i : ℕ) → i < length seen →
    seen_at (all_grown seen ns) i ≡ seen_at seen i
all_grown-old seen [] i l = refl
all_grown-old seen (n ∷ ns) i l =
    all_grown-old (seen ++ grown seen n ∷ []) ns i
    (omega (arith, length-append seen (grown seen n ∷ [])))
    ∙ seen_at-old seen (grown seen n) i l

-- Each is grown from one that is shown before it.
all_grown-at : (seen : List Seen) (ns : List Node) (i : ℕ) → i < length ns →
    (node_at ns i).from < length seen + i →
    seen_at (all_grown seen ns) (length seen + i) ≡ grown (all_grown seen ns) (node_at ns i)
all_grown-at seen [] i l m = absurd (omega arith)
all_grown-at seen (n ∷ ns) zero l m =
    let more : List Seen = seen ++ grown seen n ∷ [] in
    let long : length more ≡ length seen + 1 = length-append seen (grown seen n ∷ []) in
    ap (seen_at (all_grown more ns)) (let z : length seen + 0 ≡ length seen = omega arith in z)
    ∙ all_grown-old more ns (length seen) (omega arith) ∙ seen_at-new seen (grown seen n)
    ∙ ap (λ (s : Seen). let t : Seen =
    record { state = n.state; schedule = s.schedule ++ n.entry ∷ [] } in t)
    (sym (all_grown-old more ns n.from (omega arith)
    ∙ seen_at-old seen (grown seen n) n.from (omega arith)))
all_grown-at seen (n ∷ ns) (suc i) l m =
    let more : List Seen = seen ++ grown seen n ∷ [] in
    let long : length more ≡ length seen + 1 = length-append seen (grown seen n ∷ []) in
    ap (seen_at (all_grown more ns)) (let z : length seen + suc i ≡ length more + i = omega arith in
    z)
    ∙ all_grown-at more ns i (omega arith) (omega arith)

pub seen_of-at : (ns : List Node) (i : ℕ) → AreNodes ns → i + 1 < length ns →
    seen_at (seen_of ns) (i + 1) ≡ grown (seen_of ns) (node_at ns (i + 1))
seen_of-at [] i are l = absurd (omega arith)
seen_of-at (n ∷ ns) i are l =
    let first : List Seen = record { state = n.state; schedule = [] } ∷ [] in
    let earlier = are.earlier i l in
    ap (seen_at (all_grown first ns)) (let z : i + 1 ≡ length first + i = omega arith in z)
    ∙ all_grown-at first ns i (omega arith)
    (let e : node_at (n ∷ ns) (i + 1) ≡ node_at ns i = at_suc i in
    omega (arith, earlier, ap (λ (k : Node). k.from) e))
    ∙ ap (grown (all_grown first ns)) (sym (at_suc i))
  where
    at_suc : (i : ℕ) → node_at (n ∷ ns) (i + 1) ≡ node_at ns i
    at_suc i = ap (node_at (n ∷ ns)) (let z : i + 1 ≡ suc i = omega arith in z)

pub seen_of-first : (ns : List Node) → (seen_at (seen_of ns) 0).schedule ≡ []
seen_of-first [] = refl
seen_of-first (n ∷ ns) =
    ap (λ (s : Seen). s.schedule)
    (all_grown-old (record { state = n.state; schedule = [] } ∷ []) ns 0 (omega arith))

-- The state of each is that of its node.
all_grown-state : (seen : List Seen) (ns : List Node) →
    map (λ s. s.state) (all_grown seen ns) ≡ map (λ s. s.state) seen ++ map (λ n. n.state) ns
all_grown-state seen [] = sym (append_nil_of (map (λ s. s.state) seen))
  where
    append_nil_of : (xs : List State) → xs ++ [] ≡ xs
    append_nil_of [] = refl
    append_nil_of (x ∷ xs) = ap (λ ys. x ∷ ys) (append_nil_of xs)
all_grown-state seen (n ∷ ns) =
    all_grown-state (seen ++ grown seen n ∷ []) ns
    ∙ ap (λ ys. ys ++ map (λ n. n.state) ns)
    (map-append (λ (s : Seen). s.state) seen (grown seen n ∷ []))
    ∙ append_assoc (map (λ s. s.state) seen) (n.state ∷ []) (map (λ n. n.state) ns)

pub seen_of-state : (ns : List Node) → map (λ s. s.state) (seen_of ns) ≡ map (λ n. n.state) ns
seen_of-state [] = refl
seen_of-state (n ∷ ns) = all_grown-state (record { state = n.state; schedule = [] } ∷ []) ns

pub state_at : (ns : List Node) (i : ℕ) → (seen_at (seen_of ns) i).state ≡ (node_at ns i).state
state_at ns i =
    sym (get_or-map (λ (s : Seen). s.state) (seen_of ns) i unseen)
    ∙ ap (λ (ss : List State). get_or ss i unseen.state) (seen_of-state ns)
    ∙ get_or-map (λ (n : Node). n.state) ns i no_node

-- What is kept of each
module _ (codes : List (List ℕ)) (arrivals : List Arrived) (are : AreArrivals codes arrivals) where
  pub length-nodes : length (nodes_from codes arrivals) ≡ length codes
  length-nodes =
      length-map (zip codes arrivals) node_from ∙ length-zip codes arrivals
      ∙ omega (arith, are.each)

  pub length-seen : length (seen_of (nodes_from codes arrivals)) ≡ length codes
  length-seen = length-seen_of (nodes_from codes arrivals) ∙ length-nodes

  module _ (i : ℕ) (l : i < length codes) where
    node_there : node_at (nodes_from codes arrivals) i
        ≡ node_from (code_at codes i, get_or arrivals i no_arrival)
    node_there =
        get_or-map node_from (zip codes arrivals) i ([], no_arrival)
        ∙ ap node_from
        (get_or-zip codes arrivals i ([], no_arrival) l (omega (arith, l, are.each)))

    pub code_there : (seen_at (seen_of (nodes_from codes arrivals)) i).state.code ≡ code_at codes i
    code_there = ap (λ (s : State). s.code) (state_at (nodes_from codes arrivals) i)
        ∙ ap (λ (n : Node). n.state.code) node_there

    module _ (a : Arrived) (at : a ≡ get_or arrivals i no_arrival) where
      node_here : node_at (nodes_from codes arrivals) i ≡ node_from (code_at codes i, a)
      node_here = node_there ∙ ap (λ (b : Arrived). node_from (code_at codes i, b)) (sym at)

      pub is_end_there : a.is_end
          ≡ (seen_at (seen_of (nodes_from codes arrivals)) i).state.is_end
      is_end_there = ap (λ (n : Node). n.state.is_end) (sym node_here)
          ∙ ap (λ (s : State). s.is_end) (sym (state_at (nodes_from codes arrivals) i))

      pub arrived : 0 < i → IsStep (seen_of (nodes_from codes arrivals)) i a.from a.entry
      arrived some = by i some l node_here
        where
          ns : List Node
          ns = nodes_from codes arrivals

          by : (i : ℕ) → 0 < i → i < length codes → node_at ns i ≡ node_from (code_at codes i, a) →
              IsStep (seen_of ns) i a.from a.entry
          by zero some l here = absurd (omega arith)
          by (suc j) some l here =
              let e : j + 1 ≡ suc j = omega arith in
              let there : node_at ns (j + 1) ≡ node_from (code_at codes (suc j), a) =
              ap (node_at ns) e ∙ here in
              let earlier = are.nodes.earlier j (omega (arith, l, length-nodes)) in
              let grows = seen_of-at ns j are.nodes (omega (arith, l, length-nodes)) in
              let from : a.from < suc j =
              omega (arith, earlier, ap (λ (n : Node). n.from) there) in (
                from,
                ap (λ i. (seen_at (seen_of ns) i).schedule) (sym e)
                    ∙ ap (λ (s : Seen). s.schedule) grows
                    ∙ ap (λ (n : Node). (seen_at (seen_of ns) n.from).schedule ++ n.entry ∷ []) there,
              )

  -- So a code that is found is that of a state, and one that is not is that of none.
  module _ (code : List ℕ) where
    pub has_found : (place : ℕ) → place < length codes → code_at codes place ≡ code →
        has_code (seen_of (nodes_from codes arrivals)) code ≡ true
    has_found place l e =
        list_any_at (λ s. bytes_eq code s.state.code) (seen_of (nodes_from codes arrivals)) place
        unseen (omega (arith, l, length-seen))
        ((bytes_eq-Decides code (seen_at (seen_of (nodes_from codes arrivals)) place).state.code).1
        (sym (code_there place l ∙ e)))

    pub has_none : ((place : ℕ) → place < length codes → code_at codes place ≡ code → ⊥) →
        has_code (seen_of (nodes_from codes arrivals)) code ≡ false
    has_none none = by (has_code (seen_of (nodes_from codes arrivals)) code) refl
      where
        by : (b : Bool) → has_code (seen_of (nodes_from codes arrivals)) code ≡ b → b ≡ false
        by false e = refl
        by true e =
            let p = place_of_code (seen_of (nodes_from codes arrivals)) code e in
            let l : p.place < length codes = omega (arith, p.inside, length-seen) in
            absurd (none p.place l (sym (code_there p.place l) ∙ p.is))

-- One more

nodes_more : (ns : List Node) (n : Node) → AreNodes ns → n.from < length ns →
    AreNodes (ns ++ n ∷ [])
nodes_more ns n are from = record {
  some = omega (arith, are.some, long);
  earlier = λ i l. by i (below_or_last (length ns) (i + 1) (omega (arith, long)));
}
  where
    long : length (ns ++ n ∷ []) ≡ length ns + 1
    long = length-append ns (n ∷ [])

    by : (i : ℕ) → (i + 1 < length ns) ⊎ (i + 1 ≡ length ns) →
        (node_at (ns ++ n ∷ []) (i + 1)).from < i + 1
    by i (inl l) =
        let e = get_or-append ns (n ∷ []) no_node (i + 1) l in
        let earlier = are.earlier i l in
        omega (arith, earlier, ap (λ (k : Node). k.from) e)
    by i (inr is) =
        let e : node_at (ns ++ n ∷ []) (i + 1) ≡ n = ap (node_at (ns ++ n ∷ [])) is
        ∙ get_or-append_seam ns n [] no_node in
        omega (arith, is, from, ap (λ (k : Node). k.from) e)

zip_more : {A B : Type 0} (xs : List A) (ys : List B) (x : A) (y : B) → length ys ≡ length xs →
    zip (xs ++ x ∷ []) (ys ++ y ∷ []) ≡ zip xs ys ++ (x, y) ∷ []
zip_more [] [] x y e = refl
zip_more [] (b ∷ ys) x y e = absurd (omega (arith, e))
zip_more (a ∷ xs) [] x y e = absurd (omega (arith, e))
zip_more (a ∷ xs) (b ∷ ys) x y e =
    ap (λ ps. (a, b) ∷ ps) (zip_more xs ys x y (let f : length ys ≡ length xs = omega (arith, e) in f))

module _ (codes : List (List ℕ)) (arrivals : List Arrived) (code : List ℕ) (a : Arrived)
    (are : AreArrivals codes arrivals) where
  nodes_are : nodes_from (codes ++ code ∷ []) (arrivals ++ a ∷ [])
      ≡ nodes_from codes arrivals ++ node_from (code, a) ∷ []
  nodes_are = ap (map node_from) (zip_more codes arrivals code a are.each)
      ∙ map-append node_from (zip codes arrivals) ((code, a) ∷ [])

  pub arrivals_more : a.from < length (seen_of (nodes_from codes arrivals)) →
      AreArrivals (codes ++ code ∷ []) (arrivals ++ a ∷ [])
  arrivals_more from = record {
    each = length-append arrivals (a ∷ []) ∙ omega (arith, are.each)
        ∙ sym (length-append codes (code ∷ []));
    nodes = subst (λ ns. AreNodes ns) (sym nodes_are)
        (nodes_more (nodes_from codes arrivals) (node_from (code, a)) are.nodes
        (omega (arith, from, length-seen_of (nodes_from codes arrivals))));
  }

  pub seen_more : seen_of (nodes_from (codes ++ code ∷ []) (arrivals ++ a ∷ []))
      ≡ seen_of (nodes_from codes arrivals)
      ++ grown (seen_of (nodes_from codes arrivals)) (node_from (code, a)) ∷ []
  seen_more = ap seen_of nodes_are
      ∙ seen_of-more (nodes_from codes arrivals) (node_from (code, a)) are.nodes.some

-- Ends are kept beside

module _ (arrivals : List Arrival) (ends : List Bool) (each : length ends ≡ length arrivals) where
  pub length-all_arrived : length (all_arrived arrivals ends) ≡ length arrivals
  length-all_arrived =
      length-map (zip arrivals ends) arrived_by ∙ length-zip arrivals ends ∙ omega (arith, each)

  pub arrived_at : (i : ℕ) → i < length arrivals → (none : Arrival) →
      get_or (all_arrived arrivals ends) i (arrived_by (none, false))
      ≡ arrived_by (get_or arrivals i none, get_or ends i false)
  arrived_at i l none =
      get_or-map arrived_by (zip arrivals ends) i (none, false)
      ∙ ap arrived_by (get_or-zip arrivals ends i (none, false) l (omega (arith, l, each)))

  pub all_arrived-more : (a : Arrival) (is_end : Bool) →
      all_arrived (arrivals ++ a ∷ []) (ends ++ is_end ∷ [])
      ≡ all_arrived arrivals ends ++ arrived_by (a, is_end) ∷ []
  all_arrived-more a is_end =
      ap (map arrived_by) (zip_more arrivals ends a is_end each)
      ∙ map-append arrived_by (zip arrivals ends) ((a, is_end) ∷ [])

abbrev pub no_step : Arrival
no_step = record { from = 0; entry = 0 }

module _ (codes : List (List ℕ)) (arrivals : List Arrival) (ends : List Bool)
    (kept : AreKept codes arrivals ends) where
  abbrev all : List Arrived
  all = all_arrived arrivals ends

  abbrev seen : List Seen
  seen = seen_of (nodes_from codes all)

  pub length-kept : length seen ≡ length arrivals
  length-kept = length-seen codes all kept.are ∙ sym kept.are.each
      ∙ length-all_arrived arrivals ends kept.each_end

  module _ (i : ℕ) (l : i < length seen) where
    here : arrived_by (get_or arrivals i no_step, get_or ends i false) ≡ get_or all i no_arrival
    here = sym (arrived_at arrivals ends kept.each_end i (omega (arith, l, length-kept)) no_step)

    below : i < length codes
    below = omega (arith, l, length-seen codes all kept.are)

    pub end_there : (is_end : Bool) → is_end ≡ get_or ends i false →
        is_end ≡ (seen_at seen i).state.is_end
    end_there is_end is =
        is ∙ is_end_there codes all kept.are i below
        (arrived_by (get_or arrivals i no_step, get_or ends i false)) here

    pub step_there : (a : Arrival) → a ≡ get_or arrivals i no_step → 0 < i →
        IsStep seen i a.from a.entry
    step_there a is some =
        subst (λ (b : Arrival). IsStep seen i b.from b.entry) (sym is)
        (arrived codes all kept.are i below
        (arrived_by (get_or arrivals i no_step, get_or ends i false)) here some)

  module _ (code : List ℕ) (a : Arrival) (is_end : Bool) (from : a.from < length seen) where
    pub kept_more : AreKept (codes ++ code ∷ []) (arrivals ++ a ∷ []) (ends ++ is_end ∷ [])
    kept_more = record {
      each_end = length-append ends (is_end ∷ []) ∙ omega (arith, kept.each_end)
          ∙ sym (length-append arrivals (a ∷ []));
      are = subst (AreArrivals (codes ++ code ∷ []))
          (sym (all_arrived-more arrivals ends kept.each_end a is_end))
          (arrivals_more codes all code (arrived_by (a, is_end)) kept.are from);
    }

    pub seen_kept : seen_of (nodes_from (codes ++ code ∷ [])
        (all_arrived (arrivals ++ a ∷ []) (ends ++ is_end ∷ [])))
        ≡ seen ++ grown seen (node_from (code, arrived_by (a, is_end))) ∷ []
    seen_kept =
        ap (λ more. seen_of (nodes_from (codes ++ code ∷ []) more))
        (all_arrived-more arrivals ends kept.each_end a is_end)
        ∙ seen_more codes all code (arrived_by (a, is_end)) kept.are
