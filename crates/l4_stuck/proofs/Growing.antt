-- A graph that grows by one edge, and by one place, after another.
use Rattle.std.proofs.Common.{◌≡◌, ℕ, zero, suc, ◌+◌, ◌<◌, Bool, true, false, ◌⊎◌, inl, inr, Option, Some, None, List, [], ◌∷◌, ◌++◌, length, map, refl, ap, sym, subst, ◌∙◌, arith, append_assoc, append-nil}
use Rattle.std.proofs.lemmas.Bool.{ltb-true, ltb-false}
use Rattle.std.specs.Prelude.{get_or, nat_lt, slice_get, IsSome}
use Rattle.l4_model.specs.Machine.{Machine}
use Rattle.l4_model.specs.World.{World, opening}
use Rattle.l4_model.proofs.Chains.{bind_then, get-map, some_is}
use Rattle.std.specs.Option.{option_map}
use Rattle.l4_worlds.specs.Histories.{IsTimed}
use Rattle.l4_futures.proofs.Kept.{one_more as one_further, schedules}
use Rattle.l4_worlds.specs.Late.{next_late}
use Rattle.l4_explore.specs.Search.{Seen, has_code, seen_at}
use Rattle.l4_explore.specs.Tries.{Next}
use Rattle.l4_all_endings.specs.Tried.{next_at}
use Rattle.l4_futures.specs.Choices.{Choice, after_entry, possible, step_at}
use Rattle.l4_futures.specs.Inner.Search.{state_in}
use Rattle.l4_forever.specs.Inner.Graph.{AreReached, GoesTo, HasEdge, IsWorldAt, StandsAt}
use Rattle.l4_forever.specs.Inner.Rows.{HasAll, IsEdge}
use Rattle.l4_forever.specs.declared.edges.Edge.{Edge}
use Rattle.l4_forever.proofs.Grounds.{possible_at}
use Rattle.l4_stuck.specs.Inner.Going.{AreAdded, HaveEdges, IsAdded, IsEdgeAdded, IsLeft}

get_left : {A : Type 0} (xs ys : List A) (k : ℕ) (x : A) → slice_get xs k ≡ Some x → slice_get (xs ++ ys) k ≡ Some x
get_left [] ys k x at = cc
get_left (y ∷ xs) ys zero x at = at
get_left (y ∷ xs) ys (suc k) x at = get_left xs ys k x at

pub get_either : {A : Type 0} (xs ys : List A) (k : ℕ) (x : A) → slice_get (xs ++ ys) k ≡ Some x → (slice_get xs k ≡ Some x) ⊎ ((j : ℕ) × (slice_get ys j ≡ Some x))
get_either [] ys k x at = inr (k, at)
get_either (y ∷ xs) ys zero x at = inl at
get_either (y ∷ xs) ys (suc k) x at = get_either xs ys k x at

pub edge_more : (edges more : List Edge) (a b : ℕ) → HasEdge edges a b → HasEdge (edges ++ more) a b
edge_more edges more a b e = (e.0, get_left edges more e.0 (record { from = a; to = b }) e.1)

pub goes_more : (m : Machine) (found : List Seen) (old more new : List Edge) (i : ℕ) (v : World) → new ≡ old ++ more → GoesTo m found old i v → GoesTo m found new i v
goes_more m found old more new i v is g = record { to = g.to; edge = subst (λ es. HasEdge es i g.to) (sym is) (edge_more old more i g.to g.edge); there = g.there }

pub all_more : (m : Machine) (found : List Seen) (old more new : List Edge) (i : ℕ) → new ≡ old ++ more → HasAll m found old i → HasAll m found new i
all_more m found old more new i is h = record { world = h.world; at = h.at; all = λ step v goes code. goes_more m found old more new i v is (h.all step v goes code) }

-- From one place

pub record AreSoFar (m : Machine) (found : List Seen) (place : ℕ) (w : World) (old new : List Edge) (count : ℕ) : Type 0 where
  pub added : AreAdded m found place old new
  pub all : HaveEdges m found new place w count

pub none_so_far : (m : Machine) (found : List Seen) (place : ℕ) (w : World) (old : List Edge) → AreSoFar m found place w old old 0
none_so_far m found place w old = record {
  added = record { more = []; added = sym (append-nil old); edges = λ k e at. cc };
  all = λ j entry v below at goes code. absurd (omega (arith, below));
}

more_added : (m : Machine) (found : List Seen) (place : ℕ) (old now new more : List Edge) → AreAdded m found place old now → new ≡ now ++ more →
    ((k : ℕ) (e : Edge) → slice_get more k ≡ Some e → (e.from ≡ place) × IsEdge m found e.from e.to) → AreAdded m found place old new
more_added m found place old now new more a is edges =
    record {
      more = a.more ++ more;
      added = is ∙ ap (λ es. es ++ more) a.added ∙ append_assoc old a.more more;
      edges = λ k e at. by e k (get_either a.more more k e at) (a.edges k e);
    }
  where
    by : (e : Edge) (k : ℕ) → ((slice_get a.more k ≡ Some e) ⊎ ((j : ℕ) × (slice_get more j ≡ Some e))) → (slice_get a.more k ≡ Some e → (e.from ≡ place) × IsEdge m found e.from e.to) → (e.from ≡ place) × IsEdge m found e.from e.to
    by e k (inl at) before = before at
    by e k (inr at) before = edges at.0 e at.1

-- One entry more
pub one_more : (m : Machine) (found : List Seen) (place : ℕ) (w v : World) (old now new : List Edge) (count entry : ℕ) (to : Option ℕ) → slice_get (map (λ (c : Choice). c.entry) (possible m w)) count ≡ Some entry →
    after_entry m w entry ≡ Some v → ((u : World) → after_entry m w entry ≡ Some u → IsAdded m found place w u now new to) → AreSoFar m found place w old now count → AreSoFar m found place w old new (count + 1)
one_more m found place w v old now new count entry to at goes added h = by to (added v goes) added
  where
    grown : (more : List Edge) → new ≡ now ++ more → ((u : World) → after_entry m w entry ≡ Some u → has_code found (state_in m u).code ≡ true → GoesTo m found new place u) → HaveEdges m found new place w (count + 1)
    grown more is here j e u below there led code = of (nat_eq_or j below)
      where
        nat_eq_or : (j : ℕ) → j < count + 1 → (j < count) ⊎ (j ≡ count)
        nat_eq_or j below = lt_or (nat_lt j count) refl
          where
            lt_or : (b : Bool) → nat_lt j count ≡ b → (j < count) ⊎ (j ≡ count)
            lt_or true is = inl (ltb-true j count is)
            lt_or false is = let ge = ltb-false j count is in inr (omega (arith, below, ge))

        of : (j < count) ⊎ (j ≡ count) → GoesTo m found new place u
        of (inl before) = goes_more m found now more new place u is (h.all j e u before there led code)
        of (inr same) =
            let one : e ≡ entry = some_is e entry (sym there ∙ ap (slice_get (map (λ (c : Choice). c.entry) (possible m w))) same ∙ at) in
            here u (ap (after_entry m w) (sym one) ∙ led) code

    not_both : (b : Bool) → b ≡ false → b ≡ true → ⊥
    not_both true e f = cc
    not_both false e f = cc

    by : (to : Option ℕ) → IsAdded m found place w v now new to → ((u : World) → after_entry m w entry ≡ Some u → IsAdded m found place w u now new to) → AreSoFar m found place w old new (count + 1)
    by None is all = record {
      added = more_added m found place old now new [] h.added (is.0 ∙ sym (append-nil now)) (λ k e at. cc);
      all = grown [] (is.0 ∙ sym (append-nil now)) (λ u led code. absurd (not_both (has_code found (state_in m u).code) (all u led).1 code));
    }
    by (Some t) is all = record {
      added = more_added m found place old now new (record { from = place; to = t } ∷ []) h.added is.added only;
      all = grown (record { from = place; to = t } ∷ []) is.added (λ u led code. (all u led).goes);
    }
      where
        only : (k : ℕ) (e : Edge) → slice_get (record { from = place; to = t } ∷ []) k ≡ Some e → (e.from ≡ place) × IsEdge m found e.from e.to
        only zero e at =
            let one : record { from = place; to = t } ≡ e = some_is (record { from = place; to = t }) e at in
            (ap (λ (x : Edge). x.from) (sym one), subst (λ (x : Edge). IsEdge m found x.from x.to) one is.edge)
        only (suc k) e at = cc

-- All edges from a place are there.
pub all_of : (m : Machine) (found : List Seen) (place : ℕ) (w : World) (old new : List Edge) → IsWorldAt m found place w → IsLeft m found place w old new → HasAll m found new place
all_of m found place w old new at left = record {
  world = w;
  at = at;
  all = λ step v goes code.
      let p = possible_at m w v step goes in
      left.all p.place p.choice.entry v (inside (possible m w) p.place p.choice p.at) (get-map (λ (c : Choice). c.entry) (possible m w) p.place p.choice p.at) p.goes code;
}
  where
    inside : (cs : List Choice) (i : ℕ) (c : Choice) → slice_get cs i ≡ Some c → i < length cs
    inside [] i c at = cc
    inside (x ∷ cs) zero c at = omega arith
    inside (x ∷ cs) (suc i) c at = let less = inside cs i c at in omega (arith, less)

-- One edge more

last_edge : (edges : List Edge) (e : Edge) → slice_get (edges ++ e ∷ []) (length edges) ≡ Some e
last_edge [] e = refl
last_edge (x ∷ edges) e = last_edge edges e

-- The state that one more entry leads to is the found one with its code.
stands_at : (m : Machine) (found : List Seen) (place entry to : ℕ) (w v : World) → IsTimed m → AreReached m found → IsWorldAt m found place w → after_entry m w entry ≡ Some v → to < length found →
    (seen_at found to).state.code ≡ (state_in m v).code → StandsAt m found v to
stands_at m found place entry to w v timed reached at goes inside same = record {
  inside = inside;
  is = (schedules m timed).coded ((seen_at found place).schedule ++ entry ∷ []) (seen_at found to).schedule (state_in m v) (seen_at found to).state
      (ap (option_map (state_in m)) (one_further m (seen_at found place).schedule entry (opening m) w v at.leads goes))
      (reached to inside) (sym same);
}

pub edge_added : (m : Machine) (found : List Seen) (place entry to : ℕ) (w v : World) (old new : List Edge) → IsTimed m → AreReached m found → IsWorldAt m found place w → after_entry m w entry ≡ Some v → to < length found →
    (seen_at found to).state.code ≡ (state_in m v).code → new ≡ old ++ record { from = place; to = to } ∷ [] → IsEdgeAdded m found place w v old new to
edge_added m found place entry to w v old new timed reached at goes inside same is =
    bind_then (step_at m w entry) (next_late m w) v goes λ step names rest.
    let there = stands_at m found place entry to w v timed reached at goes inside same in
    record {
      added = is;
      edge = record { world = w; at = at; step = step; behind = v; goes = rest; there = there };
      goes = record { to = to; edge = (length old, ap (λ es. slice_get es (length old)) is ∙ last_edge old (record { from = place; to = to })); there = there };
    }

-- What stands at a place
pub item_at : {A : Type 0} (xs : List A) (k : ℕ) (x d : A) → k < length xs → x ≡ get_or xs k d → slice_get xs k ≡ Some x
item_at [] k x d inside is = absurd (omega (arith, inside))
item_at (y ∷ xs) zero x d inside is = ap Some (sym is)
item_at (y ∷ xs) (suc k) x d inside is = item_at xs k x d (omega (arith, inside)) is

-- The code of the state behind an entry
pub code_behind : (m : Machine) (w v : World) (entry : ℕ) (n : Next) → next_at m w entry ≡ Some n → after_entry m w entry ≡ Some v → n.state.code ≡ (state_in m v).code
code_behind m w v entry n is goes =
    let next : World → Next = λ u. record { entry = entry; state = state_in m u } in
    ap (λ (x : Next). x.state.code) (sym (some_is (next v) n (sym (ap (option_map next) goes) ∙ is)))

pub one_more_open : (m : Machine) (found : List Seen) (place : ℕ) (w : World) (old now new : List Edge) (count entry : ℕ) (to : Option ℕ) → slice_get (map (λ (c : Choice). c.entry) (possible m w)) count ≡ Some entry →
    IsSome (after_entry m w entry) → ((u : World) → after_entry m w entry ≡ Some u → IsAdded m found place w u now new to) → AreSoFar m found place w old now count → AreSoFar m found place w old new (count + 1)
one_more_open m found place w old now new count entry to at goes added h = by (after_entry m w entry) refl goes
  where
    by : (o : Option World) → after_entry m w entry ≡ o → IsSome o → AreSoFar m found place w old new (count + 1)
    by None is goes = let no : IsSome {T = World} None = goes in cc
    by (Some v) is goes = one_more m found place w v old now new count entry to at is added h
