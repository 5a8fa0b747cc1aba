-- What a search has found is a graph, and its marks say from where a thread may move.
use Rattle.std.proofs.Common.{◌≡◌, ℕ, zero, suc, ◌+◌, ◌<◌, ◌≤◌, Bool, true, false, cond, ◌⊎◌, inl, inr, Option, Some, None, List, [], ◌∷◌, ◌++◌, length, map, take, refl, ap, sym, subst, ◌∙◌, arith}
use Rattle.std.proofs.lemmas.Bool.{ltb-true, ltb-false}
use Rattle.std.proofs.lemmas.Slice.Eq.{bytes_eq-Decides}
use Rattle.std.specs.Prelude.{◌||◌, ◌&&◌, nat_lt, not, find, filter_map, is_some, slice_get, slice_index_or}
use Rattle.std.specs.List.{range_with_len, cons_option, list_any, list_all, AllByRecursion}
use Rattle.std.specs.Option.{option_map}
use Rattle.std.specs.Str.{bytes_eq}
use Rattle.l4_model.specs.Machine.{Machine}
use Rattle.l4_model.specs.World.{World, Thread, opening}
use Rattle.l4_model.specs.Conditions.{◌>>=◌}
use Rattle.l4_model.specs.Steps.{Step}
use Rattle.l4_model.proofs.Chains.{bind_then, some_is}
use Rattle.l4_worlds.specs.Late.{next_late, run_late}
use Rattle.l4_worlds.specs.Histories.{IsTimed}
use Rattle.l4_worlds.proofs.LateFutures.{late_futures}
use Rattle.l4_first.specs.First.{stands_alone}
use Rattle.l4_explore.specs.Tries.{State, Next}
use Rattle.l4_explore.specs.Search.{Seen, seen_at, unseen, has_code, IsFound, AreMet, IsGoneOn as IsSearchedOn}
use Rattle.l4_futures.specs.Choices.{Choice, choice_at, step_at, entry_count, possible, tried, after_entry, world_after}
use Rattle.l4_futures.specs.Inner.Search.{state_in, next_by, nexts}
use Rattle.l4_futures.proofs.Entries.{named}
use Rattle.l4_futures.proofs.Ways.{by_steps, in_filter, is_choice}
use Rattle.l4_forever.specs.Waits.{wait_in, wait_of, wait_at, waits_in, is_waiting}
use Rattle.l4_forever.specs.Inner.Walks.{all_nexts, is_fresh, are_fresh, AreWalked}
use Rattle.l4_forever.specs.Inner.Graph.{AreReached, AllGo, GoesTo, HasEdge, IsGoneOn, IsWorldAt, OneGoes, StandsAt}
use Rattle.l4_forever.specs.Moves.{moves_at, AreJustified, HoldsAt, MayMove, Moves, StandsStill}
use Rattle.l4_forever.specs.Inner.Rows.{row_at, wait_by, AreOf, AreSpread, AreStarted, HasAll, IsEdge, IsLedOn}
use Rattle.l4_forever.specs.declared.edges.Edge.{Edge}
use Rattle.l4_forever.specs.declared.waits.Wait.{Wait}
use Rattle.l4_forever.specs.declared.waits.Wait.TheVariants.{Send, Receive, Neither}
use Rattle.l4_forever.proofs.Waiting.{wait_good}
use Rattle.l4_forever.proofs.Passing.{Arrives, arrives, good_there}

-- Codes among found states

or_true : (b c : Bool) → c ≡ true → (b || c) ≡ true
or_true true c is = refl
or_true false c is = is

any_at : (p : Seen → Bool) (xs : List Seen) (i : ℕ) → i < length xs → p (seen_at xs i) ≡ true → list_any p xs ≡ true
any_at p [] i inside is = absurd (omega (arith, inside))
any_at p (x ∷ xs) zero inside is = ap (λ b. b || list_any p xs) is
any_at p (x ∷ xs) (suc i) inside is = or_true (p x) (list_any p xs) (any_at p xs i (omega (arith, inside)) is)

any_up_to : (p : Seen → Bool) (xs : List Seen) (i to : ℕ) → to ≤ i → i < length xs → p (seen_at xs to) ≡ true → list_any p (take i xs ++ seen_at xs i ∷ []) ≡ true
any_up_to p [] i to low inside is = absurd (omega (arith, inside))
any_up_to p (x ∷ xs) zero zero low inside is = ap (λ b. b || false) is
any_up_to p (x ∷ xs) zero (suc to) low inside is = absurd (omega (arith, low))
any_up_to p (x ∷ xs) (suc i) zero low inside is = ap (λ b. b || list_any p (take i xs ++ seen_at xs i ∷ [])) is
any_up_to p (x ∷ xs) (suc i) (suc to) low inside is =
    or_true (p x) (list_any p (take i xs ++ seen_at xs i ∷ [])) (any_up_to p xs i to (omega (arith, low)) (omega (arith, inside)) is)

same_bytes : (code other : List ℕ) → code ≡ other → bytes_eq code other ≡ true
same_bytes code other same = (bytes_eq-Decides code other).1 same

has_met : (found : List Seen) (n : Next) (schedule : List ℕ) → IsFound found n.state schedule → has_code found n.state.code ≡ true
has_met found n schedule f =
    any_at (λ s. bytes_eq n.state.code s.state.code) found f.place f.inside
    (same_bytes n.state.code (seen_at found f.place).state.code (ap (λ (c : State). c.code) (sym f.is)))

met_at : (found : List Seen) (schedule : List ℕ) (choices : List Next) (k : ℕ) (n : Next) → AreMet found schedule choices → slice_get choices k ≡ Some n → has_code found n.state.code ≡ true
met_at found schedule [] k n met at = cc
met_at found schedule (x ∷ xs) zero n met at =
    subst (λ (y : Next). has_code found y.state.code ≡ true) (some_is x n at) (has_met found x (schedule ++ x.entry ∷ []) met.0)
met_at found schedule (x ∷ xs) (suc k) n met at = met_at found schedule xs k n met.1 at

-- What is possible is among the choices.

in_range : (a n i : ℕ) → i < n → slice_get (range_with_len a n) i ≡ Some (a + i)
in_range a zero i lt = absurd (omega (arith, lt))
in_range a (suc n) zero lt = ap (λ k. Some k) (omega arith)
in_range a (suc n) (suc i) lt = in_range (a + 1) n i (omega (arith, lt)) ∙ ap (λ k. Some k) (omega arith)

pub record IsPossible (m : Machine) (w v : World) (step : Step) : Type 0 where
  pub place : ℕ
  pub choice : Choice
  pub at : slice_get (possible m w) place ≡ Some choice
  pub goes : after_entry m w choice.entry ≡ Some v

pub possible_at : (m : Machine) (w v : World) (step : Step) → next_late m w step ≡ Some v → IsPossible m w v step
possible_at m w v step goes =
    let n = named m w v step goes in
    let is : is_some (next_late m w step) ≡ true = ap is_some goes in
    let chosen : choice_at m w n.entry ≡ Some (record { entry = n.entry; step = step }) = rw (n.names, is) refl in
    let first : slice_get (range_with_len 0 (entry_count m w)) n.entry ≡ Some n.entry = in_range 0 (entry_count m w) n.entry n.within ∙ ap (λ k. Some k) (omega arith) in
    let at = in_filter (choice_at m w) (range_with_len 0 (entry_count m w)) n.entry n.entry (record { entry = n.entry; step = step }) first chosen in
    record {
      place = at.0;
      choice = record { entry = n.entry; step = step };
      at = at.1;
      goes = ap (λ o. o >>= next_late m w) n.names ∙ goes;
    }

-- From a place that a search has gone on from edges go on.
module _ (m : Machine) (found : List Seen) (edges : List Edge) (i : ℕ) (h : HasAll m found edges i) where
  all_go : (choices : List Next) → choices ≡ all_nexts m h.world → AreMet found (seen_at found i).schedule choices → AllGo m found edges i h.world
  all_go choices are met step v goes =
      let p = possible_at m h.world v step goes in
      let n : Next = record { entry = p.choice.entry; state = state_in m v } in
      let is : next_by m h.world p.choice ≡ Some n = ap (option_map (λ u. record { entry = p.choice.entry; state = state_in m u })) p.goes in
      let at = in_filter (next_by m h.world) (possible m h.world) p.place p.choice n p.at is in
      h.all step v goes (met_at found (seen_at found i).schedule choices at.0 n met (ap (λ xs. slice_get xs at.0) are ∙ at.1))

  true_false : (b : Bool) → b ≡ true → not b ≡ true → ⊥
  true_false true a c = cc
  true_false false a c = cc

  one_goes : (own : Choice) (choices : List Next) → find (λ c. stands_alone m c.step) (possible m h.world) ≡ Some own → choices ≡ nexts m h.world →
      AreMet found (seen_at found i).schedule choices → are_fresh (take i found) (seen_at found i) choices ≡ true → OneGoes m found edges i h.world
  one_goes own choices is are met fresh =
      let at = find_at (possible m h.world) own is in
      let k = is_choice m h.world at.0 own at.1 in
      by (next_late m h.world own.step) refl k.goes k.names
    where
      find_at : (cs : List Choice) (c : Choice) → find (λ x. stands_alone m x.step) cs ≡ Some c → (j : ℕ) × (slice_get cs j ≡ Some c)
      find_at [] c is = cc
      find_at (x ∷ xs) c is = by (stands_alone m x.step) is (find_at xs c)
        where
          by : (b : Bool) → (cond b (Some x) (find (λ y. stands_alone m y.step) xs)) ≡ Some c → (find (λ y. stands_alone m y.step) xs ≡ Some c → (j : ℕ) × (slice_get xs j ≡ Some c)) → (j : ℕ) × (slice_get (x ∷ xs) j ≡ Some c)
          by true is rest = (0, is)
          by false is rest = let at = rest is in (suc at.0, at.1)

      stands : (cs : List Choice) (c : Choice) → find (λ x. stands_alone m x.step) cs ≡ Some c → stands_alone m c.step ≡ true
      stands [] c is = cc
      stands (x ∷ xs) c is = by (stands_alone m x.step) refl is (stands xs c)
        where
          by : (b : Bool) → stands_alone m x.step ≡ b → (cond b (Some x) (find (λ y. stands_alone m y.step) xs)) ≡ Some c → (find (λ y. stands_alone m y.step) xs ≡ Some c → stands_alone m c.step ≡ true) → stands_alone m c.step ≡ true
          by true one is rest = subst (λ (y : Choice). stands_alone m y.step ≡ true) (some_is x c is) one
          by false one is rest = rest is

      with : (v : World) → next_late m h.world own.step ≡ Some v → step_at m h.world own.entry ≡ Some own.step → OneGoes m found edges i h.world
      with v goes names =
          let n : Next = record { entry = own.entry; state = state_in m v } in
          let led : after_entry m h.world own.entry ≡ Some v = ap (λ o. o >>= next_late m h.world) names ∙ goes in
          let next_is : next_by m h.world own ≡ Some n = ap (option_map (λ u. record { entry = own.entry; state = state_in m u })) led in
          let one : choices ≡ n ∷ [] = are ∙ rw is (ap (λ o. cons_option o []) next_is) in
          let met_one = subst (AreMet found (seen_at found i).schedule) one met in
          let fresh_one : (is_fresh (take i found) (seen_at found i) n) && true ≡ true = ap (are_fresh (take i found) (seen_at found i)) (sym one) ∙ fresh in
          let goes_to = h.all own.step v goes (has_met found n ((seen_at found i).schedule ++ n.entry ∷ []) met_one.0) in
          record {
            step = own.step;
            alone = stands (possible m h.world) own is;
            behind = v;
            possible = goes;
            goes = goes_to;
            later = later goes_to (and_one (is_fresh (take i found) (seen_at found i) n) fresh_one);
          }
        where
          and_one : (b : Bool) → (b && true) ≡ true → b ≡ true
          and_one true is = refl
          and_one false is = is

          later : (g : GoesTo m found edges i v) → not (has_code (take i found ++ seen_at found i ∷ []) (state_in m v).code) ≡ true → i < g.to
          later g new = lt_of (nat_lt i g.to) refl
            where
              lt_of : (b : Bool) → nat_lt i g.to ≡ b → i < g.to
              lt_of true lt = ltb-true i g.to lt
              lt_of false ge =
                  absurd (true_false (has_code (take i found ++ seen_at found i ∷ []) (state_in m v).code)
                  (any_up_to (λ s. bytes_eq (state_in m v).code s.state.code) found i g.to (ltb-false i g.to ge) h.at.inside
                  (same_bytes (state_in m v).code (seen_at found g.to).state.code (ap (λ (c : State). c.code) g.there.is))) new)

      by : (o : Option World) → next_late m h.world own.step ≡ o → is_some (next_late m h.world own.step) ≡ true → step_at m h.world own.entry ≡ Some own.step → OneGoes m found edges i h.world
      by None none some names = let no : is_some {T = World} None ≡ true = ap is_some (sym none) ∙ some in cc
      by (Some v) goes some names = with v goes names

  pub on_from : IsSearchedOn (AreWalked m) found i → IsGoneOn m found edges i
  on_from s =
      let same : s.offered.world ≡ h.world = some_is s.offered.world h.world (sym s.offered.leads ∙ h.at.leads) in
      by same s.offered.are (find (λ c. stands_alone m c.step) (possible m h.world)) refl
    where
      no_lone : find (λ c. stands_alone m c.step) (possible m h.world) ≡ None → nexts m h.world ≡ all_nexts m h.world
      no_lone none = rw none refl

      by : s.offered.world ≡ h.world → ((s.choices ≡ all_nexts m s.offered.world) ⊎ ((s.choices ≡ nexts m s.offered.world) × (are_fresh (take i found) (seen_at found i) s.choices ≡ true))) →
          (o : Option Choice) → find (λ c. stands_alone m c.step) (possible m h.world) ≡ o → IsGoneOn m found edges i
      by same (inl all) o is = record { world = h.world; at = h.at; goes = inl (all_go s.choices (all ∙ ap (all_nexts m) same) s.all_met) }
      by same (inr lone) None is = record { world = h.world; at = h.at; goes = inl (all_go s.choices (lone.0 ∙ ap (nexts m) same ∙ no_lone is) s.all_met) }
      by same (inr lone) (Some own) is = record { world = h.world; at = h.at; goes = inr (one_goes own s.choices is (lone.0 ∙ ap (nexts m) same) s.all_met lone.1) }

-- A row has what each thread does.
pub wait_row : (m : Machine) (found : List Seen) (rows : List (List Wait)) (edges : List Edge) → AreOf m found rows edges → (i thread : ℕ) (w : World) → IsWorldAt m found i w → wait_by rows i thread ≡ wait_at w thread
wait_row m found rows edges are i thread w at = ap (λ row. slice_index_or row thread Neither) (are.waits i w at) ∙ of w.threads thread
  where
    of : (ts : List Thread) (j : ℕ) → slice_index_or (map (λ (t : Thread). wait_in t.phase) ts) j Neither ≡ wait_of (slice_get ts j)
    of [] j = refl
    of (t ∷ ts) zero = refl
    of (t ∷ ts) (suc j) = of ts j

-- What is not marked in the end stands still.
pub standing : (m : Machine) (found : List Seen) (rows : List (List Wait)) (edges : List Edge) (known thread : ℕ) (moves : List Bool) → AreOf m found rows edges →
    ((i : ℕ) → i < known → IsSearchedOn (AreWalked m) found i) → known ≤ length found →
    ((place : ℕ) → moves_at moves place ≡ false → (place < known) × (is_waiting (wait_by rows place thread) ≡ true)) → AreSpread rows edges thread moves → StandsStill m found edges thread moves
standing m found rows edges known thread moves are searched few started spread place free =
    let s = started place free in
    let on = on_from m found edges place (are.all place (omega (arith, s.0, few))) (searched place s.0) in
    record {
      on = on;
      waits = ap is_waiting (sym (wait_row m found rows edges are place thread on.world on.at)) ∙ s.1;
      stays = λ to edge. (spread edge.0 (record { from = place; to = to }) edge.1 free).0;
      same = λ to v edge there.
          sym (wait_row m found rows edges are to thread v there)
          ∙ sym (spread edge.0 (record { from = place; to = to }) edge.1 free).1
          ∙ wait_row m found rows edges are place thread on.world on.at;
    }

-- What an edge leads on from may move.

send_receive : Send ≡ Receive → ⊥
send_receive e = cc

send_neither : Send ≡ Neither → ⊥
send_neither e = cc

receive_neither : Receive ≡ Neither → ⊥
receive_neither e = cc

same_or_not : (a b : Wait) → (a ≡ b) ⊎ (a ≡ b → ⊥)
same_or_not Send Send = inl refl
same_or_not Send Receive = inr send_receive
same_or_not Send Neither = inr send_neither
same_or_not Receive Send = inr (λ e. send_receive (sym e))
same_or_not Receive Receive = inl refl
same_or_not Receive Neither = inr receive_neither
same_or_not Neither Send = inr (λ e. send_neither (sym e))
same_or_not Neither Receive = inr (λ e. receive_neither (sym e))
same_or_not Neither Neither = inl refl

pub led_on : (m : Machine) (found : List Seen) (rows : List (List Wait)) (edges : List Edge) (thread : ℕ) (moves : List Bool) → IsTimed m → AreReached m found → AreOf m found rows edges → AreJustified m found thread moves →
    (k : ℕ) (e : Edge) → slice_get edges k ≡ Some e → IsLedOn rows thread moves e → (w : World) → IsWorldAt m found e.from w → MayMove m w thread
led_on m found rows edges thread moves timed reached are just k e is led w at =
    let g = are.steps k e is in
    let same : g.world ≡ w = some_is g.world w (sym g.at.leads ∙ at.leads) in
    let goes : next_late m w g.step ≡ Some g.behind = ap (λ x. next_late m x g.step) (sym same) ∙ g.goes in
    by g.behind g.step goes (arrives m timed found reached e.from w g.behind g.step e.to at goes g.there) led
  where
    module_waits : (u : World) (a : Arrives m found e.to u) → wait_at u thread ≡ wait_at a.v thread
    module_waits u a = wait_good u a.v thread (good_there m timed found reached e.to u a)

    apart : (u : World) (step : Step) → next_late m w step ≡ Some u → (a : Arrives m found e.to u) → (wait_at w thread ≡ wait_at a.v thread → ⊥) → MayMove m w thread
    apart u step goes a differ =
        inr (record { steps = step ∷ []; last = u; leads = ap (λ o. o >>= λ x. Some x) goes; moved = λ same. differ (sym same ∙ module_waits u a) })

    onwards : (u : World) (step : Step) → next_late m w step ≡ Some u → (a : Arrives m found e.to u) → wait_at w thread ≡ wait_at a.v thread → Moves m a.v thread → MayMove m w thread
    onwards u step goes a same g =
        let x = by_steps m a.entries (opening m) u a.led in
        let y = by_steps m (seen_at found e.to).schedule (opening m) a.v a.at.leads in
        let f = late_futures m g.steps y.steps x.steps a.v u g.last timed y.runs x.runs (sym (good_there m timed found reached e.to u a)) g.leads in
        inr (record {
          steps = step ∷ f.more;
          last = f.after;
          leads = ap (λ o. o >>= λ z. run_late m z f.more) goes ∙ f.leads_to;
          moved = λ stays. g.moved (wait_good g.last f.after thread f.as_good ∙ stays ∙ same);
        })

    marked : (u : World) (step : Step) → next_late m w step ≡ Some u → (a : Arrives m found e.to u) → MayMove m a.v thread → MayMove m w thread
    marked u step goes a may = of (same_or_not (wait_at w thread) (wait_at a.v thread)) may
      where
        of : ((wait_at w thread ≡ wait_at a.v thread) ⊎ (wait_at w thread ≡ wait_at a.v thread → ⊥)) → MayMove m a.v thread → MayMove m w thread
        of (inr differ) may = apart u step goes a differ
        of (inl same) (inl rests) = inl (ap is_waiting same ∙ rests)
        of (inl same) (inr g) = onwards u step goes a same g

    by : (u : World) (step : Step) → next_late m w step ≡ Some u → (a : Arrives m found e.to u) → IsLedOn rows thread moves e → MayMove m w thread
    by u step goes a (inl moves_there) = marked u step goes a (just e.to a.v a.at moves_there)
    by u step goes a (inr differ) =
        apart u step goes a (λ same. differ (wait_row m found rows edges are e.from thread w at ∙ same ∙ sym (wait_row m found rows edges are e.to thread a.v a.at)))
