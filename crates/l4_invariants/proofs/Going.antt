-- From a found world that a search has gone on from, each step leads to a found one.
use Rattle.std.proofs.Common.{◌≡◌, ℕ, zero, suc, ◌+◌, ◌<◌, ◌≤◌, Bool, true, false, ◌⊎◌, inl, inr, Option, Some, None, List, [], ◌∷◌, ◌++◌, length, take, refl, ap, sym, subst, ◌∙◌, arith}
use Rattle.std.proofs.lemmas.Bool.{ltb-true, ltb-false}
use Rattle.std.proofs.lemmas.Slice.Eq.{bytes_eq-Decides}
use Rattle.std.specs.Prelude.{◌||◌, nat_lt, not, slice_get}
use Rattle.std.specs.List.{list_any}
use Rattle.std.specs.Option.{option_map}
use Rattle.std.specs.Str.{bytes_eq}
use Rattle.l4_model.specs.Machine.{Machine}
use Rattle.l4_model.specs.World.{World}
use Rattle.l4_model.specs.Conditions.{◌>>=◌}
use Rattle.l4_model.specs.Steps.{Step}
use Rattle.l4_model.proofs.Chains.{some_is}
use Rattle.l4_worlds.specs.Late.{next_late}
use Rattle.l4_explore.specs.Tries.{State, Next}
use Rattle.l4_explore.specs.Search.{Seen, seen_at, has_code, AreMet, IsFound, IsGoneOn}
use Rattle.l4_explore.proofs.Orders.{not_after_length}
use Rattle.std.proofs.lemmas.List.{length-append}
use Rattle.l4_futures.specs.Choices.{possible, step_at, after_entry}
use Rattle.l4_futures.specs.Inner.Search.{state_in, next_by}
use Rattle.l4_futures.proofs.Ways.{in_filter, is_choice}
use Rattle.l4_forever.specs.Inner.Graph.{IsWorldAt, StandsAt}
use Rattle.l4_forever.specs.Inner.Walks.{all_nexts, is_fresh}
use Rattle.l4_forever.proofs.Grounds.{possible_at}
use Rattle.l4_invariants.specs.Inner.Reads.{Reads, goes_unseen}
use Rattle.l4_invariants.specs.Inner.Searched.{AreWatched, IsLone}

-- The state of a world is found, by a schedule of at most so many entries.
pub record Comes (m : Machine) (found : List Seen) (w : World) (long : ℕ) : Type 0 where
  pub to : ℕ
  pub there : StandsAt m found w to
  pub near : length (seen_at found to).schedule ≤ long

-- By each possible step.
abbrev pub AllCome : Machine → List Seen → (place : ℕ) → World → Type 0
AllCome m found place w =
    (step : Step) (v : World) → next_late m w step ≡ Some v → Comes m found v
    (length (seen_at found place).schedule + 1)

-- By one step that goes unseen, at a later place.
pub record OneComes (m : Machine) (reads : Reads) (found : List Seen) (place : ℕ) (w : World) : Type 0 where
  pub step : Step
  pub unseen : goes_unseen m reads w step ≡ true
  pub behind : World
  pub possible : next_late m w step ≡ Some behind
  pub to : ℕ
  pub there : StandsAt m found behind to
  pub later : place < to

pub record Goes (m : Machine) (reads : Reads) (found : List Seen) (place : ℕ) : Type 0 where
  pub world : World
  pub at : IsWorldAt m found place world
  pub on : AllCome m found place world ⊎ OneComes m reads found place world

-- Met choices

met_found : (found : List Seen) (schedule : List ℕ) (choices : List Next) (k : ℕ) (n : Next) →
    AreMet found schedule choices → slice_get choices k ≡ Some n → IsFound found n.state (schedule ++ n.entry ∷ [])
met_found found schedule [] k n met at = cc
met_found found schedule (x ∷ xs) zero n met at =
    subst (λ (y : Next). IsFound found y.state (schedule ++ y.entry ∷ [])) (some_is x n at) met.0
met_found found schedule (x ∷ xs) (suc k) n met at = met_found found schedule xs k n met.1 at

comes : (m : Machine) (found : List Seen) (schedule : List ℕ) (v : World) (n : Next) → n.state ≡ state_in m v →
    IsFound found n.state (schedule ++ n.entry ∷ []) → Comes m found v (length schedule + 1)
comes m found schedule v n is f = record {
  to = f.place;
  there = record { inside = f.inside; is = sym is ∙ sym f.is };
  near =
      omega (
        arith,
        not_after_length (seen_at found f.place).schedule (schedule ++ n.entry ∷ []) f.early,
        length-append schedule (n.entry ∷ []),
      );
}

pub all_come : (m : Machine) (found : List Seen) (place : ℕ) (w : World) (choices : List Next) →
    choices ≡ all_nexts m w → AreMet found (seen_at found place).schedule choices → AllCome m found place w
all_come m found place w choices are met step v goes =
    let p = possible_at m w v step goes in
    let n : Next = record { entry = p.choice.entry; state = state_in m v } in
    let is : next_by m w p.choice ≡ Some n =
    ap (option_map (λ u. record { entry = p.choice.entry; state = state_in m u })) p.goes in
    let at = in_filter (next_by m w) (possible m w) p.place p.choice n p.at is in
    comes m found (seen_at found place).schedule v n refl
    (met_found found (seen_at found place).schedule choices at.0 n met (ap (λ xs. slice_get xs at.0) are ∙ at.1))

-- What does not lead back leads to a later place.

or_true : (b c : Bool) → c ≡ true → (b || c) ≡ true
or_true true c is = refl
or_true false c is = is

any_up_to : (p : Seen → Bool) (xs : List Seen) (i to : ℕ) → to ≤ i → i < length xs → p (seen_at xs to) ≡ true →
    list_any p (take i xs ++ seen_at xs i ∷ []) ≡ true
any_up_to p [] i to low inside is = absurd (omega (arith, inside))
any_up_to p (x ∷ xs) zero zero low inside is = ap (λ b. b || false) is
any_up_to p (x ∷ xs) zero (suc to) low inside is = absurd (omega (arith, low))
any_up_to p (x ∷ xs) (suc i) zero low inside is = ap (λ b. b || list_any p (take i xs ++ seen_at xs i ∷ [])) is
any_up_to p (x ∷ xs) (suc i) (suc to) low inside is =
    or_true (p x) (list_any p (take i xs ++ seen_at xs i ∷ []))
    (any_up_to p xs i to (omega (arith, low)) (omega (arith, inside)) is)

true_false : (b : Bool) → b ≡ true → not b ≡ true → ⊥
true_false true a c = cc
true_false false a c = cc

later : (m : Machine) (found : List Seen) (place to : ℕ) (v : World) (n : Next) → place < length found →
    n.state ≡ state_in m v → StandsAt m found v to →
    is_fresh (take place found) (seen_at found place) n ≡ true → place < to
later m found place to v n inside is there fresh = by (nat_lt place to) refl
  where
    code : n.state.code ≡ (seen_at found to).state.code
    code = ap (λ (c : State). c.code) (is ∙ there.is)

    by : (b : Bool) → nat_lt place to ≡ b → place < to
    by true lt = ltb-true place to lt
    by false ge =
        absurd (true_false (has_code (take place found ++ seen_at found place ∷ []) n.state.code)
        (any_up_to (λ s. bytes_eq n.state.code s.state.code) found place to (ltb-false place to ge) inside
        ((bytes_eq-Decides n.state.code (seen_at found to).state.code).1 code)) fresh)

one_comes : (m : Machine) (reads : Reads) (found : List Seen) (place : ℕ) (w : World) (choices : List Next) →
    place < length found → IsLone m reads (take place found) (seen_at found place) w choices →
    AreMet found (seen_at found place).schedule choices → OneComes m reads found place w
one_comes m reads found place w choices inside lone met =
    let k = is_choice m w lone.place lone.choice lone.is_possible in
    goes k.names (after_entry m w lone.choice.entry) refl lone.leads
  where
    goes : step_at m w lone.choice.entry ≡ Some lone.choice.step → (o : Option World) →
        after_entry m w lone.choice.entry ≡ o →
        option_map (λ v. record { entry = lone.choice.entry; state = state_in m v }) o ≡ Some lone.next → OneComes m
        reads found place w
    goes names None led is = cc
    goes names (Some v) led is =
        let n : Next = record { entry = lone.choice.entry; state = state_in m v } in
        let same : n ≡ lone.next = some_is n lone.next is in
        let state : lone.next.state ≡ state_in m v = sym (ap (λ (x : Next). x.state) same) in
        let met_one = subst (AreMet found (seen_at found place).schedule) lone.are met in
        let c = comes m found (seen_at found place).schedule v lone.next state met_one.0 in
        record {
          step = lone.choice.step;
          unseen = lone.unseen;
          behind = v;
          possible = sym (ap (λ o. o >>= next_late m w) names) ∙ led;
          to = c.to;
          there = c.there;
          later = later m found place c.to v lone.next inside state c.there lone.fresh;
        }

pub goes_on : (m : Machine) (reads : Reads) (found : List Seen) (place : ℕ) → place < length found →
    IsGoneOn (AreWatched m reads) found place → Goes m reads found place
goes_on m reads found place inside s = by s.offered.are
  where
    by :
        ((s.choices ≡ all_nexts m s.offered.world)
        ⊎ IsLone m reads (take place found) (seen_at found place) s.offered.world s.choices) →
        Goes m reads found place
    by (inl all) = record {
      world = s.offered.world;
      at = record { inside = inside; leads = s.offered.leads };
      on = inl (all_come m found place s.offered.world s.choices all s.all_met);
    }
    by (inr lone) = record {
      world = s.offered.world;
      at = record { inside = inside; leads = s.offered.leads };
      on = inr (one_comes m reads found place s.offered.world s.choices inside lone s.all_met);
    }
