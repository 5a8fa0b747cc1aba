-- What a listener is told of a search by persistent sets is of endings.
use Rattle.std.proofs.Common.{◌≡◌, ℕ, ◌<◌, ◌≤◌, ◌⊎◌, inl, inr, Bool, true, false, Option, None, Some, Result, Ok, Err, OnErr, List, [], length, refl, ap, subst, arith}
use Rattle.std.specs.Prelude.{IfNone, IfSome}
use Rattle.l4_model.specs.Machine.{Machine}
use Rattle.l4_core_model.specs.Runs.{IsMachine}
use Rattle.l4_explore.specs.Search.{Seen, depth_of, IsCut, IsExplored}
use Rattle.l4_explore.specs.Told.{ends_among, HasBegun, Hears}
use Rattle.l4_states.specs.Choices.{state_after}
use Rattle.l4_persistent.specs.Endings.{AreAllEndings}
use Rattle.l4_persistent.specs.Inner.Ends.{AreOfSet}
use Rattle.l4_persistent.proofs.Endings.{all_endings, looked_at, of_found}
use Rattle.l4_persistent.proofs.Rests.{rests_listed}
use Rattle.l4_endings.specs.Told.{entries_to, AreTold, HaveBegun}
use Rattle.l4_endings.specs.Inner.Walked.{AreChoices}
use Rattle.l4_endings.proofs.Ending.{are_choices, are_endings}

-- Of an answer with an error nothing else is said.
pub on_err : {A E : Type 0} (r : Result A E) (P : Type 0) → P → OnErr r P
on_err (Ok x) P p = tt
on_err (Err e) P p = p

-- What is so of an answer where there is one, and where there is none

pub some_of : {A : Type 0} (o : Option A) (x : A) (P : A → Type 0) → o ≡ Some x → IfSome o P → P x
some_of o x P is held = subst (λ a. IfSome a P) is held

pub none_of : {A : Type 0} (o : Option A) (P : Type 0) → ((x : A) → o ≡ Some x → ⊥) → IfNone o P → P
none_of None P other held = held
none_of (Some x) P other held = absurd (other x refl)

-- What a state's schedule leads to
pub may_tell : (m : Machine) (asked : ℕ) (May : Seen → Type 0) →
    ((s : Seen) → AreChoices m s.schedule → May s) → (s : Seen) →
    state_after m s.schedule ≡ Some s.state → length s.schedule ≤ asked → May s
may_tell m asked May may s leads short = may s (are_choices m s.schedule s.state leads)

module _ (m : Machine) (machine : IsMachine m) (hears : Hears) where
  pub are_told : (found : List Seen) (states asked most depth : ℕ) (is_whole : Bool) →
      IsExplored (state_after m) (AreOfSet m) found depth is_whole →
      (is_whole ≡ true → depth ≡ depth_of found) →
      (is_whole ≡ false → IsCut (state_after m) (AreOfSet m) found asked most depth) →
      states ≡ length found → hears (ends_among found) true →
      AreTold m hears states asked most depth is_whole
  are_told found states asked most depth is_whole explored deep cut count told =
      let are = are_endings m found (entries_to m (ends_among found)) states asked most depth
      is_whole machine explored deep cut count refl in
      record {
        ends = ends_among found;
        all = all_endings m (entries_to m (ends_among found)) states asked most depth is_whole are;
        found = are;
        told = told;
      }

  pub have_begun : (asked : ℕ) (more : Bool) →
      HasBegun (state_after m) (AreOfSet m) asked hears more → HaveBegun m hears more
  have_begun asked more b = record {
    ends = ends_among b.found;
    depth = b.depth;
    are = by b.explored;
    count = b.count;
    within = b.within;
    all = b.all;
    told = b.told;
  }
    where
      by : (b.found ≡ []) ⊎ IsExplored (state_after m) (AreOfSet m) b.found b.depth false →
          (ends_among b.found ≡ [])
          ⊎ AreAllEndings m (entries_to m (ends_among b.found)) b.depth false
      by (inl none) = inl (ap ends_among none)
      by (inr explored) =
          inr (of_found m b.found b.depth false
          (looked_at m machine b.found b.depth false explored)
          (rests_listed m machine b.found b.depth false explored))

  -- Memory was refused before the search began.
  pub not_begun : hears [] true → (more : Bool) × HaveBegun m hears more
  not_begun silent = (
    true,
    record {
      ends = [];
      depth = 0;
      are = inl refl;
      count = 0;
      within = omega arith;
      all = λ _. refl;
      told = silent;
    },
  )
