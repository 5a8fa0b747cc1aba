-- What a listener is told of a search of all worlds is of endings.
use Rattle.std.proofs.Common.{◌≡◌, ℕ, ◌<◌, ◌≤◌, ◌⊎◌, inl, inr, Bool, true, false, Option, None, Some, Result, Ok, Err, OnErr, List, [], length, min, refl, ap, subst, sym, ◌∙◌, arith}
use Rattle.std.specs.Prelude.{IfNone, IfSome, IsSome}
use Rattle.l4_model.specs.Machine.{Machine}
use Rattle.l4_worlds.specs.Histories.{IsTimed}
use Rattle.l4_explore.specs.Tries.{deepest}
use Rattle.l4_explore.specs.Search.{Seen, seen_at, depth_of, IsCut, IsExplored}
use Rattle.l4_explore.specs.Told.{ends_among, HasBegun, Hears}
use Rattle.l4_futures.specs.Endings.{HasLooked}
use Rattle.l4_futures.specs.Inner.Search.{state_after, AreTried}
use Rattle.l4_futures.proofs.Endings.{all_endings}
use Rattle.l4_futures.proofs.Kept.{state_led}
use Rattle.l4_futures.proofs.Looked.{looked}
use Rattle.l4_all_endings.specs.Tried.{AreLed, LeadsToWorld}
use Rattle.l4_all_endings.specs.Told.{schedules_of, AreTold, HaveBegun}
use Rattle.l4_all_endings.proofs.Leading.{ends_led, low}

-- Of an answer with an error nothing else is said.
pub on_err : {A E : Type 0} (r : Result A E) (P : Type 0) → P → OnErr r P
on_err (Ok x) P p = tt
on_err (Err e) P p = p

-- What is so of an answer where there is one, and where there is none

pub some_of : {A : Type 0} (o : Option A) (x : A) (P : A → Type 0) → o ≡ Some x → IfSome o P → P x
some_of o x P is held = subst (λ a. IfSome a P) is held

pub none_of : {A : Type 0} (o : Option A) (P : Type 0) → ((x : A) → o ≡ Some x → ⊥) → IfNone o P → P
none_of None P other held = held
none_of (Some x) P other held = absurd (other x refl)

-- What a state's schedule leads to
pub may_tell : (m : Machine) (asked : ℕ) (May : Seen → Type 0) → asked ≤ deepest →
    ((s : Seen) → LeadsToWorld m s.schedule → May s) → (s : Seen) →
    state_after m s.schedule ≡ Some s.state → length s.schedule ≤ asked → May s
may_tell m asked May few may s leads short =
    let led = state_led m s.schedule s.state leads in
    may s (record { leads = subst IsSome (sym led.1) refl; few = omega (arith, few, short) })

module _ (m : Machine) (timed : IsTimed m) (hears : Hears) where
  pub are_told : (found : List Seen) (depth : ℕ) (is_whole : Bool) → depth ≤ deepest →
      IsExplored (state_after m) (AreTried m) found depth is_whole → hears (ends_among found) true →
      AreTold m hears depth is_whole
  are_told found depth is_whole few explored told = record {
    ends = ends_among found;
    all = all_endings m timed found depth is_whole few explored;
    led = ends_led m found depth is_whole few explored;
    told = told;
  }

  pub have_begun : (asked : ℕ) (more : Bool) → asked ≤ deepest →
      HasBegun (state_after m) (AreTried m) asked hears more → HaveBegun m hears more
  have_begun asked more few b = by b.explored
    where
      by : (b.found ≡ []) ⊎ IsExplored (state_after m) (AreTried m) b.found b.depth false →
          HaveBegun m hears more
      by (inl none) = record {
        ends = ends_among b.found;
        depth = b.depth;
        are = inl (ap ends_among none);
        led = subst (λ (found : List Seen). AreLed m (schedules_of (ends_among found))) (sym none) tt;
        count = b.count;
        within = b.within;
        all = b.all;
        told = b.told;
      }
      by (inr explored) =
          let low : b.depth ≤ deepest = let shallow = b.shallow in omega (arith, few, shallow) in
          record {
            ends = ends_among b.found;
            depth = b.depth;
            are = inr (all_endings m timed b.found b.depth false low explored);
            led = ends_led m b.found b.depth false low explored;
            count = b.count;
            within = b.within;
            all = b.all;
            told = b.told;
          }

  -- Memory was refused before the search began.
  pub not_begun : hears [] true → (more : Bool) × HaveBegun m hears more
  not_begun silent = (
    true,
    record {
      ends = [];
      depth = 0;
      are = inl refl;
      led = tt;
      count = 0;
      within = omega arith;
      all = λ _. refl;
      told = silent;
    },
  )
