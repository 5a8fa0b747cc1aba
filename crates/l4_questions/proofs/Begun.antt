-- What a search has told that was carried to its end, or that was not.
use Rattle.std.proofs.Common.{◌≡◌, ℕ, ◌+◌, ◌≤◌, ◌⊎◌, inl, inr, Bool, true, false, Option, None, List, [], ◌∷◌, ◌++◌, length, map, take, refl, ap, sym, subst, ◌∙◌, arith}
use Rattle.std.specs.Prelude.{◌||◌, not}
use Rattle.std.proofs.lemmas.List.{length-map, length-take, take-map, take-take, take_all}
use Rattle.l4_model.specs.Machine.{Machine}
use Rattle.l4_explore.specs.Search.{Seen}
use Rattle.l4_explore.specs.Told.{Hears}
use Rattle.l4_futures.specs.Endings.{AreAllEndings}
use Rattle.l4_persistent.specs.Endings as placed
use Rattle.l4_all_endings.specs.Told.{traces_of, AreTold as AllTold, HaveBegun}
use Rattle.l4_all_endings.specs.declared.search.Looked.{Looked}
use Rattle.l4_endings.specs.Told as runs
use Rattle.l4_endings.specs.declared.endings_of.Looked as states
use Rattle.l4_expect.specs.Expected.{Expected}
use Rattle.l4_questions.specs.Answers.{endings_after, AreFound}
use Rattle.l4_questions.specs.Asked.{asked_of}
use Rattle.l4_questions.specs.Beside.{Shown}
use Rattle.l4_questions.specs.Endings.{Ending}
use Rattle.l4_questions.specs.Inner.AllTold.{AreAllPlacedTold, AreAllTold}
use Rattle.l4_questions.specs.Inner.Counted.{has_any, IsCounted}
use Rattle.l4_questions.specs.Inner.Faults.{fault_of}
use Rattle.l4_questions.specs.Inner.Found.{ending_seen, placed_seen}
use Rattle.l4_questions.specs.Inner.Telling.{text_behind, AllAreTold, AreTold}
use Rattle.l4_questions.specs.Limits.{question_fault}
use Rattle.l4_questions.specs.Placed.{placed_endings, ArePlaced}
use Rattle.l4_questions.specs.Printed.{ending_text, endings_text, numbered_text, unmet_of}
use Rattle.l4_questions.specs.Told.{AreToldFirst, BreaksOff, HasBegun, PlacedHasBegun, Takes}
use Rattle.l4_questions.specs.declared.judged.Told.{Told}
use Rattle.l4_questions.specs.declared.question.Question.{Question}

-- The endings of found states are those of their histories, or of their entries.

endings_seen : (m : Machine) (ends : List Seen) →
    map (ending_seen m) ends ≡ endings_after m (traces_of m ends)
endings_seen m [] = refl
endings_seen m (s ∷ ends) = ap (λ (es : List Ending). ending_seen m s ∷ es) (endings_seen m ends)

placed_are_seen : (m : Machine) (ends : List Seen) →
    map (placed_seen m) ends ≡ placed_endings m (runs.entries_to m ends)
placed_are_seen m [] = refl
placed_are_seen m (s ∷ ends) =
    ap (λ (es : List Ending). placed_seen m s ∷ es) (placed_are_seen m ends)

any_alike : (m : Machine) (ends : List Seen) →
    has_any (map (ending_seen m) ends) ≡ has_any (traces_of m ends)
any_alike m [] = refl
any_alike m (s ∷ ends) = refl

-- Who was told of nothing is told of the first.
module _ (takes : Takes) (q : Question) (shown : Shown) (expected : Option (List Expected))
    (x y : Told) (zero_is : x.count ≡ 0) where
  from_first : (text_of : ℕ → Ending → List ℕ) (endings : List Ending) →
      text_behind text_of q x.count endings ≡ numbered_text text_of 1 (asked_of q endings)
  from_first text_of endings =
      ap (λ n. numbered_text text_of (n + 1) (asked_of q endings)) zero_is

  pub taken_first : (endings : List Ending) → AllAreTold takes q shown expected x y endings →
      takes (endings_text shown q endings) true
  taken_first endings told =
      subst (λ text. takes text true) (from_first (ending_text shown) endings) told.taken

  pub counted : x.unmet.items ≡ [] → (endings : List Ending) →
      AllAreTold takes q shown expected x y endings → IsCounted q expected endings y
  counted none endings told = record {
    unmet =
        told.unmet
        ∙ ap (λ (u : List ℕ). u ++ text_behind (unmet_of expected) q x.count endings) none
        ∙ from_first (unmet_of expected) endings;
    count = let n = told.count in omega (arith, n, zero_is);
  }

  pub told_first : (endings : List Ending) (count : ℕ) (more : Bool) → count ≤ length endings →
      AreTold takes q shown expected x y (take count endings) more →
      AreToldFirst takes q shown endings (not y.is_refused)
  told_first endings count true within told = record {
    count = count;
    within = within;
    taken =
        subst (λ b. takes (endings_text shown q (take count endings)) (not b)) (sym told.whole)
        (taken_first (take count endings) told);
  }
  told_first endings count false within told =
      let few = told.within in
      let long = length-take count endings in
      let low : told.count ≤ count = omega (arith, few, long) in
      record {
        count = told.count;
        within = omega (arith, low, within);
        taken =
            subst (λ text. takes text (not y.is_refused))
            (from_first (ending_text shown) (take told.count (take count endings))
            ∙ ap (endings_text shown q) (take-take told.count count endings low)) told.taken;
      }

  -- The same of the endings of found states
  module _ (ending : Seen → Ending) (hears : Hears)
      (is_told : (ends : List Seen) (more : Bool) → hears ends more →
      AreTold takes q shown expected x y (map ending ends) more) where
    pub ends_told : (ends : List Seen) (count : ℕ) (more : Bool) → count ≤ length ends →
        hears (take count ends) more →
        AreToldFirst takes q shown (map ending ends) (not y.is_refused)
    ends_told ends count more within heard =
        let long = length-map ends ending in
        told_first (map ending ends) count more (omega (arith, within, long))
        (subst (λ es. AreTold takes q shown expected x y es more) (sym (take-map ending count ends))
        (is_told (take count ends) more heard))

-- Where the search was not carried to its end, the fault says whether all was taken.
off : (takes : Takes) (q : Question) (begun : Bool → Type 0) (is_refused : Bool) →
    begun (not is_refused) → BreaksOff takes q begun (fault_of is_refused)
off takes q begun true is = is
off takes q begun false is = inl (refl, is)

module _ (takes : Takes) (m : Machine) (q : Question) (shown : Shown)
    (expected : Option (List Expected)) (x y : Told) (zero_is : x.count ≡ 0)
    (lawful : question_fault q ≡ None) (hears : Hears) where
  pub broke_off : ((ends : List Seen) (more : Bool) → hears ends more →
      AreTold takes q shown expected x y (map (ending_seen m) ends) more) → (more : Bool) →
      HaveBegun m hears more → BreaksOff takes q (HasBegun takes m q shown) (fault_of y.is_refused)
  broke_off is_told more b =
      off takes q (HasBegun takes m q shown) y.is_refused (record {
        lawful = lawful;
        traces = traces_of m b.ends;
        depth = b.depth;
        are = by b.are;
        told =
            subst (λ es. AreToldFirst takes q shown es (not y.is_refused))
            (endings_seen m b.ends)
            (ends_told takes q shown expected x y zero_is (ending_seen m) hears is_told b.ends
            b.count more b.within b.told);
      })
    where
      by : (b.ends ≡ []) ⊎ AreAllEndings m (traces_of m b.ends) b.depth false →
          (traces_of m b.ends ≡ []) ⊎ AreAllEndings m (traces_of m b.ends) b.depth false
      by (inl none) = inl (ap (traces_of m) none)
      by (inr all) = inr all

  pub placed_broke_off : ((ends : List Seen) (more : Bool) → hears ends more →
      AreTold takes q shown expected x y (map (placed_seen m) ends) more) → (more : Bool) →
      runs.HaveBegun m hears more →
      BreaksOff takes q (PlacedHasBegun takes m q shown) (fault_of y.is_refused)
  placed_broke_off is_told more b =
      off takes q (PlacedHasBegun takes m q shown) y.is_refused (record {
        lawful = lawful;
        endings = runs.entries_to m b.ends;
        depth = b.depth;
        are = by b.are;
        told =
            subst (λ es. AreToldFirst takes q shown es (not y.is_refused))
            (placed_are_seen m b.ends)
            (ends_told takes q shown expected x y zero_is (placed_seen m) hears is_told b.ends
            b.count more b.within b.told);
      })
    where
      by : (b.ends ≡ []) ⊎ placed.AreAllEndings m (runs.entries_to m b.ends) b.depth false →
          (runs.entries_to m b.ends ≡ [])
          ⊎ placed.AreAllEndings m (runs.entries_to m b.ends) b.depth false
      by (inl none) = inl (ap (runs.entries_to m) none)
      by (inr all) = inr all

-- Where it was, all were told.
module _ (takes : Takes) (m : Machine) (q : Question) (shown : Shown)
    (expected : Option (List Expected)) (x y : Told) (zero_is : x.count ≡ 0)
    (empty : x.unmet.items ≡ []) (none : x.is_any ≡ false) where
  pub all_told : (looked : Looked) (ends : List Seen) →
      AreFound m q (traces_of m ends) looked.worlds looked.depth looked.is_whole →
      AreTold takes q shown expected x y (map (ending_seen m) ends) true →
      AreAllTold takes m q shown expected looked y
  all_told looked ends found told =
      let same = endings_seen m ends in
      record {
        traces = traces_of m ends;
        found = found;
        taken =
            subst (λ es. takes (endings_text shown q es) true) same
            (taken_first takes q shown expected x y zero_is (map (ending_seen m) ends) told);
        counted =
            subst (λ es. IsCounted q expected es y) same
            (counted takes q shown expected x y zero_is empty (map (ending_seen m) ends) told);
        any =
            told.any ∙ ap (λ b. b || has_any (map (ending_seen m) ends)) none
            ∙ any_alike m ends;
      }

  pub all_placed_told : (looked : states.Looked) (ends : List Seen) →
      ArePlaced m q (runs.entries_to m ends) looked.states looked.depth looked.is_whole →
      AreTold takes q shown expected x y (map (placed_seen m) ends) true →
      AreAllPlacedTold takes m q shown expected looked y
  all_placed_told looked ends found told =
      let same = placed_are_seen m ends in
      record {
        endings = runs.entries_to m ends;
        found = found;
        taken =
            subst (λ es. takes (endings_text shown q es) true) same
            (taken_first takes q shown expected x y zero_is (map (placed_seen m) ends) told);
        counted =
            subst (λ es. IsCounted q expected es y) same
            (counted takes q shown expected x y zero_is empty (map (placed_seen m) ends) told);
      }

-- Memory may be refused when all were told.

all_first : (takes : Takes) (q : Question) (shown : Shown) (endings : List Ending) →
    takes (endings_text shown q endings) true → AreToldFirst takes q shown endings true
all_first takes q shown endings taken = record {
  count = length endings;
  within = omega arith;
  taken =
      subst (λ es. takes (endings_text shown q es) true)
      (sym (take_all (length endings) endings (omega arith))) taken;
}

never : false ≡ true → ⊥
never is = cc

module _ (takes : Takes) (m : Machine) (q : Question) (shown : Shown)
    (expected : Option (List Expected)) (told : Told) (lawful : question_fault q ≡ None) where
  pub begun_all : (looked : Looked) → AreAllTold takes m q shown expected looked told →
      HasBegun takes m q shown true
  begun_all looked a = record {
    lawful = lawful;
    traces = a.traces;
    depth = looked.depth;
    are = inr (record {
      complete = a.found.all.complete;
      whole = λ is. absurd (never is);
      sound = a.found.all.sound;
      shortest = a.found.all.shortest;
      apart = a.found.all.apart;
      rising = a.found.all.rising;
    });
    told = all_first takes q shown (endings_after m a.traces) a.taken;
  }

  pub placed_begun_all : (looked : states.Looked) →
      AreAllPlacedTold takes m q shown expected looked told → PlacedHasBegun takes m q shown true
  placed_begun_all looked a = record {
    lawful = lawful;
    endings = a.endings;
    depth = looked.depth;
    are = inr (record {
      sound = a.found.all.sound;
      complete = a.found.all.complete;
      whole = λ is. absurd (never is);
      apart = a.found.all.apart;
    });
    told = all_first takes q shown (placed_endings m a.endings) a.taken;
  }

-- Nothing was told.

pub none_first : (takes : Takes) (q : Question) (shown : Shown) → takes [] true →
    AreToldFirst takes q shown [] true
none_first takes q shown nothing = record { count = 0; within = omega arith; taken = nothing }

module _ (takes : Takes) (m : Machine) (q : Question) (shown : Shown)
    (lawful : question_fault q ≡ None) (nothing : takes [] true) where
  pub not_begun : HasBegun takes m q shown true
  not_begun = record {
    lawful = lawful;
    traces = [];
    depth = 0;
    are = inl refl;
    told = none_first takes q shown nothing;
  }

  pub placed_not_begun : PlacedHasBegun takes m q shown true
  placed_not_begun = record {
    lawful = lawful;
    endings = [];
    depth = 0;
    are = inl refl;
    told = none_first takes q shown nothing;
  }
