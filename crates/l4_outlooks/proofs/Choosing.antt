-- Which entries a search goes on by, found one after another.
use Rattle.std.proofs.Common.{◌≡◌, ℕ, suc, ◌+◌, ◌-◌, ◌<◌, ◌≤◌, Bool, true, false, cond, Option, Some, None, List, [], ◌∷◌, ◌++◌, map, refl, ap, sym, ◌∙◌, arith, append_assoc}
use Rattle.std.proofs.lemmas.List.{append-nil}
use Rattle.std.specs.Prelude.{is_some, find, filter_map}
use Rattle.std.specs.List.{range_with_len, cons_option}
use Rattle.l4_model.specs.Machine.{Machine}
use Rattle.l4_model.specs.World.{World}
use Rattle.l4_model.specs.Conditions.{◌>>=◌, ◌>>◌}
use Rattle.l4_model.specs.Steps.{Step}
use Rattle.l4_model.proofs.Chains.{some_is}
use Rattle.l4_worlds.specs.Late.{next_late}
use Rattle.l4_first.specs.First.{stands_alone}
use Rattle.l4_futures.specs.Choices.{Choice, choice_at, step_at, entry_count, possible, tried}
use Rattle.l4_futures.specs.Inner.Ends.{is_end}
use Rattle.l4_outlooks.specs.Inner.Named.{open_step}

abbrev one : (entry : ℕ) → Step → Choice
one entry step = record { entry = entry; step = step }

-- The choices of the entries that are left

abbrev pub left : Machine → World → (entry : ℕ) → List Choice
left m w entry = filter_map (choice_at m w) (range_with_len entry (entry_count m w - entry))

abbrev pub entries_of : List Choice → List ℕ
entries_of cs = map (λ (c : Choice). c.entry) cs

abbrev pub first_alone : Machine → List Choice → Option Choice
first_alone m cs = find (λ c. stands_alone m c.step) cs

pub all_left : (m : Machine) (w : World) → left m w 0 ≡ possible m w
all_left m w = let same : entry_count m w - 0 ≡ entry_count m w = omega arith in ap (λ n. filter_map (choice_at m w) (range_with_len 0 n)) same

pub none_left : (m : Machine) (w : World) (entry : ℕ) → entry_count m w ≤ entry → left m w entry ≡ []
none_left m w entry over = let none : entry_count m w - entry ≡ 0 = omega arith in ap (λ n. filter_map (choice_at m w) (range_with_len entry n)) none

one_left : (m : Machine) (w : World) (entry : ℕ) → entry < entry_count m w → left m w entry ≡ cons_option (choice_at m w entry) (left m w (entry + 1))
one_left m w entry lt = let some : entry_count m w - entry ≡ suc (entry_count m w - (entry + 1)) = omega arith in ap (λ n. filter_map (choice_at m w) (range_with_len entry n)) some

choice_none : (m : Machine) (w : World) (entry : ℕ) → open_step m w entry ≡ None → choice_at m w entry ≡ None
choice_none m w entry h = by (step_at m w entry) h
  where
    by : (o : Option Step) → (o >>= λ step. is_some (next_late m w step) >> Some step) ≡ None →
        (o >>= λ step. is_some (next_late m w step) >> Some (one entry step)) ≡ None
    by None h = refl
    by (Some step) h = with (is_some (next_late m w step)) h
      where
        with : (b : Bool) → (b >> Some step) ≡ None → (b >> Some (one entry step)) ≡ None
        with true h = cc
        with false h = refl

choice_some : (m : Machine) (w : World) (entry : ℕ) (step : Step) → open_step m w entry ≡ Some step → choice_at m w entry ≡ Some (one entry step)
choice_some m w entry step h = by (step_at m w entry) h
  where
    by : (o : Option Step) → (o >>= λ step. is_some (next_late m w step) >> Some step) ≡ Some step →
        (o >>= λ step. is_some (next_late m w step) >> Some (one entry step)) ≡ Some (one entry step)
    by None h = cc
    by (Some other) h = with (is_some (next_late m w other)) h
      where
        with : (b : Bool) → (b >> Some other) ≡ Some step → (b >> Some (one entry other)) ≡ Some (one entry step)
        with true h = ap (λ s. Some (one entry s)) (some_is other step h)
        with false h = cc

pub left_none : (m : Machine) (w : World) (entry : ℕ) → entry < entry_count m w → open_step m w entry ≡ None → left m w entry ≡ left m w (entry + 1)
left_none m w entry lt is = one_left m w entry lt ∙ ap (λ o. cons_option o (left m w (entry + 1))) (choice_none m w entry is)

pub left_some : (m : Machine) (w : World) (entry : ℕ) (step : Step) → entry < entry_count m w → open_step m w entry ≡ Some step →
    left m w entry ≡ one entry step ∷ left m w (entry + 1)
left_some m w entry step lt is = one_left m w entry lt ∙ ap (λ o. cons_option o (left m w (entry + 1))) (choice_some m w entry step is)

-- So far these were found, of which none stands alone.
pub record AreSoFar (m : Machine) (w : World) (found : List ℕ) (entry : ℕ) : Type 0 where
  pub all : entries_of (possible m w) ≡ found ++ entries_of (left m w entry)
  pub none : first_alone m (possible m w) ≡ first_alone m (left m w entry)

pub none_so_far : (m : Machine) (w : World) → AreSoFar m w [] 0
none_so_far m w = record { all = ap entries_of (sym (all_left m w)); none = ap (first_alone m) (sym (all_left m w)) }

pub passed : (m : Machine) (w : World) (found : List ℕ) (entry : ℕ) → entry < entry_count m w → open_step m w entry ≡ None → AreSoFar m w found entry → AreSoFar m w found (entry + 1)
passed m w found entry lt is h = record {
  all = h.all ∙ ap (λ cs. found ++ entries_of cs) (left_none m w entry lt is);
  none = h.none ∙ ap (first_alone m) (left_none m w entry lt is);
}

pub one_found : (m : Machine) (w : World) (found : List ℕ) (entry : ℕ) (step : Step) → entry < entry_count m w → open_step m w entry ≡ Some step → stands_alone m step ≡ false → AreSoFar m w found entry →
    AreSoFar m w (found ++ entry ∷ []) (entry + 1)
one_found m w found entry step lt is other h = record {
  all = h.all ∙ ap (λ cs. found ++ entries_of cs) (left_some m w entry step lt is) ∙ sym (append_assoc found (entry ∷ []) (entries_of (left m w (entry + 1))));
  none = h.none ∙ ap (first_alone m) (left_some m w entry step lt is) ∙ ap (λ b. cond b (Some (one entry step)) (first_alone m (left m w (entry + 1)))) other;
}

pub alone_found : (m : Machine) (w : World) (found : List ℕ) (entry : ℕ) (step : Step) → entry < entry_count m w → open_step m w entry ≡ Some step → stands_alone m step ≡ true → AreSoFar m w found entry →
    entry ∷ [] ≡ entries_of (tried m w)
alone_found m w found entry step lt is alone h =
    let own : first_alone m (possible m w) ≡ Some (one entry step) =
    h.none ∙ ap (first_alone m) (left_some m w entry step lt is) ∙ ap (λ b. cond b (Some (one entry step)) (first_alone m (left m w (entry + 1)))) alone in
    rw own refl

pub all_found : (m : Machine) (w : World) (found : List ℕ) (entry : ℕ) → entry_count m w ≤ entry → AreSoFar m w found entry → found ≡ entries_of (tried m w)
all_found m w found entry over h =
    let none : first_alone m (possible m w) ≡ None = h.none ∙ ap (first_alone m) (none_left m w entry over) in
    let all : entries_of (possible m w) ≡ found = h.all ∙ ap (λ cs. found ++ entries_of cs) (none_left m w entry over) ∙ append-nil found in
    rw none (sym all)

-- Nothing is possible

pub ends : (m : Machine) (w : World) (entry : ℕ) → entry_count m w ≤ entry → possible m w ≡ left m w entry → is_end m w ≡ true
ends m w entry over same = let none : possible m w ≡ [] = same ∙ none_left m w entry over in rw none refl

pub goes_on : (m : Machine) (w : World) (entry : ℕ) (step : Step) → entry < entry_count m w → open_step m w entry ≡ Some step → possible m w ≡ left m w entry → is_end m w ≡ false
goes_on m w entry step lt is same = let some : possible m w ≡ one entry step ∷ left m w (entry + 1) = same ∙ left_some m w entry step lt is in rw some refl
