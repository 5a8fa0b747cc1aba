-- The entries that are possible, and that each is one of the machine.
use Rattle.std.proofs.Common.{◌≡◌, ℕ, zero, suc, ◌+◌, ◌*◌, ◌/◌, ◌%◌, ◌<◌, ◌≤◌, Bool, true, false, cond, Option, Some, None, List, [], ◌∷◌, ◌++◌, map, refl, ap, sym, ◌∙◌, arith, append-nil}
use Rattle.std.specs.Prelude.{◌&&◌, ◌==◌, is_some, nat_lt, filter_map}
use Rattle.std.specs.List.{cons_option, list_all, range_with_len}
use Rattle.std.specs.Option.{option_map}
use Rattle.std.proofs.lemmas.Bool.Decides.{nat_tests}
use Rattle.std.proofs.lemmas.List.{map-append}
use Rattle.std.proofs.lemmas.List.Elements.{filter_map-append}
use Rattle.std.proofs.lemmas.List.Folds.{list_all-map}
use Rattle.std.proofs.lemmas.List.FromFn.{map-range_with_len_more}
use Rattle.l4_model.specs.Machine.{Machine}
use Rattle.l4_model.specs.Conditions.{◌>>=◌}
use Rattle.l4_core_model.specs.Runs.{Happened, System, happens}
use Rattle.l4_core_model.specs.Schedules.{Entry, CoreOf, LetterOf, TickOf, entry_event, replay_entries}
use Rattle.l4_replay.specs.Entries.{is_entry, is_entry_of}
use Rattle.l4_next.specs.Nexts.{Next, choices, listed, next_by}
use Rattle.l4_rounds.proofs.Possible.{own_of}
use Rattle.l4_states.specs.Choices.{choice, choice_count, choice_of}
use Rattle.l4_steps.specs.Possible.{possible}

abbrev entry_in : Next → Entry
entry_in next = next.entry

abbrev next_of : Entry → Happened → Next
next_of e h = record { entry = e; steps = h.event.steps }

-- Those among the first choices that are possible

abbrev pub firsts : Machine → System → (count : ℕ) → List Entry
firsts m g count = map entry_in (filter_map (next_by m g) (choices m count))

single : (o : Option Next) → cons_option o [] ≡ listed o
single None = refl
single (Some next) = refl

firsts_more : (m : Machine) (g : System) (count : ℕ) →
    firsts m g (count + 1) ≡ firsts m g count ++ map entry_in (listed (next_by m g (choice m count)))
firsts_more m g count =
    ap (λ es. map entry_in (filter_map (next_by m g) es)) (map-range_with_len_more (choice m) 0 count count (omega arith))
    ∙ ap (map entry_in) (filter_map-append (next_by m g) (choices m count) (choice m count ∷ []))
    ∙ map-append entry_in (filter_map (next_by m g) (choices m count)) (filter_map (next_by m g) (choice m count ∷ []))
    ∙ ap (λ more. firsts m g count ++ map entry_in more) (single (next_by m g (choice m count)))

alone : (m : Machine) (g : System) (e : Entry) → is_some (next_by m g e) ≡ true → map entry_in (listed (next_by m g e)) ≡ e ∷ []
alone m g e is = by (entry_event m g e >>= happens m g) is
  where
    by : (o : Option Happened) → is_some (option_map (next_of e) o) ≡ true → map entry_in (listed (option_map (next_of e) o)) ≡ e ∷ []
    by None is = cc
    by (Some h) is = refl

nobody : (o : Option Next) → is_some o ≡ false → map entry_in (listed o) ≡ []
nobody None is = refl
nobody (Some next) is = cc

pub listed_more : (m : Machine) (g : System) (count : ℕ) (e : Entry) (old new : List Entry) → e ≡ choice m count → old ≡ firsts m g count →
    is_some (next_by m g (choice m count)) ≡ true → new ≡ old ++ e ∷ [] → new ≡ firsts m g (count + 1)
listed_more m g count e old new same before is more =
    more
    ∙ ap (λ xs. xs ++ e ∷ []) before
    ∙ ap (λ x. firsts m g count ++ x ∷ []) same
    ∙ ap (λ xs. firsts m g count ++ xs) (sym (alone m g (choice m count) is))
    ∙ sym (firsts_more m g count)

pub listed_same : (m : Machine) (g : System) (count : ℕ) (old : List Entry) → old ≡ firsts m g count →
    is_some (next_by m g (choice m count)) ≡ false → old ≡ firsts m g (count + 1)
listed_same m g count old before is =
    before
    ∙ sym (append-nil (firsts m g count))
    ∙ ap (λ xs. firsts m g count ++ xs) (sym (nobody (next_by m g (choice m count)) is))
    ∙ sym (firsts_more m g count)

-- Each is one of the machine.

both : (one other : Bool) → one ≡ true → other ≡ true → (one && other) ≡ true
both one other is are = rw (is, are) refl

pub left_of : (one other : Bool) → (one && other) ≡ true → one ≡ true
left_of true other h = refl
left_of false other h = cc

pub right_of : (one other : Bool) → (one && other) ≡ true → other ≡ true
right_of true other h = h
right_of false other h = cc

own_choice : (cpus cpu k : ℕ) → cpu < cpus → is_entry_of cpus (choice_of cpus cpu k) ≡ true
own_choice cpus cpu k own = by (nat_lt k cpus) refl (k == cpus)
  where
    test : nat_lt cpu cpus ≡ true
    test = grind (arith, nat_tests, own)

    by : (b : Bool) → nat_lt k cpus ≡ b → (c : Bool) →
        is_entry_of cpus (cond b (LetterOf cpu k) (cond c (CoreOf cpu) (TickOf cpu))) ≡ true
    by true is c = both (nat_lt cpu cpus) (nat_lt k cpus) test is
    by false is true = test
    by false is false = test

own_range : (m : Machine) (start n : ℕ) → start + n ≤ m.cpus * (m.cpus + 2) →
    list_all (λ k. is_entry m (choice m k)) (range_with_len start n) ≡ true
own_range m start zero few = refl
own_range m start (suc n) few =
    both (is_entry m (choice m start)) _
    (own_choice m.cpus (start / (m.cpus + 2)) (start % (m.cpus + 2)) (own_of m.cpus start (omega (arith, few))))
    (own_range m (start + 1) n (omega (arith, few)))

own_choices : (m : Machine) → list_all (is_entry m) (choices m (choice_count m)) ≡ true
own_choices m =
    list_all-map (is_entry m) (choice m) (range_with_len 0 (choice_count m)) ∙ own_range m 0 (choice_count m) (omega arith)

own_some : (m : Machine) (g : System) (es : List Entry) → list_all (is_entry m) es ≡ true →
    list_all (is_entry m) (map entry_in (filter_map (next_by m g) es)) ≡ true
own_some m g [] all = refl
own_some m g (e ∷ es) all =
    by (entry_event m g e >>= happens m g) (own_some m g es (right_of (is_entry m e) (list_all (is_entry m) es) all))
  where
    by : (o : Option Happened) → list_all (is_entry m) (map entry_in (filter_map (next_by m g) es)) ≡ true →
        list_all (is_entry m) (map entry_in (cons_option (option_map (next_of e) o) (filter_map (next_by m g) es))) ≡ true
    by None rest = rest
    by (Some h) rest = both (is_entry m e) _ (left_of (is_entry m e) (list_all (is_entry m) es) all) rest

pub own_possible : (m : Machine) (es : List Entry) → list_all (is_entry m) (possible m es) ≡ true
own_possible m es = own_some m (replay_entries m es).system (choices m (choice_count m)) (own_choices m)
