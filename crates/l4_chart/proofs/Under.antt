-- Which columns stand under a processor.
use Rattle.std.proofs.Common.{◌≡◌, ℕ, ◌<◌, ◌≤◌, zero, suc, Bool, true, false, Option, List, [], ◌∷◌, ◌++◌, length, map, refl, ap, sym, ◌∙◌, arith, append-nil}
use Rattle.std.specs.Prelude.{◌==◌, ◌≢◌, ◌&&◌, nat_lt, filter, filter_map, flat_map, slice_index_or}
use Rattle.std.specs.List.{range_with_len}
use Rattle.std.proofs.lemmas.Bool.Decides.{nat_tests}
use Rattle.std.proofs.lemmas.List.Elements.{filter-append}
use Rattle.l4_core_model.specs.Local.{undeclared}
use Rattle.l4_model.specs.Words.{GlobalId}
use Rattle.l4_model.specs.Machine.{Declaration}
use Rattle.l4_chart.specs.Charts.{column_on, columns_on, is_chosen}
use Rattle.l4_chart.specs.Laws.{ColumnsAreThreads, column_of}
use Rattle.l4_chart.specs.declared.columns.Column.{Column}
use Rattle.l4_chart.proofs.Shown.{flat_map-range_suc}

filter_flat : {A B : Type 0} (p : B → Bool) (f : A → List B) (xs : List A) →
    filter p (flat_map f xs) ≡ flat_map (λ x. filter p (f x)) xs
filter_flat p f [] = refl
filter_flat p f (x ∷ xs) =
    filter-append p (f x) (flat_map f xs) ∙ ap (λ l. filter p (f x) ++ l) (filter_flat p f xs)

abbrev is_of : ℕ → Column → Bool
is_of cpu c = c.cpu == cpu

abbrev is_shown : Option (List GlobalId) → ℕ → Declaration → Bool
is_shown threads cpu d = d.cpu == cpu && is_chosen threads d.id

abbrev under : Option (List GlobalId) → ℕ → List Declaration → List Column
under threads cpu ds = map column_of (filter (is_shown threads cpu) ds)

same_test : (a : ℕ) → (a == a) ≡ true
same_test a = grind (arith, nat_tests)

other_test : (a b : ℕ) → a ≢ b → (a == b) ≡ false
other_test a b h = grind (arith, nat_tests)

same : (a b : ℕ) → (a == b) ≡ true → a ≡ b
same a b h = grind (arith, nat_tests)

differ : (a b : ℕ) → (a == b) ≡ false → a ≢ b
differ a b h = grind (arith, nat_tests)

same_number : (a b : ℕ) (t : Bool) → ((a == b) && t) ≡ true → a ≡ b
same_number a b t h = grind (arith, nat_tests)

-- The columns of a processor are of that processor.
own_columns : (threads : Option (List GlobalId)) (cpu : ℕ) (ds : List Declaration) →
    filter (is_of cpu) (filter_map (column_on threads cpu) ds) ≡ under threads cpu ds
own_columns threads cpu [] = refl
own_columns threads cpu (d ∷ ds) = by (own_columns threads cpu ds) (is_shown threads cpu d) refl
  where
    by : filter (is_of cpu) (filter_map (column_on threads cpu) ds) ≡ under threads cpu ds → (b : Bool) → is_shown threads cpu d ≡ b →
        filter (is_of cpu) (filter_map (column_on threads cpu) (d ∷ ds)) ≡ under threads cpu (d ∷ ds)
    by rest true e =
        let number : d.cpu ≡ cpu = same_number d.cpu cpu (is_chosen threads d.id) e in
        rw (e, same_test cpu) (ap (λ (n : ℕ). (record { id = d.id; cpu = n }) ∷ filter (is_of cpu) (filter_map (column_on threads cpu) ds)) (sym number)
        ∙ ap (λ (l : List Column). column_of d ∷ l) rest)
    by rest false e = rw e rest

other_columns : (threads : Option (List GlobalId)) (cpu k : ℕ) (ds : List Declaration) → k ≢ cpu →
    filter (is_of cpu) (filter_map (column_on threads k) ds) ≡ []
other_columns threads cpu k [] h = refl
other_columns threads cpu k (d ∷ ds) h = by (other_columns threads cpu k ds h) (is_shown threads k d) refl
  where
    by : filter (is_of cpu) (filter_map (column_on threads k) ds) ≡ [] → (b : Bool) → is_shown threads k d ≡ b →
        filter (is_of cpu) (filter_map (column_on threads k) (d ∷ ds)) ≡ []
    by rest true e = rw (e, other_test k cpu h) rest
    by rest false e = rw e rest

-- Of so many pieces, at most one has anything.
no_piece : {A : Type 0} (f : ℕ → List A) (cpu n : ℕ) → ((k : ℕ) → k ≢ cpu → f k ≡ []) → n ≤ cpu →
    flat_map f (range_with_len 0 n) ≡ []
no_piece f cpu zero none h = refl
no_piece f cpu (suc n) none h =
    flat_map-range_suc f n ∙ ap (λ l. l ++ f n) (no_piece f cpu n none (omega arith)) ∙ none n (omega arith)

one_piece : {A : Type 0} (f : ℕ → List A) (cpu n : ℕ) → ((k : ℕ) → k ≢ cpu → f k ≡ []) → cpu < n →
    flat_map f (range_with_len 0 n) ≡ f cpu
one_piece f cpu zero none h = absurd (omega arith)
one_piece {A} f cpu (suc n) none h = flat_map-range_suc f n ∙ by (one_piece f cpu n none) (n == cpu) refl
  where
    by : (cpu < n → flat_map f (range_with_len 0 n) ≡ f cpu) → (b : Bool) → (n == cpu) ≡ b → flat_map f (range_with_len 0 n) ++ f n ≡ f cpu
    by rest true e =
        let number : n ≡ cpu = same n cpu e in
        ap (λ l. l ++ f n) (no_piece f cpu n none (omega arith)) ∙ ap f number
    by rest false e =
        let other : n ≢ cpu = differ n cpu e in
        ap (λ l. flat_map f (range_with_len 0 n) ++ l) (none n other) ∙ append-nil (flat_map f (range_with_len 0 n)) ∙ rest (omega arith)

-- Above the processors of a machine there is no thread.
none_above : (threads : Option (List GlobalId)) (cpu n : ℕ) (ds : List Declaration) →
    ((i : ℕ) → i < length ds → (slice_index_or ds i undeclared).cpu < n) → n ≤ cpu → under threads cpu ds ≡ []
none_above threads cpu n [] homed h = refl
none_above threads cpu n (d ∷ ds) homed h =
    let low : d.cpu < n = homed 0 (omega arith) in
    rw (other_test d.cpu cpu (omega arith)) (none_above threads cpu n ds (λ i at. homed (suc i) (omega arith)) h)

pub columns_are_threads : ColumnsAreThreads
columns_are_threads m threads cpu machine = filter_flat (is_of cpu) (columns_on m threads) (range_with_len 0 m.cpus) ∙ by (nat_lt cpu m.cpus) refl
  where
    pieces : ℕ → List Column
    pieces k = filter (is_of cpu) (columns_on m threads k)

    none : (k : ℕ) → k ≢ cpu → pieces k ≡ []
    none k h = other_columns threads cpu k m.threads h

    by : (b : Bool) → nat_lt cpu m.cpus ≡ b → flat_map pieces (range_with_len 0 m.cpus) ≡ under threads cpu m.threads
    by true e =
        let low : cpu < m.cpus = grind (arith, nat_tests) in
        one_piece pieces cpu m.cpus none low ∙ own_columns threads cpu m.threads
    by false e =
        let high : m.cpus ≤ cpu = grind (arith, nat_tests) in
        no_piece pieces cpu m.cpus none high ∙ sym (none_above threads cpu m.cpus m.threads machine.homed high)
