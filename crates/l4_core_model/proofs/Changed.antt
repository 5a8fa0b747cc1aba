-- Lists that change at a place, and steps one after another.
use Rattle.std.proofs.Common.{◌≡◌, ℕ, zero, suc, ◌<◌, Bool, true, false, cond, Option, Some, None, List, [], ◌∷◌, ◌++◌, map, filter, length, refl, ap, arith}
use Rattle.std.specs.Prelude.{slice_index_or, ◌==◌}
use Rattle.std.specs.Str.{bytes_eq}
use Rattle.std.proofs.lemmas.Bool.Decides.{nat_tests}
use Rattle.std.proofs.lemmas.Slice.Eq.{bytes_eq-Decides}
use Rattle.l4_model.specs.Words.{GlobalId, same_id}
use Rattle.l4_model.specs.Machine.{Machine}
use Rattle.l4_model.specs.World.{World, changed}
use Rattle.l4_model.specs.Steps.{Step, next}
use Rattle.l4_model.specs.Conditions.{◌>>=◌}
use Rattle.l4_model.specs.History.{run}
use Rattle.l4_core_model.specs.Plain as plain

abbrev pub blocks : List plain.Waiting → List ℕ
blocks es = map (λ e. e.block) es

-- Steps one after another
bind_some : {A : Type 0} (o : Option A) → (o >>= λ v. Some v) ≡ o
bind_some None = refl
bind_some (Some x) = refl

pub run-last : (m : Machine) (w : World) (xs : List Step) (step : Step) → run m w (xs ++ step ∷ []) ≡ (run m w xs >>= λ v. next m v step)
run-last m w [] step = bind_some (next m w step)
run-last m w (x ∷ xs) step = by (next m w x) (λ v. run-last m v xs step)
  where
    by : (o : Option World) → ((v : World) → run m v (xs ++ step ∷ []) ≡ (run m v xs >>= λ u. next m u step)) →
        (o >>= λ v. run m v (xs ++ step ∷ [])) ≡ ((o >>= λ v. run m v xs) >>= λ v. next m v step)
    by None rest = refl
    by (Some v) rest = rest v

pub length-changed : {A : Type 0} (f : A → A) (xs : List A) (i : ℕ) → length (changed f xs i) ≡ length xs
length-changed f [] i = refl
length-changed f (x ∷ xs) zero = refl
length-changed f (x ∷ xs) (suc i) = ap suc (length-changed f xs i)

pub same_nat : (n : ℕ) → (n == n) ≡ true
same_nat n = grind (arith, nat_tests)

pub same_ids : (t : GlobalId) → same_id t t ≡ true
same_ids t = rw (same_nat t.number) (same_nat t.version)

pub same_bytes : (xs : List ℕ) → bytes_eq xs xs ≡ true
same_bytes xs = (bytes_eq-Decides xs xs).1 refl

pub filter-blocks : (p : ℕ → Bool) (es : List plain.Waiting) → filter p (blocks es) ≡ blocks (filter (λ e. p e.block) es)
filter-blocks p [] = refl
filter-blocks p (e ∷ es) = by (p e.block) (filter-blocks p es)
  where
    by : (b : Bool) → filter p (blocks es) ≡ blocks (filter (λ e. p e.block) es) → cond b (e.block ∷ filter p (blocks es)) (filter p (blocks es)) ≡ blocks (cond b (e ∷ filter (λ x. p x.block) es) (filter (λ x. p x.block) es))
    by true h = ap (λ xs. e.block ∷ xs) h
    by false h = h

-- Looking at one place after a change

pub get-changed : {A : Type 0} (f : A → A) (xs : List A) (i : ℕ) (d : A) → i < length xs → slice_index_or (changed f xs i) i d ≡ f (slice_index_or xs i d)
get-changed f [] i d lt = absurd (omega arith)
get-changed f (x ∷ xs) zero d lt = refl
get-changed f (x ∷ xs) (suc i) d lt = get-changed f xs i d (omega arith)

-- a part of an element that the change keeps
pub part-changed_at : {A B : Type 0} (g : A → B) (f : A → A) → ((x : A) → g (f x) ≡ g x) → (xs : List A) (i j : ℕ) (d : A) → g (slice_index_or (changed f xs i) j d) ≡ g (slice_index_or xs j d)
part-changed_at g f e [] i j d = refl
part-changed_at g f e (x ∷ xs) zero zero d = e x
part-changed_at g f e (x ∷ xs) zero (suc j) d = refl
part-changed_at g f e (x ∷ xs) (suc i) zero d = refl
part-changed_at g f e (x ∷ xs) (suc i) (suc j) d = part-changed_at g f e xs i j d
