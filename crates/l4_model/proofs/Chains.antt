-- What follows where a chain of options and tests has a value, and what a change of one element leaves.
use Rattle.std.proofs.Common.{length, get_or, set, ◌<◌, arith, ◌≡◌, ℕ, zero, suc, Bool, true, false, cond, Option, Some, None, List, [], ◌∷◌, map, refl, ap, sym, ◌∙◌}
use Rattle.std.specs.Prelude.{slice_get}
use Rattle.std.specs.Option.{option_map}
use Rattle.l4_model.specs.World.{changed}
use Rattle.l4_model.specs.Conditions.{◌>>=◌, ◌>>◌}

-- The first line of a chain has a value, and the rest goes on from it.
pub bind_then : {A B P : Type 0} (o : Option A) (f : A → Option B) (y : B) → (o >>= f) ≡ Some y → ((x : A) → o ≡ Some x → f x ≡ Some y → P) → P
bind_then None f y h then = cc
bind_then (Some x) f y h then = then x refl h

-- The test that begins a chain holds, and the rest has the value.
pub guard_then : {B P : Type 0} (b : Bool) (o : Option B) (y : B) → (b >> o) ≡ Some y → (b ≡ true → o ≡ Some y → P) → P
guard_then true o y h then = then refl h
guard_then false o y h then = cc

pub some_is : {A : Type 0} (x y : A) → Some x ≡ Some y → x ≡ y
some_is x y h = cc

-- Some part of each element stays.
pub map-changed_same : {A B : Type 0} (g : A → B) (f : A → A) → ((x : A) → g (f x) ≡ g x) → (xs : List A) (i : ℕ) → map g (changed f xs i) ≡ map g xs
map-changed_same g f e [] i = refl
map-changed_same g f e (x ∷ xs) zero = ap (λ y. y ∷ map g xs) (e x)
map-changed_same g f e (x ∷ xs) (suc i) = ap (λ ys. g x ∷ ys) (map-changed_same g f e xs i)

-- Some part of one element changes.
pub map-changed : {A B : Type 0} (g : A → B) (f : A → A) (h : B → B) → ((x : A) → g (f x) ≡ h (g x)) → (xs : List A) (i : ℕ) → map g (changed f xs i) ≡ changed h (map g xs) i
map-changed g f h e [] i = refl
map-changed g f h e (x ∷ xs) zero = ap (λ y. y ∷ map g xs) (e x)
map-changed g f h e (x ∷ xs) (suc i) = ap (λ ys. g x ∷ ys) (map-changed g f h e xs i)

pub get-changed_same : {A : Type 0} (f : A → A) (xs : List A) (i : ℕ) → slice_get (changed f xs i) i ≡ option_map f (slice_get xs i)
get-changed_same f [] i = refl
get-changed_same f (x ∷ xs) zero = refl
get-changed_same f (x ∷ xs) (suc i) = get-changed_same f xs i

pub get-changed_other : {A : Type 0} (f : A → A) (xs : List A) (i j : ℕ) → (i ≡ j → ⊥) → slice_get (changed f xs i) j ≡ slice_get xs j
get-changed_other f [] i j ne = refl
get-changed_other f (x ∷ xs) zero zero ne = absurd (ne refl)
get-changed_other f (x ∷ xs) zero (suc j) ne = refl
get-changed_other f (x ∷ xs) (suc i) zero ne = refl
get-changed_other f (x ∷ xs) (suc i) (suc j) ne = get-changed_other f xs i j (λ e. ne (ap suc e))

pub get-map : {A B : Type 0} (g : A → B) (xs : List A) (i : ℕ) (x : A) → slice_get xs i ≡ Some x → slice_get (map g xs) i ≡ Some (g x)
get-map g [] i x h = cc
get-map g (y ∷ xs) zero x h = ap (option_map g) h
get-map g (y ∷ xs) (suc i) x h = get-map g xs i x h

pub cond_both : {A B : Type 0} (g : A → B) (z : B) (b : Bool) (x y : A) → g x ≡ z → g y ≡ z → g (cond b x y) ≡ z
cond_both g z true x y p q = p
cond_both g z false x y p q = q

-- A fact of both of two values, each where the test chooses it.
pub cond_keeps : {A : Type 0} (P : A → Type 0) (b : Bool) (x y : A) → (b ≡ true → P x) → (b ≡ false → P y) → P (cond b x y)
cond_keeps P true x y p q = p refl
cond_keeps P false x y p q = q refl

-- A part of an element that a change keeps is as it was.
pub part-changed : {A B : Type 0} (g : A → B) (f : A → A) → ((x : A) → g (f x) ≡ g x) → (xs : List A) (i j : ℕ) (x y : A) →
    slice_get xs j ≡ Some x → slice_get (changed f xs i) j ≡ Some y → g y ≡ g x
part-changed g f e xs i j x y old new =
    some_is (g y) (g x) (sym (get-map g (changed f xs i) j y new) ∙ ap (λ ys. slice_get ys j) (map-changed_same g f e xs i) ∙ get-map g xs j x old)

-- A write of what a change gives at a place is that change.
pub set_changed : {A : Type 0} (f : A → A) (xs : List A) (i : ℕ) (d y : A) → i < length xs → y ≡ f (get_or xs i d) → set xs i y ≡ changed f xs i
set_changed f [] i d y lt e = absurd (omega arith)
set_changed f (x ∷ xs) zero d y lt e = ap (λ z. z ∷ xs) e
set_changed f (x ∷ xs) (suc i) d y lt e = ap (λ zs. x ∷ zs) (set_changed f xs i d y (omega arith) e)

pub length-changed : {A : Type 0} (f : A → A) (xs : List A) (i : ℕ) → length (changed f xs i) ≡ length xs
length-changed f [] i = refl
length-changed f (x ∷ xs) zero = refl
length-changed f (x ∷ xs) (suc i) = ap suc (length-changed f xs i)
