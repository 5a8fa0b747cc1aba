-- Ticks: what they leave as it is, and that all clocks can be late.
use Rattle.std.proofs.Common.{◌≡◌, ℕ, zero, suc, ◌+◌, ◌-◌, ◌^◌, ◌<◌, Bool, true, false, cond, Some, List, [], ◌∷◌, ◌++◌, length, map, refl, ap, sym, ◌∙◌, subst, arith, append_assoc}
use Rattle.std.proofs.lemmas.Bool.{eqb-true}
use Rattle.std.proofs.lemmas.Bool.Decides.{nat_tests}
use Rattle.std.specs.Prelude.{slice_get, slice_set, ◌==◌, ◌&&◌, nat_lt, is_some}
use Rattle.std.specs.List.{AllByRecursion}
use Rattle.l4_model.specs.Machine.{Machine}
use Rattle.l4_model.specs.World.{World}
use Rattle.l4_model.specs.Steps.{Step, Tick, next}
use Rattle.l4_model.specs.History.{run}
use Rattle.l4_model.specs.Still.{is_tick, late}
use Rattle.l4_model.proofs.Chains.{bind_then, some_is}
use Rattle.l4_model.proofs.Clocks.{with_clocks, AreLater, possible_later}
use Rattle.l4_model.proofs.Inversions.{tick_taken}
use Rattle.l4_model.proofs.Sizes.{Sized, step_sized}

abbrev pub AreTicks : List Step → Type 0
AreTicks ticks = AllByRecursion (λ tick. is_tick tick ≡ true) ticks

abbrev pub IsLow : List ℕ → Type 0
IsLow clocks = AllByRecursion (λ clock. clock < 2 ^ 62) clocks

-- The ticks that take each clock, from the i-th on, to its last value.
abbrev pub ticks_from : ℕ → List ℕ → List Step
ticks_from i [] = []
ticks_from i (clock ∷ clocks) = cond (clock == 2 ^ 62 - 1) (ticks_from (i + 1) clocks) (Tick i (2 ^ 62 - 1) ∷ ticks_from (i + 1) clocks)

get_middle : (before after : List ℕ) (i clock : ℕ) → length before ≡ i → slice_get (before ++ clock ∷ after) i ≡ Some clock
get_middle [] after zero clock e = refl
get_middle [] after (suc i) clock e = absurd (omega arith)
get_middle (x ∷ before) after zero clock e = absurd (omega arith)
get_middle (x ∷ before) after (suc i) clock e = get_middle before after i clock (omega arith)

set_middle : (before after : List ℕ) (i clock new : ℕ) → length before ≡ i → slice_set (before ++ clock ∷ after) i new ≡ before ++ new ∷ after
set_middle [] after zero clock new e = refl
set_middle [] after (suc i) clock new e = absurd (omega arith)
set_middle (x ∷ before) after zero clock new e = absurd (omega arith)
set_middle (x ∷ before) after (suc i) clock new e = ap (λ xs. x ∷ xs) (set_middle before after i clock new (omega arith))

length-push : (xs : List ℕ) (x i : ℕ) → length xs ≡ i → length (xs ++ x ∷ []) ≡ i + 1
length-push [] x i e = omega arith
length-push (y ∷ xs) x zero e = absurd (omega arith)
length-push (y ∷ xs) x (suc i) e = ap suc (length-push xs x i (omega arith)) ∙ omega arith

pub run_ticks : (m : Machine) (w : World) (before after : List ℕ) (i : ℕ) → length before ≡ i → IsLow after →
    run m (with_clocks w (before ++ after)) (ticks_from i after) ≡ Some (with_clocks w (before ++ map (λ clock. 2 ^ 62 - 1) after))
run_ticks m w before [] i e low = refl
run_ticks m w before (clock ∷ after) i e low = by (clock == 2 ^ 62 - 1) refl (run_ticks m w (before ++ (2 ^ 62 - 1) ∷ []) after (i + 1) (length-push before (2 ^ 62 - 1) i e) low.1)
  where
    moved : (xs : List ℕ) → (before ++ (2 ^ 62 - 1) ∷ []) ++ xs ≡ before ++ (2 ^ 62 - 1) ∷ xs
    moved xs = append_assoc before ((2 ^ 62 - 1) ∷ []) xs

    by : (b : Bool) → (clock == 2 ^ 62 - 1) ≡ b →
        run m (with_clocks w ((before ++ (2 ^ 62 - 1) ∷ []) ++ after)) (ticks_from (i + 1) after) ≡ Some (with_clocks w ((before ++ (2 ^ 62 - 1) ∷ []) ++ map (λ c. 2 ^ 62 - 1) after)) →
        run m (with_clocks w (before ++ clock ∷ after)) (cond b (ticks_from (i + 1) after) (Tick i (2 ^ 62 - 1) ∷ ticks_from (i + 1) after))
        ≡ Some (with_clocks w (before ++ (2 ^ 62 - 1) ∷ map (λ c. 2 ^ 62 - 1) after))
    by true is rest =
        ap (λ c. run m (with_clocks w (before ++ c ∷ after)) (ticks_from (i + 1) after)) (eqb-true clock (2 ^ 62 - 1) is)
        ∙ ap (λ xs. run m (with_clocks w xs) (ticks_from (i + 1) after)) (sym (moved after)) ∙ rest ∙ ap (λ xs. Some (with_clocks w xs)) (moved (map (λ c. 2 ^ 62 - 1) after))
    by false is rest =
        let below : clock < 2 ^ 62 - 1 = grind (arith, nat_tests, low.0) in
        let later : (nat_lt clock (2 ^ 62 - 1) && nat_lt (2 ^ 62 - 1) (2 ^ 62)) ≡ true = grind (arith, nat_tests) in
        rw (get_middle before after i clock e, later, set_middle before after i clock (2 ^ 62 - 1) e)
        (ap (λ xs. run m (with_clocks w xs) (ticks_from (i + 1) after)) (sym (moved after)) ∙ rest ∙ ap (λ xs. Some (with_clocks w xs)) (moved (map (λ c. 2 ^ 62 - 1) after)))

pub are_ticks : (i : ℕ) (clocks : List ℕ) → AreTicks (ticks_from i clocks)
are_ticks i [] = tt
are_ticks i (clock ∷ clocks) = by (clock == 2 ^ 62 - 1) (are_ticks (i + 1) clocks)
  where
    by : (b : Bool) → AreTicks (ticks_from (i + 1) clocks) → AreTicks (cond b (ticks_from (i + 1) clocks) (Tick i (2 ^ 62 - 1) ∷ ticks_from (i + 1) clocks))
    by true rest = rest
    by false rest = (refl, rest)

-- What ticks leave.
ticks_keep : (m : Machine) (ticks : List Step) (w v : World) → AreTicks ticks → run m w ticks ≡ Some v → Sized m w → (v ≡ with_clocks w v.clocks) × Sized m v
ticks_keep m [] w v all r sized = (subst (λ x. x ≡ with_clocks w x.clocks) (some_is w v r) refl, subst (Sized m) (some_is w v r) sized)
ticks_keep m (step ∷ ticks) w v all r sized =
    bind_then (next m w step) (λ u. run m u ticks) v r λ u is rest.
    let below = ticks_keep m ticks u v all.1 rest (step_sized m w u step is sized) in
    (below.0 ∙ ap (λ x. with_clocks x v.clocks) (kept step all.0 u is), below.1)
  where
    kept : (step : Step) → is_tick step ≡ true → (u : World) → next m w step ≡ Some u → u ≡ with_clocks w u.clocks
    kept (Tick cpu clock) tick u is = let k = tick_taken m w u cpu clock is in subst (λ x. x ≡ with_clocks w x.clocks) k.leads_to refl
    kept _ tick u is = cc

late_same : (xs ys : List ℕ) → length xs ≡ length ys → map (λ c. 2 ^ 62 - 1) xs ≡ map (λ c. 2 ^ 62 - 1) ys
late_same [] [] e = refl
late_same [] (y ∷ ys) e = absurd (omega arith)
late_same (x ∷ xs) [] e = absurd (omega arith)
late_same (x ∷ xs) (y ∷ ys) e = ap (λ zs. (2 ^ 62 - 1) ∷ zs) (late_same xs ys (omega arith))

late_later : (xs : List ℕ) → IsLow xs → AreLater xs (map (λ c. 2 ^ 62 - 1) xs)
late_later [] low i = omega arith
late_later (x ∷ xs) low zero = omega (arith, low.0)
late_later (x ∷ xs) low (suc i) = late_later xs low.1 i

-- What is possible after ticks is possible with late clocks.
pub possible_late : (m : Machine) (w later v : World) (ticks : List Step) (step : Step) → Sized m w → AreTicks ticks → run m w ticks ≡ Some later → is_tick step ≡ false → next m later step ≡ Some v →
    is_some (next m (late w) step) ≡ true
possible_late m w later v ticks step sized all r not_tick h =
    let keeps = ticks_keep m ticks w later all r sized in
    let same : with_clocks later (map (λ c. 2 ^ 62 - 1) later.clocks) ≡ late w =
    ap (λ (x : World). with_clocks x (map (λ c. 2 ^ 62 - 1) later.clocks)) keeps.0
    ∙ ap (with_clocks w) (late_same later.clocks w.clocks (keeps.1.clocks ∙ sym sized.clocks)) in
    subst (λ x. is_some (next m x step) ≡ true) same (possible_later m later v (map (λ c. 2 ^ 62 - 1) later.clocks) step not_tick (late_later later.clocks keeps.1.low) h)

-- Some ticks lead to the world with late clocks.
pub late_reached : (m : Machine) (w : World) → Sized m w → run m w (ticks_from 0 w.clocks) ≡ Some (late w)
late_reached m w sized = run_ticks m w [] w.clocks 0 refl sized.low
