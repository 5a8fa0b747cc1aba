-- Worlds of one code have the same ends, and the choices that are tried lose none.
use Rattle.std.proofs.Common.{subst, ◌≡◌, ℕ, zero, suc, ◌+◌, ◌<◌, Bool, true, false, cond, Option, Some, None, List, [], ◌∷◌, ◌++◌, length, map, refl, ap, sym, ◌∙◌, arith}
use Rattle.std.proofs.lemmas.List.{length-map}
use Rattle.std.specs.Prelude.{slice_get, is_some, find, filter_map}
use Rattle.std.specs.List.{range_with_len, cons_option}
use Rattle.std.specs.Option.{option_map}
use Rattle.l4_model.specs.Machine.{Machine}
use Rattle.l4_model.specs.World.{World, opening}
use Rattle.l4_model.specs.Conditions.{◌>>=◌}
use Rattle.l4_model.specs.Steps.{Step}
use Rattle.l4_model.proofs.Chains.{bind_then, guard_then, some_is, get-map}
use Rattle.l4_worlds.specs.Late.{next_late, run_late}
use Rattle.l4_worlds.specs.Histories.{IsTimed, IsStillLate}
use Rattle.l4_worlds.specs.Numberless.{numberless_step}
use Rattle.l4_worlds.specs.Bare.{AreAsGood}
use Rattle.l4_worlds.proofs.LateFutures.{late_futures, late_still}
use Rattle.l4_worlds.proofs.LateWorlds.{late_facts}
use Rattle.l4_worlds.proofs.Passing.{map_from}
use Rattle.l4_first.specs.First.{stands_alone, chosen, ListsLate}
use Rattle.l4_first.proofs.First.{choices}
use Rattle.l4_futures.specs.Inner.Codes.{code_of}
use Rattle.l4_futures.specs.Choices.{Choice, choice_at, step_at, entry_count, possible, tried, after_entry, after_entries, world_after}
use Rattle.l4_futures.specs.Inner.Ends.{is_end, EndsIn, GoesTowards, AreWays}
use Rattle.l4_futures.proofs.Coded.{coded}
use Rattle.l4_futures.proofs.Entries.{named}

-- What entries lead to is reached late.

pub record Late (m : Machine) (w v : World) : Type 0 where
  pub steps : List Step
  pub runs : run_late m w steps ≡ Some v

pub by_steps : (m : Machine) (entries : List ℕ) (w v : World) → after_entries m w entries ≡ Some v → Late m w v
by_steps m [] w v h = record { steps = []; runs = h }
by_steps m (e ∷ entries) w v h =
    bind_then (after_entry m w e) (λ u. after_entries m u entries) v h λ u one rest.
    bind_then (step_at m w e) (next_late m w) u one λ step at goes.
    let more = by_steps m entries u v rest in
    record { steps = step ∷ more.steps; runs = ap (λ o. o >>= λ x. run_late m x more.steps) goes ∙ more.runs }

pub run_late-append : (m : Machine) (xs ys : List Step) (w v u : World) → run_late m w xs ≡ Some v → run_late m v ys ≡ Some u → run_late m w (xs ++ ys) ≡ Some u
run_late-append m [] ys w v u first second = ap (λ x. run_late m x ys) (some_is w v first) ∙ second
run_late-append m (x ∷ xs) ys w v u first second =
    bind_then (next_late m w x) (λ y. run_late m y xs) v first λ y is rest.
    ap (λ o. o >>= λ z. run_late m z (xs ++ ys)) is ∙ run_late-append m xs ys y v u rest second

pub clocks_same : (m : Machine) (g h : List Step) (w v : World) → IsTimed m → run_late m (opening m) g ≡ Some w → run_late m (opening m) h ≡ Some v → length w.clocks ≡ length v.clocks
clocks_same m g h w v timed a b = (late_facts m g w timed a).clocks_counted ∙ sym (late_facts m h v timed b).clocks_counted

-- What is possible is listed, and nothing else is.

pub in_filter : {A B : Type 0} (f : A → Option B) (xs : List A) (i : ℕ) (x : A) (y : B) → slice_get xs i ≡ Some x → f x ≡ Some y → (j : ℕ) × (slice_get (filter_map f xs) j ≡ Some y)
in_filter f [] i x y at is = cc
in_filter f (z ∷ xs) zero x y at is = (0, ap (λ o. slice_get (cons_option o (filter_map f xs)) 0) (ap f (some_is z x at) ∙ is))
in_filter f (z ∷ xs) (suc i) x y at is = by (f z) (in_filter f xs i x y at is)
  where
    by : (o : Option _) → (j : ℕ) × (slice_get (filter_map f xs) j ≡ Some y) → (j : ℕ) × (slice_get (cons_option o (filter_map f xs)) j ≡ Some y)
    by None r = r
    by (Some u) r = (suc r.0, r.1)

from_filter : {A B : Type 0} (f : A → Option B) (xs : List A) (j : ℕ) (y : B) → slice_get (filter_map f xs) j ≡ Some y → (x : A) × (f x ≡ Some y)
from_filter f [] j y at = cc
from_filter f (x ∷ xs) j y at = by (f x) refl j at (λ k rest. from_filter f xs k y rest)
  where
    by : (o : Option _) → f x ≡ o → (j : ℕ) → slice_get (cons_option o (filter_map f xs)) j ≡ Some y → ((k : ℕ) → slice_get (filter_map f xs) k ≡ Some y → (x : _) × (f x ≡ Some y)) → (x : _) × (f x ≡ Some y)
    by None is j at rest = rest j at
    by (Some u) is zero at rest = (x, is ∙ at)
    by (Some u) is (suc j) at rest = rest j at

in_range : (a n i : ℕ) → i < n → slice_get (range_with_len a n) i ≡ Some (a + i)
in_range a zero i lt = absurd (omega arith)
in_range a (suc n) zero lt = ap (λ k. Some k) (omega arith)
in_range a (suc n) (suc i) lt = in_range (a + 1) n i (omega arith) ∙ ap (λ k. Some k) (omega arith)

in_first : (n i : ℕ) → i < n → slice_get (range_with_len 0 n) i ≡ Some i
in_first n i lt = in_range 0 n i lt ∙ ap (λ k. Some k) (omega arith)

abbrev steps_of : List Choice → List Step
steps_of cs = map (λ (c : Choice). c.step) cs

some_here : (o : Option World) (v : World) → o ≡ Some v → is_some o ≡ true
some_here o v h = ap is_some h

listed : (m : Machine) (w v : World) (step : Step) → next_late m w step ≡ Some v → (j : ℕ) × (slice_get (steps_of (possible m w)) j ≡ Some step)
listed m w v step goes =
    let n = named m w v step goes in
    let chosen_at : choice_at m w n.entry ≡ Some (record { entry = n.entry; step = step }) = rw (n.names, some_here (next_late m w step) v goes) refl in
    let at = in_filter (choice_at m w) (range_with_len 0 (entry_count m w)) n.entry n.entry (record { entry = n.entry; step = step }) (in_first (entry_count m w) n.entry n.within) chosen_at in
    (at.0, get-map (λ (c : Choice). c.step) (possible m w) at.0 (record { entry = n.entry; step = step }) at.1)

-- What is said of a choice that is listed
pub record IsChoice (m : Machine) (w : World) (c : Choice) : Type 0 where
  pub names : step_at m w c.entry ≡ Some c.step
  pub goes : is_some (next_late m w c.step) ≡ true

pub is_choice : (m : Machine) (w : World) (j : ℕ) (c : Choice) → slice_get (possible m w) j ≡ Some c → IsChoice m w c
is_choice m w j c at =
    let from = from_filter (choice_at m w) (range_with_len 0 (entry_count m w)) j c at in
    bind_then (step_at m w from.0) _ c from.1 λ step names rest.
    guard_then (is_some (next_late m w step)) _ c rest λ goes rest.
    let same : record { entry = from.0; step = step } ≡ c = some_is _ c rest in
    subst (IsChoice m w) same (record { names = names; goes = goes })

lists_late : (m : Machine) (w : World) → ListsLate m w (steps_of (possible m w))
lists_late m w = record {
  all = λ step v goes. listed m w v step goes;
  only = λ i step at.
      let c = map_from (λ (c : Choice). c.step) (slice_get (possible m w) i) step (sym (get_of_map (possible m w) i) ∙ at) in
      subst (λ s. is_some (next_late m w s) ≡ true) c.2 (is_choice m w i c.0 c.1).goes;
}
  where
    get_of_map : (cs : List Choice) (i : ℕ) → slice_get (steps_of cs) i ≡ option_map (λ (c : Choice). c.step) (slice_get cs i)
    get_of_map [] i = refl
    get_of_map (c ∷ cs) zero = refl
    get_of_map (c ∷ cs) (suc i) = get_of_map cs i

-- The choices that are tried have the chosen steps.

find_steps : (p : Step → Bool) (cs : List Choice) → find p (steps_of cs) ≡ option_map (λ (c : Choice). c.step) (find (λ c. p c.step) cs)
find_steps p [] = refl
find_steps p (c ∷ cs) = by (p c.step) (find_steps p cs)
  where
    by : (b : Bool) → find p (steps_of cs) ≡ option_map (λ (c : Choice). c.step) (find (λ c. p c.step) cs) →
        cond b (Some c.step) (find p (steps_of cs)) ≡ option_map (λ (c : Choice). c.step) (cond b (Some c) (find (λ c. p c.step) cs))
    by true rest = refl
    by false rest = rest

find_at : (p : Choice → Bool) (cs : List Choice) (c : Choice) → find p cs ≡ Some c → (i : ℕ) × (slice_get cs i ≡ Some c)
find_at p [] c h = cc
find_at p (x ∷ cs) c h = by (p x) h (λ rest. find_at p cs c rest)
  where
    by : (b : Bool) → cond b (Some x) (find p cs) ≡ Some c → (find p cs ≡ Some c → (i : ℕ) × (slice_get cs i ≡ Some c)) → (i : ℕ) × (slice_get (x ∷ cs) i ≡ Some c)
    by true h rest = (0, h)
    by false h rest = let at = rest h in (suc at.0, at.1)

record IsTried (m : Machine) (w : World) (step : Step) : Type 0 where
  place : ℕ
  choice : Choice
  at : slice_get (tried m w) place ≡ Some choice
  listed_at : (j : ℕ) × (slice_get (possible m w) j ≡ Some choice)
  same : choice.step ≡ step

is_tried : (m : Machine) (w : World) (i : ℕ) (step : Step) → slice_get (chosen m (steps_of (possible m w))) i ≡ Some step → IsTried m w step
is_tried m w i step at = by (find (λ c. stands_alone m c.step) (possible m w)) refl
  where
    get_of_map : (cs : List Choice) (i : ℕ) → slice_get (steps_of cs) i ≡ option_map (λ (c : Choice). c.step) (slice_get cs i)
    get_of_map [] i = refl
    get_of_map (c ∷ cs) zero = refl
    get_of_map (c ∷ cs) (suc i) = get_of_map cs i

    by : (o : Option Choice) → find (λ c. stands_alone m c.step) (possible m w) ≡ o → IsTried m w step
    by None is =
        let none : find (stands_alone m) (steps_of (possible m w)) ≡ None = find_steps (stands_alone m) (possible m w) ∙ ap (option_map (λ (c : Choice). c.step)) is in
        let all : slice_get (steps_of (possible m w)) i ≡ Some step = rw none at at in
        let c = map_from (λ (c : Choice). c.step) (slice_get (possible m w) i) step (sym (get_of_map (possible m w) i) ∙ all) in
        record { place = i; choice = c.0; at = rw is c.1; listed_at = (i, c.1); same = c.2 }
    by (Some own) is =
        let one : find (stands_alone m) (steps_of (possible m w)) ≡ Some own.step = find_steps (stands_alone m) (possible m w) ∙ ap (option_map (λ (c : Choice). c.step)) is in
        let here : slice_get (own.step ∷ []) i ≡ Some step = rw one at at in
        record { place = 0; choice = own; at = rw is refl; listed_at = find_at (λ c. stands_alone m c.step) (possible m w) own is; same = only i here }
      where
        only : (i : ℕ) → slice_get (own.step ∷ []) i ≡ Some step → own.step ≡ step
        only zero h = some_is own.step step h
        only (suc i) h = cc

-- Ends

pub none : (m : Machine) (w : World) (code : List ℕ) → EndsIn m w 0 code → code_of m w ≡ code
none m w code e = by e.steps e.as_many e.leads
  where
    by : (steps : List Step) → length steps ≡ 0 → run_late m w steps ≡ Some e.last → code_of m w ≡ code
    by [] zero_long leads = ap (code_of m) (some_is w e.last leads) ∙ e.coded
    by (s ∷ steps) long leads = absurd (omega arith)

pub same : (m : Machine) (g h : List ℕ) (w v : World) (more : ℕ) (code : List ℕ) → IsTimed m → world_after m g ≡ Some w → world_after m h ≡ Some v → code_of m w ≡ code_of m v → EndsIn m w more code → EndsIn m v more code
same m g h w v more code timed a b codes e =
    let x = by_steps m g (opening m) w a in
    let y = by_steps m h (opening m) v b in
    let good : AreAsGood w v = (coded m w v (clocks_same m x.steps y.steps w v timed x.runs y.runs)).0 codes in
    let f = late_futures m e.steps x.steps y.steps w v e.last timed x.runs y.runs good e.leads in
    let first = run_late-append m x.steps e.steps (opening m) w e.last x.runs e.leads in
    let second = run_late-append m y.steps f.more (opening m) v f.after y.runs f.leads_to in
    record {
      steps = f.more;
      as_many = sym (length-map f.more numberless_step) ∙ ap length f.same_steps ∙ length-map e.steps numberless_step ∙ e.as_many;
      last = f.after;
      leads = f.leads_to;
      still = late_still m (x.steps ++ e.steps) (y.steps ++ f.more) e.last f.after timed first second f.as_good e.still;
      coded = sym ((coded m e.last f.after (clocks_same m (x.steps ++ e.steps) (y.steps ++ f.more) e.last f.after timed first second)).1 f.as_good) ∙ e.coded;
    }

pub onwards : (m : Machine) (g : List ℕ) (w : World) (more : ℕ) (code : List ℕ) → IsTimed m → world_after m g ≡ Some w → EndsIn m w (suc more) code → GoesTowards m w more code
onwards m g w more code timed a e = by e.steps e.as_many e.leads
  where
    by : (steps : List Step) → length steps ≡ suc more → run_late m w steps ≡ Some e.last → GoesTowards m w more code
    by [] long leads = absurd (omega arith)
    by (s ∷ steps) long leads =
        let x = by_steps m g (opening m) w a in
        let on = choices m x.steps w e.last (steps_of (possible m w)) s steps timed x.runs (lists_late m w) leads e.still in
        let t = is_tried m w on.place on.step on.is_chosen in
        let c = is_choice m w t.listed_at.0 t.choice t.listed_at.1 in
        record {
          place = t.place;
          choice = t.choice;
          is_tried = t.at;
          behind = on.behind;
          leads = ap (λ o. o >>= next_late m w) c.names ∙ ap (next_late m w) t.same ∙ on.possible;
          ends = record { steps = on.steps; as_many = on.as_many ∙ omega (arith, long); last = e.last; leads = on.leads; still = e.still; coded = e.coded };
        }

pub at_end : (m : Machine) (w : World) → is_end m w ≡ true → IsStillLate m w
at_end m w end step = by (next_late m w step) refl
  where
    empty : (cs : List Choice) (j : ℕ) → (slice_get (steps_of cs) j ≡ Some step) → possible m w ≡ cs → ⊥
    empty [] j at is = cc
    empty (c ∷ cs) j at is = let no : is_end m w ≡ false = rw is refl in cc

    by : (o : Option World) → next_late m w step ≡ o → o ≡ None
    by None is = refl
    by (Some v) is = let at = listed m w v step is in absurd (empty (possible m w) at.0 at.1 refl)

pub ways : (m : Machine) → IsTimed m → AreWays m
ways m timed = record {
  none = λ w code e. none m w code e;
  same = λ g h w v more code a b codes e. same m g h w v more code timed a b codes e;
  onwards = λ g w more code a e. onwards m g w more code timed a e;
  at_end = λ g w a end. at_end m w end;
}
