-- Lists with an element for each processor, and tests of all processors.
use Rattle.std.proofs.Common.{◌≡◌, ℕ, ◌+◌, ◌<◌, ◌≤◌, Bool, true, Some, None, List, [], ◌∷◌, map, get_or, refl, ap, sym, ◌∙◌, arith}
use Rattle.std.specs.Prelude.{slice_get}
use Rattle.std.specs.List.{list_all}
use Rattle.std.proofs.lemmas.Option.{slice_get-get_or, slice_get_within, slice_get_past, get_or_from_slice_get}
use Rattle.std.proofs.lemmas.List.Sums.{AllPass-from_list_all, list_all-from_AllPass}
use Rattle.std.proofs.lemmas.List.FromFn.{length-range_with_len, get_or-range_with_len, length-map-range_with_len, get_or-map-range_with_len}
use Rattle.l4_model.specs.Machine.{Machine}
use Rattle.l4_core_model.specs.Local.{Local}
use Rattle.l4_core_model.specs.Runs.{processors}
use Rattle.l4_merge.specs.LocalTraces.{LocalTrace}

pub at_processor : {A : Type 0} (m : Machine) (f : ℕ → A) (cpu : ℕ) → cpu < m.cpus → slice_get (map f (processors m)) cpu ≡ Some (f cpu)
at_processor m f cpu lt =
    let size = length-map-range_with_len f 0 m.cpus in
    slice_get-get_or (map f (processors m)) cpu (f cpu) (omega arith) ∙ ap Some (get_or-map-range_with_len f 0 m.cpus cpu cpu (f cpu) lt (omega arith))

pub at_none : {A : Type 0} (m : Machine) (f : ℕ → A) (cpu : ℕ) → m.cpus ≤ cpu → slice_get (map f (processors m)) cpu ≡ None
at_none m f cpu past =
    let size = length-map-range_with_len f 0 m.cpus in
    slice_get_past (map f (processors m)) cpu (omega arith)

pub of_processor : {A : Type 0} (m : Machine) (f : ℕ → A) (cpu : ℕ) (x : A) → slice_get (map f (processors m)) cpu ≡ Some x → (cpu < m.cpus) × (f cpu ≡ x)
of_processor m f cpu x at =
    let size = length-map-range_with_len f 0 m.cpus in
    let within = slice_get_within (map f (processors m)) cpu x at in
    let lt : cpu < m.cpus = omega arith in
    (lt, sym (get_or_from_slice_get (map f (processors m)) cpu (f cpu) x (at_processor m f cpu lt)) ∙ get_or_from_slice_get (map f (processors m)) cpu x x at)

pub locals-map : (f : ℕ → LocalTrace) (cpus : List ℕ) → map (λ cpu. (f cpu).local) cpus ≡ map (λ past. past.local) (map f cpus)
locals-map f [] = refl
locals-map f (cpu ∷ cpus) = ap (λ (ls : List Local). (f cpu).local ∷ ls) (locals-map f cpus)

-- A test of all processors

pub all_processors : (m : Machine) (test : ℕ → Bool) → ((cpu : ℕ) → cpu < m.cpus → test cpu ≡ true) → list_all test (processors m) ≡ true
all_processors m test each =
    let size = length-range_with_len 0 m.cpus in
    list_all-from_AllPass test (processors m) (λ k d lt.
    let lt : k < m.cpus = omega arith in
    ap test (get_or-range_with_len 0 m.cpus k d lt) ∙ each (0 + k) (omega arith))

pub each_processor : (m : Machine) (test : ℕ → Bool) → list_all test (processors m) ≡ true → (cpu : ℕ) → cpu < m.cpus → test cpu ≡ true
each_processor m test all cpu lt =
    let size = length-range_with_len 0 m.cpus in
    let same : get_or (processors m) cpu 0 ≡ cpu = get_or-range_with_len 0 m.cpus cpu 0 lt ∙ omega arith in
    ap test (sym same) ∙ AllPass-from_list_all test (processors m) all cpu 0 (omega arith)
