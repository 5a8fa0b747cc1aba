-- The stations of a machine where nothing has happened.
use Rattle.std.proofs.Common.{◌≡◌, ℕ, zero, suc, ◌+◌, Option, Some, None, List, [], ◌∷◌, ◌++◌, map, length, get_or, refl, ap, sym, ◌∙◌, subst, arith}
use Rattle.std.specs.Prelude.{replicate, slice_get}
use Rattle.std.specs.List.{range_with_len}
use Rattle.std.proofs.lemmas.List.{map-append}
use Rattle.std.proofs.lemmas.List.FromFn.{length-map-range_with_len}
use Rattle.l4_model.specs.Machine.{Machine}
use Rattle.l4_core_model.specs.Letters.{Letter}
use Rattle.l4_core_model.specs.Local.{opening_local}
use Rattle.l4_core_model.specs.Runs.{processors, opening_system}
use Rattle.l4_merge.proofs.Processors.{of_processor}
use Rattle.l4_replay.specs.Stations.{Station}
use Rattle.l4_replay.specs.UnderWay.{letters_at, IsStation, IsSystem}

abbrev pub opening_station : Machine → (cpu : ℕ) → Station
opening_station m cpu = record {
  core = record { machine = m; cpu = cpu; local = opening_local m cpu };
  inbox = replicate m.cpus [];
}

length-replicate : {A : Type 0} (n : ℕ) (x : A) → length (replicate n x) ≡ n
length-replicate zero x = refl
length-replicate (suc n) x = ap suc (length-replicate n x)

pub replicate-push : {A : Type 0} (n : ℕ) (x : A) → replicate n x ++ x ∷ [] ≡ replicate (n + 1) x
replicate-push n x = let e : suc n ≡ n + 1 = omega arith in by n ∙ ap (λ k. replicate k x) e
  where
    by : (n : ℕ) → replicate n x ++ x ∷ [] ≡ replicate (suc n) x
    by zero = refl
    by (suc n) = ap (λ xs. x ∷ xs) (by n)

range-push_at : (s n : ℕ) → range_with_len s n ++ (s + n) ∷ [] ≡ range_with_len s (suc n)
range-push_at s zero = let e : s + 0 ≡ s = omega arith in ap (λ k. k ∷ []) e
range-push_at s (suc n) = let e : s + suc n ≡ s + 1 + n = omega arith in ap (λ xs. s ∷ xs) (ap (λ k. range_with_len (s + 1) n ++ k ∷ []) e ∙ range-push_at (s + 1) n)

pub opened_more : (m : Machine) (n : ℕ) (ss : List Station) (s : Station) → ss ≡ map (opening_station m) (range_with_len 0 n) → s ≡ opening_station m n →
    ss ++ s ∷ [] ≡ map (opening_station m) (range_with_len 0 (n + 1))
opened_more m n ss s is one =
    ap (λ xs. xs ++ s ∷ []) is ∙ ap (λ x. map (opening_station m) (range_with_len 0 n) ++ x ∷ []) one
    ∙ sym (map-append (opening_station m) (range_with_len 0 n) (n ∷ []))
    ∙ ap (map (opening_station m)) (let zero_more : n ≡ 0 + n = omega arith in ap (λ k. range_with_len 0 n ++ k ∷ []) zero_more ∙ range-push_at 0 n ∙ (let next : suc n ≡ n + 1 = omega arith in ap (range_with_len 0) next))

locals_are : (m : Machine) (cpus : List ℕ) → map (opening_local m) cpus ≡ map (λ (s : Station). s.core.local) (map (opening_station m) cpus)
locals_are m [] = refl
locals_are m (cpu ∷ cpus) = ap (λ ls. opening_local m cpu ∷ ls) (locals_are m cpus)

none_at : (n i : ℕ) → get_or {A = List Letter} (replicate n []) i [] ≡ []
none_at zero i = refl
none_at (suc n) zero = refl
none_at (suc n) (suc i) = none_at n i

pub opened_system : (m : Machine) (ss : List Station) → ss ≡ map (opening_station m) (processors m) → IsSystem m (opening_system m) ss
opened_system m ss is = subst (IsSystem m (opening_system m)) (sym is) (record {
  for_each = length-map-range_with_len (opening_station m) 0 m.cpus;
  each = λ cpu s at. let it = of_processor m (opening_station m) cpu s at in
      subst (IsStation m cpu) it.1 (record { machine = refl; cpu_is = refl; inbox = length-replicate m.cpus [] });
  locals = locals_are m (processors m);
  mail = λ from to. none from (slice_get (map (opening_station m) (processors m)) to) to refl;
})
  where
    none : (from : ℕ) (o : Option Station) (to : ℕ) → slice_get (map (opening_station m) (processors m)) to ≡ o → [] ≡ letters_at from o
    none from None to at = refl
    none from (Some s) to at = let it = of_processor m (opening_station m) to s at in sym (ap (λ is. get_or is from []) (ap (λ (x : Station). x.inbox) (sym it.1)) ∙ none_at m.cpus from)
