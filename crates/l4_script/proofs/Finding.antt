-- Threads are found by their numbers.
use Rattle.std.proofs.Common.{◌≡◌, ℕ, suc, ◌+◌, ◌<◌, ◌≤◌, arith, Bool, true, false, true≢false, cond, ◌∷◌, [], List, length, Option, Some, None, refl, sym, ap, ◌∙◌}
use Rattle.std.specs.Prelude.{not, find, slice_get, is_some}
use Rattle.std.specs.List.{position_or_len}
use Rattle.std.proofs.lemmas.Bool.{eq-eqb, ne_eqb}
use Rattle.std.proofs.lemmas.Grind.{common_steps}
use Rattle.std.proofs.lemmas.List.Elements.{All-from_get_or}
use Rattle.std.proofs.lemmas.List.Folds.{list_any_at, list_any_none}
use Rattle.std.proofs.lemmas.Option.{none-some, slice_get_past}
use Rattle.l4_model.specs.Words.{GlobalId, same_id}
use Rattle.l4_model.specs.Machine.{Declaration, Machine, place_of, declaration_of}
use Rattle.l4_model.proofs.Chains.{some_is}
use Rattle.l4_model.proofs.Places.{place_id}
use Rattle.l4_core_model.specs.Local.{declared, undeclared}
use Rattle.l4_core_model.specs.Runs.{IsMachine}
use Rattle.l4_script.specs.Machines.{AreFound, has_number, is_taken}

module _ (places : ℕ → Option ℕ) (m : Machine) (are : AreFound places m) where
  -- A thread whose number is this one has its place.
  numbered : (number i : ℕ) → i < length m.threads → (declared m i).id.number ≡ number → places number ≡ Some i
  numbered number i within named = ap places (sym named) ∙ are.each i within

  placed : (id : GlobalId) (i : ℕ) → place_of m id ≡ Some i → (places id.number ≡ Some i) × ((declared m i).id.version ≡ id.version)
  placed id i e =
      let at = place_id m id i e undeclared in
      (numbered id.number i at.0 (ap (λ (t : GlobalId). t.number) at.1), ap (λ (t : GlobalId). t.version) at.1)

  -- The thread at the place of the number, if its version is the same.
  pub found : (id : GlobalId) (i : ℕ) → IsMachine m → places id.number ≡ Some i → (declared m i).id.version ≡ id.version → place_of m id ≡ Some i
  found id i machine there same =
      let at = are.only id.number i there in
      let named : (declared m i).id ≡ id = λ j. record { number = at.1 j; version = same j } in
      ap (place_of m) (sym named) ∙ machine.placed i at.0

  pub other_version : (id : GlobalId) (i : ℕ) → places id.number ≡ Some i → ((declared m i).id.version ≡ id.version → ⊥) → place_of m id ≡ None
  other_version id i there other = by (place_of m id) refl
    where
      by : (o : Option ℕ) → place_of m id ≡ o → o ≡ None
      by None e = refl
      by (Some j) e =
          let at = placed id j e in
          let same : j ≡ i = some_is j i (sym at.0 ∙ there) in
          absurd (other (ap (λ (k : ℕ). (declared m k).id.version) (sym same) ∙ at.1))

  pub no_place : (id : GlobalId) → places id.number ≡ None → place_of m id ≡ None
  no_place id none = by (place_of m id) refl
    where
      by : (o : Option ℕ) → place_of m id ≡ o → o ≡ None
      by None e = refl
      by (Some j) e = absurd (none-some j (sym none ∙ (placed id j e).0))

  -- A number has a place where a thread has the number.
  pub taken : (number : ℕ) (o : Option ℕ) → o ≡ places number → is_some o ≡ is_taken number m
  taken number (Some i) e =
      let at = are.only number i (sym e) in
      sym (list_any_at (has_number number) m.threads i undeclared at.0 (eq-eqb (declared m i).id.number number at.1))
  taken number None e =
      let nobody : (i : ℕ) → i < length m.threads → has_number number (declared m i) ≡ false =
      λ i within. ne_eqb (declared m i).id.number number (λ named. none-some i (e ∙ numbered number i within named)) in
      sym (list_any_none (has_number number) m.threads (All-from_get_or (λ d. has_number number d ≡ false) m.threads undeclared nobody))

  pub free : (number : ℕ) → is_taken number m ≡ false → places number ≡ None
  free number fresh = by (places number) refl
    where
      by : (o : Option ℕ) → places number ≡ o → o ≡ None
      by None e = refl
      by (Some i) e = absurd (true≢false (taken number (Some i) (sym e) ∙ fresh))

-- What is found is what stands at the place that is found.
found_there : (p : Declaration → Bool) (ds : List Declaration) → find p ds ≡ slice_get ds (position_or_len p ds)
found_there p [] = refl
found_there p (d ∷ ds) = by (p d) (found_there p ds)
  where
    by : (b : Bool) → find p ds ≡ slice_get ds (position_or_len p ds) → cond b (Some d) (find p ds) ≡ slice_get (d ∷ ds) (cond (not b) (1 + position_or_len p ds) 0)
    by true e = refl
    by false e = let next : suc (position_or_len p ds) ≡ 1 + position_or_len p ds = omega arith in e ∙ ap (slice_get (d ∷ ds)) next

pub none_declared : (m : Machine) (id : GlobalId) → place_of m id ≡ None → declaration_of m id ≡ None
none_declared m id e =
    let p : Declaration → Bool = λ d. same_id d.id id in
    let le : length m.threads ≤ position_or_len p m.threads = grind (arith, common_steps) in
    found_there p m.threads ∙ slice_get_past m.threads (position_or_len p m.threads) le

pub declared_at : (m : Machine) (id : GlobalId) (i : ℕ) → place_of m id ≡ Some i → declaration_of m id ≡ slice_get m.threads i
declared_at m id i e =
    let p : Declaration → Bool = λ d. same_id d.id id in
    let at : position_or_len p m.threads ≡ i = grind (arith, common_steps) in
    found_there p m.threads ∙ ap (slice_get m.threads) at
