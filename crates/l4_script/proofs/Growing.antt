-- A machine stays lawful as it grows.
use Rattle.std.proofs.Common.{◌≡◌, ℕ, ◌<◌, Bool, true, false, cond, ltb, eqb, List, [], ◌∷◌, ◌++◌, length, get_or, set, subst, Option, Some, None, refl, sym, ap, ◌∙◌, arith, inl, inr}
use Rattle.std.specs.List.{list_any, position, position_or_len}
use Rattle.std.proofs.lemmas.Bool.{cases_lt, ltb-true, lt-ltb, eqb-true, eq-eqb, ne_eqb, cases_eq, or_parts}
use Rattle.std.specs.Prelude.{Result, Ok, Err, OnOk, OnErr}
use Rattle.std.proofs.lemmas.List.{get_or_read, length_push, length-set, get_or_push, get_or_append_left, get_or-set_same, get_or-set_other}
use Rattle.std.proofs.lemmas.List.Folds.{list_any_at, position_or_len-set, position_or_len_push}
use Rattle.l4_model.specs.Words.{GlobalId, same_id}
use Rattle.l4_model.specs.Machine.{Instr, Declaration, Machine, place_of}
use Rattle.l4_model.proofs.Chains.{some_is}
use Rattle.l4_core_model.specs.Local.{declared, undeclared}
use Rattle.l4_script.specs.Machines.{AreFound, IsLawful, has_number, is_taken, with_instruction, with_thread, last_place, last_thread, extended}

-- Where a first passing place is known, and from one.
place : {A : Type 0} (p : A → Bool) (xs : List A) (i : ℕ) → position_or_len p xs ≡ i → i < length xs → position p xs ≡ Some i
place p xs i e l = rw (e, lt-ltb i (length xs) l)

pub place_is : {A : Type 0} (p : A → Bool) (xs : List A) (i : ℕ) → position p xs ≡ Some i → (position_or_len p xs ≡ i) × (i < length xs)
place_is p xs i e = by_test (ltb (position_or_len p xs) (length xs)) refl e
  where
    by_test : (b : Bool) → ltb (position_or_len p xs) (length xs) ≡ b → cond b (Some (position_or_len p xs)) None ≡ Some i → (position_or_len p xs ≡ i) × (i < length xs)
    by_test true t e = let same : position_or_len p xs ≡ i = cc in let below = ltb-true (position_or_len p xs) (length xs) t in (same, omega arith)
    by_test false t e = absurd cc

pub place-push : {A : Type 0} (p : A → Bool) (xs : List A) (y : A) (i : ℕ) → position p xs ≡ Some i → position p (xs ++ y ∷ []) ≡ Some i
place-push p xs y i e =
    let here = place_is p xs i e in
    let early : eqb (position_or_len p xs) (length xs) ≡ false = ne_eqb (position_or_len p xs) (length xs) (λ same. absurd (omega (arith, here.0, here.1))) in
    let stays : position_or_len p (xs ++ y ∷ []) ≡ i = position_or_len_push p xs y ∙ rw early here.0 in
    place p (xs ++ y ∷ []) i stays (omega (arith, length_push xs y, here.1))

none_passes : {A : Type 0} (p : A → Bool) (xs : List A) → list_any p xs ≡ false → position_or_len p xs ≡ length xs
none_passes p [] none = refl
none_passes p (x ∷ xs) none =
    let parts = or_parts (p x) (list_any p xs) none in
    rw (parts.0, none_passes p xs parts.1) (omega arith)

-- Who passes has a number, and nobody passes who has another.
numbered : (ds : List Declaration) (id : GlobalId) → list_any (has_number id.number) ds ≡ false → list_any (λ d. same_id d.id id) ds ≡ false
numbered [] id none = refl
numbered (d ∷ ds) id none =
    let parts = or_parts (has_number id.number d) (list_any (has_number id.number) ds) none in
    rw (parts.0, numbered ds id parts.1) refl

same_as_itself : (id : GlobalId) → same_id id id ≡ true
same_as_itself id = rw (eq-eqb id.number id.number refl, eq-eqb id.version id.version refl) refl

placed_new : (ds : List Declaration) (d : Declaration) → list_any (has_number d.id.number) ds ≡ false → position (λ x. same_id x.id d.id) (ds ++ d ∷ []) ≡ Some (length ds)
placed_new ds d fresh =
    let none = none_passes (λ x. same_id x.id d.id) ds (numbered ds d.id fresh) in
    let here : position_or_len (λ x. same_id x.id d.id) (ds ++ d ∷ []) ≡ length ds =
    position_or_len_push (λ x. same_id x.id d.id) ds d ∙ rw (none, eq-eqb (length ds) (length ds) refl, same_as_itself d.id) (omega arith) in
    place (λ x. same_id x.id d.id) (ds ++ d ∷ []) (length ds) here (omega (arith, length_push ds d))

pub lawful-with_thread : (d : Declaration) (m : Machine) → IsLawful m → length m.threads < 1024 → d.cpu < m.cpus → is_taken d.id.number m ≡ false → IsLawful (with_thread d m)
lawful-with_thread d m lawful room home fresh =
    record {
      machine = record { placed = placed; homed = homed };
      some = lawful.some;
      limit = lawful.limit;
      threads = omega (arith, length_push m.threads d);
    }
  where
    old : (i : ℕ) → i < length m.threads → declared (with_thread d m) i ≡ declared m i
    old i l = get_or_append_left m.threads (d ∷ []) undeclared i l

    new : declared (with_thread d m) (length m.threads) ≡ d
    new = get_or_push m.threads d undeclared (length m.threads) refl

    placed : (i : ℕ) → i < length (with_thread d m).threads → place_of (with_thread d m) (declared (with_thread d m) i).id ≡ Some i
    placed i l =
        elim (cases_lt i (length m.threads)) [
          | inl lt ↦ rw (old i lt) (place-push (λ x. same_id x.id (declared m i).id) m.threads d i (lawful.machine.placed i lt))
          | inr ge ↦ let e : i ≡ length m.threads = omega (arith, length_push m.threads d) in rw (e, new) (placed_new m.threads d fresh)
        ]

    homed : (i : ℕ) → i < length (with_thread d m).threads → (declared (with_thread d m) i).cpu < m.cpus
    homed i l =
        elim (cases_lt i (length m.threads)) [
          | inl lt ↦ rw (old i lt) (lawful.machine.homed i lt)
          | inr ge ↦ let e : i ≡ length m.threads = omega (arith, length_push m.threads d) in rw (e, new) home
        ]

-- Who has another number than the new thread is found as before.
pub found-with_thread : (places after : ℕ → Option ℕ) (d : Declaration) (m : Machine) → AreFound places m → is_taken d.id.number m ≡ false
    → ((number : ℕ) → after number ≡ cond (eqb number d.id.number) (Some (length m.threads)) (places number)) → AreFound after (with_thread d m)
found-with_thread places after d m are fresh is = record { each = each; only = only }
  where
    old : (i : ℕ) → i < length m.threads → declared (with_thread d m) i ≡ declared m i
    old i l = get_or_append_left m.threads (d ∷ []) undeclared i l

    new : declared (with_thread d m) (length m.threads) ≡ d
    new = get_or_push m.threads d undeclared (length m.threads) refl

    apart : (i : ℕ) → i < length m.threads → eqb (declared m i).id.number d.id.number ≡ false
    apart i l = by (eqb (declared m i).id.number d.id.number) refl
      where
        by : (b : Bool) → eqb (declared m i).id.number d.id.number ≡ b → b ≡ false
        by true e = sym (list_any_at (has_number d.id.number) m.threads i undeclared l e) ∙ fresh
        by false e = refl

    each : (i : ℕ) → i < length (with_thread d m).threads → after (declared (with_thread d m) i).id.number ≡ Some i
    each i l =
        elim (cases_lt i (length m.threads)) [
          | inl lt ↦ rw (old i lt, is (declared m i).id.number, apart i lt) (are.each i lt)
          | inr ge ↦ let e : i ≡ length m.threads = omega (arith, length_push m.threads d) in rw (e, new, is d.id.number, eq-eqb d.id.number d.id.number refl) refl
        ]

    Stands : (number i : ℕ) → Type 0
    Stands number i = (i < length (with_thread d m).threads) × ((declared (with_thread d m) i).id.number ≡ number)

    only : (number i : ℕ) → after number ≡ Some i → Stands number i
    only number i at = by (eqb number d.id.number) refl (sym (is number) ∙ at)
      where
        by : (b : Bool) → eqb number d.id.number ≡ b → cond b (Some (length m.threads)) (places number) ≡ Some i → Stands number i
        by true same e =
            subst (Stands number) (some_is (length m.threads) i e)
            (omega (arith, length_push m.threads d), ap (λ (x : Declaration). x.id.number) new ∙ sym (eqb-true number d.id.number same))
        by false other e =
            let there = are.only number i e in
            (omega (arith, there.0, length_push m.threads d), ap (λ (x : Declaration). x.id.number) (old i there.0) ∙ there.1)

pub found-same : (places after : ℕ → Option ℕ) (m : Machine) → AreFound places m → ((number : ℕ) → after number ≡ places number) → AreFound after m
found-same places after m are same = record {
  each = λ i within. same (declared m i).id.number ∙ are.each i within;
  only = λ number i at. are.only number i (sym (same number) ∙ at);
}

-- A change of a script changes neither ids nor processors.
module _ (ds : List Declaration) (k : ℕ) (d : Declaration) (in_range : k < length ds) (same : d.id ≡ (get_or ds k undeclared).id) where
  pub id-set : (i : ℕ) → (get_or (set ds k d) i undeclared).id ≡ (get_or ds i undeclared).id
  id-set i =
      elim (cases_eq i k) [
        | inl e ↦ rw (e, get_or-set_same ds k d undeclared in_range) same
        | inr ne ↦ rw (get_or-set_other ds k i d undeclared ne) refl
      ]

  pub place-set : (id : GlobalId) → position (λ x. same_id x.id id) (set ds k d) ≡ position (λ x. same_id x.id id) ds
  place-set id =
      let stays : position_or_len (λ x. same_id x.id id) (set ds k d) ≡ position_or_len (λ x. same_id x.id id) ds =
      position_or_len-set (λ x. same_id x.id id) ds k d undeclared (rw same refl) in
      rw (stays, length-set ds k d) refl

pub found-set : (places : ℕ → Option ℕ) (m : Machine) (k : ℕ) (d : Declaration) → AreFound places m → k < length m.threads → d.id ≡ (declared m k).id → AreFound places (record m { threads = set m.threads k d })
found-set places m k d are in_range same = record { each = each; only = only }
  where
    number : (i : ℕ) → (get_or (set m.threads k d) i undeclared).id.number ≡ (declared m i).id.number
    number i = ap (λ (id : GlobalId). id.number) (id-set m.threads k d in_range same i)

    each : (i : ℕ) → i < length (set m.threads k d) → places (get_or (set m.threads k d) i undeclared).id.number ≡ Some i
    each i l = ap places (number i) ∙ are.each i (omega (arith, l, length-set m.threads k d))

    only : (n i : ℕ) → places n ≡ Some i → (i < length (set m.threads k d)) × ((get_or (set m.threads k d) i undeclared).id.number ≡ n)
    only n i at = let there = are.only n i at in (omega (arith, there.0, length-set m.threads k d), number i ∙ there.1)

cpu-set : (ds : List Declaration) (k : ℕ) (d : Declaration) → k < length ds → d.cpu ≡ (get_or ds k undeclared).cpu → (i : ℕ) → (get_or (set ds k d) i undeclared).cpu ≡ (get_or ds i undeclared).cpu
cpu-set ds k d in_range same i =
    elim (cases_eq i k) [
      | inl e ↦ rw (e, get_or-set_same ds k d undeclared in_range) same
      | inr ne ↦ rw (get_or-set_other ds k i d undeclared ne) refl
    ]

pub lawful-set : (m : Machine) (k : ℕ) (d : Declaration) → IsLawful m → k < length m.threads → d.id ≡ (declared m k).id → d.cpu ≡ (declared m k).cpu → IsLawful (record m { threads = set m.threads k d })
lawful-set m k d lawful in_range id cpu =
    record {
      machine = record { placed = placed; homed = homed };
      some = lawful.some;
      limit = lawful.limit;
      threads = omega (arith, lawful.threads, length-set m.threads k d);
    }
  where
    placed : (i : ℕ) → i < length (set m.threads k d) → position (λ x. same_id x.id (get_or (set m.threads k d) i undeclared).id) (set m.threads k d) ≡ Some i
    placed i l = rw (id-set m.threads k d in_range id i, place-set m.threads k d in_range id (declared m i).id) (lawful.machine.placed i (omega (arith, length-set m.threads k d)))

    homed : (i : ℕ) → i < length (set m.threads k d) → (get_or (set m.threads k d) i undeclared).cpu < m.cpus
    homed i l = rw (cpu-set m.threads k d in_range cpu i) (lawful.machine.homed i (omega (arith, length-set m.threads k d)))

pub lawful-extended : (instr : Instr) (m : Machine) → IsLawful m → 0 < length m.threads → IsLawful (extended instr m)
lawful-extended instr m lawful some = lawful-set m (last_place m) (with_instruction instr (last_thread m)) lawful (omega arith) refl refl

-- A machine with the thread at a place changed in its script alone.
module _ (m : Machine) (k : ℕ) (old new : Declaration) (in_range : k < length m.threads) (there : old ≡ get_or m.threads k old) (kept : (new.id ≡ old.id) × (new.cpu ≡ old.cpu)) where
  at : old ≡ declared m k
  at = get_or_read m.threads k old in_range there undeclared

  pub lawful-changed : IsLawful m → IsLawful (record m { threads = set m.threads k new })
  lawful-changed lawful = lawful-set m k new lawful in_range (kept.0 ∙ ap (λ (d : Declaration). d.id) at) (kept.1 ∙ ap (λ (d : Declaration). d.cpu) at)

  pub found-changed : (places : ℕ → Option ℕ) → AreFound places m → AreFound places (record m { threads = set m.threads k new })
  found-changed places are = found-set places m k new are in_range (kept.0 ∙ ap (λ (d : Declaration). d.id) at)

pub keeps : {E : Type 0} (r : Result (Unit {0}) E) (instr : Instr) (old new : Declaration) → OnOk r (new ≡ with_instruction instr old) → OnErr r (new ≡ old) → (new.id ≡ old.id) × (new.cpu ≡ old.cpu)
keeps (Ok x) instr old new ok err = (ap (λ (d : Declaration). d.id) ok, ap (λ (d : Declaration). d.cpu) ok)
keeps (Err e) instr old new ok err = (ap (λ (d : Declaration). d.id) err, ap (λ (d : Declaration). d.cpu) err)
