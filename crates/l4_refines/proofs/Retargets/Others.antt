-- The owed retargets without one of them.
use Rattle.std.proofs.Common.{◌≡◌, Bool, true, false, cond, Some, List, [], ◌∷◌, ◌++◌, filter, refl, ap, sym, ◌∙◌, subst}
use Rattle.std.specs.Prelude.{not}
use Rattle.std.specs.List.{AllByRecursion}
use Rattle.l4_model.specs.World.{Owed, Name, same_name, owed_of, others_owed}
use Rattle.l4_model.specs.Reached.{AreNamedOnce}
use Rattle.l4_model.proofs.Places.{same_name_is, same_name_refl}
use Rattle.l4_core_model.proofs.Lists.{all-filter}

-- It is one of them.
pub record IsAmong (o : Owed) (owed : List Owed) : Type 0 where
  pub before : List Owed
  pub after : List Owed
  pub is : owed ≡ before ++ o ∷ after

pub only_among : (o : Owed) (owed : List Owed) → owed ≡ o ∷ [] → IsAmong o owed
only_among o owed is = record { before = []; after = []; is = is }

-- One that passes a test is one of all.
pub among_all : (p : Owed → Bool) (o : Owed) (owed : List Owed) → IsAmong o (filter p owed) → IsAmong o owed × (p o ≡ true)
among_all p o owed h = by owed h.before h.is
  where
    none : {P : Type 0} (xs : List Owed) → [] ≡ xs ++ o ∷ h.after → P
    none [] e = cc
    none (x ∷ xs) e = cc

    later : (x : Owed) (xs : List Owed) → IsAmong o xs × (p o ≡ true) → IsAmong o (x ∷ xs) × (p o ≡ true)
    later x xs r = (record { before = x ∷ r.0.before; after = r.0.after; is = ap (λ ys. x ∷ ys) r.0.is }, r.1)

    heads : (x y : Owed) (xs ys : List Owed) → x ∷ xs ≡ y ∷ ys → (x ≡ y) × (xs ≡ ys)
    heads x y xs ys e = (cc, cc)

    first : (x : Owed) (xs before : List Owed) → p x ≡ true → x ∷ filter p xs ≡ before ++ o ∷ h.after →
        ((before : List Owed) → filter p xs ≡ before ++ o ∷ h.after → IsAmong o xs × (p o ≡ true)) → IsAmong o (x ∷ xs) × (p o ≡ true)
    first x xs [] is e rest =
        let same = (heads x o (filter p xs) h.after e).0 in
        (record { before = []; after = xs; is = ap (λ y. y ∷ xs) same }, ap p (sym same) ∙ is)
    first x xs (b ∷ bs) is e rest = later x xs (rest bs (heads x b (filter p xs) (bs ++ o ∷ h.after) e).1)

    step : (x : Owed) (xs before : List Owed) (b : Bool) → p x ≡ b → cond b (x ∷ filter p xs) (filter p xs) ≡ before ++ o ∷ h.after →
        ((before : List Owed) → filter p xs ≡ before ++ o ∷ h.after → IsAmong o xs × (p o ≡ true)) → IsAmong o (x ∷ xs) × (p o ≡ true)
    step x xs before true is e rest = first x xs before is e rest
    step x xs before false is e rest = later x xs (rest before e)

    by : (owed before : List Owed) → filter p owed ≡ before ++ o ∷ h.after → IsAmong o owed × (p o ≡ true)
    by [] before e = none before e
    by (x ∷ xs) before e = step x xs before (p x) refl e (λ before e. by xs before e)

-- Each has a name of its own.

apart_sym : (a b : Name) → same_name a b ≡ false → same_name b a ≡ false
apart_sym a b h = by (same_name b a) refl
  where
    by : (c : Bool) → same_name b a ≡ c → c ≡ false
    by false is = refl
    by true is = let same : a ≡ b = sym (same_name_is b a is) in let yes : same_name a b ≡ true = ap (same_name a) (sym same) ∙ same_name_refl a in cc

apart_from : (x : Owed) (before after : List Owed) (o : Owed) → AllByRecursion (λ y. same_name x.send y.send ≡ false) (before ++ o ∷ after) →
    same_name o.send x.send ≡ false
apart_from x [] after o all = apart_sym x.send o.send all.0
apart_from x (b ∷ before) after o all = apart_from x before after o all.1

-- So it is what its name finds.
find_in : (before after : List Owed) (o : Owed) → AreNamedOnce (before ++ o ∷ after) → owed_of (before ++ o ∷ after) o.send ≡ Some o
find_in [] after o once = let same = same_name_refl o.send in rw same refl
find_in (x ∷ before) after o once = let apart = apart_from x before after o once.0 in rw apart (find_in before after o once.1)

pub found_among : (o : Owed) (owed : List Owed) → AreNamedOnce owed → IsAmong o owed → owed_of owed o.send ≡ Some o
found_among o owed once h =
    subst (λ xs. owed_of xs o.send ≡ Some o) (sym h.is) (find_in h.before h.after o (subst AreNamedOnce h.is once))

-- The others are those before it and behind it.
none_left : (o : Owed) (after : List Owed) → AllByRecursion (λ y. same_name o.send y.send ≡ false) after → others_owed after o.send ≡ after
none_left o [] all = refl
none_left o (x ∷ after) all = let apart = all.0 in rw apart (ap (λ xs. x ∷ xs) (none_left o after all.1))

pub others_in : (before after : List Owed) (o : Owed) → AreNamedOnce (before ++ o ∷ after) → others_owed (before ++ o ∷ after) o.send ≡ before ++ after
others_in [] after o once = let same = same_name_refl o.send in rw same (none_left o after once.0)
others_in (x ∷ before) after o once = let apart = apart_from x before after o once.0 in rw apart (ap (λ xs. x ∷ xs) (others_in before after o once.1))

pub once_filter : (p : Owed → Bool) (owed : List Owed) → AreNamedOnce owed → AreNamedOnce (filter p owed)
once_filter p [] h = tt
once_filter p (o ∷ owed) h = by (p o) (all-filter (λ x. same_name o.send x.send ≡ false) p owed h.0) (once_filter p owed h.1)
  where
    by : (b : Bool) → AllByRecursion (λ x. same_name o.send x.send ≡ false) (filter p owed) → AreNamedOnce (filter p owed) →
        AreNamedOnce (cond b (o ∷ filter p owed) (filter p owed))
    by true apart rest = (apart, rest)
    by false apart rest = rest

-- A test and the name may be asked in either order.
pub filter_others : (p : Owed → Bool) (s : Name) (owed : List Owed) → filter p (others_owed owed s) ≡ others_owed (filter p owed) s
filter_others p s [] = refl
filter_others p s (o ∷ owed) = by (p o) refl (same_name s o.send) refl (filter_others p s owed)
  where
    by : (a : Bool) → p o ≡ a → (b : Bool) → same_name s o.send ≡ b → filter p (others_owed owed s) ≡ others_owed (filter p owed) s →
        filter p (cond (not b) (o ∷ others_owed owed s) (others_owed owed s)) ≡ others_owed (cond a (o ∷ filter p owed) (filter p owed)) s
    by true pass true same rest = rw same rest
    by true pass false apart rest = rw (pass, apart) (ap (λ xs. o ∷ xs) rest)
    by false out true same rest = rest
    by false out false apart rest = rw out rest

-- What fails a test is not among those that pass it, so these stay.
pub others_stay : (p : Owed → Bool) (o : Owed) (owed : List Owed) → AreNamedOnce owed → IsAmong o owed → p o ≡ false → filter p (others_owed owed o.send) ≡ filter p owed
others_stay p o owed once h out =
    subst (λ xs. filter p (others_owed xs o.send) ≡ filter p xs) (sym h.is)
    (ap (filter p) (others_in h.before h.after o (subst AreNamedOnce h.is once)) ∙ sym (skips h.before))
  where
    skips : (xs : List Owed) → filter p (xs ++ o ∷ h.after) ≡ filter p (xs ++ h.after)
    skips [] = rw out refl
    skips (x ∷ xs) = ap (λ ys. cond (p x) (x ∷ ys) ys) (skips xs)
