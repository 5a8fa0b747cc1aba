-- The ends of events, and the events between them.
use Rattle.std.proofs.Common.{◌≡◌, ℕ, ◌≤◌, true, zero, suc, List, [], ◌∷◌, ◌++◌, length, take, drop, refl, ap, sym, ◌∙◌, arith}
use Rattle.std.specs.Prelude.{nat_le, slice_get, Option, Some}
use Rattle.std.proofs.lemmas.Bool.{and_parts, and_from, eqb-true, eq-eqb, leb-true, le-leb}
use Rattle.std.proofs.lemmas.List.{drop_all, take-append-le}
use Rattle.l4_model.specs.Steps.{Step}
use Rattle.l4_core_model.specs.Runs.{Event, told}
use Rattle.l4_proc.specs.declared.end_rows.End.{End}
use Rattle.l4_proc.specs.Ends.{are_ends, events_between, start_of}

pub as_many : (cpu first : ℕ) (ends : List End) (steps : List Step) → length (events_between cpu first ends steps) ≡ length ends
as_many cpu first [] steps = refl
as_many cpu first (end ∷ ends) steps = ap suc (as_many cpu end.place ends steps)

-- No end stands behind the last.
pub end_within : (ends : List End) (first last : ℕ) → are_ends first ends last ≡ true → first ≤ last
end_within [] first last are = omega (arith, eqb-true first last are)
end_within (end ∷ ends) first last are =
    let parts = and_parts (nat_le first end.place) (are_ends end.place ends last) are in
    omega (arith, leb-true first end.place parts.0, end_within ends end.place last parts.1)

pub each_within : (ends : List End) (first last i : ℕ) (end : End) → are_ends first ends last ≡ true → slice_get ends i ≡ Some end → end.place ≤ last
each_within [] first last i end are is = absurd cc
each_within (e ∷ ends) first last zero end are is =
    let parts = and_parts (nat_le first e.place) (are_ends e.place ends last) are in
    let same : e ≡ end = cc in
    omega (arith, end_within ends e.place last parts.1, ap (λ (x : End). x.place) same)
each_within (e ∷ ends) first last (suc i) end are is =
    each_within ends e.place last i end (and_parts (nat_le first e.place) (are_ends e.place ends last) are).1 is

-- An event begins where the one before it ends.
pub start_at : (ends : List End) (first before : ℕ) (end : End) → slice_get ends before ≡ Some end → end.place ≡ start_of first ends (suc before)
start_at [] first before end is = absurd cc
start_at (e ∷ ends) first zero end is = let same : end ≡ e = cc in ap (λ (x : End). x.place) same
start_at (e ∷ ends) first (suc before) end is = start_at ends e.place before end is

pub event_at : (cpu first : ℕ) (ends : List End) (steps : List Step) (i : ℕ) (end : End) → slice_get ends i ≡ Some end →
    slice_get (events_between cpu first ends steps) i ≡ Some (record { cpu = cpu; stamp = end.stamp; steps = drop (start_of first ends i) (take end.place steps) })
event_at cpu first [] steps i end is = absurd cc
event_at cpu first (e ∷ ends) steps zero end is =
    let same : e ≡ end = cc in
    let first_event : End → Option Event = λ x. Some (record { cpu = cpu; stamp = x.stamp; steps = drop first (take x.place steps) }) in ap first_event same
event_at cpu first (e ∷ ends) steps (suc i) end is = event_at cpu e.place ends steps i end is

-- The events together have all steps.

halves : (steps : List Step) (n : ℕ) → take n steps ++ drop n steps ≡ steps
halves [] zero = refl
halves [] (suc n) = refl
halves (x ∷ steps) zero = refl
halves (x ∷ steps) (suc n) = ap (λ xs. x ∷ xs) (halves steps n)

parted : (steps : List Step) (first last : ℕ) → first ≤ last → drop first (take last steps) ++ drop last steps ≡ drop first steps
parted steps zero last le = halves steps last
parted [] (suc first) zero le = absurd (omega arith)
parted [] (suc first) (suc last) le = refl
parted (x ∷ steps) (suc first) zero le = absurd (omega arith)
parted (x ∷ steps) (suc first) (suc last) le = parted steps first last (omega arith)

pub told_between : (cpu first : ℕ) (ends : List End) (steps : List Step) → are_ends first ends (length steps) ≡ true →
    told (events_between cpu first ends steps) ≡ drop first steps
told_between cpu first [] steps are = sym (drop_all first steps (omega (arith, eqb-true first (length steps) are)))
told_between cpu first (end ∷ ends) steps are =
    let parts = and_parts (nat_le first end.place) (are_ends end.place ends (length steps)) are in
    ap (λ xs. drop first (take end.place steps) ++ xs) (told_between cpu end.place ends steps parts.1)
    ∙ parted steps first end.place (leb-true first end.place parts.0)

-- One more end

pub are_pushed : (ends : List End) (first last : ℕ) (end : End) → are_ends first ends last ≡ true → last ≤ end.place →
    are_ends first (ends ++ end ∷ []) end.place ≡ true
are_pushed [] first last end are next =
    let same = eqb-true first last are in
    and_from _ _ (le-leb first end.place (omega (arith, same))) (eq-eqb end.place end.place refl)
are_pushed (e ∷ ends) first last end are next =
    let parts = and_parts (nat_le first e.place) (are_ends e.place ends last) are in
    and_from _ _ parts.0 (are_pushed ends e.place last end parts.1 next)

pub events_pushed : (cpu first last : ℕ) (ends : List End) (steps : List Step) (end : End) → are_ends first ends last ≡ true →
    events_between cpu first (ends ++ end ∷ []) steps ≡ events_between cpu first ends steps ++ record {
      cpu = cpu;
      stamp = end.stamp;
      steps = drop
          last (take end.place steps);
    } ∷ []
events_pushed cpu first last [] steps end are =
    ap (λ (n : ℕ). record { cpu = cpu; stamp = end.stamp; steps = drop n (take end.place steps) } ∷ []) (eqb-true first last are)
events_pushed cpu first last (e ∷ ends) steps end are =
    ap (λ (rest : List Event). record { cpu = cpu; stamp = e.stamp; steps = drop first (take e.place steps) } ∷ rest)
    (events_pushed cpu e.place last ends steps end (and_parts (nat_le first e.place) (are_ends e.place ends last) are).1)

-- More steps

pub events_kept : (cpu first last : ℕ) (ends : List End) (steps more : List Step) → are_ends first ends last ≡ true → last ≤ length steps →
    events_between cpu first ends (steps ++ more) ≡ events_between cpu first ends steps
events_kept cpu first last [] steps more are within = refl
events_kept cpu first last (e ∷ ends) steps more are within =
    let parts = and_parts (nat_le first e.place) (are_ends e.place ends last) are in
    let fits : e.place ≤ length steps = omega (arith, within, end_within ends e.place last parts.1) in
    rw (take-append-le e.place steps more fits, events_kept cpu e.place last ends steps more parts.1 within) refl
