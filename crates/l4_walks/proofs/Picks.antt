-- What a walk goes on by.
use Rattle.std.proofs.Common.{◌≡◌, ℕ, zero, suc, ◌<◌, true, Option, None, Some, List, [], ◌∷◌, get_or, length, refl, subst, sym, arith}
use Rattle.std.specs.Prelude.{find, IsSome}
use Rattle.l4_model.specs.Machine.{Machine}
use Rattle.l4_model.specs.World.{World}
use Rattle.l4_first.specs.First.{stands_alone}
use Rattle.l4_futures.specs.Choices.{Choice, after_entry, possible, tried}
use Rattle.l4_futures.specs.Inner.Ends.{is_end}
use Rattle.l4_all_endings.specs.Tried.{entries_of, AreOpen}
use Rattle.l4_all_endings.proofs.Leading.{tried_open}

-- Where nothing is tried, nothing is possible.
pub none_tried : (m : Machine) (w : World) → length (entries_of (tried m w)) ≡ 0 →
    is_end m w ≡ true
none_tried m w none = by (find (λ c. stands_alone m c.step) (possible m w)) refl none
  where
    none_of : (cs : List Choice) → possible m w ≡ cs → length (entries_of cs) ≡ 0 →
        is_end m w ≡ true
    none_of [] is none = rw is refl
    none_of (c ∷ cs) is none = absurd (omega (arith, none))

    by : (o : Option Choice) → find (λ c. stands_alone m c.step) (possible m w) ≡ o →
        length (entries_of (tried m w)) ≡ 0 → is_end m w ≡ true
    by None at = rw at (none_of (possible m w) refl)
    by (Some own) at = rw at (λ none. absurd (omega (arith, none)))

at : (m : Machine) (w : World) (entries : List ℕ) (i d : ℕ) → AreOpen m w entries →
    i < length entries → IsSome (after_entry m w (get_or entries i d))
at m w [] i d is_open inside = absurd (omega (arith, inside))
at m w (e ∷ entries) zero d is_open inside = is_open.0
at m w (e ∷ entries) (suc i) d is_open inside = at m w entries i d is_open.1 (omega (arith, inside))

-- Each that is tried is possible.
pub one_tried : (m : Machine) (w : World) (entries : List ℕ) (i d entry : ℕ) →
    entries ≡ entries_of (tried m w) → i < length entries → entry ≡ get_or entries i d →
    IsSome (after_entry m w entry)
one_tried m w entries i d entry are inside is =
    subst (λ e. IsSome (after_entry m w e)) (sym is)
    (at m w entries i d (subst (AreOpen m w) (sym are) (tried_open m w)) inside)
