-- What was taken, one part behind the other.
use Rattle.std.specs.Prelude.{◌≡◌, ℕ, Bool, true, false, Option, List, [], ◌∷◌, ◌++◌}
use Rattle.std.specs.Io.KnownBytes.{Appends}
use Rattle.std.proofs.Common.{ap, append_assoc, refl, sym, ◌∙◌}
use Rattle.std.proofs.KnownBytes.{Appends-trans}
use Rattle.l4_streams.specs.Streams.{MayTake, TakesSome}

-- What took bytes and then others, or a beginning of them, took a beginning of them all.
pub taken_on : (a b c : Option (List ℕ)) (front back : List ℕ) (all : Bool) → Appends a b front →
    MayTake b c back all → MayTake a c (front ++ back) all
taken_on a b c front back true before behind = Appends-trans a b c front back before behind
taken_on a b c front back false before (left, (more, parts, behind)) = (
  left,
  (
    front ++ more,
    ap (λ l. front ++ l) parts ∙ sym (append_assoc front more left),
    Appends-trans a b c front more before behind,
  ),
)

-- No bytes, in two parts, are none in each.
none_joined : (front back : List ℕ) → front ++ back ≡ [] → (front ≡ []) × (back ≡ [])
none_joined [] back none = (refl, none)
none_joined (byte ∷ front) back none = absurd (let bad = none in cc)

pub some_joined : {S : Type 0} → (takes : (old new : S) → (bytes : List ℕ) → (all : Bool) → Type 0) →
    (joined : (a b c : S) (front back : List ℕ) (all : Bool) → takes a b front true →
    takes b c back all → takes a c (front ++ back) all) → (a b c : S) (front back : List ℕ)
    (all : Bool) → TakesSome (takes a b) (b ≡ a) front true → TakesSome (takes b c) (c ≡ b) back all →
    TakesSome (takes a c) (c ≡ a) (front ++ back) all
some_joined takes joined a b c front back all before behind = (
  joined a b c front back all before.0 behind.0,
  λ none.
      let parts = none_joined front back none in
      behind.1 parts.1 ∙ before.1 parts.0,
)
