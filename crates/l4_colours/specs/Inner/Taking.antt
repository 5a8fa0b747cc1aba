-- Texts that are shown one behind the other.
use Rattle.std.specs.Prelude.{◌≡◌, ℕ, Bool, true, Option, List, [], ◌∷◌, ◌++◌, flat_map}
use Rattle.std.proofs.Common.{ap, append_assoc, refl, subst, sym, ◌∙◌}
use Rattle.std.proofs.KnownBytes.{Appends-nil}
use Rattle.l4_streams.specs.Inner.Taking.{taken_on}
use Rattle.l4_streams.specs.Streams.{MayTake}
use Rattle.l4_colours.specs.Painted.{shown, TakesShown}

flat_map_append : {A B : Type 0} (f : A → List B) (xs ys : List A) →
    flat_map f (xs ++ ys) ≡ flat_map f xs ++ flat_map f ys
flat_map_append f [] ys = refl
flat_map_append f (x ∷ xs) ys =
    ap (λ l. f x ++ l) (flat_map_append f xs ys)
    ∙ sym (append_assoc (f x) (flat_map f xs) (flat_map f ys))

pub shown_nothing : (contents : Option (List ℕ)) (colours : Bool) →
    TakesShown contents contents colours colours [] true
shown_nothing contents colours = record {
  parts = [];
  are_all = refl;
  taken = Appends-nil contents;
  same = refl;
}

pub shown_in_order : (a b c : Option (List ℕ)) (at_a at_b at_c : Bool) (front back : List ℕ)
    (all : Bool) → TakesShown a b at_a at_b front true → TakesShown b c at_b at_c back all →
    TakesShown a c at_a at_c (front ++ back) all
shown_in_order a b c at_a at_b at_c front back all before behind = record {
  parts = before.parts ++ behind.parts;
  are_all =
      ap (λ l. l ++ back) before.are_all
      ∙ ap (λ l. flat_map (λ part. part) before.parts ++ l) behind.are_all
      ∙ sym (flat_map_append (λ part. part) before.parts behind.parts);
  taken =
      subst (λ bytes. MayTake a c bytes all)
      (sym (flat_map_append (shown at_a) before.parts behind.parts))
      (taken_on a b c (flat_map (shown at_a) before.parts) (flat_map (shown at_a) behind.parts) all
      before.taken
      (subst (λ colours. MayTake b c (flat_map (shown colours) behind.parts) all) before.same
      behind.taken));
  same = behind.same ∙ before.same;
}
