-- The parts of a text.
use Rattle.std.proofs.Common.{◌≡◌, ℕ, ◌==◌, Bool, true, false, cond, List, [], ◌∷◌, refl, ap}
use Rattle.std.specs.List.{onto_first}
use Rattle.l4_words.specs.Lines.{parts_of}

-- A text has a part.
pub has_part : (text : List ℕ) → (first : List ℕ) × (others : List (List ℕ)) × (parts_of text ≡ first ∷ others)
has_part [] = ([], [], refl)
has_part (byte ∷ text) = by_test (byte == 10) (has_part text)
  where
    by_test : (b : Bool) → (first : List ℕ) × (others : List (List ℕ)) × (parts_of text ≡ first ∷ others) →
        (first : List ℕ) × (others : List (List ℕ)) × (cond b ([] ∷ parts_of text) (onto_first byte (parts_of text)) ≡ first ∷ others)
    by_test true part = ([], parts_of text, refl)
    by_test false part = (byte ∷ part.0, part.1, ap (onto_first byte) part.2)
