-- Words with a space before each of them but the first.
use Rattle.std.proofs.Common.{◌≡◌, ℕ, List, [], ◌∷◌, ◌++◌, map, sym, ap, append-nil, append_assoc}
use Rattle.std.specs.Prelude.{codes, flat_map}
use Rattle.std.specs.List.{join_with_byte}
use Rattle.l4_trace.specs.Lines.{hexadecimal, line_of_words}

pub join_words : (first : List ℕ) (words : List ℕ) → join_with_byte 32 (first ∷ map hexadecimal words) ≡ first ++ flat_map (λ word. codes " " ++ hexadecimal word) words
join_words first [] = sym (append-nil first)
join_words first (word ∷ words) = ap (λ rest. first ++ (32 ∷ rest)) (join_words (hexadecimal word) words)

-- The line of a delivery, put together piece by piece, before what is behind it.
pub delivery_line : (name receiver shown actual tag : List ℕ) (words rest : List ℕ) →
    codes "deliver" ++ (codes " " ++ name ++ (codes " " ++ receiver ++ (codes " " ++ shown ++ (codes " " ++ actual
    ++ (codes " " ++ tag ++ (flat_map (λ word. codes " " ++ hexadecimal word) words ++ 10 ∷ rest))))))
    ≡ line_of_words (codes "deliver" ∷ name ∷ receiver ∷ shown ∷ actual ∷ tag ∷ map hexadecimal words) ++ rest
delivery_line name receiver shown actual tag words rest = simp (join_words, append_assoc)
