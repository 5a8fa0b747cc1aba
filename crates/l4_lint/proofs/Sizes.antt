-- How long the parts of a text are.
use Rattle.std.proofs.Common.{◌≡◌, ℕ, ◌+◌, List, ◌∷◌, ◌++◌, length, sym, ap, ◌∙◌, arith}
use Rattle.std.specs.List.{join_with_byte}
use Rattle.std.proofs.lemmas.List.{length-append}
use Rattle.std.proofs.lemmas.List.Splits.{join_with_byte-slice_split}
use Rattle.l4_words.specs.Lines.{parts_of}
use Rattle.l4_words.proofs.Parts.{has_part}

joined : (first : List ℕ) (parts : List (List ℕ)) (next : List ℕ) (others : List (List ℕ)) → parts ≡ next ∷ others
    → join_with_byte 10 (first ∷ parts) ≡ first ++ 10 ∷ join_with_byte 10 parts
joined first parts next others e =
    ap (λ (ps : List (List ℕ)). join_with_byte 10 (first ∷ ps)) e
    ∙ ap (λ (ps : List (List ℕ)). first ++ 10 ∷ join_with_byte 10 ps) (sym e)

-- A text is its first line, a line end and the rest.
pub line_size : (text line rest : List ℕ) → parts_of text ≡ line ∷ parts_of rest → length text ≡ length line + 1 + length rest
line_size text line rest e =
    let part = has_part rest in
    let whole : text ≡ line ++ 10 ∷ rest =
    sym (join_with_byte-slice_split 10 text)
    ∙ ap (join_with_byte 10) e
    ∙ joined line (parts_of rest) part.0 part.1 part.2
    ∙ ap (λ (bs : List ℕ). line ++ 10 ∷ bs) (join_with_byte-slice_split 10 rest) in
    let size = ap (λ (bs : List ℕ). length bs) whole in
    omega (arith, size, length-append line (10 ∷ rest))
