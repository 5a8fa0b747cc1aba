-- The words that are left of the parts of a text.
use Rattle.std.proofs.Common.{◌≡◌, ℕ, ◌-◌, List, ap, sym, ◌∙◌}
use Rattle.std.specs.Prelude.{◌==◌, length, map, take}
use Rattle.std.specs.Borrow.{Bor}
use Rattle.std.specs.List.{slice_split}
use Rattle.std.proofs.lemmas.List.{length-map, take-map}
use Rattle.l4_c.specs.Words.{without_last, words_in}

pub words_left : (parts left : List (Bor (List ℕ))) (n : ℕ) (text : List ℕ) → n ≡ length parts → left ≡ take (n - 1) parts →
    map (λ part. part.now) parts ≡ slice_split (λ byte. byte == 0) text → map (λ part. part.now) left ≡ words_in text
words_left parts left n text count is split =
    ap (map (λ part. part.now)) is
    ∙ sym (take-map (λ (part : Bor (List ℕ)). part.now) (n - 1) parts)
    ∙ ap (λ k. take (k - 1) (map (λ (part : Bor (List ℕ)). part.now) parts)) (count ∙ sym (length-map parts (λ part. part.now)))
    ∙ ap without_last split
