-- A word without typed items and its tag give each other back.
use Rattle.std.proofs.Common.{◌≡◌, ℕ, ◌/◌, ◌%◌, ◌^◌, arith}
use Rattle.l4_model.specs.Words.{word_of_tag, tag_of_word}

pub word_of_tag_of : (word : ℕ) → (word / 2 ^ 6) % 64 ≡ 0 → word_of_tag (tag_of_word word) ≡ word
word_of_tag_of word typed = omega arith
