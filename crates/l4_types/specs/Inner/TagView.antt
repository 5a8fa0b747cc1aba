-- The tag that a word of a format is, or why it is none: first by its size, then by its typed
-- words.
use Rattle.std.specs.Prelude.{ℕ, nat_lt, if◌then◌else◌, Result, Ok, Err}
use Rattle.l4_model.specs.Words.{Format, word_limit, MessageTag, has_typed_words, tag_of_word}
use Rattle.l4_types.specs.declared.tags.TagFault.{TagFault}
use Rattle.l4_types.specs.declared.tags.TagFault.TheVariants.{TypedItems, Wide}

abbrev pub tag_in : Format → ℕ → Result MessageTag TagFault
tag_in f word =
    if nat_lt word (word_limit f) then (if has_typed_words word then Err TypedItems
    else Ok (tag_of_word word))
    else Err Wide
