-- The table of the bytes that words may have.
use Rattle.std.proofs.Common.{◌≡◌, ℕ, ◌<◌, false, map, get_or, refl, ap, ◌∙◌, arith}
use Rattle.std.specs.List.{range_with_len}
use Rattle.std.proofs.lemmas.List.FromFn.{get_or-map-range_with_len}
use Rattle.l4_script.specs.Second.Lines.{is_word_byte}
use Rattle.l4_script.specs.declared.text.second.lines.TheConstants.{WORD_BYTES}

table_is : WORD_BYTES ≡ map is_word_byte (range_with_len 0 256)
table_is = refl

pub byte_at : (byte : ℕ) → byte < 256 → get_or WORD_BYTES byte false ≡ is_word_byte byte
byte_at byte below =
    ap (λ table. get_or table byte false) table_is
    ∙ get_or-map-range_with_len is_word_byte 0 256 byte byte false below (omega arith)
