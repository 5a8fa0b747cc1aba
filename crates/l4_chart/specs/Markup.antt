-- Texts that stand in markup.
use Rattle.std.specs.Prelude.{ℕ, ◌==◌, if◌then◌else◌, List, [], ◌∷◌, codes, flat_map}
use Rattle.std.specs.Str.Lossy.{utf8_lossy}

-- What would be read as markup is escaped: `&` is the byte 38, `<` 60, and `>` 62.
abbrev pub escaped_byte : ℕ → List ℕ
escaped_byte byte =
    if byte == 38 then codes "&amp;"
    else (if byte == 60 then codes "&lt;"
    else (if byte == 62 then codes "&gt;"
    else byte ∷ []))

-- In place of what is no UTF-8 stands U+FFFD.
abbrev pub escaped : (text : List ℕ) → List ℕ
escaped text = utf8_lossy (flat_map escaped_byte text)
