-- Text with colours, as terminals read it.
use Rattle.std.specs.Prelude.{◌≡◌, ℕ, Bool, true, false, ◌==◌, ◌&&◌, not, if◌then◌else◌, Option, List, [], ◌∷◌, ◌++◌, codes, flat_map, map}
use Rattle.std.specs.List.{join_with_byte, slice_split}
use Rattle.l4_streams.specs.Streams.{MayTake}
use Rattle.l4_colours.specs.Tones.{line_tone}
use Rattle.l4_colours.specs.declared.tones.Tone.{Tone}
use Rattle.l4_colours.specs.declared.tones.Tone.TheVariants.{Plain, Good, Fair, Bad}

-- Byte 27 is the escape of ECMA-48. `[31m` is red, `[32m` green, `[33m` yellow, `[0m` the end of
-- it.

abbrev pub begin_of : Tone → List ℕ
begin_of Plain = []
begin_of Good = 27 ∷ codes "[32m"
begin_of Fair = 27 ∷ codes "[33m"
begin_of Bad = 27 ∷ codes "[31m"

abbrev pub end : List ℕ
end = 27 ∷ codes "[0m"

abbrev pub end_of : Tone → List ℕ
end_of Plain = []
end_of Good = end
end_of Fair = end
end_of Bad = end

abbrev pub in_tone : Tone → (line : List ℕ) → List ℕ
in_tone tone line = begin_of tone ++ (line ++ end_of tone)

abbrev pub painted_line : (line : List ℕ) → List ℕ
painted_line line = in_tone (line_tone line) line

-- Line ends, byte 10, stay where they are.
abbrev pub painted : (text : List ℕ) → List ℕ
painted text = join_with_byte 10 (map painted_line (slice_split (λ byte. byte == 10) text))

-- What an output shows: without colours the very text.
abbrev pub shown : (colours : Bool) → (text : List ℕ) → List ℕ
shown true text = painted text
shown false text = text

-- An output took a text in parts, each of which is shown by itself: all of them, or a beginning. It
-- has colours afterwards where it had them before.
pub record TakesShown (old new : Option (List ℕ)) (colours kept : Bool) (text : List ℕ)
    (all : Bool) : Type 0 where
  pub parts : List (List ℕ)
  pub are_all : text ≡ flat_map (λ part. part) parts
  pub taken : MayTake old new (flat_map (shown colours) parts) all
  pub same : kept ≡ colours

-- A text without its escape sequences, each of which goes up to an `m`, byte 109. It begins within
-- one, or not.
abbrev pub without_colours : (within : Bool) → (text : List ℕ) → List ℕ
without_colours within [] = []
without_colours true (byte ∷ text) = without_colours (not (byte == 109)) text
without_colours false (byte ∷ text) =
    if byte == 27 then without_colours true text else byte ∷ without_colours false text

abbrev pub has_no_escape : (text : List ℕ) → Bool
has_no_escape [] = true
has_no_escape (byte ∷ text) = not (byte == 27) && has_no_escape text
