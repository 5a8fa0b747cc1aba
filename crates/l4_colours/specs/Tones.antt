-- What a line is painted in.
use Rattle.std.specs.Prelude.{ℕ, Bool, true, false, ◌==◌, ◌||◌, bytes_eq, codes, if◌then◌else◌, List}
use Rattle.std.specs.List.{list_any, slice_split}
use Rattle.l4_colours.specs.declared.tones.Tone.{Tone}
use Rattle.l4_colours.specs.declared.tones.Tone.TheVariants.{Plain, Good, Fair, Bad}

abbrev pub is_plain : Tone → Bool
is_plain Plain = true
is_plain _ = false

-- `stuck 1.1 for ever, steps 13` has `ever,`, and `stuck for ever: cut` has not.
abbrev pub is_bad : (word : List ℕ) → Bool
is_bad word = bytes_eq word (codes "deadlock") || bytes_eq word (codes "ever,")

-- A circle, a send that is held, and each step that fails or drops something.
abbrev pub is_fair : (word : List ℕ) → Bool
is_fair word =
    bytes_eq word (codes "circle") || bytes_eq word (codes "held")
    || bytes_eq word (codes "stimeout") || bytes_eq word (codes "rtimeout")
    || bytes_eq word (codes "snobody") || bytes_eq word (codes "rnobody")
    || bytes_eq word (codes "scancel") || bytes_eq word (codes "rcancel")
    || bytes_eq word (codes "drop")

abbrev pub is_good : (word : List ℕ) → Bool
is_good word = bytes_eq word (codes "deliver")

-- Spaces, byte 32, part words.
abbrev pub words_in : (line : List ℕ) → List (List ℕ)
words_in line = slice_split (λ byte. byte == 32) line

abbrev pub has_word : (List ℕ → Bool) → (line : List ℕ) → Bool
has_word test line = list_any test (words_in line)

abbrev pub line_tone : (line : List ℕ) → Tone
line_tone line =
    if has_word is_bad line then Bad
    else (if has_word is_fair line then Fair
    else (if has_word is_good line then Good else Plain))
