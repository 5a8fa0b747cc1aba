-- A painted text without its colours.
use Rattle.std.proofs.Common.{◌≡◌, ℕ, Bool, true, false, List, [], ◌∷◌, ◌++◌, map, refl, ap, sym, ◌∙◌, append_assoc, append-nil}
use Rattle.std.specs.Prelude.{◌==◌, ◌&&◌, not, if◌then◌else◌}
use Rattle.std.specs.List.{join_with_byte, slice_split}
use Rattle.std.proofs.lemmas.List.Splits.{join_with_byte-slice_split}
use Rattle.l4_colours.specs.Painted.{begin_of, end_of, has_no_escape, in_tone, painted, painted_line, without_colours}
use Rattle.l4_colours.specs.Tones.{line_tone}
use Rattle.l4_colours.specs.declared.tones.Tone.{Tone}
use Rattle.l4_colours.specs.declared.tones.Tone.TheVariants.{Plain, Good, Fair, Bad}

both : (a b : Bool) → (a && b) ≡ true → (a ≡ true) × (b ≡ true)
both true true is = (refl, refl)
both true false is = absurd (let e = is in cc)
both false b is = absurd (let e = is in cc)

-- Bytes that are no escapes stay.
kept : (front rest : List ℕ) → has_no_escape front ≡ true → without_colours false (front ++ rest) ≡ front ++ without_colours false rest
kept [] rest none = refl
kept (byte ∷ front) rest none =
    let parts = both (not (byte == 27)) (has_no_escape front) none in
    by (byte == 27) parts.0 ∙ ap (λ xs. byte ∷ xs) (kept front rest parts.1)
  where
    by : (b : Bool) → not b ≡ true →
        (if b then without_colours true (front ++ rest) else byte ∷ without_colours false (front ++ rest)) ≡ byte ∷ without_colours false (front ++ rest)
    by true is = absurd (let e = is in cc)
    by false is = refl

-- What begins and what ends a tone goes.

begin_gone : (tone : Tone) (rest : List ℕ) → without_colours false (begin_of tone ++ rest) ≡ without_colours false rest
begin_gone Plain rest = refl
begin_gone Good rest = refl
begin_gone Fair rest = refl
begin_gone Bad rest = refl

end_gone : (tone : Tone) (rest : List ℕ) → without_colours false (end_of tone ++ rest) ≡ without_colours false rest
end_gone Plain rest = refl
end_gone Good rest = refl
end_gone Fair rest = refl
end_gone Bad rest = refl

toned : (tone : Tone) (line rest : List ℕ) → has_no_escape line ≡ true → without_colours false (in_tone tone line ++ rest) ≡ line ++ without_colours false rest
toned tone line rest none =
    ap (without_colours false) (append_assoc (begin_of tone) (line ++ end_of tone) rest ∙ ap (λ xs. begin_of tone ++ xs) (append_assoc line (end_of tone) rest))
    ∙ begin_gone tone (line ++ (end_of tone ++ rest)) ∙ kept line (end_of tone ++ rest) none ∙ ap (λ xs. line ++ xs) (end_gone tone rest)

-- A part of a text without an escape has none.

in_front : (front rest : List ℕ) → has_no_escape (front ++ rest) ≡ true → has_no_escape front ≡ true
in_front [] rest none = refl
in_front (byte ∷ front) rest none =
    let parts = both (not (byte == 27)) (has_no_escape (front ++ rest)) none in
    ap (λ b. b && has_no_escape front) parts.0 ∙ in_front front rest parts.1

in_rest : (front rest : List ℕ) → has_no_escape (front ++ rest) ≡ true → has_no_escape rest ≡ true
in_rest [] rest none = none
in_rest (byte ∷ front) rest none = in_rest front rest (both (not (byte == 27)) (has_no_escape (front ++ rest)) none).1

by_lines : (lines : List (List ℕ)) → has_no_escape (join_with_byte 10 lines) ≡ true → without_colours false (join_with_byte 10 (map painted_line lines)) ≡ join_with_byte 10 lines
by_lines [] none = refl
by_lines (line ∷ []) none =
    ap (without_colours false) (sym (append-nil (painted_line line))) ∙ toned (line_tone line) line [] none ∙ append-nil line
by_lines (line ∷ next ∷ lines) none =
    let rest = join_with_byte 10 (next ∷ lines) in
    let behind : has_no_escape rest ≡ true = in_rest (10 ∷ []) rest (in_rest line (10 ∷ rest) none) in
    toned (line_tone line) line (10 ∷ join_with_byte 10 (map painted_line (next ∷ lines))) (in_front line (10 ∷ rest) none)
    ∙ ap (λ xs. line ++ 10 ∷ xs) (by_lines (next ∷ lines) behind)

pub stripped : (text : List ℕ) → has_no_escape text ≡ true → without_colours false (painted text) ≡ text
stripped text none =
    let whole = join_with_byte-slice_split 10 text in
    by_lines (slice_split (λ byte. byte == 10) text) (ap has_no_escape whole ∙ none) ∙ whole
