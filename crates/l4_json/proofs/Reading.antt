-- The objects of lines are read as these lines: no line end stands in the text of an object.
use Rattle.std.proofs.Common.{◌≡◌, ℕ, ◌≤◌, ◌+◌, ◌/◌, ◌%◌, Bool, true, false, cond, List, [], ◌∷◌, ◌++◌, codes, flat_map, inl, inr, refl, sym, ap, ◌∙◌, append_assoc, arith}
use Rattle.std.specs.Prelude.{◌⊎◌, ◌==◌, ◌||◌, nat_lt, unwrap_or}
use Rattle.std.specs.Char.{digit_char}
use Rattle.std.specs.List.{join_with_byte}
use Rattle.std.proofs.lemmas.Bool.{and_from, eqb-true, false≢true, lt-ltb, or_cases}
use Rattle.std.proofs.lemmas.Bool.Decides.{nat_tests}
use Rattle.std.proofs.lemmas.List.Splits.{slice_split_at}
use Rattle.json.specs.Print.{escape, escape_byte, escape_letter, quoted}
use Rattle.l4_model.specs.Machine.{Machine}
use Rattle.l4_model.specs.Steps.{Step}
use Rattle.l4_model.specs.World.{World}
use Rattle.l4_trace.specs.Lines.{trace_of, words_of}
use Rattle.l4_words.specs.Lines.{parts_of}
use Rattle.l4_words.proofs.Above.{above_lower, above_parts, is_above, lacks}
use Rattle.l4_json.specs.Lines.{all_but_last, json_text, kind_of, line_told, lines_told, members_of, text_of, whole_lines}
use Rattle.l4_json.specs.Objects.{Value, One, Many, behind_text, member_text, object_text, value_text}
use Rattle.l4_json.specs.Steps.{behind, known, steps_text}
use Rattle.l4_json.proofs.Again.{line_again}
use Rattle.l4_json.proofs.Escapes.{long}
use Rattle.l4_json.proofs.Texts.{but_first_line}

-- Each byte of a text in quotes is above 31.

digit_above : (d : ℕ) → nat_lt 31 (digit_char d) ≡ true
digit_above d = by (nat_lt d 10)
  where
    by : (b : Bool) → nat_lt 31 (cond b (48 + d) (87 + d)) ≡ true
    by true = lt-ltb 31 (48 + d) (omega arith)
    by false = lt-ltb 31 (87 + d) (omega arith)

abbrev IsLetter : ℕ → Type 0
IsLetter letter = (letter ≡ 0) ⊎ (nat_lt 31 letter ≡ true)

either : (b : Bool) (a c : ℕ) → IsLetter a → IsLetter c → IsLetter (cond b a c)
either true a c first second = first
either false a c first second = second

itself : (x c : ℕ) (b : Bool) → ((x == 34) || (x == 92)) ≡ b → IsLetter c → IsLetter (cond b x c)
itself x c false is other = other
itself x c true is other = by (or_cases _ _ is)
  where
    by : ((x == 34) ≡ true) ⊎ ((x == 92) ≡ true) → IsLetter x
    by (inl e) = inr (ap (nat_lt 31) (eqb-true x 34 e))
    by (inr e) = inr (ap (nat_lt 31) (eqb-true x 92 e))

letter_above : (x : ℕ) → IsLetter (escape_letter x)
letter_above x =
    itself x _ _ refl
    (either (x == 8) 98 _ (inr refl)
    (either (x == 12) 102 _ (inr refl) (either (x == 10) 110 _ (inr refl) (either (x == 13) 114 _ (inr refl) (either (x == 9) 116 0 (inr refl) (inl refl))))))

some_letter : (letter : ℕ) → IsLetter letter → nat_lt 0 letter ≡ true → nat_lt 31 letter ≡ true
some_letter letter (inr above) some = above
some_letter letter (inl none) some = absurd (false≢true (ap (nat_lt 0) (sym none) ∙ some))

byte_above : (x : ℕ) → is_above 31 (escape_byte x) ≡ true
unfolding escape_byte
byte_above x = by (nat_lt 0 (escape_letter x)) (nat_lt x 32) refl refl
  where
    by : (b c : Bool) → nat_lt 0 (escape_letter x) ≡ b → nat_lt x 32 ≡ c →
        is_above 31 (cond b (92 ∷ escape_letter x ∷ []) (cond c (long x) (x ∷ []))) ≡ true
    by true c some small = and_from _ _ (some_letter (escape_letter x) (letter_above x) some) refl
    by false true none small = and_from _ _ (digit_above (x / 16)) (and_from _ _ (digit_above (x % 16)) refl)
    by false false none large = let least : 32 ≤ x = grind (arith, nat_tests) in and_from _ _ (lt-ltb 31 x (omega (arith, least))) refl

escape_above : (text : List ℕ) → is_above 31 (escape text) ≡ true
escape_above [] = refl
escape_above (x ∷ text) = above_parts 31 (escape_byte x) (escape text) (byte_above x) (escape_above text)

quoted_above : (text : List ℕ) → is_above 31 (quoted text) ≡ true
quoted_above text = above_parts 31 (escape text) (34 ∷ []) (escape_above text) refl

-- So is each byte of an object.

behind_above : (texts : List (List ℕ)) → is_above 31 (behind_text texts) ≡ true
behind_above [] = refl
behind_above (text ∷ others) = above_parts 31 (44 ∷ quoted text) (behind_text others) (quoted_above text) (behind_above others)

value_above : (v : Value) → is_above 31 (value_text v) ≡ true
value_above (One text) = quoted_above text
value_above (Many []) = refl
value_above (Many (text ∷ others)) =
    above_parts 31 ((91 ∷ quoted text) ++ behind_text others) (93 ∷ []) (above_parts 31 (91 ∷ quoted text) (behind_text others) (quoted_above text) (behind_above others)) refl

member_above : (m : List ℕ × Value) → is_above 31 (member_text m) ≡ true
member_above m =
    above_parts 31 ((44 ∷ quoted m.0) ++ 58 ∷ []) (value_text m.1) (above_parts 31 (44 ∷ quoted m.0) (58 ∷ []) (quoted_above m.0) refl) (value_above m.1)

members_above : (ms : List (List ℕ × Value)) → is_above 31 (flat_map member_text ms) ≡ true
members_above [] = refl
members_above (m ∷ others) = above_parts 31 (member_text m) (flat_map member_text others) (member_above m) (members_above others)

object_above : (kind : List ℕ) (ms : List (List ℕ × Value)) → is_above 31 (object_text kind ms) ≡ true
object_above kind ms =
    let first = 123 ∷ quoted (codes "kind") in
    let key = first ++ 58 ∷ [] in
    above_parts 31 ((key ++ quoted kind) ++ flat_map member_text ms) (125 ∷ [])
    (above_parts 31 (key ++ quoted kind) (flat_map member_text ms)
    (above_parts 31 key (quoted kind) (above_parts 31 first (58 ∷ []) (quoted_above (codes "kind")) refl) (quoted_above kind)) (members_above ms))
    refl

-- Objects that are read

first_object : (line rest : List ℕ) (more : List (List ℕ × List ℕ)) →
    parts_of ((text_of line more ++ codes "\n") ++ rest) ≡ text_of line more ∷ parts_of rest
first_object line rest more =
    let object = text_of line more in
    let above = above_lower 10 31 (omega arith) object (object_above (kind_of line) (members_of line more)) in
    ap parts_of (append_assoc object (10 ∷ []) rest) ∙ slice_split_at (λ x. x == 10) object 10 rest (lacks 10 object above) refl

pub first_told : (line rest : List ℕ) (more : List (List ℕ × List ℕ)) →
    lines_told ((text_of line more ++ codes "\n") ++ rest) ≡ (line ++ codes "\n") ++ lines_told rest
first_told line rest more =
    ap (flat_map (λ object. line_told object ++ codes "\n")) (but_first_line ((text_of line more ++ codes "\n") ++ rest) (text_of line more) rest (first_object line rest more))
    ∙ ap (λ o. (unwrap_or o [] ++ codes "\n") ++ lines_told rest) (line_again line more)

pub steps_told : (m : Machine) (lines : List (List ℕ)) (w : World) (steps : List Step) → lines_told (steps_text m lines w steps) ≡ trace_of steps
steps_told m lines w [] = refl
steps_told m lines w (step ∷ steps) =
    let line = join_with_byte 32 (words_of step) in
    let after = behind m w step in
    first_told line (steps_text m lines after steps) (known m lines w after step) ∙ ap (λ rest. (line ++ codes "\n") ++ rest) (steps_told m lines after steps)

lines_again : (lines : List (List ℕ)) → lines_told (flat_map (λ line. text_of line [] ++ codes "\n") lines) ≡ flat_map (λ line. line ++ codes "\n") lines
lines_again [] = refl
lines_again (line ∷ lines) =
    first_told line (flat_map (λ l. text_of l [] ++ codes "\n") lines) [] ∙ ap (λ rest. (line ++ codes "\n") ++ rest) (lines_again lines)

pub text_again : (text : List ℕ) → lines_told (json_text text) ≡ whole_lines text
text_again text = lines_again (all_but_last (parts_of text))
