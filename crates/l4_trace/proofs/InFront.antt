-- Lines that are read from the front of a text.
use Rattle.std.proofs.Common.{◌≡◌, ℕ, ◌+◌, ◌-◌, ◌*◌, ◌^◌, ◌<◌, ◌≤◌, suc, Bool, true, false, cond, ltb, List, [], ◌∷◌, ◌++◌, length, map, take, drop, get_or, Some, refl, sym, ap, ◌∙◌, append_assoc, arith}
use Rattle.std.specs.Prelude.{◌==◌, codes, decimal}
use Rattle.std.specs.Fmt.{digit_glyph}
use Rattle.std.specs.List.{list_all, join_with_byte}
use Rattle.std.proofs.Math.Nat.{pow-suc, pow-le-pow_right}
use Rattle.std.proofs.lemmas.Bool.{and_from, and_right, lt-ltb, ne_eqb}
use Rattle.std.proofs.lemmas.List.{take-append-drop, length-take-le, get_or-take}
use Rattle.std.proofs.lemmas.List.Splits.{join_with_byte-slice_split}
use Rattle.l4_model.specs.Words.{GlobalId, is_global}
use Rattle.l4_model.specs.World.{Name}
use Rattle.l4_model.specs.Steps.{Step, Deliver}
use Rattle.l4_words.specs.Lines.{parts_of}
use Rattle.l4_words.specs.Numbers.{digit_of, with_digit, number_onto, number_of, has_leading_zero}
use Rattle.l4_words.specs.Words.{words_in, first_hexadecimal}
use Rattle.l4_words.proofs.Found.{some_bind, some_same}
use Rattle.l4_words.proofs.Numerals.{digit_written, decimal_is_written, hexadecimal_is_written}
use Rattle.l4_words.proofs.Parts.{has_part}
use Rattle.l4_trace.specs.Lines.{has_line, hexadecimal, is_name, is_tag_of, is_word, line_of, name_word, thread_word}
use Rattle.l4_trace.specs.Reading.{message_words}
use Rattle.l4_trace.specs.Inner.Forward.{Ahead, IsNext, BeginsWith}
use Rattle.l4_trace.proofs.ReadSteps.{body_of, line_is_read, message_is_written}
use Rattle.l4_trace.proofs.ReadTexts.{parts_behind}

-- The step in front of what is left is the next one.
pub is_next : (step : Step) (rest text : List ℕ) (old new : Ahead) → BeginsWith step rest text → text ≡ old.rest →
    new.read ≡ old.read + 1 → new.rest ≡ rest → IsNext old step new
is_next step rest text old new begins here counted behind = record {
  line = body_of step;
  cut =
      ap parts_of (sym here ∙ begins.whole) ∙ parts_behind step rest begins.spelled
      ∙ ap (λ (r : List ℕ). body_of step ∷ parts_of r) (sym behind);
  spelled = line_is_read step begins.spelled;
  counted = counted;
}

-- A line of one word behind its front.
pub word_line : (step : Step) (front word rest text : List ℕ) → line_of step ≡ front ++ (word ++ (10 ∷ [])) →
    has_line step ≡ true → text ≡ front ++ (word ++ (10 ∷ rest)) → BeginsWith step rest text
word_line step front word rest text line spelled whole = record {
  spelled = spelled;
  whole = whole ∙ sym (rw line (simp append_assoc));
}

-- Decimal digits

pub room_for_digit : (value count : ℕ) → value < 10 ^ count → count < 16 → (value + 1) * 10 ≤ 2 ^ 64
room_for_digit value count small few =
    let power = pow-suc 10 count in
    let most : 10 ^ suc count ≤ 10 ^ 16 = pow-le-pow_right (omega arith) few in
    omega (arith, small, power, most)

pub next_is_small : (value digit count : ℕ) → value < 10 ^ count → digit < 10 → value * 10 + digit < 10 ^ (count + 1)
next_is_small value digit count small low =
    let power = pow-suc 10 count in
    let one : 10 ^ (count + 1) ≡ 10 ^ suc count = ap (λ (k : ℕ). 10 ^ k) (omega arith) in
    omega (arith, small, power, low, one)

pub digit_put : (value byte : ℕ) → 48 ≤ byte → byte ≤ 57 → value * 10 + (byte - 48) < 2 ^ 64 →
    with_digit 10 value byte ≡ Some (value * 10 + (byte - 48))
digit_put value byte low high small =
    let d : ℕ = byte - 48 in
    let below : ltb d 10 ≡ true = lt-ltb d 10 (omega arith) in
    let glyph : digit_glyph false d ≡ byte =
    ap (λ (b : Bool). cond b (48 + d) (87 + d)) below ∙ (let same : 48 + d ≡ byte = omega arith in same) in
    let read : digit_of 10 byte ≡ Some d = ap (digit_of 10) (sym glyph) ∙ digit_written 10 d (omega arith) (omega arith) in
    rw (read, lt-ltb (value * 10 + d) (2 ^ 64) small) refl

number_front : (value count : ℕ) (text : List ℕ) → number_of 10 (take count text) ≡ Some value →
    text ≡ decimal value ++ drop count text
number_front value count text read =
    sym (take-append-drop count text)
    ∙ ap (λ (word : List ℕ). word ++ drop count text) (sym (decimal_is_written value (take count text) read).1)

-- Digits of which the first is no zero are a number.
pub is_number : (value count : ℕ) (text : List ℕ) → 0 < count → count ≤ length text → (get_or text 0 0 ≡ 48 → ⊥) →
    number_onto 10 0 (take count text) ≡ Some value → text ≡ decimal value ++ drop count text
is_number value count text some within first read =
    let zero : has_leading_zero (take count text) ≡ false =
    and_right _ _ (ne_eqb (get_or (take count text) 0 0) 48 (λ e. first (sym (get_or-take count text 0 0 some) ∙ e))) in
    let filled : (length (take count text) == 0) ≡ false =
    ne_eqb (length (take count text)) 0 (λ e. absurd (omega (arith, e, length-take-le count text within, some))) in
    number_front value count text (rw (zero, filled) read)

pub zero_front : (text : List ℕ) → get_or text 0 0 ≡ 48 → text ≡ decimal 0 ++ drop 1 text
zero_front [] e = absurd (omega (arith, e))
zero_front (byte ∷ rest) e = number_front 0 1 (byte ∷ rest) (ap (λ (b : ℕ). number_of 10 (b ∷ [])) e)

pub some_text : (text : List ℕ) → 48 ≤ get_or text 0 0 → 0 < length text
some_text [] low = absurd (omega (arith, low))
some_text (byte ∷ rest) low = omega arith

pub first_digit : (text : List ℕ) → 48 ≤ get_or text 0 0 → get_or text 0 0 ≤ 57 →
    number_onto 10 0 (take 1 text) ≡ Some (get_or text 0 0 - 48)
first_digit [] low high = absurd (omega (arith, low))
first_digit (byte ∷ rest) low high =
    let value : 0 * 10 + (byte - 48) ≡ byte - 48 = omega arith in
    rw (digit_put 0 byte low high (omega (arith, high))) (ap (λ (n : ℕ). Some n) value)

-- The line of a delivery

line_cut : (line rest text : List ℕ) → parts_of text ≡ line ∷ parts_of rest → text ≡ line ++ (10 ∷ rest)
line_cut line rest text cut =
    let more = has_part rest in
    sym (join_with_byte-slice_split 10 text) ∙ ap (join_with_byte 10) cut
    ∙ ap (λ (ps : List (List ℕ)). join_with_byte 10 (line ∷ ps)) more.2
    ∙ ap (λ (ps : List (List ℕ)). line ++ (10 ∷ join_with_byte 10 ps)) (sym more.2)
    ∙ ap (λ (r : List ℕ). line ++ (10 ∷ r)) (join_with_byte-slice_split 10 rest)

first_is_written : (words others : List (List ℕ)) (tag : ℕ) → first_hexadecimal words ≡ Some (tag, others) →
    hexadecimal tag ∷ others ≡ words
first_is_written [] others tag e = absurd cc
first_is_written (word ∷ rest) others tag e =
    let n = some_bind (number_of 16 word) _ (tag, others) e in
    let same = some_same (n.0, rest) (tag, others) n.2 in
    sym (λ i. hexadecimal (same i).0 ∷ (same i).1) ∙ ap (λ (w : List ℕ). w ∷ rest) (hexadecimal_is_written n.0 word n.1).1

pub delivery_line : (s : Name) (receiver shown actual : GlobalId) (tag : ℕ) (words line rest cut text : List ℕ) (others : List (List ℕ)) →
    is_name s ≡ true → is_global receiver ≡ true → is_global shown ≡ true → is_global actual ≡ true →
    parts_of cut ≡ line ∷ parts_of rest → first_hexadecimal (words_in line) ≡ Some (tag, others) →
    message_words [] others ≡ Some words → is_tag_of tag words ≡ true →
    text ≡ codes "deliver " ++ (name_word s ++ (32 ∷ (thread_word receiver ++ (32 ∷ (thread_word shown ++ (32 ∷ (thread_word actual ++ (32 ∷ cut)))))))) →
    BeginsWith (Deliver s receiver shown actual tag words) rest text
delivery_line s receiver shown actual tag words line rest cut text others a b c d parts first read right whole =
    let m = message_is_written [] words others read in
    let message : map hexadecimal words ≡ others = ap (map hexadecimal) m.appended ∙ m.same in
    let spelled : join_with_byte 32 (hexadecimal tag ∷ map hexadecimal words) ≡ line =
    ap (λ (ws : List (List ℕ)). join_with_byte 32 (hexadecimal tag ∷ ws)) message
    ∙ ap (join_with_byte 32) (first_is_written (words_in line) others tag first) ∙ join_with_byte-slice_split 32 line in
    record {
      spelled = and_from _ _ (and_from _ _ (and_from _ _ (and_from _ _ (and_from _ _ a b) c) d) right) (ap (list_all is_word) m.appended ∙ m.are_words);
      whole = whole ∙ sym (rw (line_cut line rest cut parts) (rw (sym spelled) (simp append_assoc)));
    }
