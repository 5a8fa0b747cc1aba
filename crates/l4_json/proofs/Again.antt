-- What an object tells is the line again.
use Rattle.std.proofs.Common.{◌≡◌, ℕ, ◌-◌, ◌<◌, Bool, true, false, cond, Option, Some, List, [], ◌∷◌, ◌++◌, get_or, length, map, take, option_and_then, slice_index, refl, sym, ap, subst, ◌∙◌, arith}
use Rattle.std.proofs.lemmas.Bool.{false≢true}
use Rattle.std.specs.Prelude.{◌==◌, ◌&&◌, ⊤, find, nat_lt, unwrap_or}
use Rattle.std.proofs.Math.Seq.{take-length}
use Rattle.std.proofs.lemmas.Bool.{eqb-true, ltb-true}
use Rattle.std.proofs.lemmas.List.{take_more}
use Rattle.std.specs.List.{join_with_byte}
use Rattle.std.specs.Str.{bytes_eq}
use Rattle.std.proofs.lemmas.List.Splits.{join_with_byte-slice_split}
use Rattle.std.proofs.lemmas.Slice.Eq.{bytes_eq-Decides}
use Rattle.json.specs.Json.{document}
use Rattle.l4_words.specs.Words.{words_in}
use Rattle.l4_words.proofs.FirstWord.{has_word}
use Rattle.l4_json.specs.Lines.{kind_of, members_of as line_members, object_of, text_of}
use Rattle.l4_json.specs.Objects.{Value, One, items_of, members_of}
use Rattle.l4_json.specs.Rows.{Part, Label, Word, Ended, Words, Text, Row, fits, is_ended, line_in, plain_row, row_named, row_of, rows, said, said_by, texts_in, told, without_end}
use Rattle.l4_json.proofs.Objects.{object_read}

-- Words that make one line, and are none together.

abbrev is_none : List (List ℕ) → Bool
is_none [] = true
is_none (word ∷ words) = false

record Same (a b : List (List ℕ)) : Type 0 where
  joined : join_with_byte 32 a ≡ join_with_byte 32 b
  none : is_none a ≡ is_none b

same_behind : (word : List ℕ) (a b : List (List ℕ)) → Same a b → Same (word ∷ a) (word ∷ b)
same_behind word [] [] same = record { joined = refl; none = refl }
same_behind word [] (y ∷ b) same = absurd (false≢true (sym same.none))
same_behind word (x ∷ a) [] same = absurd (false≢true same.none)
same_behind word (x ∷ a) (y ∷ b) same = record { joined = ap (λ r. word ++ 32 ∷ r) same.joined; none = refl }

same_first : (v w : List ℕ) (a b : List (List ℕ)) → v ≡ w → Same a b → Same (v ∷ a) (w ∷ b)
same_first v w a b e same = subst (λ x. Same (x ∷ a) (w ∷ b)) (sym e) (same_behind w a b same)

texts_again : (texts : List (List ℕ)) → texts_in (items_of texts) ≡ texts
texts_again [] = refl
texts_again (text ∷ others) = ap (λ r. text ∷ r) (texts_again others)

both : (a b : Bool) → (a && b) ≡ true → (a ≡ true) × (b ≡ true)
both true b e = (refl, e)
both false b e = absurd (false≢true e)

-- A word that is ended by a colon.

end_again : (word : List ℕ) → nat_lt 0 (length word) ≡ true → (slice_index word (length word - 1) == 58) ≡ true → without_end word ++ 58 ∷ [] ≡ word
end_again word some is =
    let within : length word - 1 < length word = omega (arith, ltb-true 0 (length word) some) in
    let last : get_or word (length word - 1) 0 ≡ 58 = eqb-true _ _ is in
    ap (λ (e : ℕ). without_end word ++ e ∷ []) (sym last)
    ∙ sym (take_more word (length word - 1) 0 within)
    ∙ ap (λ (n : ℕ). take n word) (omega (arith, ltb-true 0 (length word) some))
    ∙ take-length word

again : (parts : List Part) (words : List (List ℕ)) (more : List (List ℕ × Value)) → fits parts words ≡ true →
    Same (said parts (members_of (told parts words ++ more))) words
again [] [] more fit = record { joined = refl; none = refl }
again [] (word ∷ words) more fit = absurd (false≢true fit)
again (Label label ∷ parts) [] more fit = absurd (false≢true fit)
again (Label label ∷ parts) (word ∷ words) more fit =
    let two = both (bytes_eq word label) (fits parts words) fit in
    same_first label word _ words (sym ((bytes_eq-Decides word label).0 two.0)) (again parts words more two.1)
again (Word key ∷ parts) [] more fit = absurd (false≢true fit)
again (Word key ∷ parts) (word ∷ words) more fit = same_behind word _ words (again parts words more fit)
again (Ended key ∷ parts) [] more fit = absurd (false≢true fit)
again (Ended key ∷ parts) (word ∷ words) more fit =
    let two = both (is_ended word) (fits parts words) fit in
    let end = both (nat_lt 0 (length word)) (slice_index word (length word - 1) == 58) two.0 in
    same_first (without_end word ++ 58 ∷ []) word _ words (end_again word end.0 end.1) (again parts words more two.1)
again (Words key ∷ parts) words more fit =
    let same = texts_again words in
    record { joined = ap (join_with_byte 32) same; none = ap is_none same }
again (Text key ∷ parts) [] more fit = absurd (false≢true fit)
again (Text key ∷ parts) (word ∷ words) more fit = record { joined = refl; none = refl }

-- Each row is the one of its name.

abbrev IsNamed : Row → Type 0
IsNamed r = row_named r.kind ≡ Some r

abbrev AllNamed : List Row → Type 0
AllNamed [] = ⊤
AllNamed (r ∷ others) = IsNamed r × AllNamed others

chosen : (o : Option Row) (r : Row) (b : Bool) → IsNamed r → IsNamed (unwrap_or o plain_row) → IsNamed (unwrap_or (cond b (Some r) o) plain_row)
chosen o r true first rest = first
chosen o r false first rest = rest

found_named : (p : Row → Bool) (all : List Row) → AllNamed all → IsNamed (unwrap_or (find p all) plain_row)
found_named p [] named = refl
found_named p (r ∷ others) named = chosen (find p others) r (p r) named.0 (found_named p others named.1)

fitting : (p : Row → Bool) (o : Option Row) (r : Row) (b : Bool) → p r ≡ b → p (unwrap_or o plain_row) ≡ true → p (unwrap_or (cond b (Some r) o) plain_row) ≡ true
fitting p o r true e rest = e
fitting p o r false e rest = rest

found_fits : (p : Row → Bool) (all : List Row) → p plain_row ≡ true → p (unwrap_or (find p all) plain_row) ≡ true
found_fits p [] plain = plain
found_fits p (r ∷ others) plain = fitting p (find p others) r (p r) refl (found_fits p others plain)

all_named : AllNamed rows
all_named = (refl, (refl, (refl, (refl, (refl, (refl, (refl, (refl, (refl, (refl, (refl, (refl, (refl, (refl, (refl, (refl, (refl, (refl, (refl, (refl, (refl, (refl, (refl, (refl, (refl, (refl, (refl, (refl, (refl, (refl, (refl, (refl, (refl, (refl, (refl, (refl, (refl, (refl, (refl, (refl, (refl, (refl, (refl, tt)))))))))))))))))))))))))))))))))))))))))))

-- A line has a word, be it empty.
row_fits : (line : List ℕ) → fits (row_of (words_in line)).parts (words_in line) ≡ true
row_fits line =
    let some = has_word line in
    found_fits (λ r. fits r.parts (words_in line)) rows (ap (fits plain_row.parts) some.2)

told_again : (line : List ℕ) (more : List (List ℕ × List ℕ)) → line_in (object_of line more) ≡ Some line
told_again line more =
    let words = words_in line in
    let row = row_of words in
    let ms = members_of (line_members line more) in
    ap (λ r. said_by r ms) (found_named (λ r. fits r.parts words) rows all_named)
    ∙ ap (λ (l : List ℕ). Some l)
    ((again row.parts words (map (λ m. (m.0, One m.1)) more) (row_fits line)).joined ∙ join_with_byte-slice_split 32 line)

pub line_again : (line : List ℕ) (more : List (List ℕ × List ℕ)) → option_and_then line_in (document (text_of line more)) ≡ Some line
line_again line more = ap (option_and_then line_in) (object_read (kind_of line) (line_members line more)) ∙ told_again line more
