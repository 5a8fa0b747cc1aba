-- Which row a line has.
use Rattle.std.proofs.Common.{◌≡◌, ℕ, ◌+◌, ◌<◌, Bool, true, false, cond, Option, Some, None, List, [], ◌∷◌, ◌++◌, append-nil, drop, get_or, length, map, sym, ap, ◌∙◌, arith}
use Rattle.std.specs.Prelude.{find, flat_map, is_none, unwrap_or}
use Rattle.std.specs.Borrow.{Bor}
use Rattle.std.specs.List.{join_with_byte}
use Rattle.std.specs.Option.{option_copied}
use Rattle.std.proofs.lemmas.List.{drop_more}
use Rattle.std.proofs.lemmas.List.Splits.{join_with_byte-slice_split}
use Rattle.l4_words.specs.Words.{words_in, words_left}
use Rattle.l4_words.proofs.FirstWord.{has_word}
use Rattle.l4_json.specs.Objects.{One, member_text}
use Rattle.l4_json.specs.Rows.{Part, Text, fits, told}
use Rattle.l4_json.specs.Inner.Views.{part_of}
use Rattle.l4_json.specs.declared.rows.Part.{Part as RustPart}
use Rattle.l4_json.specs.declared.rows.Part.TheVariants.{Text as RustText}

pub nothing_left : (parts : List RustPart) (left : Option (Bor (List ℕ))) (b : Bool) → length parts ≡ 0 → b ≡ is_none left →
    b ≡ fits (map part_of parts) (words_left (option_copied left))
nothing_left [] None b e is = is
nothing_left [] (Some line) b e is = is ∙ sym (ap (fits []) (has_word line.now).2)
nothing_left (part ∷ parts) left b e is = absurd (omega arith)

text_fits : (key line : List ℕ) (parts : List Part) → true ≡ fits (Text key ∷ parts) (words_in line)
text_fits key line parts = sym (ap (fits (Text key ∷ parts)) (has_word line).2)

text_told : (key line : List ℕ) (parts : List Part) → told (Text key ∷ parts) (words_in line) ≡ (key, One line) ∷ []
text_told key line parts =
    let some = has_word line in
    ap (told (Text key ∷ parts)) some.2
    ∙ ap (λ (text : List ℕ). (key, One text) ∷ []) (ap (join_with_byte 32) (sym some.2) ∙ join_with_byte-slice_split 32 line)

-- Both where the first part of what is left is a text.

pub text_part_fits : (parts others : List RustPart) (part : RustPart) (key line : Bor (List ℕ)) (left : Option (Bor (List ℕ))) → parts ≡ part ∷ others → part ≡ RustText key →
    left ≡ Some line → true ≡ fits (map part_of parts) (words_left (option_copied left))
text_part_fits parts others part key line left e is some = rw (e, is, some) (text_fits key.now line.now (map part_of others))

pub text_part_told : (parts others : List RustPart) (part : RustPart) (key line : Bor (List ℕ)) (left : Option (Bor (List ℕ))) → parts ≡ part ∷ others → part ≡ RustText key →
    left ≡ Some line → (out new : List ℕ) → new ≡ out ++ member_text (key.now, One line.now) → new ≡ out ++ flat_map member_text (told (map part_of parts) (words_left (option_copied left)))
text_part_told parts others part key line left e is some out new step =
    let one : told (map part_of parts) (words_left (option_copied left)) ≡ (key.now, One line.now) ∷ [] = rw (e, is, some) (text_told key.now line.now (map part_of others)) in
    step
    ∙ ap (λ text. out ++ text) (sym (append-nil (member_text (key.now, One line.now))))
    ∙ ap (λ members. out ++ flat_map member_text members) (sym one)

-- The first of the elements from a place on.

pub found_here : {A B : Type 0} (p : B → Bool) (view : A → B) (all : List A) (i : ℕ) (d : A) (plain : B) → find p (map view (drop i all)) ≡ find p (map view all) → i < length all →
    p (view (get_or all i d)) ≡ true → view (get_or all i d) ≡ unwrap_or (find p (map view all)) plain
found_here p view all i d plain same within is =
    sym (ap (λ b. unwrap_or (cond b (Some (view (get_or all i d))) (find p (map view (drop (i + 1) all)))) plain) is)
    ∙ sym (ap (λ l. unwrap_or (find p (map view l)) plain) (drop_more all i d within))
    ∙ ap (λ o. unwrap_or o plain) same

pub not_here : {A B : Type 0} (p : B → Bool) (view : A → B) (all : List A) (i : ℕ) (d : A) → find p (map view (drop i all)) ≡ find p (map view all) → i < length all →
    p (view (get_or all i d)) ≡ false → find p (map view (drop (i + 1) all)) ≡ find p (map view all)
not_here p view all i d same within is =
    sym (ap (λ b. cond b (Some (view (get_or all i d))) (find p (map view (drop (i + 1) all)))) is)
    ∙ sym (ap (λ l. find p (map view l)) (drop_more all i d within))
    ∙ same
