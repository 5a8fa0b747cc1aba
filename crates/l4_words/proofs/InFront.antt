-- Threads and names in front of a text, and the first word of a line.
use Rattle.std.proofs.Common.{◌≡◌, ℕ, ◌+◌, ◌<◌, ◌^◌, true, List, [], ◌∷◌, ◌++◌, length, take, drop, get_or, Some, refl, sym, ap, ◌∙◌, arith, suc, take-add, drop-cons, take_all, append_assoc}
use Rattle.std.specs.Prelude.{◌==◌, codes, decimal}
use Rattle.std.proofs.lemmas.Bool.{and_parts, ltb-true, lt-ltb}
use Rattle.std.proofs.lemmas.List.{take-append-drop}
use Rattle.std.proofs.lemmas.List.Splits.{slice_split_none, slice_split_at}
use Rattle.l4_model.specs.Words.{GlobalId}
use Rattle.l4_model.specs.World.{Name}
use Rattle.l4_words.specs.Numbers.{number_of}
use Rattle.l4_words.specs.Threads.{thread_word, thread_of_numbers, thread_of}
use Rattle.l4_words.specs.Names.{name_of}
use Rattle.l4_words.specs.Words.{words_in, first_as}
use Rattle.l4_words.proofs.Above.{is_above, above_lower, above_parts, lacks, decimal_is_above, front_of, back_of}
use Rattle.l4_words.proofs.Numerals.{decimal_is_written}
use Rattle.l4_words.proofs.ReadNames.{name_is_written}
use Rattle.l4_words.proofs.Spelled.{thread_is_above, thread_is_written}

-- From a place on stand the byte that is there and what follows it.
behind_byte : (b : ℕ) (text : List ℕ) (at : ℕ) → at < length text → get_or text at 0 ≡ b → drop at text ≡ b ∷ drop (at + 1) text
behind_byte b text at within e =
    let one : suc at ≡ at + 1 = omega arith in
    let next : drop (suc at) text ≡ drop (at + 1) text = ap (λ (k : ℕ). drop k text) one in
    drop-cons text at 0 within ∙ (λ i. e i ∷ next i)

seam : (b : ℕ) (text : List ℕ) (at digits : ℕ) → at < length text → get_or text at 0 ≡ b →
    take (at + 1 + digits) text ≡ take at text ++ (b ∷ []) ++ take digits (drop (at + 1) text)
seam b text at digits within e =
    let places : at + 1 + digits ≡ at + suc digits = omega arith in
    ap (λ (k : ℕ). take k text) places ∙ take-add at (suc digits) text
    ∙ ap (λ (rest : List ℕ). take at text ++ take (suc digits) rest) (behind_byte b text at within e)
    ∙ sym (append_assoc (take at text) (b ∷ []) (take digits (drop (at + 1) text)))

number_is_above : (word : List ℕ) (n : ℕ) → number_of 10 word ≡ Some n → is_above 46 word ≡ true
number_is_above word n e =
    let written = decimal_is_written n word e in
    sym (ap (is_above 46) written.1) ∙ decimal_is_above n written.0

thread_above : (word : List ℕ) (t : GlobalId) → thread_of word ≡ Some t → is_above 35 word ≡ true
thread_above word t e =
    let written = thread_is_written word t e in
    sym (ap (is_above 35) written.1) ∙ thread_is_above t written.0

pub thread_front : (text : List ℕ) (dot digits number version : ℕ) (t : GlobalId) → dot < length text → get_or text dot 0 ≡ 46 →
    number_of 10 (take dot text) ≡ Some number → number_of 10 (take digits (drop (dot + 1) text)) ≡ Some version →
    thread_of_numbers number version ≡ Some t → thread_of (take (dot + 1 + digits) text) ≡ Some t
unfolding thread_of
thread_front text dot digits number version t within e first second made =
    let above = number_is_above (take dot text) number first in
    let back : List ℕ = take digits (drop (dot + 1) text) in
    rw (seam 46 text dot digits within e, front_of 46 (take dot text) back above, back_of 46 (take dot text) back above, first, second) made

pub name_front : (text : List ℕ) (hash digits : ℕ) (t : GlobalId) (k : ℕ) → hash < length text → get_or text hash 0 ≡ 35 →
    thread_of (take hash text) ≡ Some t → number_of 10 (take digits (drop (hash + 1) text)) ≡ Some k → 0 < k →
    (s : Name) → s ≡ record { thread = t; k = k } → name_of (take (hash + 1 + digits) text) ≡ Some s
unfolding name_of
name_front text hash digits t k within e first second positive s same =
    let above = thread_above (take hash text) t first in
    let back : List ℕ = take digits (drop (hash + 1) text) in
    rw (seam 35 text hash digits within e, front_of 35 (take hash text) back above, back_of 35 (take hash text) back above, first, second, lt-ltb 0 k positive, same) refl

-- The first word of a line, by the place where it ends

pub first_word : (line : List ℕ) (end : ℕ) → is_above 32 (take end line) ≡ true → end < length line → get_or line end 0 ≡ 32 →
    words_in line ≡ take end line ∷ words_in (drop (end + 1) line)
first_word line end above within e =
    let whole : line ≡ take end line ++ 32 ∷ drop (end + 1) line =
    sym (take-append-drop end line) ∙ ap (λ (rest : List ℕ). take end line ++ rest) (behind_byte 32 line end within e) in
    ap words_in whole ∙ slice_split_at (λ byte. byte == 32) (take end line) 32 (drop (end + 1) line) (lacks 32 (take end line) above) refl

pub only_word : (line : List ℕ) (end : ℕ) → is_above 32 (take end line) ≡ true → end ≡ length line → words_in line ≡ take end line ∷ []
only_word line end above e =
    let all : take end line ≡ line = take_all end line (omega (arith, e)) in
    slice_split_none (λ byte. byte == 32) line (lacks 32 line (rw all at above)) ∙ ap (λ (word : List ℕ). word ∷ []) (sym all)

abbrev thread_plain : (word : List ℕ) (t : GlobalId) → thread_of word ≡ Some t → is_above 32 word ≡ true
thread_plain word t e = above_lower 32 35 (omega arith) word (thread_above word t e)

name_plain : (word : List ℕ) (s : Name) → name_of word ≡ Some s → is_above 32 word ≡ true
name_plain word s e =
    let written = name_is_written word s e in
    let front = and_parts _ _ written.0 in
    let thread = above_lower 32 35 (omega arith) (thread_word s.thread) (thread_is_above s.thread (and_parts _ _ front.0).0) in
    let k = above_lower 32 46 (omega arith) (decimal s.k) (decimal_is_above s.k (ltb-true s.k (2 ^ 64) front.1)) in
    sym (ap (is_above 32) written.1) ∙ above_parts 32 (thread_word s.thread ++ codes "#") (decimal s.k) (above_parts 32 (thread_word s.thread) (codes "#") thread refl) k

pub thread_first : (line word : List ℕ) (others : List (List ℕ)) (t : GlobalId) → thread_of word ≡ Some t → (is_above 32 word ≡ true → words_in line ≡ word ∷ others) →
    first_as thread_of (words_in line) ≡ Some (t, others)
thread_first line word others t e split = rw (split (thread_plain word t e), e) refl

pub name_first : (line word : List ℕ) (others : List (List ℕ)) (s : Name) → name_of word ≡ Some s → (is_above 32 word ≡ true → words_in line ≡ word ∷ others) →
    first_as name_of (words_in line) ≡ Some (s, others)
name_first line word others s e split = rw (split (name_plain word s e), e) refl
