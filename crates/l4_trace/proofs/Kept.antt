-- Words that are kept as text, at the end of some bytes.
use Rattle.std.proofs.Common.{◌≡◌, ◌∙◌, ℕ, ◌+◌, ◌-◌, ◌≤◌, List, ◌∷◌, ◌++◌, length, take, drop, ap, append_assoc, refl, sym, arith}
use Rattle.std.specs.Prelude.{codes}
use Rattle.std.proofs.lemmas.List.{drop-append-le, drop-drop, drop-take, length-append, length-drop, length-take-le, take_at}
use Rattle.l4_model.specs.Words.{global_id}
use Rattle.l4_model.specs.World.{Name}
use Rattle.l4_words.proofs.Lengths.{one_digit}
use Rattle.l4_trace.specs.Lines.{name_word, thread_word}
use Rattle.l4_trace.specs.Inner.Texts.{EndsWith}

-- The words that stand in empty places.

pub least_word : thread_word (global_id 0 1) ≡ codes "0.1"
least_word = rw (one_digit 0 (omega arith), one_digit 1 (omega arith)) refl

pub other_word : thread_word (global_id 1 1) ≡ codes "1.1"
other_word = rw (one_digit 1 (omega arith)) refl

abbrev pub first_name : Name
first_name = record { thread = global_id 0 1; k = 1 }

pub first_word : name_word first_name ≡ codes "0.1#1"
first_word = rw (one_digit 0 (omega arith), one_digit 1 (omega arith)) refl

-- Where such bytes were written into a line, the word stands before what is behind them.
pub word_behind : (line bytes rest word : List ℕ) (at start : ℕ) → drop at line ≡ bytes ++ rest → EndsWith bytes start word →
    drop (at + start) line ≡ 32 ∷ (word ++ rest)
word_behind line bytes rest word at start written ends =
    sym (drop-drop start at line) ∙ ap (λ (xs : List ℕ). drop start xs) written ∙ drop-append-le start bytes rest ends.within
    ∙ ap (λ (xs : List ℕ). xs ++ rest) ends.text

-- A word before what is behind `end`.
pub word_before : (line later rest word : List ℕ) (start end : ℕ) → drop start line ≡ word ++ rest → rest ≡ drop end later → length later ≡ length line →
    start ≤ end → end ≤ length line → take (end - start) (drop start line) ≡ word
word_before line later rest word start end written behind same before within =
    let whole : length (word ++ rest) ≡ length line - start = sym (ap (λ (xs : List ℕ). length xs) written) ∙ length-drop start line in
    let left : length rest ≡ length later - end = ap (λ (xs : List ℕ). length xs) behind ∙ length-drop end later in
    let long : length word ≡ end - start = omega (arith, whole, left, same, before, within, length-append word rest) in
    ap (λ (xs : List ℕ). take (end - start) xs) written ∙ take_at word rest (end - start) long

-- The last bytes before `end` end with the word that begins at `start`.
pub last_bytes : (line bytes word : List ℕ) (start end n : ℕ) → n ≤ end → end ≤ length line → start ≤ end → end ≤ start + n →
    take (end - start) (drop start line) ≡ 32 ∷ word → bytes ≡ take n (drop (end - n) line) → EndsWith bytes (start + n - end) word
last_bytes line bytes word start end n room within before short is are =
    let skipped : ℕ = start + n - end in
    let count : skipped + (end - start) ≡ n = omega (arith, before, short) in
    let place : end - n + skipped ≡ start = omega (arith, room, short) in
    let enough : n ≤ length (drop (end - n) line) = omega (arith, length-drop (end - n) line, room, within) in
    let size : length bytes ≡ n = ap (λ (xs : List ℕ). length xs) are ∙ length-take-le n (drop (end - n) line) enough in
    record {
      within = omega (arith, size, before, short);
      text =
          ap (λ (xs : List ℕ). drop skipped xs) are
          ∙ ap (λ (k : ℕ). drop skipped (take k (drop (end - n) line))) (sym count)
          ∙ drop-take skipped (end - start) (drop (end - n) line)
          ∙ ap (λ (xs : List ℕ). take (end - start) xs) (drop-drop skipped (end - n) line ∙ ap (λ (k : ℕ). drop k line) place)
          ∙ is;
    }

-- A word in two parts, the second of which was written first.
pub in_two : (line before front back rest : List ℕ) (start middle : ℕ) → drop start line ≡ front ++ drop middle before →
    drop middle before ≡ back ++ rest → drop start line ≡ (front ++ back) ++ rest
in_two line before front back rest start middle one two = one ∙ ap (λ (xs : List ℕ). front ++ xs) two ∙ sym (append_assoc front back rest)
