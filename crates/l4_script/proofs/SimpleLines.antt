-- Lines that have words alone: no name of an instruction in front of them, and no comment behind.
use Rattle.std.proofs.Common.{◌≡◌, ℕ, zero, suc, ◌-◌, ◌<◌, ◌≤◌, Bool, true, false, cond, List, [], ◌∷◌, length, take, get_or, Some, None, Ok, refl, sym, ap, subst, ◌∙◌, arith, get_or-take}
use Rattle.std.specs.Prelude.{◌==◌, ◌&&◌, ◌||◌, not}
use Rattle.std.specs.List.{position_or_len, before_first}
use Rattle.std.proofs.lemmas.Bool.{eqb-true, ne_eqb, and_right, or_left, false_from_ne_true}
use Rattle.std.proofs.lemmas.Bool.Decides.{nat_tests}
use Rattle.std.proofs.lemmas.Grind.{common_steps}
use Rattle.std.proofs.lemmas.List.Sums.{position_or_len_is, prefix_len-le-length}
use Rattle.l4_words.specs.Words.{words_in}
use Rattle.l4_script.specs.Judged.{Judged, ◌>>=◌}
pub use Rattle.l4_script.specs.Second.Lines.{is_word_byte}
use Rattle.l4_script.specs.Second.Lines.{Said, ends_with_byte, without_return, is_blank, without_first_blanks, without_last_blanks, said_in, comment_in, said, first_of, words_of, judged_said, second_line_of}
use Rattle.l4_script.proofs.Blanks.{no_first_blank, other_last}
use Rattle.l4_script.proofs.PlainWords.{is_plain_left, letter, space}

-- What is left of a line has such bytes and single spaces between them. It may begin with a space
-- where some of its first word was read before.
abbrev pub is_simple_left : (begins : Bool) → List ℕ → Bool
is_simple_left begins [] = not begins
is_simple_left begins (byte ∷ line) = cond (is_word_byte byte) (is_simple_left false line) (cond (byte == 32 && not begins) (is_simple_left true line) false)

-- One more byte

pub word_byte : (begins : Bool) (byte : ℕ) (line : List ℕ) → is_word_byte byte ≡ true → is_simple_left begins (byte ∷ line) ≡ is_simple_left false line
word_byte begins byte line e = ap (λ (b : Bool). cond b (is_simple_left false line) (cond (byte == 32 && not begins) (is_simple_left true line) false)) e

pub next_word : (byte : ℕ) (line : List ℕ) → byte ≡ 32 → is_simple_left false (byte ∷ line) ≡ is_simple_left true line
next_word byte line e = rw e refl

pub other_byte : (begins : Bool) (byte : ℕ) (line : List ℕ) → is_word_byte byte ≡ false → (byte == 32 && not begins) ≡ false → is_simple_left begins (byte ∷ line) ≡ false
other_byte begins byte line e f = rw (e, f) refl

-- What a first byte is

by_byte : (P : Type 0) (begins : Bool) (byte : ℕ) (line : List ℕ) → is_simple_left begins (byte ∷ line) ≡ true
    → (is_word_byte byte ≡ true → is_simple_left false line ≡ true → P) → (begins ≡ false → byte ≡ 32 → is_simple_left true line ≡ true → P) → P
by_byte P begins byte line h word space = by (is_word_byte byte) refl h
  where
    by_space : (begins b : Bool) → (byte == 32) ≡ b → cond (b && not begins) (is_simple_left true line) false ≡ true → (begins ≡ false → byte ≡ 32 → is_simple_left true line ≡ true → P) → P
    by_space false true e h space = space refl (eqb-true byte 32 e) h
    by_space true true e h space = absurd cc
    by_space false false e h space = absurd cc
    by_space true false e h space = absurd cc

    by : (b : Bool) → is_word_byte byte ≡ b → cond b (is_simple_left false line) (cond (byte == 32 && not begins) (is_simple_left true line) false) ≡ true → P
    by true e h = word e h
    by false e h = by_space begins (byte == 32) refl h space

pub least : (byte : ℕ) → is_word_byte byte ≡ true → 33 ≤ byte
least byte e = grind (arith, nat_tests)

pub most : (byte : ℕ) → is_word_byte byte ≡ true → byte ≤ 126
most byte e = grind (arith, nat_tests)

-- It is printable, and no word is empty.
pub plain : (begins : Bool) (line : List ℕ) → is_simple_left begins line ≡ true → is_plain_left begins line ≡ true
plain true [] h = absurd cc
plain false [] h = refl
plain begins (byte ∷ line) h =
    by_byte (is_plain_left begins (byte ∷ line) ≡ true) begins byte line h
    (λ e left. letter begins byte line (least byte e) (most byte e) ∙ plain false line left)
    (λ inside e left. subst (λ (b : Bool). is_plain_left b (byte ∷ line) ≡ true) (sym inside) (space byte line e ∙ plain true line left))

-- Its bytes

abbrev fits : ℕ → Bool
fits byte = is_word_byte byte || byte == 32

each : (begins : Bool) (line : List ℕ) (k : ℕ) → is_simple_left begins line ≡ true → k < length line → fits (get_or line k 0) ≡ true
each begins [] k h within = absurd (omega arith)
each begins (byte ∷ line) zero h within =
    by_byte (fits byte ≡ true) begins byte line h (λ e left. or_left (is_word_byte byte) (byte == 32) e) (λ inside e left. rw e refl)
each begins (byte ∷ line) (suc k) h within =
    by_byte (fits (get_or line k 0) ≡ true) begins byte line h (λ e left. each false line k left (omega arith)) (λ inside e left. each true line k left (omega arith))

first_fits : (byte : ℕ) (line : List ℕ) → is_simple_left true (byte ∷ line) ≡ true → is_word_byte byte ≡ true
first_fits byte line h = by_byte (is_word_byte byte ≡ true) true byte line h (λ e left. e) (λ inside e left. absurd cc)

last_fits : (begins : Bool) (byte : ℕ) (line : List ℕ) → is_simple_left begins (byte ∷ line) ≡ true → is_word_byte (get_or (byte ∷ line) (length line) 0) ≡ true
last_fits begins byte [] h = by_byte (is_word_byte byte ≡ true) begins byte [] h (λ e left. e) (λ inside e left. absurd cc)
last_fits begins byte (next ∷ line) h =
    by_byte (is_word_byte (get_or (next ∷ line) (length line) 0) ≡ true) begins byte (next ∷ line) h (λ e left. last_fits false next line left) (λ inside e left. last_fits true next line left)

no_blank : (byte : ℕ) → is_word_byte byte ≡ true → is_blank byte ≡ false
no_blank byte e = grind (arith, nat_tests)

other_than : (c byte : ℕ) → fits c ≡ false → fits byte ≡ true → (byte == c) ≡ false
other_than c byte none e = false_from_ne_true (byte == c) (λ same. let equal : byte ≡ c = eqb-true byte c same in let known = subst (λ (n : ℕ). fits n ≡ true) equal e in absurd cc)

ends_other : (c : ℕ) (bytes : List ℕ) → (0 < length bytes → (get_or bytes (length bytes - 1) 0 == c) ≡ false) → ends_with_byte c bytes ≡ false
ends_other c [] other = refl
ends_other c (byte ∷ bytes) other = and_right (not (length (byte ∷ bytes) == 0)) (get_or (byte ∷ bytes) (length (byte ∷ bytes) - 1) 0 == c) (other (omega arith))

-- A line of such bytes alone

module _ (line : List ℕ) (h : is_simple_left true line ≡ true) where
  some : 0 < length line
  some = by line h
    where
      by : (line : List ℕ) → is_simple_left true line ≡ true → 0 < length line
      by [] h = absurd cc
      by (byte ∷ line) h = omega arith

  no_return : without_return line ≡ line
  no_return =
      let other : ends_with_byte 13 line ≡ false = ends_other 13 line (λ some. other_than 13 (get_or line (length line - 1) 0) refl (each true line (length line - 1) h (omega arith))) in
      ap (λ (b : Bool). cond b (take (length line - 1) line) line) other

  nowhere : position_or_len (λ byte. byte == 59) line ≡ length line
  nowhere = position_or_len_is (λ byte. byte == 59) line (length line) 0 (omega arith) (λ k within. other_than 59 (get_or line k 0) refl (each true line k h within)) (λ past. absurd (omega arith))

  no_comment : comment_in line ≡ []
  no_comment = rw nowhere (grind (arith, common_steps))

  no_first : without_first_blanks line ≡ line
  no_first = by line h
    where
      by : (line : List ℕ) → is_simple_left true line ≡ true → without_first_blanks line ≡ line
      by [] h = absurd cc
      by (byte ∷ line) h = no_first_blank (byte ∷ line) (omega arith) (no_blank byte (first_fits byte line h))

  no_last : without_last_blanks line ≡ line
  no_last = by line h
    where
      by : (line : List ℕ) → is_simple_left true line ≡ true → without_last_blanks line ≡ line
      by [] h = absurd cc
      by (byte ∷ line) h = let at : length (byte ∷ line) - 1 ≡ length line = omega arith in other_last (byte ∷ line) (omega arith) (rw at (no_blank (get_or (byte ∷ line) (length line) 0) (last_fits true byte line h)))

  all_before : before_first (λ byte. byte == 59) line ≡ line
  all_before = rw nowhere (grind (arith, common_steps))

  all_said : said_in line ≡ line
  all_said =
      ap (λ (l : List ℕ). without_last_blanks (without_first_blanks l)) all_before
      ∙ ap without_last_blanks no_first ∙ no_last

  first_within : position_or_len is_blank line ≤ length line
  first_within = prefix_len-le-length (λ x. not (is_blank x)) line

  no_name : ends_with_byte 58 (first_of line) ≡ false
  no_name =
      let n = position_or_len is_blank line in
      let size : length (first_of line) ≡ n = grind (arith, common_steps) in
      ends_other 58 (first_of line) (λ some.
      let place : length (first_of line) - 1 < n = omega (arith, size) in
      let at : get_or (first_of line) (length (first_of line) - 1) 0 ≡ get_or line (length (first_of line) - 1) 0 = get_or-take n line (length (first_of line) - 1) 0 place in
      rw at (other_than 58 (get_or line (length (first_of line) - 1) 0) refl (each true line (length (first_of line) - 1) h (omega (arith, place, first_within)))))

  words_alone : words_of line ≡ Ok (words_in line)
  words_alone =
      let more : (length line == 0) ≡ false = ne_eqb (length line) 0 (λ none. omega (arith, some)) in
      rw (more, plain true line h) refl

  judged_alone : judged_said line ≡ Ok (said None (words_in line))
  judged_alone = rw (no_name, words_alone) refl

  pub simple_line : second_line_of line ≡ Ok (Some (said None (words_in line)))
  unfolding second_line_of
  simple_line =
      let more : (length line == 0) ≡ false = ne_eqb (length line) 0 (λ none. omega (arith, some)) in
      rw (no_return, no_comment, all_said)
      (ap (λ (b : Bool). cond b (Ok None) (judged_said line >>= λ s. Ok (Some s))) more ∙ ap (λ (j : Judged Said). j >>= λ s. Ok (Some s)) judged_alone)
