-- A line of printable bytes without an empty word, read byte by byte.
use Rattle.std.proofs.Common.{◌≡◌, ℕ, suc, ◌≤◌, Bool, true, false, cond, List, [], ◌∷◌, length, drop, refl, ap, ap₂, ◌∙◌, arith}
use Rattle.std.specs.Prelude.{◌==◌, ◌&&◌, ◌||◌, not, nat_le}
use Rattle.std.specs.List.{list_any, onto_first}
use Rattle.std.proofs.lemmas.Bool.{and_from, eqb-true, false_from_ne_true, le-leb}
use Rattle.l4_words.specs.Words.{words_in}
use Rattle.l4_words.proofs.FirstWord.{has_word}
use Rattle.l4_script.specs.Lines.{is_printable, has_empty_word}

abbrev pub is_shown : ℕ → Bool
is_shown byte = nat_le 0x20 byte && nat_le byte 0x7e

-- What is left of a line has no byte that is not printable, and no empty word. Its first word may
-- be empty where some of it was read before.
abbrev pub is_plain_left : (begins : Bool) → List ℕ → Bool
is_plain_left true line = is_printable line && not (has_empty_word line)
is_plain_left false line = is_printable line && not (list_any (λ word. length word == 0) (drop 1 (words_in line)))

longer : (word : List ℕ) → (suc (length word) == 0) ≡ false
longer word = false_from_ne_true (suc (length word) == 0) (λ e. omega (arith, eqb-true (suc (length word)) 0 e))

onto_word : (byte : ℕ) (line : List ℕ) → list_any (λ word. length word == 0) (onto_first byte (words_in line)) ≡ list_any (λ word. length word == 0) (drop 1 (words_in line))
onto_word byte line = let w = has_word line in rw w.2 (ap (λ (b : Bool). b || list_any (λ word. length word == 0) w.1) (longer w.0))

behind_word : (byte : ℕ) (line : List ℕ) → drop 1 (onto_first byte (words_in line)) ≡ drop 1 (words_in line)
behind_word byte line = let w = has_word line in rw w.2 refl

visible : (byte : ℕ) → 33 ≤ byte → byte ≤ 126 → is_shown byte ≡ true
visible byte least most = and_from (nat_le 32 byte) (nat_le byte 126) (le-leb 32 byte (omega (arith, least))) (le-leb byte 126 most)

no_space : (byte : ℕ) → 33 ≤ byte → (byte == 32) ≡ false
no_space byte least = false_from_ne_true (byte == 32) (λ e. omega (arith, least, eqb-true byte 32 e))

pub letter : (begins : Bool) (byte : ℕ) (line : List ℕ) → 33 ≤ byte → byte ≤ 126 → is_plain_left begins (byte ∷ line) ≡ is_plain_left false line
letter true byte line least most =
    ap₂ (λ (a b : Bool). (a && is_printable line) && not (list_any (λ word. length word == 0) (cond b ([] ∷ words_in line) (onto_first byte (words_in line))))) (visible byte least most) (no_space byte least)
    ∙ ap (λ (b : Bool). is_printable line && not b) (onto_word byte line)
letter false byte line least most =
    ap₂ (λ (a b : Bool). (a && is_printable line) && not (list_any (λ word. length word == 0) (drop 1 (cond b ([] ∷ words_in line) (onto_first byte (words_in line)))))) (visible byte least most) (no_space byte least)
    ∙ ap (λ (words : List (List ℕ)). is_printable line && not (list_any (λ word. length word == 0) words)) (behind_word byte line)

pub space : (byte : ℕ) (line : List ℕ) → byte ≡ 32 → is_plain_left false (byte ∷ line) ≡ is_plain_left true line
space byte line e = rw e refl

and_false : (b : Bool) → (b && false) ≡ false
and_false true = refl
and_false false = refl

pub no_word : (byte : ℕ) (line : List ℕ) → byte ≡ 32 → is_plain_left true (byte ∷ line) ≡ false
no_word byte line e = rw e (and_false (is_printable line))

pub not_shown : (begins : Bool) (byte : ℕ) (line : List ℕ) → is_shown byte ≡ false → is_plain_left begins (byte ∷ line) ≡ false
not_shown true byte line e = rw e refl
not_shown false byte line e = rw e refl
