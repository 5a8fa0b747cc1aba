-- Blanks in front of a line and behind it, left out one by one.
use Rattle.std.proofs.Common.{◌≡◌, ℕ, ◌-◌, ◌<◌, Bool, true, false, cond, List, [], ◌∷◌, drop, take, get_or, length, refl, sym, ap, arith}
use Rattle.l4_script.specs.Second.Lines.{is_blank, without_first_blanks, kept_before, without_last_blanks}

pub first_blank : (line : List ℕ) → 0 < length line → is_blank (get_or line 0 0) ≡ true → without_first_blanks (drop 1 line) ≡ without_first_blanks line
first_blank [] some blank = absurd cc
first_blank (byte ∷ line) some blank = sym (ap (λ (b : Bool). cond b (without_first_blanks line) (byte ∷ line)) blank)

pub no_first_blank : (line : List ℕ) → 0 < length line → is_blank (get_or line 0 0) ≡ false → without_first_blanks line ≡ line
no_first_blank [] some blank = refl
no_first_blank (byte ∷ line) some blank = ap (λ (b : Bool). cond b (without_first_blanks line) (byte ∷ line)) blank

one_blank : (byte : ℕ) → is_blank byte ≡ true → without_last_blanks (byte ∷ []) ≡ []
one_blank byte blank = ap (λ (b : Bool). cond b [] (byte ∷ [])) blank

no_blank : (byte : ℕ) → is_blank byte ≡ false → without_last_blanks (byte ∷ []) ≡ byte ∷ []
no_blank byte blank = ap (λ (b : Bool). cond b [] (byte ∷ [])) blank

-- The byte at the place of the others, and what stands before it.
pub last_blank : (line : List ℕ) (byte : ℕ) → is_blank (get_or (byte ∷ line) (length line) 0) ≡ true →
    without_last_blanks (take (length line) (byte ∷ line)) ≡ without_last_blanks (byte ∷ line)
last_blank [] byte blank = sym (one_blank byte blank)
last_blank (next ∷ line) byte blank = ap (kept_before byte) (last_blank line next blank)

pub no_last_blank : (line : List ℕ) (byte : ℕ) → is_blank (get_or (byte ∷ line) (length line) 0) ≡ false →
    without_last_blanks (byte ∷ line) ≡ byte ∷ line
no_last_blank [] byte blank = no_blank byte blank
no_last_blank (next ∷ line) byte blank = ap (kept_before byte) (no_last_blank line next blank)

pub some_last_blank : (line : List ℕ) → 0 < length line → is_blank (get_or line (length line - 1) 0) ≡ true →
    without_last_blanks (take (length line - 1) line) ≡ without_last_blanks line
some_last_blank [] some blank = absurd cc
some_last_blank (byte ∷ line) some blank = let at : length (byte ∷ line) - 1 ≡ length line = omega arith in rw at (last_blank line byte (rw at at blank))

pub other_last : (line : List ℕ) → 0 < length line → is_blank (get_or line (length line - 1) 0) ≡ false → without_last_blanks line ≡ line
other_last [] some blank = refl
other_last (byte ∷ line) some blank = let at : length (byte ∷ line) - 1 ≡ length line = omega arith in no_last_blank line byte (rw at at blank)
