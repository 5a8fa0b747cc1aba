-- Where a name is declared, line by line, and whether a line uses one; and of which exponents the
-- least one is.
use Rattle.std.proofs.Common.{◌≡◌, ℕ, suc, ◌+◌, ◌-◌, ◌<◌, Bool, true, false, cond, Option, Some, None, List, [], ◌∷◌, sym, ap, ◌∙◌, arith}
use Rattle.std.specs.Prelude.{find, not, ◌||◌}
use Rattle.std.specs.List.{list_any, range_with_len}
use Rattle.std.specs.Str.{bytes_eq}
use Rattle.l4_words.specs.Lines.{parts_of}
use Rattle.l4_lint.specs.declared.hints.Hint.{Hint}
use Rattle.l4_lint.specs.declared.hints.Hint.TheVariants.{DeclaredOn}
use Rattle.l4_lint.specs.Lines.{lines_of, without_last}
use Rattle.l4_lint.specs.Second.Judging.{is_low}
use Rattle.l4_lint.specs.Second.Names.{declared_by, declared_hint, declared_or, first_near}
use Rattle.l4_lint.specs.Second.Unused.{has_word, is_unused_name}
use Rattle.l4_lint.proofs.Doubting.{first_line}

module _ (word line rest text : List ℕ) (number : ℕ) (near : Option ℕ) (cut : parts_of text ≡ line ∷ parts_of rest) where
  abbrev behind : Option ℕ → Hint
  behind near = declared_hint word (lines_of rest) (number + 1) near

  one_line : declared_hint word (lines_of text) number near ≡ declared_or (declared_by line) number word near behind
  one_line = ap (λ (lines : List (List ℕ)). declared_hint word lines number near) (first_line line rest text cut)

  pub declares : (name : List ℕ) → declared_by line ≡ Some name → bytes_eq name word ≡ true → DeclaredOn number ≡ declared_hint word (lines_of text) number near
  declares name is same =
      sym
      (one_line
      ∙ ap (λ (declared : Option (List ℕ)). declared_or declared number word near behind) is
      ∙ ap (λ (b : Bool). cond b (DeclaredOn number) (behind (first_near near number name word))) same)

  pub declares_other : (name : List ℕ) → declared_by line ≡ Some name → bytes_eq name word ≡ false →
      declared_hint word (lines_of rest) (number + 1) (first_near near number name word) ≡ declared_hint word (lines_of text) number near
  declares_other name is other =
      sym
      (one_line
      ∙ ap (λ (declared : Option (List ℕ)). declared_or declared number word near behind) is
      ∙ ap (λ (b : Bool). cond b (DeclaredOn number) (behind (first_near near number name word))) other)

  pub declares_none : declared_by line ≡ None → declared_hint word (lines_of rest) (number + 1) near ≡ declared_hint word (lines_of text) number near
  declares_none is = sym (one_line ∙ ap (λ (declared : Option (List ℕ)). declared_or declared number word near behind) is)

-- Whether a line uses a name.

abbrev unused_in : (name line : List ℕ) (lines : List (List ℕ)) → (used : Bool) → Bool
unused_in name line lines used = not (used || list_any (has_word name) lines)

module _ (name line rest text : List ℕ) (cut : parts_of text ≡ line ∷ parts_of rest) where
  by_line : (used : Bool) → has_word name line ≡ used →
      is_unused_name (lines_of text) name ≡ unused_in name line (lines_of rest) used
  by_line used is =
      ap (λ (lines : List (List ℕ)). is_unused_name lines name) (first_line line rest text cut)
      ∙ ap (unused_in name line (lines_of rest)) is

  pub used_here : has_word name line ≡ true → is_unused_name (lines_of text) name ≡ false
  used_here is = by_line true is

  pub used_later : has_word name line ≡ false →
      is_unused_name (lines_of rest) name ≡ is_unused_name (lines_of text) name
  used_later is = sym (by_line false is)

-- No line is left.
pub unused_at_last : (name text : List ℕ) → parts_of text ≡ text ∷ [] →
    is_unused_name (lines_of text) name ≡ true
unused_at_last name text is = ap (λ (parts : List (List ℕ)). is_unused_name (without_last parts) name) is

-- The exponents from one on, up to 31.

abbrev low_from : (ticks e : ℕ) → Option ℕ
low_from ticks e = find (is_low ticks) (range_with_len e (32 - e))

next_low : (ticks e : ℕ) → e < 32 → low_from ticks e ≡ cond (is_low ticks e) (Some e) (low_from ticks (e + 1))
next_low ticks e within =
    let count : 32 - e ≡ suc (32 - (e + 1)) = omega (arith, within) in
    ap (λ (n : ℕ). find (is_low ticks) (range_with_len e n)) count

pub low_here : (ticks e : ℕ) → e < 32 → is_low ticks e ≡ true → low_from ticks e ≡ Some e
low_here ticks e within low = next_low ticks e within ∙ ap (λ (b : Bool). cond b (Some e) (low_from ticks (e + 1))) low

pub low_later : (ticks e : ℕ) → e < 32 → is_low ticks e ≡ false → low_from ticks e ≡ low_from ticks (e + 1)
low_later ticks e within low = next_low ticks e within ∙ ap (λ (b : Bool). cond b (Some e) (low_from ticks (e + 1))) low
