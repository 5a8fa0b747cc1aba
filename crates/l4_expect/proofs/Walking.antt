-- Going over the words of a line that is asked for.
use Rattle.std.proofs.Common.{◌≡◌, ◌≢◌, ℕ, zero, suc, ◌-◌, ◌<◌, Bool, true, false, List, [], ◌∷◌, length, drop, refl, ap, arith}
use Rattle.std.specs.Prelude.{◌&&◌}
use Rattle.l4_lines.specs.Lines.{is_rest}
use Rattle.l4_expect.specs.Columns.{are_registers, fits_columns, is_register}
use Rattle.l4_expect.specs.declared.columns.Column.{Column}
use Rattle.l4_expect.proofs.Fitting.{or_left}

pub no_word_left : (has : Bool) (columns : List Column) (i : ℕ) → i < length columns →
    fits_columns has (drop i columns) [] ≡ false
no_word_left has [] i lt = absurd (omega (arith, lt))
no_word_left has (column ∷ columns) zero lt = refl
no_word_left has (column ∷ columns) (suc i) lt = no_word_left has columns i (omega (arith, lt))

pub rest_left : (has : Bool) (columns : List Column) (i : ℕ) (word : List ℕ) → i < length columns →
    is_rest word ≡ true → fits_columns has (drop i columns) (word ∷ []) ≡ true
rest_left has [] i word lt is = absurd (omega (arith, lt))
rest_left has (column ∷ columns) zero word lt is = or_left (is_rest word) _ is
rest_left has (column ∷ columns) (suc i) word lt is = rest_left has columns i word (omega (arith, lt)) is

pub register_read : (most : ℕ) (word : List ℕ) (left : List (List ℕ)) → 0 < most → left ≢ [] →
    is_register word ≡ true → are_registers most (word ∷ left) ≡ are_registers (most - 1) left
register_read zero word left some more is = absurd (omega (arith, some))
register_read (suc most) word [] some more is = absurd (more refl)
register_read (suc most) word (next ∷ left) some more is =
    let less : suc most - 1 ≡ most = omega arith in
    rw less (ap (λ b. b && are_registers most (next ∷ left)) is)
