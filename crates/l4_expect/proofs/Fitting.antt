-- A line that is asked for, and fits a line of a report, may be asked for.
use Rattle.std.proofs.Common.{◌≡◌, ◌⊎◌, inl, inr, ℕ, zero, suc, ◌≤◌, ◌^◌, Bool, true, false, not, Option, Some, None, List, [], ◌∷◌, ◌++◌, length, map, refl, sym, ap, ◌∙◌, arith}
use Rattle.std.specs.Prelude.{◌==◌, ◌&&◌, ◌||◌, nat_lt, is_some, codes}
use Rattle.std.specs.List.{list_all}
use Rattle.std.specs.Str.{bytes_eq}
use Rattle.std.proofs.lemmas.Bool.{and_parts, and_from, or_from, ltb-true, lt-ltb}
use Rattle.std.proofs.lemmas.Slice.Eq.{bytes_eq-Decides}
use Rattle.l4_model.specs.Words.{GlobalId}
use Rattle.l4_words.specs.Names.{name_of}
use Rattle.l4_words.specs.Numbers.{hexadecimal, is_word, number_of}
use Rattle.l4_words.proofs.Numerals.{hexadecimal_is_read}
use Rattle.l4_lines.specs.Lines.{are_rest, fits, fits_word, is_any, is_rest, is_send_of, thread_asked, thread_named}
use Rattle.l4_expect.specs.Columns.{are_more, are_none, are_registers, fits_columns, is_last_register, is_number, is_of, is_register, may_stand}
use Rattle.l4_expect.specs.Judging.{has_early_rest}
use Rattle.l4_expect.specs.declared.columns.Column.{Column}
use Rattle.l4_expect.specs.declared.columns.Column.TheVariants.{Send}

-- Tests

pub or_left : (a b : Bool) → a ≡ true → (a || b) ≡ true
or_left true b h = refl
or_left false b h = cc

pub or_right : (a b : Bool) → b ≡ true → (a || b) ≡ true
or_right true b h = refl
or_right false b h = h

pub or_split : (a b : Bool) → (a || b) ≡ true → (a ≡ true) ⊎ (b ≡ true)
or_split true b h = inl refl
or_split false b h = inr h

-- Words

none_sends : (o : Option GlobalId) → is_send_of o None ≡ false
none_sends None = refl
none_sends (Some t) = refl

sends_some : (o s : Option GlobalId) → is_send_of o s ≡ true → is_some o ≡ true
sends_some None s h = cc
sends_some (Some t) s h = refl

-- What fits a word is a star, that word, or stands for the sends of its thread.
data Fit (asked word : List ℕ) : Type 0 where
  star : is_any asked ≡ true → Fit asked word
  itself : asked ≡ word → Fit asked word
  one_of : is_send_of (thread_asked asked) (thread_named word) ≡ true → Fit asked word

fit_of : (asked word : List ℕ) → fits_word asked word ≡ true → Fit asked word
fit_of asked word h = by (or_split (is_any asked || bytes_eq asked word) (is_send_of (thread_asked asked) (thread_named word)) h)
  where
    by_word : (is_any asked ≡ true) ⊎ (bytes_eq asked word ≡ true) → Fit asked word
    by_word (inl is) = star is
    by_word (inr is) = itself ((bytes_eq-Decides asked word).0 is)

    by : ((is_any asked || bytes_eq asked word) ≡ true) ⊎ (is_send_of (thread_asked asked) (thread_named word) ≡ true) → Fit asked word
    by (inl either) = by_word (or_split (is_any asked) (bytes_eq asked word) either)
    by (inr is) = one_of is

-- A word of a report that names no send is asked for by itself, or by a star.
pub word_fits : (asked word : List ℕ) → thread_named word ≡ None → fits_word asked word ≡ true → (is_any asked ≡ true) ⊎ (asked ≡ word)
word_fits asked word none h = by (fit_of asked word h)
  where
    by : Fit asked word → (is_any asked ≡ true) ⊎ (asked ≡ word)
    by (star is) = inl is
    by (itself is) = inr is
    by (one_of is) = absurd (let bad = sym (ap (is_send_of (thread_asked asked)) none ∙ none_sends (thread_asked asked)) ∙ is in cc)

-- So it may be asked for, where the word itself may.
pub word_may : (P : List ℕ → Bool) (asked word : List ℕ) → P word ≡ true → thread_named word ≡ None → fits_word asked word ≡ true → (is_any asked || P asked) ≡ true
word_may P asked word is none h = by (word_fits asked word none h)
  where
    by : (is_any asked ≡ true) ⊎ (asked ≡ word) → (is_any asked || P asked) ≡ true
    by (inl any) = or_left (is_any asked) (P asked) any
    by (inr same) = or_right (is_any asked) (P asked) (ap P same ∙ is)

-- The name of a send may be asked for by itself, by its thread, or by a star.
pub send_may : (asked word : List ℕ) → is_some (name_of word) ≡ true → fits_word asked word ≡ true → may_stand Send asked ≡ true
send_may asked word named h = by (fit_of asked word h)
  where
    by : Fit asked word → may_stand Send asked ≡ true
    by (star is) = or_left (is_any asked) (is_of Send asked) is
    by (itself is) = or_right (is_any asked) (is_of Send asked) (or_left (is_some (name_of asked)) (is_some (thread_asked asked)) (ap (λ w. is_some (name_of w)) is ∙ named))
    by (one_of is) =
        or_right (is_any asked) (is_of Send asked) (or_right (is_some (name_of asked)) (is_some (thread_asked asked)) (sends_some (thread_asked asked) (thread_named word) is))

-- Columns

-- Whatever fits the word may be asked for in its column.
pub record Stands (column : Column) (word : List ℕ) : Type 0 where
  pub may : (asked : List ℕ) → fits_word asked word ≡ true → may_stand column asked ≡ true

abbrev pub AllStand : List Column → List (List ℕ) → Type 0
AllStand [] [] = Unit
AllStand (column ∷ columns) (word ∷ words) = Stands column word × AllStand columns words
AllStand _ _ = ⊥

pub columns_may : (has : Bool) (columns : List Column) (asked words behind : List (List ℕ)) → AllStand columns words →
    ((left : List (List ℕ)) → fits left behind ≡ true → are_more has left ≡ true) → fits asked (words ++ behind) ≡ true → fits_columns has columns asked ≡ true
columns_may has [] asked [] behind all more h = more asked h
columns_may has [] asked (word ∷ words) behind all more h = absurd all
columns_may has (column ∷ columns) asked [] behind all more h = absurd all
columns_may has (column ∷ columns) [] (word ∷ words) behind all more h = cc
columns_may has (column ∷ columns) (a ∷ asked) (word ∷ words) behind all more h =
    by (λ left. columns_may has columns asked words behind all.1 more left)
    (or_split (are_rest (a ∷ asked)) (fits_word a word && fits asked (words ++ behind)) h)
  where
    by : (fits asked (words ++ behind) ≡ true → fits_columns has columns asked ≡ true) →
        (are_rest (a ∷ asked) ≡ true) ⊎ ((fits_word a word && fits asked (words ++ behind)) ≡ true) → fits_columns has (column ∷ columns) (a ∷ asked) ≡ true
    by later (inl rest) = or_left (are_rest (a ∷ asked)) (may_stand column a && fits_columns has columns asked) rest
    by later (inr both) =
        let parts = and_parts (fits_word a word) (fits asked (words ++ behind)) both in
        or_right (are_rest (a ∷ asked)) (may_stand column a && fits_columns has columns asked) (and_from _ _ (all.0.may a parts.0) (later parts.1))

-- Nothing is behind the columns.
pub none_may : (left : List (List ℕ)) → fits left [] ≡ true → are_none left ≡ true
none_may [] h = refl
none_may (a ∷ left) h = h

-- Registers

-- The last one is not 0.
abbrev pub ends_set : List ℕ → Bool
ends_set [] = true
ends_set (word ∷ []) = not (word == 0)
ends_set (word ∷ next ∷ words) = ends_set (next ∷ words)

rest_may : (most : ℕ) (a : List ℕ) (asked : List (List ℕ)) → are_rest (a ∷ asked) ≡ true → are_registers most (a ∷ asked) ≡ true
rest_may zero a asked h = h
rest_may (suc most) a [] h = or_left (is_rest a) (is_last_register a) h
rest_may (suc most) a (next ∷ asked) h = cc

positive : (n : ℕ) → not (n == 0) ≡ true → nat_lt 0 n ≡ true
positive zero h = cc
positive (suc n) h = lt-ltb 0 (suc n) (omega arith)

register_may : (a : List ℕ) (n : ℕ) → is_word n ≡ true → thread_named (hexadecimal n) ≡ None → fits_word a (hexadecimal n) ≡ true → is_register a ≡ true
register_may a n small none h =
    word_may (λ w. is_some (number_of 16 w)) a (hexadecimal n) (ap is_some (hexadecimal_is_read n (ltb-true n (2 ^ 64) small))) none h

last_may : (a : List ℕ) (n : ℕ) → is_word n ≡ true → not (n == 0) ≡ true → thread_named (hexadecimal n) ≡ None → fits_word a (hexadecimal n) ≡ true →
    is_last_register a ≡ true
last_may a n small set none h =
    word_may (λ w. is_number (nat_lt 0) (number_of 16 w)) a (hexadecimal n) (ap (is_number (nat_lt 0)) (hexadecimal_is_read n (ltb-true n (2 ^ 64) small)) ∙ positive n set) none h

-- No word of a register names a send.
abbrev pub NoNames : Type 0
NoNames = (n : ℕ) → is_word n ≡ true → thread_named (hexadecimal n) ≡ None

only_last : (a : List ℕ) (n : ℕ) (words : List ℕ) → NoNames → is_word n ≡ true → ends_set (n ∷ words) ≡ true → fits (a ∷ []) (map hexadecimal (n ∷ words)) ≡ true →
    (is_rest a || is_last_register a) ≡ true
only_last a n [] names small set h = by (or_split (is_rest a) (fits_word a (hexadecimal n) && true) h)
  where
    by : (is_rest a ≡ true) ⊎ ((fits_word a (hexadecimal n) && true) ≡ true) → (is_rest a || is_last_register a) ≡ true
    by (inl rest) = or_left (is_rest a) (is_last_register a) rest
    by (inr both) = or_right (is_rest a) (is_last_register a) (last_may a n small set (names n small) (and_parts (fits_word a (hexadecimal n)) true both).0)
only_last a n (next ∷ words) names small set h = by (or_split (is_rest a) (fits_word a (hexadecimal n) && false) h)
  where
    by : (is_rest a ≡ true) ⊎ ((fits_word a (hexadecimal n) && false) ≡ true) → (is_rest a || is_last_register a) ≡ true
    by (inl rest) = or_left (is_rest a) (is_last_register a) rest
    by (inr both) = absurd (let bad = (and_parts (fits_word a (hexadecimal n)) false both).1 in cc)

set_behind : (n : ℕ) (words : List ℕ) → ends_set (n ∷ words) ≡ true → ends_set words ≡ true
set_behind n [] h = refl
set_behind n (next ∷ words) h = h

pub registers_may : (most : ℕ) (asked : List (List ℕ)) (words : List ℕ) → NoNames → length words ≤ most → list_all is_word words ≡ true → ends_set words ≡ true →
    fits asked (map hexadecimal words) ≡ true → are_registers most asked ≡ true
registers_may zero [] words names room small set h = refl
registers_may (suc most) [] words names room small set h = refl
registers_may most (a ∷ asked) [] names room small set h = rest_may most a asked h
registers_may zero (a ∷ asked) (n ∷ words) names room small set h = absurd (omega (arith, room))
registers_may (suc most) (a ∷ []) (n ∷ words) names room small set h = only_last a n words names (and_parts (is_word n) (list_all is_word words) small).0 set h
registers_may (suc most) (a ∷ next ∷ asked) (n ∷ words) names room small set h =
    let both = and_parts (fits_word a (hexadecimal n)) (fits (next ∷ asked) (map hexadecimal words)) h in
    let words_small = and_parts (is_word n) (list_all is_word words) small in
    and_from _ _ (register_may a n words_small.0 (names n words_small.0) both.0)
    (registers_may most (next ∷ asked) words names (omega (arith, room)) words_small.1 (set_behind n words set) both.1)

-- Where `..` stands

dots_fit : (word : List ℕ) → is_rest word ≡ false → fits_word (codes "..") word ≡ true → ⊥
dots_fit word unlike h = by (fit_of (codes "..") word h)
  where
    by : Fit (codes "..") word → ⊥
    by (star is) = cc
    by (itself is) = let bad : is_rest (codes "..") ≡ false = ap is_rest is ∙ unlike in cc
    by (one_of is) = cc

not_rest : (a word : List ℕ) → fits_word a word ≡ true → is_rest word ≡ false → is_rest a ≡ false
not_rest a word h unlike = by (is_rest a) refl
  where
    by : (rest : Bool) → is_rest a ≡ rest → rest ≡ false
    by false is = refl
    by true is =
        let dots : a ≡ codes ".." = (bytes_eq-Decides a (codes "..")).0 is in
        absurd (dots_fit word unlike (ap (λ x. fits_word x word) (sym dots) ∙ h))

pub no_early_rest : (asked words : List (List ℕ)) → list_all (λ w. not (is_rest w)) words ≡ true → fits asked words ≡ true → has_early_rest asked ≡ false
no_early_rest [] words unlike h = refl
no_early_rest (a ∷ []) words unlike h = refl
no_early_rest (a ∷ next ∷ asked) [] unlike h = cc
no_early_rest (a ∷ next ∷ asked) (word ∷ words) unlike h =
    let both = and_parts (fits_word a word) (fits (next ∷ asked) words) h in
    let words_open = and_parts (not (is_rest word)) (list_all (λ w. not (is_rest w)) words) unlike in
    or_from (is_rest a) (has_early_rest (next ∷ asked)) (not_rest a word both.0 (closed (is_rest word) words_open.0)) (no_early_rest (next ∷ asked) words words_open.1 both.1)
  where
    closed : (b : Bool) → not b ≡ true → b ≡ false
    closed true h = cc
    closed false h = refl
