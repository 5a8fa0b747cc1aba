-- Values in lines: what a line says can be assigned, and what can be assigned is read.
use Rattle.std.proofs.Common.{◌≡◌, ℕ, ◌^◌, ◌<◌, true, false, not, List, get_or, Some, None, Ok, refl, ap, sym, subst, arith}
use Rattle.std.specs.Prelude.{◌==◌, codes, decimal, bytes_eq, Option}
use Rattle.std.specs.Option.{option_map}
use Rattle.std.proofs.lemmas.Bool.{false≢true, and_parts, and_from, ltb-true, leb-true, le-leb}
use Rattle.l4_model.specs.Words.{Format, W64, W32, word_limit, is_word_in, same_format}
use Rattle.l4_model.specs.Machine.{Operation, Value, Word, Register, Computed, FromWord}
use Rattle.l4_words.proofs.Found.{some_same}
use Rattle.l4_script.specs.Judged.{Judged}
use Rattle.l4_script.specs.Numbers.{number_from, word_from}
use Rattle.l4_script.specs.Operations.{operation_named}
use Rattle.l4_script.specs.Statements.{word_value, register_value, computed_value, value_of}
use Rattle.l4_script.specs.Canonical.{keyword_of, operand_of, can_be_assigned}
use Rattle.l4_script.proofs.Judging.{bind_ok, chosen, says, same_ok, number_within, word_needed}
use Rattle.l4_script.proofs.Operations.{operation_found, each_word, other_word}
use Rattle.l4_script.proofs.Spelled.{is_plain, ranged_read, word_small, word_read}

-- What is said can be assigned.

abbrev pub SaysValues : Format → (List ℕ → Judged Value) → Type 0
SaysValues f said = (operand : List ℕ) (value : Value) → said operand ≡ Ok value → can_be_assigned f value ≡ true

valued : (f : Format) (a b : Value) → a ≡ b → can_be_assigned f a ≡ true → can_be_assigned f b ≡ true
valued f a b e h = subst (λ (v : Value). can_be_assigned f v ≡ true) e h

word_said : (f : Format) → SaysValues f (word_value f)
word_said f operand value e =
    let word = bind_ok (word_from f operand) _ value e in
    let is = word_needed f operand word.0 word.1 in
    valued f (Word word.0) value (same_ok _ _ word.2) (and_from _ _ is is)

register_said : (f : Format) → SaysValues f register_value
register_said f operand value e =
    let source = bind_ok (number_from 0 63 operand) _ value e in
    valued f (Register source.0) value (same_ok _ _ source.2) (le-leb source.0 63 (number_within 0 63 operand source.0 source.1).1)

pub format_itself : (f : Format) → same_format f f ≡ true
format_itself W64 = refl
format_itself W32 = refl

computed_said : (f : Format) (operation : Operation) → SaysValues f (computed_value f operation)
computed_said f operation operand value e =
    let word = bind_ok (word_from f operand) _ value e in
    valued f (Computed operation f word.0) value (same_ok _ _ word.2) (and_from _ _ (format_itself f) (word_needed f operand word.0 word.1))

said_so : (f : Format) (a b : List ℕ → Judged Value) → SaysValues f a → Some a ≡ Some b → SaysValues f b
said_so f a b says_values e = subst (SaysValues f) (some_same a b e) says_values

operation_said : (f : Format) (o : Option Operation) (said : List ℕ → Judged Value) → option_map (computed_value f) o ≡ Some said → SaysValues f said
operation_said f None said e = absurd cc
operation_said f (Some operation) said e = said_so f (computed_value f operation) said (computed_said f operation) e

pub value_said : (f : Format) (name : List ℕ) (said : List ℕ → Judged Value) → value_of f name ≡ Some said → SaysValues f said
unfolding value_of
value_said f name said e =
    chosen (SaysValues f said) (bytes_eq name (codes "set")) (Some (word_value f)) _ (Some said) e (λ t. said_so f (word_value f) said (word_said f)) (λ e.
    chosen (SaysValues f said) (bytes_eq name (codes "copy")) (Some register_value) _ (Some said) e (λ t. said_so f register_value said (register_said f)) (λ e.
    operation_said f (operation_named name) said e))

-- What can be assigned is a line.

pub record IsKeyword (word : List ℕ) : Type 0 where
  pub begins : not (get_or word 0 0 == 59) ≡ true
  pub plain : is_plain word ≡ true
  pub no_thread : bytes_eq word (codes "thread") ≡ false

pub keyword_is : (value : Value) → IsKeyword (keyword_of value)
keyword_is (Word word) = record { begins = refl; plain = refl; no_thread = refl }
keyword_is (Register b) = record { begins = refl; plain = refl; no_thread = refl }
keyword_is (Computed operation format word) = record {
  begins = each_word (λ (own : List ℕ). not (get_or own 0 0 == 59)) refl operation;
  plain = each_word is_plain refl operation;
  no_thread = other_word (codes "thread") refl operation;
}
keyword_is (FromWord format) = record { begins = refl; plain = refl; no_thread = refl }

word_is_small : (f : Format) (word : ℕ) → is_word_in f word ≡ true → word < 2 ^ 64
word_is_small f word h = word_small f word (ltb-true word (word_limit f) h)

pub operand_small : (f : Format) (value : Value) → can_be_assigned f value ≡ true → operand_of value < 2 ^ 64
operand_small f (Word word) h = word_is_small f word (and_parts (is_word_in f word) (is_word_in f word) h).1
operand_small f (Register b) h = let upper = leb-true b 63 h in omega (arith, upper)
operand_small f (Computed operation format word) h = word_is_small f word (and_parts (same_format format f) (is_word_in f word) h).1
operand_small f (FromWord format) h = omega arith

-- What can be assigned is read.

pub formats_are_one : (f g : Format) → same_format f g ≡ true → f ≡ g
formats_are_one W64 W64 h = refl
formats_are_one W32 W32 h = refl
formats_are_one W64 W32 h = absurd cc
formats_are_one W32 W64 h = absurd cc

pub record IsRead (f : Format) (value : Value) : Type 0 where
  pub said : List ℕ → Judged Value
  pub keyword : value_of f (keyword_of value) ≡ Some said
  pub operand : said (decimal (operand_of value)) ≡ Ok value

pub value_read : (f : Format) (value : Value) → can_be_assigned f value ≡ true → IsRead f value
unfolding value_of
value_read f (Word word) h = record {
  said = word_value f;
  keyword = refl;
  operand = rw (word_read f word (and_parts (is_word_in f word) (is_word_in f word) h).0) refl;
}
value_read f (Register b) h = record {
  said = register_value;
  keyword = refl;
  operand = rw (ranged_read 0 63 b (omega arith) (leb-true b 63 h) (omega arith)) refl;
}
value_read f (Computed operation format word) h =
    let both = and_parts (same_format format f) (is_word_in f word) h in
    record {
      said = computed_value f operation;
      keyword = rw (other_word (codes "set") refl operation, other_word (codes "copy") refl operation, operation_found operation) refl;
      operand = rw (word_read f word both.1) (ap (λ (g : Format). says (Computed operation g word)) (sym (formats_are_one format f both.0)));
    }
value_read f (FromWord format) h = absurd (false≢true (and_parts (same_format format f) false h).1)
