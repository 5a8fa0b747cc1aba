-- A word and the id that it stands for give each other back.
use Rattle.std.proofs.Common.{◌≡◌, ℕ, ◌<◌, ◌+◌, ◌*◌, ◌/◌, ◌%◌, ◌^◌, ◌-◌, Bool, true, false, cond, refl, sym, arith}
use Rattle.std.proofs.lemmas.Bool.{eqb-true}
use Rattle.std.specs.Prelude.{◌==◌}
use Rattle.std.proofs.lemmas.Bool.Decides.{nat_tests}
use Rattle.l4_model.specs.Words.{NilThread, AnyThread, AnyLocalThread, LocalThread, GlobalThread, word_of, id_of_word, global_id}

pub word_of_id : (word : ℕ) → word_of (id_of_word word) ≡ word
word_of_id word = first (word == 0) (word == 2 ^ 64 - 1) (word == 2 ^ 64 - 64) (word % 64 == 0)
    (eqb-true word 0) (eqb-true word (2 ^ 64 - 1)) (eqb-true word (2 ^ 64 - 64))
  where
    first : (a b c d : Bool) → (a ≡ true → word ≡ 0) → (b ≡ true → word ≡ 2 ^ 64 - 1) →
        (c ≡ true → word ≡ 2 ^ 64 - 64) →
        word_of (cond a NilThread (cond b AnyThread
        (cond c AnyLocalThread (cond d (LocalThread word)
        (GlobalThread (record { number = word / 2 ^ 32; version = word % 2 ^ 32 })))))) ≡ word
    first true b c d p q r = sym (p refl)
    first false true c d p q r = sym (q refl)
    first false false true d p q r = sym (r refl)
    first false false false true p q r = refl
    first false false false false p q r = omega arith

-- The word of a global id is read as that id.
pub id_of_global : (number version : ℕ) → version < 2 ^ 32 → (version % 64 ≡ 0 → ⊥) →
    (number * 2 ^ 32 + version ≡ 2 ^ 64 - 1 → ⊥) →
    id_of_word (number * 2 ^ 32 + version) ≡ GlobalThread (global_id number version)
id_of_global number version fits low not_any =
    let number_is : (number * 2 ^ 32 + version) / 2 ^ 32 ≡ number = omega arith in
    let version_is : (number * 2 ^ 32 + version) % 2 ^ 32 ≡ version = omega arith in
    let not_0 = no (number * 2 ^ 32 + version) 0 (λ e. low (omega arith)) in
    let not_1 = no (number * 2 ^ 32 + version) (2 ^ 64 - 1) not_any in
    let not_2 = no (number * 2 ^ 32 + version) (2 ^ 64 - 64) (λ e. low (omega arith)) in
    let not_3 = no ((number * 2 ^ 32 + version) % 64) 0 (λ e. low (omega arith)) in
    rw (not_0, not_1, not_2, not_3, number_is, version_is)
  where
    no : (a b : ℕ) → (a ≡ b → ⊥) → (a == b) ≡ false
    no a b ne = grind (arith, nat_tests)
