-- What was accepted was accepted by each part; the numbers of accepted words.
use Rattle.std.proofs.Common.{◌≡◌, ℕ, ◌^◌, ◌<◌, ◌≤◌, Bool, true, false, cond, ◌&&◌, List, drop, take, Option, Some, None, Ok, Err, refl, ap, subst, arith}
use Rattle.std.specs.Prelude.{Result, nat_lt, nat_le, codes, bytes_eq}
use Rattle.std.proofs.lemmas.Bool.{leb-true, and_parts}
use Rattle.l4_model.specs.Words.{Format, word_limit, is_word_in}
use Rattle.l4_script.specs.declared.text.fault.TextFaultKind.{TextFaultKind}
use Rattle.l4_script.specs.declared.text.fault.TextFaultKind.TheVariants.{BadNumber, NoMemory}
use Rattle.l4_script.specs.Judged.{Judged, Fails, ◌>>=◌, ◌>>◌, must, needs}
use Rattle.l4_words.specs.Numbers.{padded_of}
use Rattle.l4_words.specs.Numbers as words
use Rattle.l4_words.proofs.Numerals.{padded_small, decimal_is_written}
use Rattle.l4_script.specs.Numbers.{number_of, number_from, word_from}

-- A fault that is the definition's, memory or not.
pub fails : {Y : Type 0} (kind : TextFaultKind) (part : Result Y TextFaultKind) → part ≡ Err kind → Fails kind part
fails NoMemory part e = tt
fails kind part e = e

pub bind_ok : {A B : Type 0} (part : Judged A) (rest : A → Judged B) (b : B) → (part >>= rest) ≡ Ok b → (a : A) × (part ≡ Ok a) × (rest a ≡ Ok b)
bind_ok (Ok a) rest b e = (a, refl, e)
bind_ok (Err kind) rest b e = absurd cc

pub then_ok : {B : Type 0} (part : Judged (Unit {0})) (rest : Judged B) (b : B) → (part >> rest) ≡ Ok b → (part ≡ Ok tt) × (rest ≡ Ok b)
then_ok (Ok a) rest b e = (refl, e)
then_ok (Err kind) rest b e = absurd cc

pub must_ok : (test : Bool) (kind : TextFaultKind) → must test kind ≡ Ok tt → test ≡ true
must_ok true kind e = refl
must_ok false kind e = absurd cc

pub needs_ok : {A : Type 0} (o : Option A) (kind : TextFaultKind) (a : A) → needs o kind ≡ Ok a → o ≡ Some a
needs_ok None kind a e = absurd cc
needs_ok (Some x) kind a e = let same : x ≡ a = cc in ap (λ x. Some x) same

-- A choice was made one way or the other.
pub chosen : {A : Type 0} (P : Type 0) (test : Bool) (x y : A) (z : A) → cond test x y ≡ z → (test ≡ true → x ≡ z → P) → (y ≡ z → P) → P
chosen P true x y z e first second = first refl e
chosen P false x y z e first second = second e

abbrev pub says : {A : Type 0} → A → Judged A
says a = Ok a

pub same_ok : {A : Type 0} (a b : A) → says a ≡ says b → a ≡ b
same_ok a b e = cc

-- Numbers

pub number_small : (word : List ℕ) (n : ℕ) → number_of word ≡ Some n → n < 2 ^ 64
unfolding number_of
number_small word n e =
    chosen (n < 2 ^ 64) (bytes_eq (take 2 word) (codes "0x")) (padded_of (drop 2 word)) (words.number_of 10 word) (Some n) e
    (λ test. padded_small n (drop 2 word)) (λ h. (decimal_is_written n word h).0)

pub number_within : (low high : ℕ) (word : List ℕ) (n : ℕ) → number_from low high word ≡ Ok n → (low ≤ n) × (n ≤ high)
unfolding number_from
number_within low high word n e =
    let read = bind_ok (needs (number_of word) BadNumber) (λ value. must (nat_le low value && nat_le value high) BadNumber >> Ok value) n e in
    let within = then_ok (must (nat_le low read.0 && nat_le read.0 high) BadNumber) (Ok read.0) n read.2 in
    let parts = and_parts (nat_le low read.0) (nat_le read.0 high) (must_ok _ BadNumber within.0) in
    let same : read.0 ≡ n = same_ok read.0 n within.1 in
    (omega (arith, leb-true low read.0 parts.0, same), omega (arith, leb-true read.0 high parts.1, same))

pub word_needed : (f : Format) (word : List ℕ) (n : ℕ) → word_from f word ≡ Ok n → is_word_in f n ≡ true
unfolding word_from
word_needed f word n e =
    let read = bind_ok (needs (number_of word) BadNumber) _ n e in
    let small = then_ok (must (nat_lt read.0 (word_limit f)) BadNumber) _ n read.2 in
    subst (λ (n : ℕ). is_word_in f n ≡ true) (same_ok read.0 n small.1) (must_ok _ BadNumber small.0)
