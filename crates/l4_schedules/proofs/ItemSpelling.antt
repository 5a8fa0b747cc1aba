-- Each entry of processors below 16 and of a lawful clock has one item.
use Rattle.std.proofs.Common.{◌≡◌, ℕ, ◌+◌, ◌-◌, ◌<◌, ◌≤◌, ◌/◌, ◌%◌, ◌^◌, Bool, true, false, Option, Some, None, List, [], ◌∷◌, ◌++◌, take, drop, refl, sym, ap, ap₂, subst, inl, inr, ◌∙◌, arith}
use Rattle.std.specs.Prelude.{◌==◌, ◌&&◌, ◌⊎◌, nat_le, nat_lt, if◌then◌else◌, codes, decimal, option_map}
use Rattle.std.specs.List.{position}
use Rattle.std.proofs.lemmas.Bool.{and_from, and_parts, cases_lt, lt-ltb, ltb-true}
use Rattle.std.proofs.lemmas.Bool.Decides.{nat_tests}
use Rattle.std.proofs.lemmas.Fmt.{decimal_digit, decimal_step}
use Rattle.std.proofs.lemmas.Iterator.Adapters.{position_from-zero}
use Rattle.l4_model.specs.Words.{clock_limit}
use Rattle.l4_core_model.specs.Schedules.{Entry, TurnOf, TickOf, LetterOf, CoreOf, TickTo}
use Rattle.l4_words.specs.Numbers.{number_of}
use Rattle.l4_words.proofs.Above.{joined_at}
use Rattle.l4_words.proofs.Found.{mapped, some_bind, some_then}
use Rattle.l4_words.proofs.Numerals.{decimal_is_read, decimal_is_written}
use Rattle.l4_replay.specs.Entries.{is_entry_of}
use Rattle.l4_schedules.specs.Items.{processor_of, clock_of, is_colon, at_colon, by_colon, letter_between, turn_of, tick_between, tick_of, entry_of, item_of}

pub teen : (p : ℕ) → 10 ≤ p → p < 16 → decimal p ≡ 49 ∷ (48 + (p - 10)) ∷ []
teen p least below =
    let tens : p / 10 ≡ 1 = omega arith in
    let ones : p % 10 ≡ p - 10 = omega arith in
    decimal_step p least (omega arith) ∙ ap₂ (λ (t d : ℕ). decimal t ++ (48 + d) ∷ []) tens ones ∙ ap (λ (ds : List ℕ). ds ++ (48 + (p - 10)) ∷ []) (decimal_digit 1 (omega arith))

-- The number of a processor

digit_is : (d p : ℕ) → d ≡ 48 + p → p < 10 → processor_of (d ∷ []) ≡ Some p
digit_is d p e small =
    let test : (nat_le 48 d && nat_le d 57) ≡ true = grind (arith, nat_tests) in
    let value : d - 48 ≡ p = omega arith in
    rw test (ap (λ (n : ℕ). Some n) value)

teen_is : (d p : ℕ) → d ≡ 48 + (p - 10) → 10 ≤ p → p < 16 → processor_of (49 ∷ d ∷ []) ≡ Some p
teen_is d p e least small =
    let test : (nat_le 48 d && nat_le d 53) ≡ true = grind (arith, nat_tests) in
    let value : 10 + (d - 48) ≡ p = omega arith in
    rw test (ap (λ (n : ℕ). Some n) value)

processor_spells : (p : ℕ) → p < 16 → processor_of (decimal p) ≡ Some p
processor_spells p small = by (cases_lt p 10)
  where
    by : (p < 10) ⊎ (10 ≤ p) → processor_of (decimal p) ≡ Some p
    by (inl one) = ap processor_of (decimal_digit p one) ∙ digit_is (48 + p) p refl one
    by (inr two) = ap processor_of (teen p two small) ∙ teen_is (48 + (p - 10)) p refl two small

digit_alone : (d p : ℕ) (b : Bool) → (nat_le 48 d && nat_le d 57) ≡ b → (if b then Some (d - 48) else None) ≡ Some p → (p < 16) × (d ∷ [] ≡ decimal p)
digit_alone d p true is h =
    let same : d - 48 ≡ p = cc in
    let bounds : (48 ≤ d) × (d ≤ 57) = (grind (arith, nat_tests), grind (arith, nat_tests)) in
    let value : d ≡ 48 + p = omega (arith, bounds.0) in
    (omega (arith, bounds.1), ap (λ (n : ℕ). n ∷ []) value ∙ sym (decimal_digit p (omega (arith, bounds.1))))
digit_alone d p false is h = cc

teen_alone : (t d p : ℕ) (b : Bool) → (t == 49 && nat_le 48 d && nat_le d 53) ≡ b → (if b then Some (10 + (d - 48)) else None) ≡ Some p →
    (p < 16) × (t ∷ d ∷ [] ≡ decimal p)
teen_alone t d p true is h =
    let same : 10 + (d - 48) ≡ p = cc in
    let bounds : (t ≡ 49) × (48 ≤ d) × (d ≤ 53) = (grind (arith, nat_tests), grind (arith, nat_tests), grind (arith, nat_tests)) in
    let value : d ≡ 48 + (p - 10) = omega (arith, bounds.1) in
    let least : 10 ≤ p = omega arith in
    let small : p < 16 = omega (arith, bounds.1, bounds.2) in
    (small, ap₂ (λ (a b : ℕ). a ∷ b ∷ []) bounds.0 value ∙ sym (teen p least small))
teen_alone t d p false is h = cc

processor_alone : (word : List ℕ) (p : ℕ) → processor_of word ≡ Some p → (p < 16) × (word ≡ decimal p)
processor_alone [] p h = cc
processor_alone (d ∷ []) p h = digit_alone d p _ refl h
processor_alone (t ∷ d ∷ []) p h = teen_alone t d p _ refl h
processor_alone (a ∷ b ∷ c ∷ rest) p h = cc

-- What is true of one digit, and of a `1` and a digit, is true of the number of a processor.
by_digits : (P : List ℕ → Type 0) (p : ℕ) → p < 16 → ((d : ℕ) → d ≤ 57 → P (d ∷ [])) →
    ((d : ℕ) → d ≤ 57 → P (49 ∷ d ∷ [])) → P (decimal p)
by_digits P p small one two = by (cases_lt p 10)
  where
    by : (p < 10) ⊎ (10 ≤ p) → P (decimal p)
    by (inl less) = subst P (sym (decimal_digit p less)) (one (48 + p) (omega arith))
    by (inr more) = subst P (sym (teen p more small)) (two (48 + (p - 10)) (omega arith))

-- The value of a clock

clock_spells : (n : ℕ) → nat_lt 0 n ≡ true → nat_lt n clock_limit ≡ true →
    clock_of (decimal n) ≡ Some n
clock_spells n positive small =
    let below = ltb-true n (2 ^ 62) small in
    let read : number_of 10 (decimal n) ≡ Some n = decimal_is_read n (omega (arith, below)) in
    rw (read, positive, small) refl

record IsClock (word : List ℕ) (n : ℕ) : Type 0 where
  positive : nat_lt 0 n ≡ true
  small : nat_lt n clock_limit ≡ true
  spelled : word ≡ decimal n

clock_alone : (word : List ℕ) (n : ℕ) → clock_of word ≡ Some n → IsClock word n
clock_alone word n h =
    let read = some_bind (number_of 10 word) _ n h in
    let positive = some_then (nat_lt 0 read.0) _ n read.2 in
    let small = some_then (nat_lt read.0 clock_limit) _ n positive.1 in
    let same : read.0 ≡ n = cc (small.1) in
    record {
      positive = ap (nat_lt 0) (sym same) ∙ positive.0;
      small = ap (λ k. nat_lt k clock_limit) (sym same) ∙ small.0;
      spelled = sym (decimal_is_written read.0 word read.1).1 ∙ ap decimal same;
    }

-- Words with a colon

abbrev pub whole_turn : List ℕ → Option Entry
whole_turn word = option_map TurnOf (processor_of word)

abbrev pub whole_tick : List ℕ → Option Entry
whole_tick word = option_map TickOf (processor_of word)

not_colon : (d : ℕ) → d ≤ 57 → (d == 58) ≡ false
not_colon d small = grind (arith, nat_tests)

module _ (whole : List ℕ → Option Entry) (parts : (before behind : List ℕ) → Option Entry) where
  pub at_place : (word : List ℕ) (o : Option ℕ) → position is_colon word ≡ o →
      by_colon whole parts word ≡ at_colon whole parts word o
  at_place word o is = ap (at_colon whole parts word) is

  without_colon : (p : ℕ) → p < 16 → by_colon whole parts (decimal p) ≡ whole (decimal p)
  without_colon p small =
      by_digits (λ word. by_colon whole parts word ≡ whole word) p small
      (λ d most. let other = not_colon d most in
      at_place (d ∷ []) None (position_from-zero is_colon (d ∷ []) ∙ rw other refl))
      (λ d most. let other = not_colon d most in
      at_place (49 ∷ d ∷ []) None (position_from-zero is_colon (49 ∷ d ∷ []) ∙ rw other refl))

  with_colon : (p : ℕ) (behind : List ℕ) → p < 16 →
      by_colon whole parts (decimal p ++ codes ":" ++ behind) ≡ parts (decimal p) behind
  with_colon p behind small =
      by_digits (λ word. by_colon whole parts (word ++ codes ":" ++ behind) ≡ parts word behind)
      p small
      (λ d most. let other = not_colon d most in
      at_place (d ∷ 58 ∷ behind) (Some 1)
      (position_from-zero is_colon (d ∷ 58 ∷ behind) ∙ rw other refl))
      (λ d most. let other = not_colon d most in
      at_place (49 ∷ d ∷ 58 ∷ behind) (Some 2)
      (position_from-zero is_colon (49 ∷ d ∷ 58 ∷ behind) ∙ rw other refl))

  -- It is read as a whole, or by its parts.
  by_parts : (P : Type 0) (word : List ℕ) (entry : Entry) → by_colon whole parts word ≡ Some entry →
      (whole word ≡ Some entry → P) →
      ((before behind : List ℕ) → parts before behind ≡ Some entry →
      before ++ codes ":" ++ behind ≡ word → P) → P
  by_parts P word entry h as_whole as_parts = by (position is_colon word) refl h
    where
      by : (o : Option ℕ) → position is_colon word ≡ o → at_colon whole parts word o ≡ Some entry →
          P
      by None is h = as_whole h
      by (Some i) is h = as_parts (take i word) (drop (i + 1) word) h (joined_at 58 word i is)

-- Items

-- What begins with a digit is a turn.
digit_first : (d : ℕ) (rest : List ℕ) → d ≤ 57 → entry_of (d ∷ rest) ≡ turn_of (d ∷ rest)
digit_first d rest small =
    let tick : (d == 116) ≡ false = grind (arith, nat_tests) in
    let core : (d == 99) ≡ false = grind (arith, nat_tests) in
    rw (tick, core) refl

turn_first : (p : ℕ) → p < 16 → entry_of (decimal p) ≡ turn_of (decimal p)
turn_first p small =
    by_digits (λ word. entry_of word ≡ turn_of word) p small
    (λ d most. digit_first d [] most) (λ d most. digit_first 49 (d ∷ []) (omega arith))

letter_first : (p : ℕ) (behind : List ℕ) → p < 16 →
    entry_of (decimal p ++ codes ":" ++ behind) ≡ turn_of (decimal p ++ codes ":" ++ behind)
letter_first p behind small =
    by_digits (λ word. let item = word ++ codes ":" ++ behind in entry_of item ≡ turn_of item) p
    small
    (λ d most. digit_first d (58 ∷ behind) most)
    (λ d most. digit_first 49 (d ∷ 58 ∷ behind) (omega arith))

letter_spells : (cpu from : ℕ) → cpu < 16 → from < 16 →
    letter_between (decimal cpu) (decimal from) ≡ Some (LetterOf cpu from)
letter_spells cpu from small other =
    rw (processor_spells cpu small, processor_spells from other) refl

tick_spells : (cpu clock : ℕ) → cpu < 16 → nat_lt 0 clock ≡ true → nat_lt clock clock_limit ≡ true →
    tick_between (decimal cpu) (decimal clock) ≡ Some (TickTo cpu clock)
tick_spells cpu clock small positive below =
    rw (processor_spells cpu small, clock_spells clock positive below) refl

pub item_spells : (entry : Entry) → is_entry_of 16 entry ≡ true →
    entry_of (item_of entry) ≡ Some entry
item_spells (TurnOf cpu) is =
    let small = ltb-true cpu 16 is in
    turn_first cpu small ∙ without_colon whole_turn letter_between cpu small
    ∙ ap (option_map TurnOf) (processor_spells cpu small)
item_spells (TickOf cpu) is =
    let small = ltb-true cpu 16 is in
    without_colon whole_tick tick_between cpu small
    ∙ ap (option_map TickOf) (processor_spells cpu small)
item_spells (LetterOf cpu from) is =
    let both = and_parts (nat_lt cpu 16) (nat_lt from 16) is in
    let small = ltb-true cpu 16 both.0 in
    letter_first cpu (decimal from) small
    ∙ with_colon whole_turn letter_between cpu (decimal from) small
    ∙ letter_spells cpu from small (ltb-true from 16 both.1)
item_spells (CoreOf cpu) is = ap (option_map CoreOf) (processor_spells cpu (ltb-true cpu 16 is))
item_spells (TickTo cpu clock) is =
    let both = and_parts (nat_lt cpu 16 && nat_lt 0 clock) (nat_lt clock clock_limit) is in
    let first = and_parts (nat_lt cpu 16) (nat_lt 0 clock) both.0 in
    let small = ltb-true cpu 16 first.0 in
    with_colon whole_tick tick_between cpu (decimal clock) small
    ∙ tick_spells cpu clock small first.1 both.1

-- The entry has such a processor and clock, and this is its item.
record IsSpelled (item : List ℕ) (entry : Entry) : Type 0 where
  lawful : is_entry_of 16 entry ≡ true
  item_is : item ≡ item_of entry

turn_alone : (word : List ℕ) (entry : Entry) → option_map TurnOf (processor_of word) ≡ Some entry →
    IsSpelled word entry
turn_alone word entry h =
    let cpu = mapped TurnOf (processor_of word) entry h in
    let alone = processor_alone word cpu.0 cpu.1 in
    subst (IsSpelled word) cpu.2 (record { lawful = lt-ltb cpu.0 16 alone.0; item_is = alone.1 })

letter_alone : (first second : List ℕ) (entry : Entry) → letter_between first second ≡ Some entry →
    IsSpelled (first ++ codes ":" ++ second) entry
letter_alone first second entry h =
    let cpu = some_bind (processor_of first) _ entry h in
    let from = some_bind (processor_of second) _ entry cpu.2 in
    let a = processor_alone first cpu.0 cpu.1 in
    let b = processor_alone second from.0 from.1 in
    let same : LetterOf cpu.0 from.0 ≡ entry = cc (from.2) in
    subst (IsSpelled (first ++ codes ":" ++ second)) same (record {
      lawful = and_from (nat_lt cpu.0 16) (nat_lt from.0 16) (lt-ltb cpu.0 16 a.0)
          (lt-ltb from.0 16 b.0);
      item_is = ap₂ (λ (f s : List ℕ). f ++ codes ":" ++ s) a.1 b.1;
    })

plain_tick_alone : (word : List ℕ) (entry : Entry) →
    option_map TickOf (processor_of word) ≡ Some entry →
    IsSpelled (116 ∷ word) entry
plain_tick_alone word entry h =
    let cpu = mapped TickOf (processor_of word) entry h in
    let alone = processor_alone word cpu.0 cpu.1 in
    subst (IsSpelled (116 ∷ word)) cpu.2
    (record { lawful = lt-ltb cpu.0 16 alone.0; item_is = ap (λ (w : List ℕ). 116 ∷ w) alone.1 })

tick_alone : (first second : List ℕ) (entry : Entry) → tick_between first second ≡ Some entry →
    IsSpelled (116 ∷ (first ++ codes ":" ++ second)) entry
tick_alone first second entry h =
    let cpu = some_bind (processor_of first) _ entry h in
    let clock = some_bind (clock_of second) _ entry cpu.2 in
    let a = processor_alone first cpu.0 cpu.1 in
    let b = clock_alone second clock.0 clock.1 in
    let same : TickTo cpu.0 clock.0 ≡ entry = cc (clock.2) in
    subst (IsSpelled (116 ∷ (first ++ codes ":" ++ second))) same (record {
      lawful = and_from (nat_lt cpu.0 16 && nat_lt 0 clock.0) (nat_lt clock.0 clock_limit)
          (and_from (nat_lt cpu.0 16) (nat_lt 0 clock.0) (lt-ltb cpu.0 16 a.0) b.positive) b.small;
      item_is = ap₂ (λ (f s : List ℕ). 116 ∷ (f ++ codes ":" ++ s)) a.1 b.spelled;
    })

core_alone : (word : List ℕ) (entry : Entry) → option_map CoreOf (processor_of word) ≡ Some entry →
    IsSpelled (99 ∷ word) entry
core_alone word entry h =
    let cpu = mapped CoreOf (processor_of word) entry h in
    let alone = processor_alone word cpu.0 cpu.1 in
    subst (IsSpelled (99 ∷ word)) cpu.2
    (record { lawful = lt-ltb cpu.0 16 alone.0; item_is = ap (λ (w : List ℕ). 99 ∷ w) alone.1 })

turns : (word : List ℕ) (entry : Entry) → turn_of word ≡ Some entry → IsSpelled word entry
turns word entry h =
    by_parts whole_turn letter_between (IsSpelled word entry) word entry h (turn_alone word entry)
    (λ first second h same. subst (λ w. IsSpelled w entry) same (letter_alone first second entry h))

ticks : (word : List ℕ) (entry : Entry) → tick_of word ≡ Some entry → IsSpelled (116 ∷ word) entry
ticks word entry h =
    by_parts whole_tick tick_between (IsSpelled (116 ∷ word) entry) word entry h
    (plain_tick_alone word entry)
    (λ first second h same. subst (λ w. IsSpelled (116 ∷ w) entry) same
    (tick_alone first second entry h))

by_first : (first : ℕ) (rest : List ℕ) (entry : Entry) (t c : Bool) → (first == 116) ≡ t →
    (first == 99) ≡ c →
    (if t then tick_of rest
    else if c then option_map CoreOf (processor_of rest)
    else turn_of (first ∷ rest)) ≡ Some entry →
    IsSpelled (first ∷ rest) entry
by_first first rest entry true c is other h =
    let same : 116 ≡ first = grind (arith, nat_tests) in
    subst (λ n. IsSpelled (n ∷ rest) entry) same (ticks rest entry h)
by_first first rest entry false true is other h =
    let same : 99 ≡ first = grind (arith, nat_tests) in
    subst (λ n. IsSpelled (n ∷ rest) entry) same (core_alone rest entry h)
by_first first rest entry false false is other h = turns (first ∷ rest) entry h

spelled : (item : List ℕ) (entry : Entry) → entry_of item ≡ Some entry → IsSpelled item entry
spelled [] entry h = absurd cc
spelled (first ∷ rest) entry h = by_first first rest entry _ _ refl refl h

pub item_alone : (item : List ℕ) (entry : Entry) → entry_of item ≡ Some entry →
    (is_entry_of 16 entry ≡ true) × (item ≡ item_of entry)
item_alone item entry h = let s = spelled item entry h in (s.lawful, s.item_is)
