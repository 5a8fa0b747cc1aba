-- Codes as rows of numbers.
use Rattle.std.proofs.Common.{◌≡◌, ℕ, zero, suc, ◌+◌, ◌-◌, ◌*◌, ◌/◌, ◌%◌, ◌<◌, ◌≤◌, Bool, true, false, cond, ◌⊎◌, inl, inr, ◌==◌, List, [], ◌∷◌, ◌++◌, map, length, take, refl, sym, ap, subst, ◌∙◌, arith, append-nil, append_assoc, length-append}
use Rattle.std.specs.Str.{bytes_eq}
use Rattle.std.proofs.Math.ListN.{get_or-append, get_or-map}
use Rattle.std.proofs.Math.Seq.{get_or-append_seam}
use Rattle.std.proofs.lemmas.Slice.Eq.{bytes_eq-Decides}
use Rattle.std.proofs.lemmas.List.{length-map, map-append}
use Rattle.std.proofs.lemmas.Bool.{lt-ltb, le-ltb, eqb-true}
use Rattle.l4_explore.specs.Inner.Codes.{code_at}
use Rattle.l4_explore.proofs.Trying.{below_or_last}
use Rattle.l4_explore.specs.Inner.Rows.{numbers_from, numbers_of, joined, whole, AreBelow, AreRows, IsRowOf, HasPart, ArePartsOnce, AreLonger, AreMore, IsKept, high_digit, digits_of}

-- A number

digit_read : (high byte : ℕ) (rest : List ℕ) → byte < 128 →
    numbers_from high (byte ∷ rest) ≡ (high * 128 + byte) ∷ numbers_of rest
digit_read high byte rest small =
    ap (λ b. cond b ((high * 128 + byte) ∷ numbers_from 0 rest)
    (numbers_from ((high * 128 + (byte - 128)) % 33554432) rest)) (lt-ltb byte 128 small)

high_read : (high byte : ℕ) (rest : List ℕ) → 128 ≤ byte →
    numbers_from high (byte ∷ rest) ≡ numbers_from ((high * 128 + (byte - 128)) % 33554432) rest
high_read high byte rest large =
    ap (λ b. cond b ((high * 128 + byte) ∷ numbers_from 0 rest)
    (numbers_from ((high * 128 + (byte - 128)) % 33554432) rest)) (le-ltb byte 128 large)

high_digit_read : (left : ℕ) (rest : List ℕ) → left < 33554432 →
    numbers_from (left / 128) (high_digit left ++ rest) ≡ numbers_from left rest
high_digit_read left rest small = by (left == 0) refl
  where
    by : (b : Bool) → (left == 0) ≡ b →
        numbers_from (left / 128) (cond b [] ((left % 128 + 128) ∷ []) ++ rest)
        ≡ numbers_from left rest
    by true e = ap (λ high. numbers_from high rest)
        (let z : left ≡ 0 = eqb-true left 0 e in
        let n : left / 128 ≡ left = omega (arith, z) in n)
    by false e =
        high_read (left / 128) (left % 128 + 128) rest (omega arith)
        ∙ ap (λ high. numbers_from high rest)
        (let n : (left / 128 * 128 + (left % 128 + 128 - 128)) % 33554432 ≡ left = omega arith in n)

pub number_read : (number : ℕ) (rest : List ℕ) → number < 4294967296 →
    numbers_of (digits_of number ++ rest) ≡ number ∷ numbers_of rest
number_read number rest fits =
    ap numbers_of (append_assoc (high_digit a ++ high_digit b ++ high_digit c ++ high_digit d) (low ∷ []) rest
    ∙ append_assoc (high_digit a ++ high_digit b ++ high_digit c) (high_digit d) behind
    ∙ append_assoc (high_digit a ++ high_digit b) (high_digit c) (high_digit d ++ behind)
    ∙ append_assoc (high_digit a) (high_digit b) (high_digit c ++ (high_digit d ++ behind)))
    ∙ ap (λ high. numbers_from high (high_digit a ++ (high_digit b ++ (high_digit c ++ (high_digit d ++ behind)))))
    (let e : 0 ≡ a / 128 = omega arith in e)
    ∙ high_digit_read a (high_digit b ++ (high_digit c ++ (high_digit d ++ behind))) (omega arith)
    ∙ ap (λ high. numbers_from high (high_digit b ++ (high_digit c ++ (high_digit d ++ behind))))
    (let e : a ≡ b / 128 = omega arith in e)
    ∙ high_digit_read b (high_digit c ++ (high_digit d ++ behind)) (omega arith)
    ∙ ap (λ high. numbers_from high (high_digit c ++ (high_digit d ++ behind)))
    (let e : b ≡ c / 128 = omega arith in e)
    ∙ high_digit_read c (high_digit d ++ behind) (omega arith)
    ∙ ap (λ high. numbers_from high (high_digit d ++ behind))
    (let e : c ≡ d / 128 = omega arith in e)
    ∙ high_digit_read d behind (omega arith)
    ∙ digit_read d low rest (omega arith)
    ∙ ap (λ n. n ∷ numbers_of rest) (let e : d * 128 + low ≡ number = omega arith in e)
  where
    a : ℕ
    a = number / 268435456

    b : ℕ
    b = number / 2097152

    c : ℕ
    c = number / 16384

    d : ℕ
    d = number / 128

    low : ℕ
    low = number % 128

    behind : List ℕ
    behind = low ∷ rest

-- What more parts leave as it is

pub below_more : (count more : ℕ) (numbers : List ℕ) → count ≤ more → AreBelow count numbers →
    AreBelow more numbers
below_more count more [] l below = tt
below_more count more (n ∷ ns) l below = (omega (arith, below.0), below_more count more ns l below.1)

joined_more : (parts more : List (List ℕ)) (numbers : List ℕ) → AreBelow (length parts) numbers →
    joined (parts ++ more) numbers ≡ joined parts numbers
joined_more parts more [] below = refl
joined_more parts more (n ∷ ns) below =
    ap (λ part. part ++ joined (parts ++ more) ns) (get_or-append parts more [] n below.0)
    ∙ ap (λ rest. code_at parts n ++ rest) (joined_more parts more ns below.1)

module _ (old new : List (List ℕ)) (are : AreLonger old new) where
  long : length old ≤ length new
  long = omega (arith, ap length are.is, length-append old are.more)

  pub joined_as : (numbers : List ℕ) → AreBelow (length old) numbers →
      joined new numbers ≡ joined old numbers
  joined_as numbers below =
      ap (λ parts. joined parts numbers) are.is ∙ joined_more old are.more numbers below

  pub still_below : (numbers : List ℕ) → AreBelow (length old) numbers → AreBelow (length new) numbers
  still_below numbers below = below_more (length old) (length new) numbers long below

  pub rows_as : (rows : List (List ℕ)) → AreRows (length old) rows →
      map (whole new) rows ≡ map (whole old) rows
  rows_as [] below = refl
  rows_as (row ∷ rows) below =
      ap (λ code. code ∷ map (whole new) rows) (joined_as (numbers_of row) below.0)
      ∙ ap (λ codes. whole old row ∷ codes) (rows_as rows below.1)

  pub still_rows : (rows : List (List ℕ)) → AreRows (length old) rows → AreRows (length new) rows
  still_rows [] below = tt
  still_rows (row ∷ rows) below = (still_below (numbers_of row) below.0, still_rows rows below.1)

pub none_longer : (parts : List (List ℕ)) → AreLonger parts parts
none_longer parts = record { more = []; is = sym (append-nil parts) }

pub none_more : (parts : List (List ℕ)) → AreMore parts parts
none_more parts = record { longer = none_longer parts; once = λ once. once }

pub longer_and_longer : (a b c : List (List ℕ)) → AreLonger a b → AreLonger b c → AreLonger a c
longer_and_longer a b c first second = record {
  more = first.more ++ second.more;
  is = second.is ∙ ap (λ parts. parts ++ second.more) first.is
      ∙ append_assoc a first.more second.more;
}

pub more_and_more : (a b c : List (List ℕ)) → AreMore a b → AreMore b c → AreMore a c
more_and_more a b c first second = record {
  longer = longer_and_longer a b c first.longer second.longer;
  once = λ once. second.once (first.once once);
}

-- Of a part that is new none was there.
one_more : (parts : List (List ℕ)) (part : List ℕ) →
    ((number : ℕ) → number < length parts → code_at parts number ≡ part → ⊥) →
    AreMore parts (parts ++ part ∷ [])
one_more parts part new = record {
  longer = record { more = part ∷ []; is = refl };
  once = λ once i j l m e. by once i j e
      (below_or_last (length parts) i (omega (arith, l, long_one)))
      (below_or_last (length parts) j (omega (arith, m, long_one)));
}
  where
    long_one : length (parts ++ part ∷ []) ≡ length parts + 1
    long_one = length-append parts (part ∷ [])

    old : (i : ℕ) → i < length parts → code_at (parts ++ part ∷ []) i ≡ code_at parts i
    old i l = get_or-append parts (part ∷ []) [] i l

    last : (i : ℕ) → i ≡ length parts → code_at (parts ++ part ∷ []) i ≡ part
    last i is = ap (code_at (parts ++ part ∷ [])) is ∙ get_or-append_seam parts part [] []

    by : ArePartsOnce parts → (i j : ℕ) →
        code_at (parts ++ part ∷ []) i ≡ code_at (parts ++ part ∷ []) j →
        (i < length parts) ⊎ (i ≡ length parts) → (j < length parts) ⊎ (j ≡ length parts) → i ≡ j
    by once i j e (inl l) (inl m) = once i j l m (sym (old i l) ∙ e ∙ old j m)
    by once i j e (inl l) (inr is) = absurd (new i l (sym (old i l) ∙ e ∙ last j is))
    by once i j e (inr is) (inl m) = absurd (new j m (sym (old j m) ∙ sym e ∙ last i is))
    by once i j e (inr is) (inr js) = is ∙ sym js

pub kept_more : (old new : List (List ℕ)) (part : List ℕ) → IsKept old new part → AreMore old new
kept_more old new part (inl is) = subst (AreMore old) (sym is) (none_more old)
kept_more old new part (inr added) = subst (AreMore old) (sym added.0) (one_more old part added.1)

-- Rows

-- The row has the parts of the code before what is left.
pub record IsBegun (parts : List (List ℕ)) (row code rest : List ℕ) : Type 0 where
  pub numbers : List ℕ
  pub below : AreBelow (length parts) numbers
  pub told : (more : List ℕ) → numbers_of (row ++ more) ≡ numbers ++ numbers_of more
  pub is : joined parts numbers ++ rest ≡ code

pub begun : (parts : List (List ℕ)) (code : List ℕ) → IsBegun parts [] code code
begun parts code = record { numbers = []; below = tt; told = λ more. refl; is = refl }

joined-append : (parts : List (List ℕ)) (ns ms : List ℕ) →
    joined parts (ns ++ ms) ≡ joined parts ns ++ joined parts ms
joined-append parts [] ms = refl
joined-append parts (n ∷ ns) ms =
    ap (λ rest. code_at parts n ++ rest) (joined-append parts ns ms)
    ∙ sym (append_assoc (code_at parts n) (joined parts ns) (joined parts ms))

below-append : (count : ℕ) (ns ms : List ℕ) → AreBelow count ns → AreBelow count ms →
    AreBelow count (ns ++ ms)
below-append count [] ms a b = b
below-append count (n ∷ ns) ms a b = (a.0, below-append count ns ms a.1 b)

pub one_further : (old new : List (List ℕ)) (row code rest part others : List ℕ) (number : ℕ) →
    number < 4294967296 → AreLonger old new → HasPart new number part → rest ≡ part ++ others →
    IsBegun old row code rest → IsBegun new (row ++ digits_of number) code others
one_further old new row code rest part others number fits more has is b = record {
  numbers = b.numbers ++ number ∷ [];
  below = below-append (length new) b.numbers (number ∷ [])
      (still_below old new more b.numbers b.below) (has.inside, tt);
  told = λ behind.
      ap numbers_of (append_assoc row (digits_of number) behind)
      ∙ b.told (digits_of number ++ behind)
      ∙ ap (λ ns. b.numbers ++ ns) (number_read number behind fits)
      ∙ sym (append_assoc b.numbers (number ∷ []) (numbers_of behind));
  is =
      ap (λ done. done ++ others) (joined-append new b.numbers (number ∷ [])
      ∙ ap (λ done. done ++ joined new (number ∷ [])) (joined_as old new more b.numbers b.below)
      ∙ ap (λ last. joined old b.numbers ++ last) (append-nil (code_at new number) ∙ has.is))
      ∙ append_assoc (joined old b.numbers) part others
      ∙ ap (λ left. joined old b.numbers ++ left) (sym is) ∙ b.is;
}

pub is_over : (parts : List (List ℕ)) (row code rest : List ℕ) → length rest ≡ 0 →
    IsBegun parts row code rest → IsRowOf parts row code
is_over parts row code [] none b = record {
  below = subst (AreBelow (length parts)) (sym are) b.below;
  is = ap (joined parts) are ∙ sym (append-nil (joined parts b.numbers)) ∙ b.is;
}
  where
    are : numbers_of row ≡ b.numbers
    are = ap numbers_of (sym (append-nil row)) ∙ b.told [] ∙ append-nil b.numbers
is_over parts row code (x ∷ rest) none b = absurd (omega (arith, none))

pub rows_more : (count : ℕ) (rows : List (List ℕ)) (row : List ℕ) → AreRows count rows →
    AreBelow count (numbers_of row) → AreRows count (rows ++ row ∷ [])
rows_more count [] row are below = (below, tt)
rows_more count (r ∷ rows) row are below = (are.0, rows_more count rows row are.1 below)

pub row_below : (count : ℕ) (rows : List (List ℕ)) (place : ℕ) → place < length rows →
    AreRows count rows → AreBelow count (numbers_of (code_at rows place))
row_below count [] place l are = absurd (omega (arith, l))
row_below count (row ∷ rows) zero l are = are.0
row_below count (row ∷ rows) (suc place) l are = row_below count rows place (omega (arith, l)) are.1

pub whole_at : (parts rows : List (List ℕ)) (place : ℕ) →
    code_at (map (whole parts) rows) place ≡ whole parts (code_at rows place)
whole_at parts rows place = get_or-map (whole parts) rows place []

-- The first part of a code

behind_first : List ℕ → List ℕ
behind_first [] = []
behind_first (y ∷ ys) = ys

same_front : (part a b : List ℕ) → part ++ a ≡ part ++ b → a ≡ b
unfolding behind_first
same_front [] a b e = e
same_front (x ∷ part) a b e = same_front part a b (ap behind_first e)

pub eq_behind : (part a b : List ℕ) → bytes_eq (part ++ a) (part ++ b) ≡ bytes_eq a b
eq_behind part a b = by (bytes_eq a b) refl
  where
    by : (t : Bool) → bytes_eq a b ≡ t → bytes_eq (part ++ a) (part ++ b) ≡ t
    by true e = (bytes_eq-Decides (part ++ a) (part ++ b)).1
        (ap (λ xs. part ++ xs) ((bytes_eq-Decides a b).0 e))
    by false e = other (bytes_eq (part ++ a) (part ++ b)) refl
      where
        other : (t : Bool) → bytes_eq (part ++ a) (part ++ b) ≡ t → t ≡ false
        other false f = refl
        other true f =
            let g : bytes_eq a b ≡ true = (bytes_eq-Decides a b).1
            (same_front part a b ((bytes_eq-Decides (part ++ a) (part ++ b)).0 f)) in
            cc

pub never_eq : (part a code : List ℕ) → ((rest : List ℕ) → part ++ rest ≡ code → ⊥) →
    bytes_eq (part ++ a) code ≡ false
never_eq part a code never = by (bytes_eq (part ++ a) code) refl
  where
    by : (t : Bool) → bytes_eq (part ++ a) code ≡ t → t ≡ false
    by false e = refl
    by true e = absurd (never a ((bytes_eq-Decides (part ++ a) code).0 e))

-- What is left of a code begins with what is left of a piece, or does not, as the whole of both.
pub record BeginAlike (left rest whole code : List ℕ) : Type 0 where
  pub some : (end : List ℕ) → rest ≡ left ++ end → code ≡ whole ++ end
  pub none : ((end : List ℕ) → left ++ end ≡ rest → ⊥) → (end : List ℕ) → whole ++ end ≡ code → ⊥

pub begin_alike : (whole code : List ℕ) → BeginAlike whole code whole code
begin_alike whole code = record { some = λ end is. is; none = λ never. never }

pub behind_alike : (part left rest others whole code : List ℕ) → rest ≡ part ++ others →
    BeginAlike (part ++ left) rest whole code → BeginAlike left others whole code
behind_alike part left rest others whole code is h = record {
  some = λ end begins. h.some end
      (is ∙ ap (λ xs. part ++ xs) begins ∙ sym (append_assoc part left end));
  none = λ never. h.none (λ end begins. never end
      (same_front part (left ++ end) others (sym (append_assoc part left end) ∙ begins ∙ is)));
}

pub never_alike : (part left rest whole code : List ℕ) →
    ((end : List ℕ) → part ++ end ≡ rest → ⊥) → BeginAlike (part ++ left) rest whole code →
    (end : List ℕ) → whole ++ end ≡ code → ⊥
never_alike part left rest whole code never h =
    h.none (λ end begins. never (left ++ end) (sym (append_assoc part left end) ∙ begins))

pub taken : (part rest : List ℕ) → take (length part) (part ++ rest) ≡ part
taken [] rest = refl
taken (x ∷ part) rest = ap (λ xs. x ∷ xs) (taken part rest)

-- One code more
pub view_more : (old new : List (List ℕ)) → AreLonger old new → (rows : List (List ℕ))
    (row code : List ℕ) → AreRows (length old) rows → whole new row ≡ code →
    map (whole new) (rows ++ row ∷ []) ≡ map (whole old) rows ++ code ∷ []
view_more old new are rows row code below is =
    map-append (whole new) rows (row ∷ [])
    ∙ ap (λ codes. codes ++ whole new row ∷ []) (rows_as old new are rows below)
    ∙ ap (λ last. map (whole old) rows ++ last ∷ []) is

-- Pieces, whose rows are of parts

pub rows_kept : (count : ℕ) (old new : List (List ℕ)) (row : List ℕ) → AreRows count old →
    AreBelow count (numbers_of row) → IsKept old new row → AreRows count new
rows_kept count old new row are below (inl is) = subst (AreRows count) (sym is) are
rows_kept count old new row are below (inr added) =
    subst (AreRows count) (sym added.0) (rows_more count old row are below)

module _ (parts more_parts rows more_rows : List (List ℕ)) (are : AreRows (length parts) rows)
    (longer : AreLonger parts more_parts) where
  abbrev pieces : List (List ℕ)
  pieces = map (whole parts) rows

  abbrev more_pieces : List (List ℕ)
  more_pieces = map (whole more_parts) more_rows

  pub pieces_longer : AreLonger rows more_rows → AreLonger pieces more_pieces
  pieces_longer behind = record {
    more = map (whole more_parts) behind.more;
    is =
        ap (map (whole more_parts)) behind.is
        ∙ map-append (whole more_parts) rows behind.more
        ∙ ap (λ first. first ++ map (whole more_parts) behind.more)
        (rows_as parts more_parts longer rows are);
  }

  pub has_piece : (row piece : List ℕ) (number : ℕ) → IsRowOf more_parts row piece →
      HasPart more_rows number row → HasPart more_pieces number piece
  has_piece row piece number is has = record {
    inside = omega (arith, has.inside, length-map more_rows (whole more_parts));
    is = whole_at more_parts more_rows number ∙ ap (whole more_parts) has.is ∙ is.is;
  }
