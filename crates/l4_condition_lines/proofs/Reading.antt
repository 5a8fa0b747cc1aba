-- What a line reads of a thread.
use Rattle.std.proofs.Common.{◌≡◌, ℕ, Bool, true, false, cond, Option, Some, None, List, [], ◌∷◌, map, refl, ap, ap₂, sym, ◌∙◌}
use Rattle.std.specs.Prelude.{◌&&◌, ◌||◌, not, codes, decimal}
use Rattle.std.specs.Str.{bytes_eq}
use Rattle.std.proofs.lemmas.Slice.Eq.{bytes_eq-Decides}
use Rattle.l4_model.specs.Words.{GlobalId, Id}
use Rattle.l4_model.specs.World.{Name, Thread}
use Rattle.l4_model.specs.History.{report_of, state_of}
use Rattle.l4_words.specs.Names.{name_word}
use Rattle.l4_words.specs.Numbers.{hexadecimal}
use Rattle.l4_words.specs.Threads.{id_word, thread_of, thread_word}
use Rattle.l4_lines.specs.Lines.{are_rest, fits, fits_word, has_number, is_any, is_rest, is_send_of, thread_asked, thread_named}
use Rattle.l4_reports.specs.ReportLines.{shown_registers, state_word}
use Rattle.l4_common_lines.proofs.Spelled.{name_has_number, thread_before, thread_words, waiting_words}
use Rattle.l4_invariants.specs.Inner.Reads.{Part, InState, InCode, InSenders, InRegisters, InSend, AreSameIn, send_told}
use Rattle.l4_condition_lines.specs.Conditions.{send_in}
use Rattle.l4_condition_lines.specs.Inner.Reading.{columns, columns_read, is_part, may_name, send_read, thread_read}

-- Words that are the same wherever they are read

abbrev Agree : (read : Part → Bool) → List Part → (xs ys : List (List ℕ)) → Type 0
Agree read [] xs ys = read InRegisters ≡ true → xs ≡ ys
Agree read (column ∷ others) [] ys = ⊥
Agree read (column ∷ others) (x ∷ xs) [] = ⊥
Agree read (column ∷ others) (x ∷ xs) (y ∷ ys) = (read column ≡ true → x ≡ y) × Agree read others xs ys

weaken : (r s : Part → Bool) → ((p : Part) → s p ≡ true → r p ≡ true) → (cs : List Part) (xs ys : List (List ℕ)) →
    Agree r cs xs ys → Agree s cs xs ys
weaken r s less [] xs ys agree = λ is. agree (less InRegisters is)
weaken r s less (c ∷ cs) [] ys agree = absurd agree
weaken r s less (c ∷ cs) (x ∷ xs) [] agree = absurd agree
weaken r s less (c ∷ cs) (x ∷ xs) (y ∷ ys) agree = ((λ is. agree.0 (less c is)), weaken r s less cs xs ys agree.1)

rest_fits : (asked words : List (List ℕ)) → are_rest asked ≡ true → fits asked words ≡ true
rest_fits [] words is = cc
rest_fits (a ∷ asked) [] is = is
rest_fits (a ∷ asked) (word ∷ words) is = ap (λ (b : Bool). b || (fits_word a word && fits asked words)) is

self_part : (p : Part) → is_part p p ≡ true
self_part InState = refl
self_part InCode = refl
self_part InSenders = refl
self_part InRegisters = refl
self_part InSend = refl

or_right : (b c : Bool) → c ≡ true → (b || c) ≡ true
or_right true c is = refl
or_right false c is = is

word_fit : (a x y : List ℕ) → (not (is_any a) ≡ true → x ≡ y) → fits_word a x ≡ fits_word a y
word_fit a x y same = by (is_any a) refl
  where
    by : (b : Bool) → is_any a ≡ b → fits_word a x ≡ fits_word a y
    by true any =
        ap (λ (b : Bool). b || bytes_eq a x || is_send_of (thread_asked a) (thread_named x)) any
        ∙ sym (ap (λ (b : Bool). b || bytes_eq a y || is_send_of (thread_asked a) (thread_named y)) any)
    by false any = ap (fits_word a) (same (ap not any))

fit : (asked : List (List ℕ)) (cs : List Part) (xs ys : List (List ℕ)) → Agree (columns_read asked cs) cs xs ys →
    fits asked xs ≡ fits asked ys
fit asked [] xs ys agree = by (are_rest asked) refl
  where
    by : (b : Bool) → are_rest asked ≡ b → fits asked xs ≡ fits asked ys
    by true rest = rest_fits asked xs rest ∙ sym (rest_fits asked ys rest)
    by false rest = ap (fits asked) (agree (ap (λ b. not b && true) rest))
fit asked (c ∷ cs) [] ys agree = absurd agree
fit asked (c ∷ cs) (x ∷ xs) [] agree = absurd agree
fit [] (c ∷ cs) (x ∷ xs) (y ∷ ys) agree = refl
fit (a ∷ asked) (c ∷ cs) (x ∷ xs) (y ∷ ys) agree = by (are_rest (a ∷ asked)) refl (fit asked cs xs ys)
  where
    by : (b : Bool) → are_rest (a ∷ asked) ≡ b →
        (Agree (columns_read asked cs) cs xs ys → fits asked xs ≡ fits asked ys) →
        fits (a ∷ asked) (x ∷ xs) ≡ fits (a ∷ asked) (y ∷ ys)
    by true rest others = rest_fits (a ∷ asked) (x ∷ xs) rest ∙ sym (rest_fits (a ∷ asked) (y ∷ ys) rest)
    by false rest others =
        let here : fits_word a x ≡ fits_word a y =
        word_fit a x y (λ some. agree.0 (rw (rest, some, self_part c) refl)) in
        let there : fits asked xs ≡ fits asked ys =
        others (weaken (columns_read (a ∷ asked) (c ∷ cs)) (columns_read asked cs)
        (λ p is.
        ap (λ b. not b && ((not (is_any a) && is_part c p) || columns_read asked cs p)) rest
        ∙ or_right (not (is_any a) && is_part c p) (columns_read asked cs p) is)
        cs xs ys agree.1) in
        ap₂ (λ (p q : Bool). are_rest (a ∷ asked) || (p && q)) here there

-- The line of a thread

abbrev tail_words : Thread → List (List ℕ)
tail_words t =
    state_word (state_of t.phase) ∷ decimal t.context.error ∷ id_word t.context.from ∷ id_word t.context.actual
    ∷ map hexadecimal (shown_registers t.context.words)

tails_agree : (read : Part → Bool) (t u : Thread) → AreSameIn read t u →
    Agree read columns (tail_words t) (tail_words u)
tails_agree read t u same = (
  (λ is. ap state_word (same.state is)),
  (
    (λ is. ap decimal (same.code is)),
    (
      (λ is. ap id_word (same.from is)),
      (
        (λ is. ap id_word (same.actual is)),
        (λ is. ap (λ ws. map hexadecimal (shown_registers ws)) (same.registers is)),
      ),
    ),
  ),
)

narrow : (r s : Part → Bool) (t u : Thread) → ((p : Part) → s p ≡ true → r p ≡ true) → AreSameIn r t u → AreSameIn s t u
narrow r s t u less same = record {
  state = λ is. same.state (less InState is);
  code = λ is. same.code (less InCode is);
  from = λ is. same.from (less InSenders is);
  actual = λ is. same.actual (less InSenders is);
  registers = λ is. same.registers (less InRegisters is);
  send = λ is. same.send (less InSend is);
}

pub thread_same : (asked : List (List ℕ)) (id : GlobalId) (t u : Thread) → AreSameIn (thread_read asked id) t u →
    fits asked (thread_words (report_of id t)) ≡ fits asked (thread_words (report_of id u))
thread_same [] id t u same = refl
thread_same (first ∷ []) id t u same = refl
thread_same (first ∷ second ∷ others) id t u same =
    by (fits_word first (codes "thread")) refl (fits_word second (thread_word id)) refl
  where
    by : (b : Bool) → fits_word first (codes "thread") ≡ b → (c : Bool) → fits_word second (thread_word id) ≡ c →
        fits (first ∷ second ∷ others) (thread_words (report_of id t)) ≡ fits (first ∷ second ∷ others)
        (thread_words (report_of id u))
    by false is c its = rw is refl
    by true is false its = rw its refl
    by true is true its =
        let there : fits others (tail_words t) ≡ fits others (tail_words u) =
        fit others columns (tail_words t) (tail_words u) (tails_agree (columns_read others columns) t u
        (narrow (thread_read (first ∷ second ∷ others) id) (columns_read others columns) t u
        (λ p read. rw (is, its) read) same)) in
        ap
        (λ (q : Bool).
        fits_word first (codes "thread") && (are_rest (second ∷ others) || (fits_word second (thread_word id) && q)))
        there

-- The line of its send

abbrev pub send_fits : (asked : List (List ℕ)) → Option (Name × Id) → Bool
send_fits asked None = false
send_fits asked (Some x) = fits asked (waiting_words x)

abbrev named : GlobalId → Option (ℕ × Id) → Option (Name × Id)
named id None = None
named id (Some p) = Some (record { thread = id; k = p.0 }, p.1)

send_named : (id : GlobalId) (t : Thread) → send_in (id, t) ≡ named id (send_told t)
send_named id t = by t.send
  where
    by : (o : Option _) → send_in (id, record t { send = o }) ≡ named id (send_told (record t { send = o }))
    by None = refl
    by (Some send) = refl

-- A name is that of a send of its thread, whatever its number.

thread_is_named : (s : Name) → thread_named (name_word s) ≡ thread_of (thread_word s.thread)
thread_is_named s =
    ap₂ (λ (number : Bool) (word : List ℕ). cond number (thread_of word) None) (name_has_number s) (thread_before s)

or_parts : (a b c : Bool) → (a || b || c) ≡ false → (a ≡ false) × (b ≡ false) × (c ≡ false)
or_parts true b c none = cc
or_parts false true c none = cc
or_parts false false c none = (refl, refl, none)

not_named : (second : List ℕ) (s : Name) → may_name second s.thread ≡ false → fits_word second (name_word s) ≡ false
not_named second s none =
    let three =
    or_parts (is_any second) (has_number second)
    (is_send_of (thread_asked second) (thread_of (thread_word s.thread))) none in
    ap (λ b. b || bytes_eq second (name_word s) || is_send_of (thread_asked second) (thread_named (name_word s)))
    three.0
    ∙ ap (λ b. b || is_send_of (thread_asked second) (thread_named (name_word s))) (unlike three.1)
    ∙ ap (is_send_of (thread_asked second)) (thread_is_named s)
    ∙ three.2
  where
    unlike : has_number second ≡ false → bytes_eq second (name_word s) ≡ false
    unlike none = by (bytes_eq second (name_word s)) refl
      where
        by : (b : Bool) → bytes_eq second (name_word s) ≡ b → b ≡ false
        by false equal = refl
        by true equal =
            let words : second ≡ name_word s = (bytes_eq-Decides second (name_word s)).0 equal in
            let bad : false ≡ true = sym none ∙ ap has_number words ∙ name_has_number s in
            cc

no_send : (asked : List (List ℕ)) (s : Name) (to : Id) → send_read asked s.thread InSend ≡ false →
    fits asked (waiting_words (s, to)) ≡ false
no_send [] s to none = refl
no_send (first ∷ []) s to none = by (is_rest first) (fits_word first (codes "waiting")) none
  where
    by : (rest first : Bool) → (rest && true) ≡ false → (rest || (first && false)) ≡ false
    by true first none = cc
    by false true none = refl
    by false false none = refl
no_send (first ∷ second ∷ others) s to none =
    by (fits_word first (codes "waiting")) (are_rest (second ∷ others)) (may_name second s.thread) refl none
  where
    by : (first rest name : Bool) → may_name second s.thread ≡ name → (first && (rest || name) && true) ≡ false →
        (first && (rest || (fits_word second (name_word s) && fits others (id_word to ∷ [])))) ≡ false
    by false rest name its none = refl
    by true true name its none = cc
    by true false true its none = cc
    by true false false its none = ap (λ b. b && fits others (id_word to ∷ [])) (not_named second s its)

pub send_same : (asked : List (List ℕ)) (id : GlobalId) (t u : Thread) →
    (send_read asked id InSend ≡ true → send_told t ≡ send_told u) →
    send_fits asked (send_in (id, t)) ≡ send_fits asked (send_in (id, u))
send_same asked id t u same = by (send_read asked id InSend) refl
  where
    none_fits : send_read asked id InSend ≡ false → (x : Thread) → send_fits asked (send_in (id, x)) ≡ false
    none_fits none x = ap (send_fits asked) (send_named id x) ∙ of (send_told x)
      where
        of : (o : Option (ℕ × Id)) → send_fits asked (named id o) ≡ false
        of None = refl
        of (Some p) = no_send asked (record { thread = id; k = p.0 }) p.1 none

    by : (b : Bool) → send_read asked id InSend ≡ b →
        send_fits asked (send_in (id, t)) ≡ send_fits asked (send_in (id, u))
    by true is = ap (send_fits asked) (send_named id t ∙ ap (named id) (same is) ∙ sym (send_named id u))
    by false is = none_fits is t ∙ sym (none_fits is u)
