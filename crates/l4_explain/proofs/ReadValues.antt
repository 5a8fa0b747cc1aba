-- Values are read as they are written.
use Rattle.std.proofs.Common.{◌≡◌, ℕ, ◌<◌, ◌^◌, true, false, eqb, List, [], ◌∷◌, ◌++◌, Option, Some, None, refl, ap, ◌∙◌, arith}
use Rattle.std.specs.Prelude.{◌==◌, if◌then◌else◌, codes, decimal}
use Rattle.std.specs.Char.{digit_value}
use Rattle.std.specs.List.{before_first, after_first}
use Rattle.std.specs.Option.{option_map}
use Rattle.std.specs.Str.{bytes_eq}
use Rattle.std.specs.Str.Parse.{IsNumeral}
use Rattle.std.proofs.lemmas.Bool.{and_parts, ltb-true}
use Rattle.std.proofs.lemmas.Bool.Decides.{nat_tests}
use Rattle.std.proofs.lemmas.Fmt.{digits_is_IsNumeral}
use Rattle.l4_model.specs.Words.{W64, GlobalId, Id, NilThread, AnyThread, AnyLocalThread, LocalThread, GlobalThread, is_global, has_word_in}
use Rattle.l4_model.specs.Machine.{OrderKind, CancelSend, CancelReceive, CancelBoth, Delete}
use Rattle.l4_model.specs.World.{PendingOrder}
use Rattle.l4_model.specs.Conditions.{◌>>=◌}
use Rattle.l4_types.specs.declared.reports.State.{State}
use Rattle.l4_types.specs.declared.reports.State.TheVariants.{Ready, Sending, Receiving, Ordering, Ended, Deleted}
use Rattle.l4_types.specs.ReportView.{state_of_view}
use Rattle.l4_reports.specs.ReportLines.{id_word, state_word}
use Rattle.l4_trace.specs.Lines.{thread_word, order_kind_word}
use Rattle.l4_trace.specs.Reading.{order_kind_of_word}
use Rattle.l4_words.specs.Numbers.{number_of}
use Rattle.l4_words.specs.Threads.{thread_of}
use Rattle.l4_words.proofs.Above.{above_lower, front_of, back_of}
use Rattle.l4_words.proofs.Numerals.{hexadecimal_is_read}
use Rattle.l4_words.proofs.Spelled.{fits, thread_is_above, thread_is_read}

-- States

abbrev pub state_read : List ℕ → Option State
state_read word =
    if bytes_eq word (codes "ready") then Some Ready
    else (if bytes_eq word (codes "sending") then Some Sending
    else (if bytes_eq word (codes "receiving") then Some Receiving
    else (if bytes_eq word (codes "ordering") then Some Ordering
    else (if bytes_eq word (codes "ended") then Some Ended
    else (if bytes_eq word (codes "deleted") then Some Deleted
    else None)))))

pub state_is_read : (state : State) → state_read (state_word (state_of_view state)) ≡ Some state
state_is_read Ready = refl
state_is_read Sending = refl
state_is_read Receiving = refl
state_is_read Ordering = refl
state_is_read Ended = refl
state_is_read Deleted = refl

-- Ids

abbrev behind_hash : ℕ → List ℕ → Option Id
behind_hash c cs = if c == 35 then option_map LocalThread (number_of 16 cs) else option_map GlobalThread (thread_of (c ∷ cs))

abbrev numbered : List ℕ → Option Id
numbered [] = None
numbered (c ∷ cs) = behind_hash c cs

abbrev pub id_read : List ℕ → Option Id
id_read word =
    if bytes_eq word (codes "nil") then Some NilThread
    else (if bytes_eq word (codes "any") then Some AnyThread
    else (if bytes_eq word (codes "anylocal") then Some AnyLocalThread
    else numbered word))

no_digit : (c d : ℕ) → digit_value c < 10 → (57 < d) → eqb c d ≡ false
no_digit c d l above = grind (arith, nat_tests)

no_hash : (c : ℕ) → digit_value c < 10 → eqb c 35 ≡ false
no_hash c l = grind (arith, nat_tests)

numeral_is_read : (front dot rest : List ℕ) → IsNumeral 10 front → id_read (front ++ dot ++ rest) ≡ option_map GlobalThread (thread_of (front ++ dot ++ rest))
numeral_is_read [] dot rest h = absurd (omega (arith, h.0))
numeral_is_read (c ∷ cs) dot rest h = rw (no_digit c 110 h.1.0 (omega arith), no_digit c 97 h.1.0 (omega arith), no_hash c h.1.0) refl

number_is_numeral : (t : GlobalId) → is_global t ≡ true → IsNumeral 10 (decimal t.number)
number_is_numeral t h = (digits_is_IsNumeral 10 false (omega arith) (omega arith) t.number (omega (arith, (fits t h).number))).0

pub id_is_read : (id : Id) → has_word_in W64 id ≡ true → id_read (id_word id) ≡ Some id
id_is_read NilThread h = refl
id_is_read AnyThread h = refl
id_is_read AnyLocalThread h = refl
id_is_read (LocalThread word) h =
    let small = ltb-true word (2 ^ 64) (and_parts _ _ (and_parts _ _ (and_parts _ _ h).0).0).0 in
    ap (option_map LocalThread) (hexadecimal_is_read word small)
id_is_read (GlobalThread t) h =
    numeral_is_read (decimal t.number) (codes ".") (decimal t.version) (number_is_numeral t h) ∙ ap (option_map GlobalThread) (thread_is_read t h)

-- Orders

pub what_is_read : (what : OrderKind) → order_kind_of_word (order_kind_word what) ≡ Some what
what_is_read CancelSend = refl
what_is_read CancelReceive = refl
what_is_read CancelBoth = refl
what_is_read Delete = refl

abbrev order_between : (target what : List ℕ) → Option PendingOrder
order_between first second = do
  target ← thread_of first
  what ← order_kind_of_word second
  Some (record { target = target; what = what })

abbrev pub order_read : List ℕ → Option PendingOrder
order_read words = order_between (before_first (λ x. x == 32) words) (after_first (λ x. x == 32) words)

pub order_is_read : (order : PendingOrder) → is_global order.target ≡ true → order_read (thread_word order.target ++ codes " " ++ order_kind_word order.what) ≡ Some order
order_is_read order h =
    let above = above_lower 32 35 (omega arith) (thread_word order.target) (thread_is_above order.target h) in
    rw (
      front_of 32 (thread_word order.target) (order_kind_word order.what) above,
      back_of 32 (thread_word order.target) (order_kind_word order.what) above,
      thread_is_read order.target h,
      what_is_read order.what,
    ) refl
