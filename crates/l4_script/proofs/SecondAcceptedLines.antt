-- What lines of scripts of version 2 say that are accepted can be spelled.
use Rattle.std.proofs.Common.{◌≡◌, ℕ, ◌*◌, ◌/◌, ◌%◌, ◌^◌, ◌-◌, ◌<◌, ◌≤◌, Bool, true, false, not, ◌&&◌, ◌||◌, List, [], length, take, drop, Option, Some, None, Ok, Err, refl, sym, ◌∙◌, subst, arith, inl, inr}
use Rattle.std.specs.Prelude.{◌==◌, nat_lt, nat_le, codes, bytes_eq, find, is_some}
use Rattle.std.specs.List.{list_all}
use Rattle.std.proofs.lemmas.Bool.{ltb-true, lt-ltb, leb-true, le-leb, eqb-true, ne_eqb, and_parts, and_from, or_cases, false≢true, cases_eq}
use Rattle.l4_model.specs.Words.{Format, W64, W32, GlobalId, Period, is_global_in, has_word_in, number_limit, version_limit, label_limit_in, global_id, Id, NilThread, AnyThread, AnyLocalThread, LocalThread, GlobalThread, same_format}
use Rattle.l4_model.specs.Machine.{IdFrom, Fixed, Last, InRegister, OrderKind, CancelSend, CancelReceive, CancelBoth, Delete, Value, Word, Register, Computed, FromWord, Assign, Instr, Run, Tag, Vs, Ipc, Ask, Jump, OnErr, OnLabel, OnWord, OnFrom, End}
use Rattle.l4_types.specs.Ids.{global_of}
use Rattle.l4_words.specs.Words.{one, two, three, four}
use Rattle.l4_words.specs.Numbers as words
use Rattle.l4_words.proofs.Found.{mapped, some_same}
use Rattle.l4_script.specs.declared.text.fault.TextFaultKind.TheVariants.{BadNumber, BadId, BadName, BadLine, TypedItems}
use Rattle.l4_script.specs.Judged.{Judged, ◌>>=◌, must, needs}
use Rattle.l4_script.specs.Numbers.{number_from, word_from}
use Rattle.l4_script.specs.Ids.{thread_in, id_of}
use Rattle.l4_script.specs.Statements.{processor_of, value_of, assign_of, assigned_or, tag_of, bits_of, end_of}
use Rattle.l4_script.specs.Canonical.{is_register, has_time, exponent_of, can_be_assigned}
use Rattle.l4_script.specs.Second.Names.{Named, is_name, is_register_word, id_under, id_by_name, id_named, thread_named}
use Rattle.l4_script.specs.Second.Operands.{register_of, id_or_register_of, id_or_last_of, place_of, exact_period, ends_with, counted_in, second_time_from}
use Rattle.l4_script.specs.Second.Statements.{thread_words_of, Heir, last_number, second_declaration_of, Unplaced, targeting, from_of, second_vs_of, second_ipc_of, second_exregs_of, second_delete_of, goes_to, on_label_of, on_word_of, on_from_of, second_other_of, plain_of, second_instruction_of}
use Rattle.l4_script.specs.Second.Canonical.{is_source, has_id_or_register, has_id_from, second_can_be_written}
use Rattle.l4_script.proofs.Judging.{bind_ok, then_ok, must_ok, needs_ok, chosen, says, same_ok, number_within, word_needed}
use Rattle.l4_script.proofs.Operations.{found_passes}
use Rattle.l4_script.proofs.Times.{time_said}
use Rattle.l4_script.proofs.Values.{SaysValues, value_said, format_itself}
use Rattle.l4_script.proofs.AcceptedLines.{thread_said, id_said, register_within, processor_below}

-- Names

abbrev pub are_words : Format → List Named → Bool
are_words f names = list_all (λ n. has_word_in f n.id) names

under_said : (f : Format) (names : List Named) (name : List ℕ) (id : Id) → are_words f names ≡ true → id_under names name ≡ Some id → has_word_in f id ≡ true
under_said f names name id good e =
    let n = mapped (λ (n : Named). n.id) (find (λ (n : Named). bytes_eq n.name name) names) id e in
    subst (λ (id : Id). has_word_in f id ≡ true) n.2 (found_passes (λ (n : Named). bytes_eq n.name name) (λ (n : Named). has_word_in f n.id) names n.0 n.1 good)

by_name_said : (f : Format) (names : List Named) (word : List ℕ) (id : Id) → are_words f names ≡ true → id_by_name names word ≡ Ok id → has_word_in f id ≡ true
unfolding id_by_name
by_name_said f names word id good e =
    chosen (has_word_in f id ≡ true) (is_name word) (needs (id_under names word) BadName) (Err BadId) (says id) e
    (λ t h. under_said f names word id good (needs_ok (id_under names word) BadName id h))
    (λ h. absurd cc)

pub spelled : (f : Format) (names : List Named) (word : List ℕ) (id : Id) → id_of f word ≡ Some id → id_named f names word ≡ Ok id
unfolding id_named
spelled f names word id e = rw e refl

unspelled : (f : Format) (names : List Named) (word : List ℕ) → id_of f word ≡ None → id_named f names word ≡ id_by_name names word
unfolding id_named
unspelled f names word e = rw e refl

pub named_said : (f : Format) (names : List Named) (word : List ℕ) (id : Id) → are_words f names ≡ true → id_named f names word ≡ Ok id → has_word_in f id ≡ true
named_said f names word id good e = by (id_of f word) refl
  where
    by : (o : Option Id) → id_of f word ≡ o → has_word_in f id ≡ true
    by (Some known) is = subst (λ (id : Id). has_word_in f id ≡ true) (same_ok known id (sym (spelled f names word known is) ∙ e)) (id_said f word known is)
    by None is = by_name_said f names word id good (sym (unspelled f names word is) ∙ e)

pub thread_spelled : (f : Format) (names : List Named) (word : List ℕ) (t : GlobalId) → thread_in f word ≡ Some t → thread_named f names word ≡ Ok t
unfolding thread_named
thread_spelled f names word t e = rw e refl

thread_unspelled : (f : Format) (names : List Named) (word : List ℕ) → thread_in f word ≡ None → thread_named f names word ≡ (id_by_name names word >>= λ id. needs (global_of id) BadId)
unfolding thread_named
thread_unspelled f names word e = rw e refl

global_said : (f : Format) (id : Id) (t : GlobalId) → has_word_in f id ≡ true → global_of id ≡ Some t → is_global_in f t ≡ true
global_said f (GlobalThread known) t h e = subst (λ (t : GlobalId). is_global_in f t ≡ true) (some_same known t e) h
global_said f NilThread t h e = absurd cc
global_said f AnyThread t h e = absurd cc
global_said f AnyLocalThread t h e = absurd cc
global_said f (LocalThread word) t h e = absurd cc

pub thread_named_said : (f : Format) (names : List Named) (word : List ℕ) (t : GlobalId) → are_words f names ≡ true → thread_named f names word ≡ Ok t → is_global_in f t ≡ true
thread_named_said f names word t good e = by (thread_in f word) refl
  where
    by : (o : Option GlobalId) → thread_in f word ≡ o → is_global_in f t ≡ true
    by (Some known) is = subst (λ (t : GlobalId). is_global_in f t ≡ true) (same_ok known t (sym (thread_spelled f names word known is) ∙ e)) (thread_said f word known is)
    by None is =
        let id = bind_ok (id_by_name names word) (λ id. needs (global_of id) BadId) t (sym (thread_unspelled f names word is) ∙ e) in
        global_said f id.0 t (by_name_said f names word id.0 good id.1) (needs_ok (global_of id.0) BadId t id.2)

-- Operands

is_from : (f : Format) (a b : IdFrom) → a ≡ b → has_id_or_register f a ≡ true → has_id_or_register f b ≡ true
is_from f a b e h = subst (λ (from : IdFrom). has_id_or_register f from ≡ true) e h

register_said : (f : Format) (word : List ℕ) (from : IdFrom) → register_of f word ≡ Ok from → has_id_or_register f from ≡ true
unfolding register_of
register_said f word from e =
    let a = bind_ok (needs (words.number_of 10 (drop 2 word)) BadId) _ from e in
    let low = then_ok (must (nat_le a.0 63) BadId) _ from a.2 in
    is_from f (InRegister f a.0) from (same_ok _ _ low.1) (and_from (same_format f f) (is_source a.0) (format_itself f) (must_ok _ BadId low.0))

id_or_register_said : (f : Format) (names : List Named) (word : List ℕ) (from : IdFrom) → are_words f names ≡ true → id_or_register_of f names word ≡ Ok from → has_id_or_register f from ≡ true
unfolding id_or_register_of
id_or_register_said f names word from good e =
    chosen (has_id_or_register f from ≡ true) (is_register_word word) (register_of f word) _ (says from) e
    (λ t. register_said f word from)
    (λ h.
    let id = bind_ok (id_named f names word) _ from h in
    is_from f (Fixed id.0) from (same_ok _ _ id.2) (named_said f names word id.0 good id.1))

from_too : (f : Format) (from : IdFrom) → has_id_or_register f from ≡ true → has_id_from f from ≡ true
from_too f (Fixed id) h = h
from_too f Last h = refl
from_too f (InRegister format a) h = h

id_or_last_said : (f : Format) (names : List Named) (word : List ℕ) (from : IdFrom) → are_words f names ≡ true → id_or_last_of f names word ≡ Ok from → has_id_from f from ≡ true
unfolding id_or_last_of
id_or_last_said f names word from good e =
    chosen (has_id_from f from ≡ true) (bytes_eq word (codes "last")) (says Last) _ (says from) e
    (λ t h. subst (λ (from : IdFrom). has_id_from f from ≡ true) (same_ok Last from h) refl)
    (λ h. from_too f from (id_or_register_said f names word from good h))

-- Times

exact_said : (ticks : ℕ) (period : Period) → exact_period ticks ≡ Ok period → has_time period ≡ true
unfolding exponent_of
exact_said ticks period e =
    chosen (has_time period ≡ true) (ticks == 0 || is_some (exponent_of ticks)) (says (Some ticks)) (Err BadNumber) (says period) e
    (λ t h. subst (λ (p : Period). has_time p ≡ true) (same_ok (Some ticks) period h) (by t)) (λ h. absurd cc)
  where
    by : (ticks == 0 || is_some (exponent_of ticks)) ≡ true → is_some (exponent_of ticks) ≡ true
    by t = elim (or_cases (ticks == 0) (is_some (exponent_of ticks)) t) [
      | inl none ↦ subst (λ (n : ℕ). is_some (exponent_of n) ≡ true) (sym (eqb-true ticks 0 none)) refl
      | inr some ↦ some
    ]

counted_said : (unit : ℕ) (ending word : List ℕ) (period : Period) → counted_in unit ending word ≡ Ok period → has_time period ≡ true
counted_said unit ending word period e =
    let count = bind_ok (needs (words.number_of 10 (take (length word - length ending) word)) BadNumber) _ period e in
    exact_said (count.0 * unit) period count.2

second_time_said : (word : List ℕ) (period : Period) → second_time_from word ≡ Ok period → has_time period ≡ true
unfolding second_time_from
second_time_said word period e =
    chosen (has_time period ≡ true) (ends_with (codes "us") word) (counted_in 1 (codes "us") word) _ (says period) e (λ t. counted_said 1 (codes "us") word period) (λ e.
    chosen (has_time period ≡ true) (ends_with (codes "ms") word) (counted_in 1000 (codes "ms") word) _ (says period) e (λ t. counted_said 1000 (codes "ms") word period) (λ e.
    chosen (has_time period ≡ true) (ends_with (codes "s") word) (counted_in 1000000 (codes "s") word) _ (says period) e (λ t. counted_said 1000000 (codes "s") word period) (λ e.
    time_said word period e)))

-- Instructions

-- An instruction that names one has 0 in its place yet.
abbrev pub is_said_second : Format → Instr → Bool
is_said_second f instr = second_can_be_written f 0 instr

moved : (f : Format) (a b : Instr) → a ≡ b → is_said_second f a ≡ true → is_said_second f b ≡ true
moved f a b e h = subst (λ (i : Instr). is_said_second f i ≡ true) e h

assigned_said : (f : Format) (a : ℕ) (value : Value) → is_register a ≡ true → can_be_assigned f value ≡ true → is_said_second f (Run (Assign a value)) ≡ true
assigned_said f a (Word word) register value = and_from _ _ register value
assigned_said f a (Register b) register value = and_from _ _ register value
assigned_said f a (Computed operation format word) register value = and_from _ _ register value
assigned_said f a (FromWord format) register value = absurd (false≢true (and_parts (same_format format f) false value).1)

assign_said : (f : Format) (said : List ℕ → Judged Value) (operands : List (List ℕ)) (instr : Instr) → SaysValues f said → assign_of said operands ≡ Ok instr → is_said_second f instr ≡ true
unfolding assign_of
assign_said f said operands instr values e =
    let words = bind_ok (needs (two operands) BadLine) _ instr e in
    let register = bind_ok (number_from 1 63 words.0.0) _ instr words.2 in
    let value = bind_ok (said words.0.1) _ instr register.2 in
    moved f (Run (Assign register.0 value.0)) instr (same_ok _ _ value.2) (assigned_said f register.0 value.0 (register_within words.0.0 register.0 register.1) (values words.0.1 value.0 value.1))

from_said : (f : Format) (operands : List (List ℕ)) (instr : Instr) → from_of f operands ≡ Ok instr → is_said_second f instr ≡ true
unfolding from_of
from_said f operands instr e =
    let number = bind_ok (needs (one operands) BadLine) _ instr e in
    let register = bind_ok (number_from 1 63 number.0) _ instr number.2 in
    moved f (Run (Assign register.0 (FromWord f))) instr (same_ok _ _ register.2) (and_from (is_register register.0) (same_format f f) (register_within number.0 register.0 register.1) (format_itself f))

tag_said : (f : Format) (operands : List (List ℕ)) (instr : Instr) → tag_of f operands ≡ Ok instr → is_said_second f instr ≡ true
unfolding tag_of
tag_said f operands instr e =
    let number = bind_ok (needs (one operands) BadLine) _ instr e in
    let word = bind_ok (word_from f number.0) _ instr number.2 in
    let untyped = then_ok (must (word.0 / 2 ^ 6 % 64 == 0) TypedItems) _ instr word.2 in
    moved f (Tag word.0) instr (same_ok _ _ untyped.1) (and_from _ _ (word_needed f number.0 word.0 word.1) (must_ok _ TypedItems untyped.0))

vs_said : (f : Format) (names : List Named) (operands : List (List ℕ)) (instr : Instr) → are_words f names ≡ true → second_vs_of f names operands ≡ Ok instr → is_said_second f instr ≡ true
unfolding second_vs_of
vs_said f names operands instr good e =
    let word = bind_ok (needs (one operands) BadLine) _ instr e in
    let from = bind_ok (id_or_last_of f names word.0) _ instr word.2 in
    moved f (Vs from.0) instr (same_ok _ _ from.2) (id_or_last_said f names word.0 from.0 good from.1)

ipc_said : (f : Format) (names : List Named) (operands : List (List ℕ)) (instr : Instr) → are_words f names ≡ true → second_ipc_of f names operands ≡ Ok instr → is_said_second f instr ≡ true
unfolding second_ipc_of
ipc_said f names operands instr good e =
    let words = bind_ok (needs (four operands) BadLine) _ instr e in
    let to = bind_ok (id_or_last_of f names words.0.0) _ instr words.2 in
    let from = bind_ok (id_or_last_of f names words.0.1) _ instr to.2 in
    let send = bind_ok (second_time_from words.0.2) _ instr from.2 in
    let receive = bind_ok (second_time_from words.0.3) _ instr send.2 in
    let ids = and_from (has_id_from f to.0) (has_id_from f from.0) (id_or_last_said f names words.0.0 to.0 good to.1) (id_or_last_said f names words.0.1 from.0 good from.1) in
    let phases = and_from (has_id_from f to.0 && has_id_from f from.0) (has_time send.0) ids (second_time_said words.0.2 send.0 send.1) in
    moved f (Ipc to.0 from.0 send.0 receive.0) instr (same_ok _ _ receive.2) (and_from _ (has_time receive.0) phases (second_time_said words.0.3 receive.0 receive.1))

cancels_said : (f : Format) (target : IdFrom) (word : List ℕ) (what : OrderKind) → bits_of word ≡ Some what → has_id_from f target ≡ true → is_said_second f (Ask target what) ≡ true
unfolding bits_of
cancels_said f target word CancelSend e h = h
cancels_said f target word CancelReceive e h = h
cancels_said f target word CancelBoth e h = h
cancels_said f target word Delete e h =
    chosen (is_said_second f (Ask target Delete) ≡ true) (bytes_eq word (codes "S")) (Some CancelSend) _ (Some Delete) e (λ t e. absurd cc) (λ e.
    chosen (is_said_second f (Ask target Delete) ≡ true) (bytes_eq word (codes "R")) (Some CancelReceive) _ (Some Delete) e (λ t e. absurd cc) (λ e.
    chosen (is_said_second f (Ask target Delete) ≡ true) (bytes_eq word (codes "SR")) (Some CancelBoth) None (Some Delete) e (λ t e. absurd cc) (λ e. absurd cc)))

exregs_said : (f : Format) (names : List Named) (operands : List (List ℕ)) (instr : Instr) → are_words f names ≡ true → second_exregs_of f names operands ≡ Ok instr → is_said_second f instr ≡ true
unfolding second_exregs_of
exregs_said f names operands instr good e =
    let words = bind_ok (needs (two operands) BadLine) _ instr e in
    let what = bind_ok (needs (bits_of words.0.1) BadLine) _ instr words.2 in
    let target = bind_ok (id_or_last_of f names words.0.0) _ instr what.2 in
    moved f (Ask target.0 what.0) instr (same_ok _ _ target.2) (cancels_said f target.0 words.0.1 what.0 (needs_ok (bits_of words.0.1) BadLine what.0 what.1) (id_or_last_said f names words.0.0 target.0 good target.1))

delete_said : (f : Format) (names : List Named) (operands : List (List ℕ)) (instr : Instr) → are_words f names ≡ true → second_delete_of f names operands ≡ Ok instr → is_said_second f instr ≡ true
unfolding second_delete_of
delete_said f names operands instr good e =
    let word = bind_ok (needs (one operands) BadLine) _ instr e in
    let target = bind_ok (id_or_register_of f names word.0) _ instr word.2 in
    moved f (Ask target.0 Delete) instr (same_ok _ _ target.2) (id_or_register_said f names word.0 target.0 good target.1)

end_said : (f : Format) (operands : List (List ℕ)) (instr : Instr) → end_of operands ≡ Ok instr → is_said_second f instr ≡ true
end_said f [] instr e = moved f End instr (same_ok _ _ e) refl
end_said f _ instr e = absurd cc

other_said : (f : Format) (names : List Named) (name : List ℕ) (operands : List (List ℕ)) (instr : Instr) → are_words f names ≡ true → second_other_of f names name operands ≡ Ok instr → is_said_second f instr ≡ true
unfolding second_other_of
other_said f names name operands instr good e =
    chosen (is_said_second f instr ≡ true) (bytes_eq name (codes "from")) (from_of f operands) _ (says instr) e (λ t. from_said f operands instr) (λ e.
    chosen (is_said_second f instr ≡ true) (bytes_eq name (codes "tag")) (tag_of f operands) _ (says instr) e (λ t. tag_said f operands instr) (λ e.
    chosen (is_said_second f instr ≡ true) (bytes_eq name (codes "vs")) (second_vs_of f names operands) _ (says instr) e (λ t. vs_said f names operands instr good) (λ e.
    chosen (is_said_second f instr ≡ true) (bytes_eq name (codes "ipc")) (second_ipc_of f names operands) _ (says instr) e (λ t. ipc_said f names operands instr good) (λ e.
    chosen (is_said_second f instr ≡ true) (bytes_eq name (codes "exregs")) (second_exregs_of f names operands) _ (says instr) e (λ t. exregs_said f names operands instr good) (λ e.
    chosen (is_said_second f instr ≡ true) (bytes_eq name (codes "delete")) (second_delete_of f names operands) _ (says instr) e (λ t. delete_said f names operands instr good) (λ e.
    chosen (is_said_second f instr ≡ true) (bytes_eq name (codes "end")) (end_of operands) _ (says instr) e (λ t. end_said f operands instr) (λ e. absurd cc)))))))

plain_said : (f : Format) (names : List Named) (name : List ℕ) (operands : List (List ℕ)) (instr : Instr) → are_words f names ≡ true → plain_of f names name operands ≡ Ok instr → is_said_second f instr ≡ true
unfolding plain_of
plain_said f names name operands instr good e = by (value_of f name) refl e
  where
    by : (o : Option (List ℕ → Judged Value)) → value_of f name ≡ o → assigned_or o operands (second_other_of f names name operands) ≡ Ok instr → is_said_second f instr ≡ true
    by (Some said) is e = assign_said f said operands instr (value_said f name said is) e
    by None is e = other_said f names name operands instr good e

targeting_said : (f : Format) (instr : Instr) (word : List ℕ) (said : Unplaced) → is_said_second f instr ≡ true → targeting instr word ≡ Ok said → is_said_second f said.instr ≡ true
targeting_said f instr word said h e =
    let place = bind_ok (place_of word) _ said e in
    subst (λ (said : Unplaced). is_said_second f said.instr ≡ true) (same_ok _ said place.2) h

goes_said : (f : Format) (instr : Instr) (operands : List (List ℕ)) (said : Unplaced) → is_said_second f instr ≡ true → goes_to instr operands ≡ Ok said → is_said_second f said.instr ≡ true
goes_said f instr operands said h e =
    let word = bind_ok (needs (one operands) BadLine) _ said e in
    targeting_said f instr word.0 said h word.2

below_limit : (f : Format) (n : ℕ) → n ≤ label_limit_in f - 1 → nat_lt n (label_limit_in f) ≡ true
below_limit W64 n h = lt-ltb n (label_limit_in W64) (omega (arith, h))
below_limit W32 n h = lt-ltb n (label_limit_in W32) (omega (arith, h))

on_label_said : (f : Format) (operands : List (List ℕ)) (said : Unplaced) → on_label_of f operands ≡ Ok said → is_said_second f said.instr ≡ true
unfolding on_label_of
on_label_said f operands said e =
    let words = bind_ok (needs (two operands) BadLine) _ said e in
    let label = bind_ok (number_from 0 (label_limit_in f - 1) words.0.0) _ said words.2 in
    let limit = below_limit f label.0 (number_within 0 (label_limit_in f - 1) words.0.0 label.0 label.1).1 in
    targeting_said f (OnLabel label.0 0) words.0.1 said (and_from (nat_lt label.0 (label_limit_in f)) true limit refl) label.2

on_word_said : (f : Format) (operands : List (List ℕ)) (said : Unplaced) → on_word_of f operands ≡ Ok said → is_said_second f said.instr ≡ true
unfolding on_word_of
on_word_said f operands said e =
    let words = bind_ok (needs (three operands) BadLine) _ said e in
    let a = bind_ok (number_from 0 63 words.0.0) _ said words.2 in
    let word = bind_ok (word_from f words.0.1) _ said a.2 in
    let source = le-leb a.0 63 (number_within 0 63 words.0.0 a.0 a.1).1 in
    targeting_said f (OnWord a.0 word.0 0) words.0.2 said (and_from (is_source a.0 && _) true (and_from (is_source a.0) _ source (word_needed f words.0.1 word.0 word.1)) refl) word.2

on_from_said : (f : Format) (names : List Named) (operands : List (List ℕ)) (said : Unplaced) → are_words f names ≡ true → on_from_of f names operands ≡ Ok said → is_said_second f said.instr ≡ true
unfolding on_from_of
on_from_said f names operands said good e =
    let words = bind_ok (needs (two operands) BadLine) _ said e in
    let id = bind_ok (id_named f names words.0.0) _ said words.2 in
    targeting_said f (OnFrom id.0 0) words.0.1 said (and_from (has_word_in f id.0) true (named_said f names words.0.0 id.0 good id.1) refl) id.2

pub second_instruction_said : (f : Format) (names : List Named) (name : List ℕ) (operands : List (List ℕ)) (said : Unplaced) → are_words f names ≡ true → second_instruction_of f names name operands ≡ Ok said → is_said_second f said.instr ≡ true
unfolding second_instruction_of
second_instruction_said f names name operands said good e =
    chosen (is_said_second f said.instr ≡ true) (bytes_eq name (codes "jump")) (goes_to (Jump 0) operands) _ (says said) e (λ t. goes_said f (Jump 0) operands said refl) (λ e.
    chosen (is_said_second f said.instr ≡ true) (bytes_eq name (codes "onerr")) (goes_to (OnErr 0) operands) _ (says said) e (λ t. goes_said f (OnErr 0) operands said refl) (λ e.
    chosen (is_said_second f said.instr ≡ true) (bytes_eq name (codes "onlabel")) (on_label_of f operands) _ (says said) e (λ t. on_label_said f operands said) (λ e.
    chosen (is_said_second f said.instr ≡ true) (bytes_eq name (codes "onword")) (on_word_of f operands) _ (says said) e (λ t. on_word_said f operands said) (λ e.
    chosen (is_said_second f said.instr ≡ true) (bytes_eq name (codes "onfrom")) (on_from_of f names operands) _ (says said) e (λ t. on_from_said f names operands said good) (λ e.
    let instr = bind_ok (plain_of f names name operands) _ said e in
    subst (λ (said : Unplaced). is_said_second f said.instr ≡ true) (same_ok _ said instr.2) (plain_said f names name operands instr.0 good instr.1))))))

-- Declarations

-- The first thread and the last one have ids of the format, and so have those between them.
pub record IsSecondOpened (f : Format) (cpus : ℕ) (heir : Heir) : Type 0 where
  pub first : is_global_in f heir.declaration.id ≡ true
  pub last : is_global_in f (global_id heir.last heir.declaration.id.version) ≡ true
  pub rises : heir.declaration.id.number ≤ heir.last
  pub home : heir.declaration.cpu < cpus
  pub space : heir.declaration.space < 2 ^ 32

pub record IsLastOf (f : Format) (first : GlobalId) (last : ℕ) : Type 0 where
  pub global : is_global_in f (global_id last first.version) ≡ true
  pub rises : first.number ≤ last

last_said : (f : Format) (names : List Named) (first : GlobalId) (word : Option (List ℕ)) (last : ℕ) → are_words f names ≡ true → is_global_in f first ≡ true → last_number f names first word ≡ Ok last → IsLastOf f first last
last_said f names first None last good h e = subst (IsLastOf f first) (same_ok first.number last e) (record { global = h; rises = omega arith })
last_said f names first (Some word) last good h e =
    let t = bind_ok (thread_named f names word) _ last e in
    let same = then_ok (must (t.0.version == first.version && nat_le first.number t.0.number) BadId) _ last t.2 in
    let parts = and_parts (t.0.version == first.version) (nat_le first.number t.0.number) (must_ok _ BadId same.0) in
    let global = thread_named_said f names word t.0 good t.1 in
    subst (IsLastOf f first) (same_ok t.0.number last same.1)
    (record {
      global = subst (λ (v : ℕ). is_global_in f (global_id t.0.number v) ≡ true) (eqb-true t.0.version first.version parts.0) global;
      rises = leb-true first.number t.0.number parts.1;
    })

pub second_declaration_said : (f : Format) (names : List Named) (cpus : ℕ) (operands : List (List ℕ)) (heir : Heir) → are_words f names ≡ true → second_declaration_of f names cpus operands ≡ Ok heir → IsSecondOpened f cpus heir
unfolding second_declaration_of
second_declaration_said f names cpus operands heir good e =
    let words = bind_ok (needs (thread_words_of operands) BadLine) _ heir e in
    let id = bind_ok (thread_named f names words.0.id) _ heir words.2 in
    let last = bind_ok (last_number f names id.0 words.0.last) _ heir id.2 in
    let cpu = bind_ok (processor_of cpus words.0.home.cpu) _ heir last.2 in
    let space = bind_ok (number_from 0 (2 ^ 32 - 1) words.0.home.space) _ heir cpu.2 in
    let below : space.0 < 2 ^ 32 = omega (arith, number_within 0 (2 ^ 32 - 1) words.0.home.space space.0 space.1) in
    let global = thread_named_said f names words.0.id id.0 good id.1 in
    let until = last_said f names id.0 words.0.last last.0 good global last.1 in
    subst (IsSecondOpened f cpus) (same_ok _ heir space.2)
    (record { first = global; last = until.global; rises = until.rises; home = processor_below cpus words.0.home.cpu cpu.0 cpu.1; space = below })

-- A number between two that make ids with a version makes one too.
pub between_said : (f : Format) (first : GlobalId) (last number : ℕ) → is_global_in f first ≡ true → is_global_in f (global_id last first.version) ≡ true → first.number ≤ number → number ≤ last → is_global_in f (global_id number first.version) ≡ true
between_said f first last number low high from to =
    let limit = number_limit f in
    let v = first.version in
    let parts = and_parts (nat_lt last limit && nat_lt v (version_limit f) && not (v % 64 == 0)) (not (last == limit - 1 && v == version_limit f - 1)) high in
    let inner = and_parts (nat_lt last limit && nat_lt v (version_limit f)) (not (v % 64 == 0)) parts.0 in
    let numbers = and_parts (nat_lt last limit) (nat_lt v (version_limit f)) inner.0 in
    let below : number < limit = omega (arith, ltb-true last limit numbers.0, to) in
    let small = and_from (nat_lt number limit) (nat_lt v (version_limit f)) (lt-ltb number limit below) numbers.1 in
    and_from (nat_lt number limit && nat_lt v (version_limit f) && not (v % 64 == 0)) _ (and_from (nat_lt number limit && nat_lt v (version_limit f)) _ small inner.1) (other parts.1 (ltb-true last limit numbers.0))
  where
    other : not (last == number_limit f - 1 && first.version == version_limit f - 1) ≡ true → last < number_limit f → not (number == number_limit f - 1 && first.version == version_limit f - 1) ≡ true
    other none below = elim (cases_eq number (number_limit f - 1)) [
      | inl e ↦ let same : last ≡ number = omega (arith, e, below, to) in subst (λ (n : ℕ). not (n == number_limit f - 1 && first.version == version_limit f - 1) ≡ true) same none
      | inr ne ↦ rw (ne_eqb number (number_limit f - 1) ne) refl
    ]
