-- What lines say that are accepted can be spelled.
use Rattle.std.proofs.Common.{◌≡◌, ℕ, ◌/◌, ◌%◌, ◌^◌, ◌-◌, ◌<◌, ◌≤◌, Bool, true, false, cond, ◌&&◌, List, [], length, take, drop, Option, Some, None, Ok, refl, subst, arith}
use Rattle.std.specs.Prelude.{◌==◌, nat_lt, nat_le, codes, bytes_eq}
use Rattle.std.specs.Option.{option_map}
use Rattle.std.proofs.lemmas.Bool.{ltb-true, le-leb, and_from}
use Rattle.l4_model.specs.Words.{Format, word_limit, GlobalId, is_global_in, has_word_in, Id, NilThread, AnyThread, AnyLocalThread, GlobalThread, id_by, id_in}
use Rattle.l4_model.specs.Machine.{IdFrom, Fixed, Last, OrderKind, Delete, Value, Assign, Instr, Run, Tag, Vs, Ipc, Ask, Jump, OnErr, End, Declaration}
use Rattle.l4_script.specs.declared.text.fault.TextFaultKind.TheVariants.{BadNumber, BadId, BadCpu, BadLine, TypedItems}
use Rattle.l4_types.proofs.InFormats.{word_of_its_id}
use Rattle.l4_script.specs.Judged.{Judged, ◌>>=◌, must, needs}
use Rattle.l4_words.specs.Words.{one, two, four, five}
use Rattle.l4_words.specs.Numbers.{padded_of}
use Rattle.l4_words.specs.Threads.{thread_of}
use Rattle.l4_words.proofs.Found.{mapped, some_bind, some_then, some_same}
use Rattle.l4_script.specs.Lines.{after}
use Rattle.l4_script.specs.Numbers.{number_of, number_from, word_from, time_from}
use Rattle.l4_script.specs.Ids.{id_digits, raw_id_of, thread_in, spelled_id_of, id_of}
use Rattle.l4_script.specs.Statements.{processors_line, processor_of, declaration_of, value_of, assign_of, tag_of, vs_of, destination_of, ipc_of, bits_of, exregs_of, delete_of, target_of, end_of, other_of, assigned_or, instruction_of}
use Rattle.l4_script.specs.Canonical.{is_register, has_id, has_destination, has_time, can_be_written}
use Rattle.l4_script.proofs.Judging.{bind_ok, then_ok, must_ok, needs_ok, chosen, says, same_ok, number_within, number_small, word_needed}
use Rattle.l4_script.proofs.Times.{time_said}
use Rattle.l4_script.proofs.Values.{SaysValues, value_said}

-- Numbers

pub register_within : (word : List ℕ) (n : ℕ) → number_from 1 63 word ≡ Ok n → is_register n ≡ true
register_within word n e =
    let within = number_within 1 63 word n e in
    and_from (nat_le 1 n) (nat_le n 63) (le-leb 1 n within.0) (le-leb n 63 within.1)

-- Ids

pub id_in_said : (f : Format) (n : ℕ) (id : Id) → id_in f n ≡ Some id → has_word_in f id ≡ true
id_in_said f n id e = by (nat_lt n (word_limit f)) refl e
  where
    by : (b : Bool) → nat_lt n (word_limit f) ≡ b → cond b (Some (id_by f n)) None ≡ Some id → has_word_in f id ≡ true
    by true t e = subst (λ (id : Id). has_word_in f id ≡ true) (some_same (id_by f n) id e) (word_of_its_id f n (ltb-true n (word_limit f) t)).0
    by false t e = absurd cc

raw_id_said : (f : Format) (digits : List ℕ) (id : Id) → raw_id_of f digits ≡ Some id → has_word_in f id ≡ true
raw_id_said f digits id e =
    chosen (has_word_in f id ≡ true) (length digits == id_digits f) _ None (Some id) e
    (λ test h. let word = some_bind (padded_of digits) (id_in f) id h in id_in_said f word.0 id word.2)
    (λ h. absurd cc)

pub thread_said : (f : Format) (word : List ℕ) (t : GlobalId) → thread_in f word ≡ Some t → is_global_in f t ≡ true
unfolding thread_in
thread_said f word t e =
    let read = some_bind (thread_of word) _ t e in
    let fits = some_then (is_global_in f read.0) _ t read.2 in
    subst (λ (t : GlobalId). is_global_in f t ≡ true) (some_same read.0 t fits.1) fits.0

named : (f : Format) (name : Id) (id : Id) → has_word_in f name ≡ true → Some name ≡ Some id → has_word_in f id ≡ true
named f name id good e = subst (λ (id : Id). has_word_in f id ≡ true) (some_same name id e) good

pub id_said : (f : Format) (word : List ℕ) (id : Id) → id_of f word ≡ Some id → has_word_in f id ≡ true
unfolding id_of spelled_id_of
id_said f word id e =
    chosen (has_word_in f id ≡ true) (bytes_eq word (codes "nil")) (Some NilThread) _ (Some id) e (λ t. named f NilThread id refl) (λ e.
    chosen (has_word_in f id ≡ true) (bytes_eq word (codes "any")) (Some AnyThread) _ (Some id) e (λ t. named f AnyThread id refl) (λ e.
    chosen (has_word_in f id ≡ true) (bytes_eq word (codes "anylocal")) (Some AnyLocalThread) _ (Some id) e (λ t. named f AnyLocalThread id refl) (λ e.
    chosen (has_word_in f id ≡ true) (bytes_eq (take 1 word) (codes "#")) (raw_id_of f (drop 1 word)) (option_map GlobalThread (thread_in f word)) (Some id) e (λ t. raw_id_said f (drop 1 word) id) (λ e.
    let t = mapped GlobalThread (thread_in f word) id e in
    subst (λ (id : Id). has_word_in f id ≡ true) t.2 (thread_said f word t.0 t.1)))))

-- Instructions

-- Of the places that a line names nothing is known yet but that they are words.
abbrev pub is_said : Format → Instr → Bool
is_said f instr = can_be_written f (2 ^ 64) instr

moved : (f : Format) (a b : Instr) → a ≡ b → is_said f a ≡ true → is_said f b ≡ true
moved f a b e h = subst (λ (i : Instr). is_said f i ≡ true) e h

assign_said : (f : Format) (said : List ℕ → Judged Value) (operands : List (List ℕ)) (instr : Instr) → SaysValues f said → assign_of said operands ≡ Ok instr → is_said f instr ≡ true
unfolding assign_of
assign_said f said operands instr values e =
    let words = bind_ok (needs (two operands) BadLine) _ instr e in
    let register = bind_ok (number_from 1 63 words.0.0) _ instr words.2 in
    let value = bind_ok (said words.0.1) _ instr register.2 in
    moved f (Run (Assign register.0 value.0)) instr (same_ok _ _ value.2) (and_from _ _ (register_within words.0.0 register.0 register.1) (values words.0.1 value.0 value.1))

tag_said : (f : Format) (operands : List (List ℕ)) (instr : Instr) → tag_of f operands ≡ Ok instr → is_said f instr ≡ true
unfolding tag_of
tag_said f operands instr e =
    let number = bind_ok (needs (one operands) BadLine) _ instr e in
    let word = bind_ok (word_from f number.0) _ instr number.2 in
    let untyped = then_ok (must (word.0 / 2 ^ 6 % 64 == 0) TypedItems) _ instr word.2 in
    moved f (Tag word.0) instr (same_ok _ _ untyped.1) (and_from _ _ (word_needed f number.0 word.0 word.1) (must_ok _ TypedItems untyped.0))

target_small : (operands : List (List ℕ)) (place : ℕ) → target_of operands ≡ Ok place → nat_le place (2 ^ 64) ≡ true
unfolding target_of
target_small operands place e =
    let number = bind_ok (needs (one operands) BadLine) _ place e in
    le-leb place (2 ^ 64) (omega (arith, number_small number.0 place (needs_ok (number_of number.0) BadNumber place number.2)))

needed_id : (f : Format) (word : List ℕ) (id : Id) → needs (id_of f word) BadId ≡ Ok id → has_word_in f id ≡ true
needed_id f word id e = id_said f word id (needs_ok (id_of f word) BadId id e)

vs_said : (f : Format) (operands : List (List ℕ)) (instr : Instr) → vs_of f operands ≡ Ok instr → is_said f instr ≡ true
unfolding vs_of
vs_said f operands instr e =
    let word = bind_ok (needs (one operands) BadLine) _ instr e in
    let id = bind_ok (needs (id_of f word.0) BadId) _ instr word.2 in
    moved f (Vs (Fixed id.0)) instr (same_ok _ _ id.2) (needed_id f word.0 id.0 id.1)

destination_said : (f : Format) (word : List ℕ) (to : IdFrom) → destination_of f word ≡ Ok to → has_destination f to ≡ true
unfolding destination_of
destination_said f word to e =
    chosen (has_destination f to ≡ true) (bytes_eq word (codes "last")) (says Last) _ (says to) e
    (λ t h. subst (λ (to : IdFrom). has_destination f to ≡ true) (same_ok Last to h) refl)
    (λ h.
    let id = bind_ok (needs (id_of f word) BadId) _ to h in
    subst (λ (to : IdFrom). has_destination f to ≡ true) (same_ok (Fixed id.0) to id.2) (needed_id f word id.0 id.1))

ipc_said : (f : Format) (operands : List (List ℕ)) (instr : Instr) → ipc_of f operands ≡ Ok instr → is_said f instr ≡ true
unfolding ipc_of
ipc_said f operands instr e =
    let words = bind_ok (needs (four operands) BadLine) _ instr e in
    let to = bind_ok (destination_of f words.0.0) _ instr words.2 in
    let from = bind_ok (needs (id_of f words.0.1) BadId) _ instr to.2 in
    let send = bind_ok (time_from words.0.2) _ instr from.2 in
    let receive = bind_ok (time_from words.0.3) _ instr send.2 in
    let ids = and_from (has_destination f to.0) (has_id f (Fixed from.0)) (destination_said f words.0.0 to.0 to.1) (needed_id f words.0.1 from.0 from.1) in
    let phases = and_from (has_destination f to.0 && has_id f (Fixed from.0)) (has_time send.0) ids (time_said words.0.2 send.0 send.1) in
    moved f (Ipc to.0 (Fixed from.0) send.0 receive.0) instr (same_ok _ _ receive.2) (and_from _ (has_time receive.0) phases (time_said words.0.3 receive.0 receive.1))

asked : (f : Format) (what : OrderKind) (word : List ℕ) (instr : Instr) → (needs (id_of f word) BadId >>= λ target. says (Ask (Fixed target) what)) ≡ Ok instr → is_said f instr ≡ true
asked f what word instr e =
    let target = bind_ok (needs (id_of f word) BadId) _ instr e in
    moved f (Ask (Fixed target.0) what) instr (same_ok _ _ target.2) (needed_id f word target.0 target.1)

exregs_said : (f : Format) (operands : List (List ℕ)) (instr : Instr) → exregs_of f operands ≡ Ok instr → is_said f instr ≡ true
unfolding exregs_of
exregs_said f operands instr e =
    let words = bind_ok (needs (two operands) BadLine) _ instr e in
    let what = bind_ok (needs (bits_of words.0.1) BadLine) _ instr words.2 in
    asked f what.0 words.0.0 instr what.2

delete_said : (f : Format) (operands : List (List ℕ)) (instr : Instr) → delete_of f operands ≡ Ok instr → is_said f instr ≡ true
unfolding delete_of
delete_said f operands instr e =
    let word = bind_ok (needs (one operands) BadLine) _ instr e in
    asked f Delete word.0 instr word.2

jump_said : (f : Format) (operands : List (List ℕ)) (instr : Instr) → (target_of operands >>= λ place. says (Jump place)) ≡ Ok instr → is_said f instr ≡ true
jump_said f operands instr e =
    let place = bind_ok (target_of operands) _ instr e in
    moved f (Jump place.0) instr (same_ok _ _ place.2) (target_small operands place.0 place.1)

onerr_said : (f : Format) (operands : List (List ℕ)) (instr : Instr) → (target_of operands >>= λ place. says (OnErr place)) ≡ Ok instr → is_said f instr ≡ true
onerr_said f operands instr e =
    let place = bind_ok (target_of operands) _ instr e in
    moved f (OnErr place.0) instr (same_ok _ _ place.2) (target_small operands place.0 place.1)

end_said : (f : Format) (operands : List (List ℕ)) (instr : Instr) → end_of operands ≡ Ok instr → is_said f instr ≡ true
end_said f [] instr e = moved f End instr (same_ok _ _ e) refl
end_said f _ instr e = absurd cc

other_said : (f : Format) (name : List ℕ) (operands : List (List ℕ)) (instr : Instr) → other_of f name operands ≡ Ok instr → is_said f instr ≡ true
unfolding other_of
other_said f name operands instr e =
    chosen (is_said f instr ≡ true) (bytes_eq name (codes "tag")) (tag_of f operands) _ (says instr) e (λ t. tag_said f operands instr) (λ e.
    chosen (is_said f instr ≡ true) (bytes_eq name (codes "vs")) (vs_of f operands) _ (says instr) e (λ t. vs_said f operands instr) (λ e.
    chosen (is_said f instr ≡ true) (bytes_eq name (codes "ipc")) (ipc_of f operands) _ (says instr) e (λ t. ipc_said f operands instr) (λ e.
    chosen (is_said f instr ≡ true) (bytes_eq name (codes "exregs")) (exregs_of f operands) _ (says instr) e (λ t. exregs_said f operands instr) (λ e.
    chosen (is_said f instr ≡ true) (bytes_eq name (codes "delete")) (delete_of f operands) _ (says instr) e (λ t. delete_said f operands instr) (λ e.
    chosen (is_said f instr ≡ true) (bytes_eq name (codes "jump")) (target_of operands >>= λ place. says (Jump place)) _ (says instr) e (λ t. jump_said f operands instr) (λ e.
    chosen (is_said f instr ≡ true) (bytes_eq name (codes "onerr")) (target_of operands >>= λ place. says (OnErr place)) _ (says instr) e (λ t. onerr_said f operands instr) (λ e.
    chosen (is_said f instr ≡ true) (bytes_eq name (codes "end")) (end_of operands) _ (says instr) e (λ t. end_said f operands instr) (λ e. absurd cc))))))))

pub instruction_said : (f : Format) (name : List ℕ) (operands : List (List ℕ)) (instr : Instr) → instruction_of f name operands ≡ Ok instr → is_said f instr ≡ true
unfolding instruction_of
instruction_said f name operands instr e = by (value_of f name) refl e
  where
    by : (o : Option (List ℕ → Judged Value)) → value_of f name ≡ o → assigned_or o operands (other_of f name operands) ≡ Ok instr → is_said f instr ≡ true
    by (Some said) is e = assign_said f said operands instr (value_said f name said is) e
    by None is e = other_said f name operands instr e

-- Declarations

pub record IsOpened (f : Format) (cpus : ℕ) (d : Declaration) : Type 0 where
  pub global : is_global_in f d.id ≡ true
  pub home : d.cpu < cpus
  pub space : d.space < 2 ^ 32
  pub script : d.script ≡ []

pub processor_below : (cpus : ℕ) (word : List ℕ) (cpu : ℕ) → processor_of cpus word ≡ Ok cpu → cpu < cpus
unfolding processor_of
processor_below cpus word cpu e =
    let read = bind_ok (needs (number_of word) BadNumber) _ cpu e in
    let home = then_ok (must (nat_lt read.0 cpus) BadCpu) _ cpu read.2 in
    let same : read.0 ≡ cpu = same_ok read.0 cpu home.1 in
    omega (arith, ltb-true read.0 cpus (must_ok (nat_lt read.0 cpus) BadCpu home.0), same)

pub declaration_said : (f : Format) (cpus : ℕ) (operands : List (List ℕ)) (d : Declaration) → declaration_of f cpus operands ≡ Ok d → IsOpened f cpus d
unfolding declaration_of
declaration_said f cpus operands d e =
    let words = bind_ok (needs (five operands) BadLine) _ d e in
    let keywords = then_ok (must (bytes_eq words.0.1 (codes "cpu") && bytes_eq words.0.3 (codes "space")) BadLine) _ d words.2 in
    let id = bind_ok (needs (thread_in f words.0.0) BadId) _ d keywords.1 in
    let cpu = bind_ok (processor_of cpus words.0.2) _ d id.2 in
    let space = bind_ok (number_from 0 (2 ^ 32 - 1) words.0.4) _ d cpu.2 in
    let below : space.0 < 2 ^ 32 = omega (arith, number_within 0 (2 ^ 32 - 1) words.0.4 space.0 space.1) in
    subst (λ (d : Declaration). IsOpened f cpus d) (same_ok _ d space.2)
    (record { global = thread_said f words.0.0 id.0 (needs_ok (thread_in f words.0.0) BadId id.0 id.1); home = processor_below cpus words.0.2 cpu.0 cpu.1; space = below; script = refl })

pub processors_said : (words : List (List ℕ)) (cpus : ℕ) → processors_line words ≡ Ok cpus → (1 ≤ cpus) × (cpus ≤ 16)
unfolding processors_line
processors_said words cpus e =
    let operands = bind_ok (after (codes "cpus") words) _ cpus e in
    let number = bind_ok (needs (one operands.0) BadLine) _ cpus operands.2 in
    number_within 1 16 number.0 cpus number.2
