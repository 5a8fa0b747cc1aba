-- The machine of an accepted text, whatever the version of its scripts, can be spelled in a text of
-- version 2.
use Rattle.std.proofs.Common.{◌≡◌, ℕ, ◌+◌, ◌-◌, ◌^◌, ◌<◌, ◌≤◌, zero, suc, Bool, true, false, cond, not, ◌&&◌, List, [], ◌∷◌, ◌++◌, length, get_or, set, Option, Some, None, Result, Ok, Err, refl, ap, sym, ◌∙◌, subst, arith}
use Rattle.std.specs.Prelude.{◌==◌, nat_lt, nat_le, codes, bytes_eq, find, is_none}
use Rattle.std.specs.List.{list_all, list_any, range_with_len}
use Rattle.std.proofs.lemmas.Bool.{lt-ltb, le-leb, leb-true, ltb-true, ltb-false, ne_eqb, not-true, and_parts, and_from, or_parts, or_from, false≢true}
use Rattle.std.proofs.lemmas.List.{length_push, length-set, get_or-set_same}
use Rattle.std.proofs.lemmas.List.Folds.{list_all-append, list_any-append}
use Rattle.std.proofs.lemmas.List.FromFn.{length-range_with_len}
use Rattle.l4_model.specs.Words.{Format, global_id, is_global_in, has_word_in}
use Rattle.l4_model.specs.Machine.{Assign, Word, Register, Computed, IdFrom, Fixed, Last, InRegister, OrderKind, CancelSend, CancelReceive, CancelBoth, Delete, Instr, Run, Tag, Vs, Ipc, Ask, Jump, OnErr, OnLabel, OnWord, OnFrom, End, Declaration, Machine, instruction_at, place_of, From}
use Rattle.l4_core_model.specs.Local.{declared, undeclared}
use Rattle.l4_core_model.specs.Runs.{IsMachine}
use Rattle.l4_words.specs.Lines.{parts_of}
use Rattle.l4_words.specs.Words.{two}
use Rattle.l4_words.proofs.Found.{mapped, some_same}
use Rattle.l4_script.specs.declared.text.fault.TextFault.{TextFault}
use Rattle.l4_script.specs.declared.text.fault.TextFaultKind.{TextFaultKind}
use Rattle.l4_script.specs.declared.text.fault.TextFaultKind.TheVariants.{BadLine, BadId, BadName, BadTarget, DoubleId, TooLong, TooManyThreads, TooManyInstructions}
use Rattle.l4_script.specs.Faults.{fault_at}
use Rattle.l4_script.specs.Judged.{Judged, ◌>>=◌, must, needs}
use Rattle.l4_script.specs.Machines.{IsLawful, has_number, is_taken, with_instruction, with_thread, last_place, last_thread, extended}
use Rattle.l4_script.specs.Statements.{Heading, processors_line, extend}
use Rattle.l4_script.specs.Texts.{first_machine_of_text, format_of_text, named_by}
use Rattle.l4_script.specs.Canonical.{has_id, has_destination, has_time, can_be_written, can_be_declared, are_apart, HasText}
use Rattle.l4_script.specs.Versions.{format_named}
use Rattle.l4_script.specs.Second.Names.{Named, id_named, thread_named}
use Rattle.l4_script.specs.Second.Lines.{Said, second_line_of}
use Rattle.l4_script.specs.Second.Operands.{Place, Numbered, Labelled}
use Rattle.l4_script.specs.Second.Statements.{Heir, second_format_line, second_declaration_of, with_place, second_instruction_of}
use Rattle.l4_script.specs.Second.Texts.{second_format_from, second_format_of, Label, Target, Reading, Stage, Start, Processors, Threads, nothing_read, has_thread, has_script, label_of, found_place, placed_at, placed, missed_in, fault_or, first_missed, first_of, with_script_ended, settled, may_name, name_line, source_of, script_of, numbers_of, may_declare, with_threads, second_declared, may_label, labelled, target_at, instruction_line, unlabelled, unlabelled_words, words_line, second_thread_line, after_words, after_said, after_line, unless_faulty, ended, judged_at, read, begins_second}
use Rattle.l4_script.specs.Second.Canonical.{has_id_or_register, has_id_from, second_can_be_written, second_can_be_declared, HasSecondText, EachHasSecondText}
use Rattle.l4_script.proofs.Growing.{place_is, lawful-with_thread, lawful-set, lawful-extended}
use Rattle.l4_script.proofs.Judging.{bind_ok, then_ok, must_ok, needs_ok, chosen, says, same_ok}
use Rattle.l4_script.proofs.AcceptedLines.{processors_said}
use Rattle.l4_script.proofs.AcceptedTexts.{own-push, any-set, own-set, each_has_text}
use Rattle.l4_script.proofs.Operations.{found_passes}
use Rattle.l4_script.proofs.SecondAcceptedLines.{are_words, named_said, is_said_second, second_instruction_said, IsSecondOpened, second_declaration_said, between_said}

-- A text of version 1

id_too : (f : Format) (from : IdFrom) → has_id f from ≡ true → has_id_or_register f from ≡ true
id_too f (Fixed id) h = h
id_too f Last h = absurd (false≢true h)
id_too f (InRegister format a) h = absurd (false≢true h)

from_too : (f : Format) (from : IdFrom) → has_id f from ≡ true → has_id_from f from ≡ true
from_too f (Fixed id) h = h
from_too f Last h = refl
from_too f (InRegister format a) h = absurd (false≢true h)

destination_too : (f : Format) (to : IdFrom) → has_destination f to ≡ true → has_id_from f to ≡ true
destination_too f (Fixed id) h = h
destination_too f Last h = refl
destination_too f (InRegister format a) h = absurd (false≢true h)

ask_too : (f : Format) (size : ℕ) (target : IdFrom) (what : OrderKind) → has_id f target ≡ true → second_can_be_written f size (Ask target what) ≡ true
ask_too f size target CancelSend h = from_too f target h
ask_too f size target CancelReceive h = from_too f target h
ask_too f size target CancelBoth h = from_too f target h
ask_too f size target Delete h = id_too f target h

written_too : (f : Format) (size : ℕ) (i : Instr) → can_be_written f size i ≡ true → second_can_be_written f size i ≡ true
written_too f size (Run (Assign a (Word word))) h = h
written_too f size (Run (Assign a (Register b))) h = h
written_too f size (Run (Assign a (Computed operation format word))) h = h
written_too f size (From format a) h = absurd (false≢true (and_parts _ false (and_parts _ _ h).1).1)
written_too f size (Tag word) h = h
written_too f size (Vs from) h = from_too f from h
written_too f size (Ipc to from send receive) h =
    let all = and_parts (has_destination f to && has_id f from && has_time send) (has_time receive) h in
    let first = and_parts (has_destination f to && has_id f from) (has_time send) all.0 in
    let ids = and_parts (has_destination f to) (has_id f from) first.0 in
    and_from _ _ (and_from _ _ (and_from _ _ (destination_too f to ids.0) (from_too f from ids.1)) first.1) all.1
written_too f size (Ask target what) h = ask_too f size target what h
written_too f size (Jump place) h = h
written_too f size (OnErr place) h = h
written_too f size (OnLabel label place) h = absurd (false≢true h)
written_too f size (OnWord a word place) h = absurd (false≢true h)
written_too f size (OnFrom id place) h = absurd (false≢true h)
written_too f size End h = refl

all_of : {A : Type 0} (p q : A → Bool) (xs : List A) → ((x : A) → p x ≡ true → q x ≡ true) → list_all p xs ≡ true → list_all q xs ≡ true
all_of p q [] more h = refl
all_of p q (x ∷ xs) more h = let parts = and_parts (p x) (list_all p xs) h in and_from _ _ (more x parts.0) (all_of p q xs more parts.1)

declared_too : (f : Format) (cpus : ℕ) (d : Declaration) → can_be_declared f cpus d ≡ true → second_can_be_declared f cpus d ≡ true
declared_too f cpus d h =
    let parts = and_parts _ (list_all (can_be_written f (length d.script)) d.script) h in
    and_from _ _ parts.0 (all_of (can_be_written f (length d.script)) (second_can_be_written f (length d.script)) d.script (written_too f (length d.script)) parts.1)

text_too : (f : Format) (m : Machine) → HasText f m → HasSecondText f m
text_too f m h = record {
  some = h.some;
  limit = h.limit;
  few = h.few;
  apart = h.apart;
  each = all_of (can_be_declared f m.cpus) (second_can_be_declared f m.cpus) m.threads (declared_too f m.cpus) h.each;
}

-- What is known of a text of version 2

-- The machine of the lines so far. Where no fault is kept, each thread can be written as it stands:
-- an instruction that names one has 0 as yet.
record IsKept (f : Format) (missed : Option TextFault) (m : Machine) : Type 0 where
  lawful : IsLawful m
  apart : are_apart m.threads ≡ true
  each : missed ≡ None → list_all (second_can_be_declared f m.cpus) m.threads ≡ true

abbrev are_within : (size : ℕ) → List Label → Bool
are_within size labels = list_all (λ (l : Label). nat_le l.at size) labels

record IsRead (f : Format) (r : Reading) : Type 0 where
  format : r.format ≡ f
  names : are_words r.format r.names ≡ true
  machine : IsKept r.format r.missed r.machine
  labels : are_within (length (last_thread r.machine).script) r.labels ≡ true
  idle : has_thread r ≡ false → r.labels ≡ []

abbrev IsSound : Format → Stage → Type 0
IsSound f Start = ⊥
IsSound f (Processors heading) = heading.format ≡ f
IsSound f (Threads r) = IsRead f r

-- The end of a script

written_later : (f : Format) (size : ℕ) (i : Instr) → second_can_be_written f size i ≡ true → second_can_be_written f (size + 1) i ≡ true
written_later f size (Run (Assign a (Word word))) h = h
written_later f size (Run (Assign a (Register b))) h = h
written_later f size (Run (Assign a (Computed operation format word))) h = h
written_later f size (From format a) h = h
written_later f size (Tag word) h = h
written_later f size (Vs from) h = h
written_later f size (Ipc to from send receive) h = h
written_later f size (Ask target CancelSend) h = h
written_later f size (Ask target CancelReceive) h = h
written_later f size (Ask target CancelBoth) h = h
written_later f size (Ask target Delete) h = h
written_later f size (Jump place) h = le-leb place (size + 1) (omega (arith, leb-true place size h))
written_later f size (OnErr place) h = le-leb place (size + 1) (omega (arith, leb-true place size h))
written_later f size (OnLabel label place) h =
    let parts = and_parts _ (nat_le place size) h in
    and_from _ _ parts.0 (le-leb place (size + 1) (omega (arith, leb-true place size parts.1)))
written_later f size (OnWord a word place) h =
    let parts = and_parts _ (nat_le place size) h in
    and_from _ _ parts.0 (le-leb place (size + 1) (omega (arith, leb-true place size parts.1)))
written_later f size (OnFrom id place) h =
    let parts = and_parts _ (nat_le place size) h in
    and_from _ _ parts.0 (le-leb place (size + 1) (omega (arith, leb-true place size parts.1)))
written_later f size End h = refl

-- An instruction that names one may go on at any place that its script has.
place_written : (f : Format) (size place : ℕ) (i : Instr) → place ≤ size → second_can_be_written f size i ≡ true → second_can_be_written f size (with_place place i) ≡ true
place_written f size place (Run (Assign a value)) to h = h
place_written f size place (Tag word) to h = h
place_written f size place (Vs from) to h = h
place_written f size place (Ipc a b send receive) to h = h
place_written f size place (Ask target what) to h = h
place_written f size place (Jump at) to h = le-leb place size to
place_written f size place (OnErr at) to h = le-leb place size to
place_written f size place (OnLabel label at) to h = and_from _ _ (and_parts _ (nat_le at size) h).0 (le-leb place size to)
place_written f size place (OnWord a word at) to h = and_from _ _ (and_parts _ (nat_le at size) h).0 (le-leb place size to)
place_written f size place (OnFrom id at) to h = and_from _ _ (and_parts _ (nat_le at size) h).0 (le-leb place size to)
place_written f size place End to h = refl

all_set : {A : Type 0} (p : A → Bool) (xs : List A) (i : ℕ) (x : A) → list_all p xs ≡ true → p x ≡ true → list_all p (set xs i x) ≡ true
all_set p [] i x h new = refl
all_set p (y ∷ ys) zero x h new = and_from _ _ new (and_parts (p y) (list_all p ys) h).1
all_set p (y ∷ ys) (suc i) x h new = let parts = and_parts (p y) (list_all p ys) h in and_from _ _ parts.0 (all_set p ys i x parts.1 new)

instruction_written : (p : Instr → Bool) (script : List Instr) (at : ℕ) → list_all p script ≡ true → p End ≡ true → p (instruction_at script at) ≡ true
instruction_written p [] at h end = end
instruction_written p (i ∷ script) zero h end = (and_parts (p i) (list_all p script) h).0
instruction_written p (i ∷ script) (suc at) h end = instruction_written p script at (and_parts (p i) (list_all p script) h).1 end

-- A place that is not missed is one that the script has.
label_within : (labels : List Label) (name : List ℕ) (size at : ℕ) → are_within size labels ≡ true → label_of labels name ≡ Some at → at ≤ size
label_within labels name size at h e =
    let l = mapped (λ (l : Label). l.at) (find (λ (l : Label). bytes_eq l.name name) labels) at e in
    subst (λ (n : ℕ). n ≤ size) l.2 (leb-true l.0.at size (found_passes (λ (l : Label). bytes_eq l.name name) (λ (l : Label). nat_le l.at size) labels l.0 l.1 h))

place_within : (labels : List Label) (size : ℕ) (place : Place) (to : ℕ) → are_within size labels ≡ true → missed_in labels size place ≡ None → found_place labels place ≡ Some to → to ≤ size
place_within labels size (Numbered n) to h none e = by (nat_lt size n) refl none
  where
    same : n ≡ to
    same = some_same n to e

    by : (b : Bool) → nat_lt size n ≡ b → cond b (Some BadTarget) None ≡ None → to ≤ size
    by true t none = absurd cc
    by false t none = omega (arith, ltb-false size n t, same)
place_within labels size (Labelled name) to h none e = label_within labels name size to h e

placed_at_written : (f : Format) (size at : ℕ) (place : Option ℕ) (script : List Instr) → ((to : ℕ) → place ≡ Some to → to ≤ size) → list_all (second_can_be_written f size) script ≡ true → list_all (second_can_be_written f size) (placed_at at place script) ≡ true
placed_at_written f size at None script within h = h
placed_at_written f size at (Some place) script within h =
    all_set (second_can_be_written f size) script at (with_place place (instruction_at script at)) h
    (place_written f size place (instruction_at script at) (within place refl) (instruction_written (second_can_be_written f size) script at h refl))

placed_at_size : (at : ℕ) (place : Option ℕ) (script : List Instr) → length (placed_at at place script) ≡ length script
placed_at_size at None script = refl
placed_at_size at (Some place) script = length-set script at (with_place place (instruction_at script at))

placed_size : (labels : List Label) (targets : List Target) (script : List Instr) → length (placed labels targets script) ≡ length script
placed_size labels [] script = refl
placed_size labels (t ∷ ts) script = placed_size labels ts (placed_at t.at (found_place labels t.place) script) ∙ placed_at_size t.at (found_place labels t.place) script

fault_none : (line : ℕ) (kind : Option TextFaultKind) (later : Option TextFault) → fault_or line kind later ≡ None → (kind ≡ None) × (later ≡ None)
fault_none line None later e = (refl, e)
fault_none line (Some kind) later e = absurd cc

placed_written : (f : Format) (labels : List Label) (size : ℕ) (targets : List Target) (script : List Instr) → are_within size labels ≡ true → first_missed labels size targets ≡ None
    → list_all (second_can_be_written f size) script ≡ true → list_all (second_can_be_written f size) (placed labels targets script) ≡ true
placed_written f labels size [] script known none h = h
placed_written f labels size (t ∷ ts) script known none h =
    let both = fault_none t.line (missed_in labels size t.place) (first_missed labels size ts) none in
    placed_written f labels size ts (placed_at t.at (found_place labels t.place) script) known both.1
    (placed_at_written f size t.at (found_place labels t.place) script (λ to. place_within labels size t.place to known both.0) h)

first_none : (earlier later : Option TextFault) → first_of earlier later ≡ None → (earlier ≡ None) × (later ≡ None)
first_none None later e = (refl, e)
first_none (Some fault) later e = absurd cc

-- A thread with another script can be declared where that script can be written.
script_declared : (f : Format) (cpus : ℕ) (d : Declaration) (script : List Instr) → second_can_be_declared f cpus d ≡ true → length script ≡ length d.script → list_all (second_can_be_written f (length d.script)) script ≡ true
    → second_can_be_declared f cpus (record d { script = script }) ≡ true
script_declared f cpus d script h size written =
    let parts = and_parts _ (list_all (second_can_be_written f (length d.script)) d.script) h in
    rw size (and_from _ _ parts.0 written)

script_of_declared : (f : Format) (cpus : ℕ) (d : Declaration) → second_can_be_declared f cpus d ≡ true → list_all (second_can_be_written f (length d.script)) d.script ≡ true
script_of_declared f cpus d h = (and_parts _ (list_all (second_can_be_written f (length d.script)) d.script) h).1

-- Some thread that stands at a place.
declared_at : (f : Format) (cpus : ℕ) (ds : List Declaration) (i : ℕ) → i < length ds → list_all (second_can_be_declared f cpus) ds ≡ true → second_can_be_declared f cpus (get_or ds i undeclared) ≡ true
declared_at f cpus [] i l h = absurd (omega (arith, l))
declared_at f cpus (d ∷ ds) zero l h = (and_parts (second_can_be_declared f cpus d) _ h).0
declared_at f cpus (d ∷ ds) (suc i) l h = declared_at f cpus ds i (omega arith) (and_parts (second_can_be_declared f cpus d) _ h).1

script_ended : (f : Format) (r : Reading) → IsRead f r → 0 < length r.machine.threads → IsRead f (with_script_ended r)
script_ended f r known some = record { format = known.format; names = known.names; machine = machine; labels = refl; idle = λ none. refl }
  where
    d : Declaration
    d = last_thread r.machine

    script : List Instr
    script = placed r.labels r.targets d.script

    below : last_place r.machine < length r.machine.threads
    below = omega (arith, some)

    size : length script ≡ length d.script
    size = placed_size r.labels r.targets d.script

    each : (with_script_ended r).missed ≡ None → list_all (second_can_be_declared r.format r.machine.cpus) (with_script_ended r).machine.threads ≡ true
    each none =
        let both = first_none r.missed (first_missed r.labels (length d.script) r.targets) none in
        let all = known.machine.each both.0 in
        let before = declared_at r.format r.machine.cpus r.machine.threads (last_place r.machine) below all in
        all_set (second_can_be_declared r.format r.machine.cpus) r.machine.threads (last_place r.machine) (record d { script = script }) all
        (script_declared r.format r.machine.cpus d script before size
        (placed_written r.format r.labels (length d.script) r.targets d.script known.labels both.1 (script_of_declared r.format r.machine.cpus d before)))

    machine : IsKept r.format (with_script_ended r).missed (with_script_ended r).machine
    machine = record {
      lawful = lawful-set r.machine (last_place r.machine) (record d { script = script }) known.machine.lawful below refl refl;
      apart = own-set r.machine.threads (last_place r.machine) (record d { script = script }) below refl ∙ known.machine.apart;
      each = each;
    }

-- What stays as a script ends.
record IsSettled (f : Format) (r s : Reading) : Type 0 where
  read : IsRead f s
  format : s.format ≡ r.format
  cpus : s.machine.cpus ≡ r.machine.cpus
  count : length s.machine.threads ≡ length r.machine.threads
  taken : (n : ℕ) → is_taken n s.machine ≡ is_taken n r.machine
  labels : s.labels ≡ []

settles : (f : Format) (r : Reading) → IsRead f r → IsSettled f r (settled r)
settles f r known = by (has_thread r) refl
  where
    by : (b : Bool) → has_thread r ≡ b → IsSettled f r (cond b (with_script_ended r) r)
    by true some =
        let positive = ltb-true 0 (length r.machine.threads) some in
        let below : last_place r.machine < length r.machine.threads = omega (arith, positive) in
        let d = record (last_thread r.machine) { script = placed r.labels r.targets (last_thread r.machine).script } in
        record {
          read = script_ended f r known positive;
          format = refl;
          cpus = refl;
          count = length-set r.machine.threads (last_place r.machine) d;
          taken = λ n. any-set n r.machine.threads (last_place r.machine) d below refl;
          labels = refl;
        }
    by false none = record { read = known; format = refl; cpus = refl; count = refl; taken = λ n. refl; labels = known.idle none }

-- More threads

one_more : (f : Format) (missed : Option TextFault) (d : Declaration) (m : Machine) → IsKept f missed m → d.cpu < m.cpus → length m.threads < 1024 → is_taken d.id.number m ≡ false → (missed ≡ None → second_can_be_declared f m.cpus d ≡ true)
    → IsKept f missed (with_thread d m)
one_more f missed d m known home room fresh new = record {
  lawful = lawful-with_thread d m known.lawful room home fresh;
  apart = own-push m.threads d known.apart fresh;
  each = λ none. list_all-append (second_can_be_declared f m.cpus) m.threads (d ∷ []) ∙ and_from _ _ (known.each none) (and_from _ true (new none) refl);
}

-- Numbers behind that of the new thread are as free as before.
none_taken : (d : Declaration) (m : Machine) (start len : ℕ) → d.id.number < start → list_any (λ n. is_taken n m) (range_with_len start len) ≡ false → list_any (λ n. is_taken n (with_thread d m)) (range_with_len start len) ≡ false
none_taken d m start zero before free = refl
none_taken d m start (suc len) before free =
    let parts = or_parts (is_taken start m) (list_any (λ n. is_taken n m) (range_with_len (start + 1) len)) free in
    let other : has_number start d ≡ false = ne_eqb d.id.number start (λ e. absurd (omega (arith, e, before))) in
    or_from _ _ (list_any-append (has_number start) m.threads (d ∷ []) ∙ or_from _ _ parts.0 (or_from _ _ other refl)) (none_taken d m (start + 1) len (omega arith) parts.1)

-- What is known of a thread whose id is to come.
record IsToCome (f : Format) (missed : Option TextFault) (d : Declaration) : Type 0 where
  space : d.space < 2 ^ 32
  few : missed ≡ None → length d.script ≤ 1024
  script : missed ≡ None → list_all (second_can_be_written f (length d.script)) d.script ≡ true

came : (f : Format) (missed : Option TextFault) (cpus : ℕ) (d : Declaration) → IsToCome f missed d → d.cpu < cpus → is_global_in f d.id ≡ true → missed ≡ None → second_can_be_declared f cpus d ≡ true
came f missed cpus d h home global none =
    let found = and_from (is_global_in f d.id) _ global (lt-ltb d.cpu cpus home) in
    and_from _ _ (and_from _ _ (and_from _ _ found (lt-ltb d.space (2 ^ 32) h.space)) (le-leb (length d.script) 1024 (h.few none))) (h.script none)

threads_kept : (f : Format) (missed : Option TextFault) (d : Declaration) (start len : ℕ) (m : Machine) → IsKept f missed m → IsToCome f missed d → d.cpu < m.cpus
    → ((n : ℕ) → start ≤ n → n < start + len → is_global_in f (global_id n d.id.version) ≡ true) → length m.threads + len ≤ 1024 → list_any (λ n. is_taken n m) (range_with_len start len) ≡ false
    → IsKept f missed (with_threads (range_with_len start len) d m)
threads_kept f missed d start zero m known h home ids room free = known
threads_kept f missed d start (suc len) m known h home ids room free =
    let parts = or_parts (is_taken start m) (list_any (λ n. is_taken n m) (range_with_len (start + 1) len)) free in
    let now : Declaration = record d { id = global_id start d.id.version } in
    let came_now : IsToCome f missed now = record { space = h.space; few = h.few; script = h.script } in
    let one = one_more f missed now m known home (omega arith) parts.0 (came f missed m.cpus now came_now home (ids start (omega arith) (omega arith))) in
    threads_kept f missed d (start + 1) len (with_thread now m) one h home (λ n from to. ids n (omega arith) (omega arith)) (omega (arith, length_push m.threads now)) (none_taken now m (start + 1) len (omega arith) parts.1)

source_within : (r : Reading) (word : Option (List ℕ)) (place : ℕ) → source_of r word ≡ Ok (Some place) → place < length r.machine.threads
source_within r None place e = absurd cc
source_within r (Some word) place e =
    let t = bind_ok (thread_named r.format r.names word) _ (Some place) e in
    let at = bind_ok (needs (place_of r.machine t.0) BadId) _ (Some place) t.2 in
    let same : at.0 ≡ place = some_same at.0 place (same_ok (Some at.0) (Some place) at.2) in
    subst (λ (p : ℕ). p < length r.machine.threads) same (place_is _ r.machine.threads at.0 (needs_ok (place_of r.machine t.0) BadId at.0 at.1)).1

-- The script of a thread that stands there can be that of others.
source_comes : (f : Format) (missed : Option TextFault) (m : Machine) (d : Declaration) (source : Option ℕ) → IsKept f missed m → d.space < 2 ^ 32 → ((place : ℕ) → source ≡ Some place → place < length m.threads) → IsToCome f missed (record d { script = script_of m source })
source_comes f missed m d None known space within = record { space = space; few = λ none. omega arith; script = λ none. refl }
source_comes f missed m d (Some place) known space within = record { space = space; few = few; script = script }
  where
    there : missed ≡ None → second_can_be_declared f m.cpus (declared m place) ≡ true
    there none = declared_at f m.cpus m.threads place (within place refl) (known.each none)

    few : missed ≡ None → length (declared m place).script ≤ 1024
    few none =
        let parts = and_parts _ (list_all (second_can_be_written f (length (declared m place).script)) (declared m place).script) (there none) in
        leb-true (length (declared m place).script) 1024 (and_parts _ (nat_le (length (declared m place).script) 1024) parts.0).1

    script : missed ≡ None → list_all (second_can_be_written f (length (declared m place).script)) (declared m place).script ≡ true
    script none = script_of_declared f m.cpus (declared m place) (there none)

any_same : {A : Type 0} (p q : A → Bool) (xs : List A) → ((x : A) → p x ≡ q x) → list_any p xs ≡ list_any q xs
any_same p q [] same = refl
any_same p q (x ∷ xs) same = rw (same x, any_same p q xs same) refl

declared_so : (f : Format) (r : Reading) (heir : Heir) (source : Option ℕ) → IsRead f r → IsSecondOpened r.format r.machine.cpus heir → length r.machine.threads + length (numbers_of heir) ≤ 1024 → list_any (λ n. is_taken n r.machine) (numbers_of heir) ≡ false
    → ((place : ℕ) → source ≡ Some place → place < length r.machine.threads)
    → IsRead f (record (settled r) { machine = with_threads (numbers_of heir) (record heir.declaration { script = script_of (settled r).machine source }) (settled r).machine; heir_of = source })
declared_so f r heir source known opened room free within = record {
  format = was.read.format;
  names = was.read.names;
  machine = threads_kept s.format s.missed d first len s.machine was.read.machine comes (rw was.cpus opened.home) ids count fresh;
  labels = rw was.labels refl;
  idle = λ none. was.labels;
}
  where
    s : Reading
    s = settled r

    was : IsSettled f r s
    was = settles f r known

    first : ℕ
    first = heir.declaration.id.number

    len : ℕ
    len = suc heir.last - first

    d : Declaration
    d = record heir.declaration { script = script_of s.machine source }

    comes : IsToCome s.format s.missed d
    comes = source_comes s.format s.missed s.machine heir.declaration source was.read.machine opened.space (λ place at. omega (arith, within place at, was.count))

    ids : (n : ℕ) → first ≤ n → n < first + len → is_global_in s.format (global_id n d.id.version) ≡ true
    ids n from to = rw was.format (between_said r.format heir.declaration.id heir.last n opened.first opened.last from (omega (arith, to, opened.rises)))

    count : length s.machine.threads + len ≤ 1024
    count = omega (arith, room, was.count, length-range_with_len first len)

    fresh : list_any (λ n. is_taken n s.machine) (range_with_len first len) ≡ false
    fresh = any_same (λ n. is_taken n s.machine) (λ n. is_taken n r.machine) (range_with_len first len) was.taken ∙ free

-- Some thread is there behind a thread line, so nothing waits for the first one.
declared_read : (f : Format) (r after : Reading) (operands : List (List ℕ)) → IsRead f r → second_declared r operands ≡ Ok after → IsRead f after
declared_read f r after operands known e =
    let heir = bind_ok (second_declaration_of r.format r.names r.machine.cpus operands) _ after e in
    let source = bind_ok (source_of r heir.0.source) _ after heir.2 in
    let may = then_ok (may_declare heir.0 r.machine) _ after source.2 in
    let rooms = then_ok (must (nat_le (length r.machine.threads + length (numbers_of heir.0)) 1024) TooManyThreads) (must (not (list_any (λ n. is_taken n r.machine) (numbers_of heir.0))) DoubleId) tt may.0 in
    let opened = second_declaration_said r.format r.names r.machine.cpus operands heir.0 known.names heir.1 in
    subst (IsRead f) (same_ok _ after may.1)
    (declared_so f r heir.0 source.0 known opened (leb-true (length r.machine.threads + length (numbers_of heir.0)) 1024 (must_ok _ TooManyThreads rooms.0)) (not-true _ (must_ok _ DoubleId rooms.1))
    (λ place at. source_within r heir.0.source place (source.1 ∙ ap (λ (o : Option ℕ). says o) at)))

-- Names

name_read : (f : Format) (r after : Reading) (operands : List (List ℕ)) → IsRead f r → name_line r operands ≡ Ok after → IsRead f after
name_read f r after operands known e =
    let early = then_ok (must (not (has_thread r)) BadLine) _ after e in
    let words = bind_ok (needs (two operands) BadLine) _ after early.1 in
    let may = then_ok (must (may_name r words.0.0 && nat_lt (length r.names) 1024) BadName) _ after words.2 in
    let id = bind_ok (id_named r.format r.names words.0.1) _ after may.1 in
    let new : Named = record { name = words.0.0; id = id.0 } in
    subst (IsRead f) (same_ok (record r { names = r.names ++ new ∷ [] }) after id.2)
    (record {
      format = known.format;
      names = list_all-append (λ (n : Named). has_word_in r.format n.id) r.names (new ∷ []) ∙ and_from _ _ known.names (and_from _ true (named_said r.format r.names words.0.1 id.0 known.names id.1) refl);
      machine = known.machine;
      labels = known.labels;
      idle = known.idle;
    })

labelled_read : (f : Format) (r after : Reading) (label : Option (List ℕ)) → IsRead f r → labelled label r ≡ Ok after → IsRead f after
labelled_read f r after None known e = subst (IsRead f) (same_ok r after e) known
labelled_read f r after (Some name) known e =
    let may = then_ok (may_label r name) _ after e in
    let script = then_ok (must (has_script r) BadLine) _ tt may.0 in
    let some = (and_parts (has_thread r) (is_none r.heir_of) (must_ok _ BadLine script.0)).0 in
    let size = length (last_thread r.machine).script in
    let label : Label = record { name = name; at = size } in
    subst (IsRead f) (same_ok (record r { labels = r.labels ++ label ∷ [] }) after may.1)
    (record {
      format = known.format;
      names = known.names;
      machine = known.machine;
      labels = list_all-append (λ (l : Label). nat_le l.at size) r.labels (label ∷ []) ∙ and_from _ _ known.labels (and_from _ true (le-leb size size (omega arith)) refl);
      idle = λ none. absurd (false≢true (sym none ∙ some));
    })

-- Instructions

said_anywhere : (f : Format) (size : ℕ) (i : Instr) → is_said_second f i ≡ true → second_can_be_written f size i ≡ true
said_anywhere f zero i h = h
said_anywhere f (suc size) i h = subst (λ (n : ℕ). second_can_be_written f n i ≡ true) (omega arith) (written_later f size i (said_anywhere f size i h))

longer_declared : (f : Format) (cpus : ℕ) (d : Declaration) (i : Instr) → second_can_be_declared f cpus d ≡ true → length d.script < 1024 → is_said_second f i ≡ true → second_can_be_declared f cpus (with_instruction i d) ≡ true
longer_declared f cpus d i h room said =
    let parts = and_parts _ (list_all (second_can_be_written f (length d.script)) d.script) h in
    let heads = and_parts _ (nat_le (length d.script) 1024) parts.0 in
    let size : length d.script + 1 ≡ length (d.script ++ i ∷ []) = omega (arith, length_push d.script i) in
    let later = all_of (second_can_be_written f (length d.script)) (second_can_be_written f (length d.script + 1)) d.script (written_later f (length d.script)) parts.1 in
    let all = list_all-append (second_can_be_written f (length d.script + 1)) d.script (i ∷ []) ∙ and_from _ _ later (and_from _ true (said_anywhere f (length d.script + 1) i said) refl) in
    and_from _ _ (and_from _ _ heads.0 (le-leb (length (d.script ++ i ∷ [])) 1024 (omega (arith, size, room))))
    (subst (λ (n : ℕ). list_all (second_can_be_written f n) (d.script ++ i ∷ []) ≡ true) size all)

last_extended : (i : Instr) (m : Machine) → 0 < length m.threads → last_thread (extended i m) ≡ with_instruction i (last_thread m)
last_extended i m some =
    let d = with_instruction i (last_thread m) in
    rw (length-set m.threads (last_place m) d) (get_or-set_same m.threads (last_place m) d undeclared (omega (arith, some)))

within_longer : (size more : ℕ) (labels : List Label) → size ≤ more → are_within size labels ≡ true → are_within more labels ≡ true
within_longer size more labels to h = all_of (λ (l : Label). nat_le l.at size) (λ (l : Label). nat_le l.at more) labels (λ l at. le-leb l.at more (omega (arith, leb-true l.at size at, to))) h

extended_read : (f : Format) (r : Reading) (i : Instr) (targets : List Target) → IsRead f r → 0 < length r.machine.threads → length (last_thread r.machine).script < 1024 → is_said_second r.format i ≡ true
    → IsRead f (record r { machine = extended i r.machine; targets = targets })
extended_read f r i targets known some room said = record {
  format = known.format;
  names = known.names;
  machine = record {
    lawful = lawful-extended i m known.machine.lawful some;
    apart = own-set m.threads (last_place m) (with_instruction i d) below refl ∙ known.machine.apart;
    each = λ none.
        let all = known.machine.each none in
        all_set (second_can_be_declared r.format m.cpus) m.threads (last_place m) (with_instruction i d) all
        (longer_declared r.format m.cpus d i (declared_at r.format m.cpus m.threads (last_place m) below all) room said);
  };
  labels = rw (last_extended i m some) (within_longer (length d.script) (length (d.script ++ i ∷ [])) r.labels (omega (arith, length_push d.script i)) known.labels);
  idle = λ none. absurd (omega (arith, ltb-false 0 (length (extended i m).threads) none, length-set m.threads (last_place m) (with_instruction i d), some));
}
  where
    m : Machine
    m = r.machine

    d : Declaration
    d = last_thread m

    below : last_place m < length m.threads
    below = omega (arith, some)

instruction_read : (f : Format) (line : ℕ) (r after : Reading) (name : List ℕ) (operands : List (List ℕ)) → IsRead f r → instruction_line line r name operands ≡ Ok after → IsRead f after
unfolding extend
instruction_read f line r after name operands known e =
    let own = then_ok (must (has_script r) BadLine) _ after e in
    let some = (and_parts (has_thread r) (is_none r.heir_of) (must_ok _ BadLine own.0)).0 in
    let said = bind_ok (second_instruction_of r.format r.names name operands) _ after own.1 in
    let grown = bind_ok (extend said.0.instr r.machine) _ after said.2 in
    let room = then_ok (must (nat_lt (length (last_thread r.machine).script) 1024) TooManyInstructions) _ grown.0 grown.1 in
    let below = ltb-true (length (last_thread r.machine).script) 1024 (must_ok _ TooManyInstructions room.0) in
    let machine : extended said.0.instr r.machine ≡ grown.0 = same_ok _ _ room.1 in
    let positive = ltb-true 0 (length r.machine.threads) some in
    let targets = r.targets ++ target_at line (length (last_thread r.machine).script) said.0.target in
    subst (IsRead f) (ap (λ (m : Machine). record r { machine = m; targets = targets }) machine ∙ same_ok _ after grown.2)
    (extended_read f r said.0.instr targets known positive below (second_instruction_said r.format r.names name operands said.0 known.names said.1))

-- Lines

unlabelled_ok : (said : Said) (reading : Judged Reading) (after : Reading) → unlabelled said reading ≡ Ok after → reading ≡ Ok after
unlabelled_ok said reading after e = (then_ok (must (is_none said.label) BadLine) reading after e).1

words_read : (f : Format) (line : ℕ) (r after : Reading) (said : Said) (words : List (List ℕ)) → IsRead f r → words_line line r said words ≡ Ok after → IsRead f after
words_read f line r after said [] known e = labelled_read f r after said.label known e
words_read f line r after said (name ∷ operands) known e =
    chosen (IsRead f after) (bytes_eq name (codes "thread")) (unlabelled said (second_declared r operands)) _ (says after) e (λ t e. declared_read f r after operands known (unlabelled_ok said (second_declared r operands) after e)) (λ e.
    chosen (IsRead f after) (bytes_eq name (codes "name")) (unlabelled said (name_line r operands)) _ (says after) e (λ t e. name_read f r after operands known (unlabelled_ok said (name_line r operands) after e)) (λ e.
    let named = bind_ok (labelled said.label r) _ after e in
    instruction_read f line named.0 after name operands (labelled_read f r named.0 said.label known named.1) named.2))

nothing_is_read : (heading : Heading) (cpus : ℕ) → 1 ≤ cpus → cpus ≤ 16 → IsRead heading.format (nothing_read heading cpus)
nothing_is_read heading cpus some limit = record {
  format = refl;
  names = refl;
  machine = record {
    lawful = record { machine = record { placed = λ i l. absurd (omega (arith, l)); homed = λ i l. absurd (omega (arith, l)) }; some = some; limit = limit; threads = omega arith };
    apart = refl;
    each = λ none. refl;
  };
  labels = refl;
  idle = λ none. refl;
}

-- What a line says that names no instruction is its words.
words_alone : {A : Type 0} (said : Said) (rest : List (List ℕ) → Judged A) (after : A) → (unlabelled_words said >>= rest) ≡ Ok after → rest said.words ≡ Ok after
words_alone said rest after e =
    let words = bind_ok (unlabelled_words said) rest after e in
    let own = then_ok (must (is_none said.label) BadLine) (Ok said.words) words.0 words.1 in
    subst (λ (ws : List (List ℕ)). rest ws ≡ Ok after) (sym (same_ok said.words words.0 own.1)) words.2

words_sound : (f : Format) (line : ℕ) (stage after : Stage) (said : Said) → IsSound f stage → after_words line stage said ≡ Ok after → IsSound f after
unfolding after_words second_thread_line
words_sound f line Start after said known e = absurd known
words_sound f line (Processors heading) after said known e =
    let cpus = bind_ok (processors_line said.words) _ after (words_alone said _ after e) in
    let range = processors_said said.words cpus.0 cpus.1 in
    subst (IsSound f) (same_ok (Threads (nothing_read heading cpus.0)) after cpus.2) (subst (λ g. IsRead g (nothing_read heading cpus.0)) known (nothing_is_read heading cpus.0 range.0 range.1))
words_sound f line (Threads r) after said known e =
    let next = bind_ok (words_line line r said said.words) _ after e in
    subst (IsSound f) (same_ok (Threads next.0) after next.2) (words_read f line r next.0 said said.words known next.1)

said_sound : (f : Format) (line : ℕ) (stage after : Stage) (said : Option Said) → IsSound f stage → after_said line stage said ≡ Ok after → IsSound f after
said_sound f line stage after None known e = subst (IsSound f) (same_ok stage after e) known
said_sound f line stage after (Some said) known e = words_sound f line stage after said known e

line_sound : (f : Format) (line : ℕ) (stage after : Stage) (text : List ℕ) → IsSound f stage → after_line line stage text ≡ Ok after → IsSound f after
unfolding after_line
line_sound f line stage after text known e = let said = bind_ok (second_line_of text) (after_said line stage) after e in said_sound f line stage after said.0 known said.2

-- The end of a text

abbrev IsSpelled : Format → Machine → Type 0
IsSpelled f m = IsMachine m × HasSecondText f m

unmissed : (m n : Machine) (missed : Option TextFault) → unless_faulty m missed ≡ Ok n → (missed ≡ None) × (m ≡ n)
unmissed m n None e = (refl, cc)
unmissed m n (Some fault) e = absurd cc

end_spelled : (f : Format) (stage : Stage) (line : ℕ) (m : Machine) → IsSound f stage → ended stage line ≡ Ok m → IsSpelled f m
end_spelled f Start line m known e = absurd cc
end_spelled f (Processors heading) line m known e = absurd cc
end_spelled f (Threads r) line m known e =
    let end = unmissed (settled r).machine m (settled r).missed e in
    let read = (settles f r known).read in
    subst (IsSpelled f) end.1 (
      read.machine.lawful.machine,
      subst (λ g. HasSecondText g (settled r).machine) read.format
          (record {
            some = read.machine.lawful.some;
            limit = read.machine.lawful.limit;
            few = read.machine.lawful.threads;
            apart = read.machine.apart;
            each = read.machine.each end.0;
          }),
    )

judged_ok : (line : ℕ) (part : Judged Stage) (rest : Stage → Result Machine TextFault) (m : Machine) → judged_at line part rest ≡ Ok m → (after : Stage) × (part ≡ Ok after) × (rest after ≡ Ok m)
judged_ok line (Ok after) rest m e = (after, refl, e)
judged_ok line (Err kind) rest m e = absurd cc

parts_spelled : (f : Format) (parts : List (List ℕ)) (stage : Stage) (line : ℕ) (m : Machine) → IsSound f stage → read parts stage line ≡ Ok m → IsSpelled f m
parts_spelled f [] stage line m known e = end_spelled f stage line m known e
parts_spelled f (part ∷ []) stage line m known e = by (length part == 0) e
  where
    by : (b : Bool) → cond b (ended stage line) (Err (fault_at line BadLine)) ≡ Ok m → IsSpelled f m
    by true e = end_spelled f stage line m known e
    by false e = absurd cc
parts_spelled f (part ∷ next ∷ parts) stage line m known e =
    let one = judged_ok line (after_line line stage part) (λ after. read (next ∷ parts) after (line + 1)) m e in
    parts_spelled f (next ∷ parts) one.0 (line + 1) m (line_sound f line stage one.0 part known one.1) one.2

-- The first line that says something names the format.
abbrev IsNamed : Machine → Option Format → Type 0
IsNamed m named = IsMachine m × ((f : Format) × (named ≡ Some f) × HasSecondText f m)

header_said : (parts : List (List ℕ)) (line : ℕ) (m : Machine) (said : Option Said) (after : Stage) → after_said line Start said ≡ Ok after → read parts after (line + 1) ≡ Ok m
    → (read parts Start (line + 1) ≡ Ok m → IsNamed m (second_format_of parts)) → IsNamed m (second_format_from (Ok said) (second_format_of parts))
unfolding after_words
header_said parts line m None after e rest later = later (subst (λ (s : Stage). read parts s (line + 1) ≡ Ok m) (sym (same_ok Start after e)) rest)
header_said parts line m (Some said) after e rest later =
    let heading = bind_ok (second_format_line said.words) _ after (words_alone said _ after e) in
    let stage : Processors heading.0 ≡ after = same_ok _ after heading.2 in
    let spelled = parts_spelled heading.0.format parts after (line + 1) m (subst (IsSound heading.0.format) stage refl) rest in
    (spelled.0, (heading.0.format, ap named_by heading.1, spelled.1))

header_spelled : (parts : List (List ℕ)) (line : ℕ) (m : Machine) → read parts Start line ≡ Ok m → IsNamed m (second_format_of parts)
unfolding after_line
header_spelled [] line m e = absurd cc
header_spelled (part ∷ []) line m e = by (length part == 0) e
  where
    by : (b : Bool) → cond b (ended Start line) (Err (fault_at line BadLine)) ≡ Ok m → IsNamed m (second_format_of (part ∷ []))
    by true e = absurd cc
    by false e = absurd cc
header_spelled (part ∷ next ∷ parts) line m e =
    let one = judged_ok line (after_line line Start part) (λ after. read (next ∷ parts) after (line + 1)) m e in
    let said = bind_ok (second_line_of part) (after_said line Start) one.0 one.1 in
    subst (λ (judged : Judged (Option Said)). IsNamed m (second_format_from judged (second_format_of (next ∷ parts)))) (sym said.1)
    (header_said (next ∷ parts) line m said.0 one.0 said.2 one.2 (header_spelled (next ∷ parts) (line + 1) m))

pub each_has_second_text : EachHasSecondText
each_has_second_text text m e =
    chosen (IsNamed m (format_named text)) (nat_lt 0x100000 (length text)) (Err (fault_at 0 TooLong)) _ (Ok m) e (λ long h. absurd cc) (λ h. by (begins_second (parts_of text)) h)
  where
    by : (b : Bool) → cond b (read (parts_of text) Start 1) (first_machine_of_text text) ≡ Ok m → IsNamed m (cond b (second_format_of (parts_of text)) (format_of_text text))
    by true h = header_spelled (parts_of text) 1 m h
    by false h =
        let first = each_has_text text m h in
        (first.0, (first.1.0, first.1.1, text_too first.1.0 m first.1.2))
