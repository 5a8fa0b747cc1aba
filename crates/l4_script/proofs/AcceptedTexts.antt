-- The machine of an accepted text has a spelling.
use Rattle.std.proofs.Common.{◌≡◌, ℕ, ◌+◌, ◌^◌, ◌<◌, ◌≤◌, Bool, true, false, cond, eqb, ◌&&◌, ◌||◌, not, List, [], ◌∷◌, ◌++◌, length, get_or, set, Option, Some, None, Result, Ok, Err, refl, sym, ap, ◌∙◌, subst, inl, inr, zero, suc, arith}
use Rattle.std.specs.Prelude.{◌==◌, nat_lt, nat_le, codes, find, bytes_eq}
use Rattle.std.specs.List.{list_all, list_any}
use Rattle.std.proofs.lemmas.Bool.{lt-ltb, le-leb, ltb-true, ltb-false, eq-eqb, eqb-true, ne_eqb, eqb-false, not-true, not_from_false, and_parts, and_from, or_parts, or_from, or_left, or_right, or_cases, false≢true, cases_lt, cases_eq}
use Rattle.std.proofs.lemmas.List.{length_push, length-set, get_or_push, get_or_append_left, get_or-set_same, get_or-set_other}
use Rattle.std.proofs.lemmas.List.Folds.{list_all-append, list_any-append}
use Rattle.l4_model.specs.Words.{Format, is_global_in}
use Rattle.l4_model.specs.Machine.{Assign, Instr, Run, Tag, Vs, Ipc, Ask, Jump, OnErr, OnLabel, OnWord, OnFrom, End, Declaration, Machine}
use Rattle.l4_core_model.specs.Local.{declared, undeclared}
use Rattle.l4_core_model.specs.Runs.{IsMachine}
use Rattle.l4_script.specs.declared.text.fault.TextFault.{TextFault}
use Rattle.l4_script.specs.declared.text.fault.TextFaultKind.TheVariants.{BadLine, TooLong, TooManyThreads, DoubleId, TooManyInstructions}
use Rattle.l4_script.specs.Faults.{fault_at}
use Rattle.l4_script.specs.Judged.{Judged, ◌>>=◌, must}
use Rattle.l4_words.specs.Lines.{parts_of}
use Rattle.l4_script.specs.Lines.{line_of}
use Rattle.l4_script.specs.Machines.{IsLawful, has_number, is_taken, with_instruction, with_thread, last_place, last_thread, extended}
use Rattle.l4_script.specs.Statements.{Heading, format_line, processors_line, declaration_of, instruction_of, declare, extend}
use Rattle.l4_script.specs.Texts.{Target, Reading, Stage, Start, Processors, Threads, target, targets_of, nothing_read, naming, declared_in, extended_at, thread_line, after_words, after_said, after_line, is_missed, unless_missed, ended, judged_at, named_by, format_from, format_of_parts, format_of_text, read}
use Rattle.l4_script.specs.Canonical.{can_be_written, can_be_declared, are_apart, HasText, EachHasText}
use Rattle.l4_script.proofs.Growing.{lawful-with_thread, lawful-extended}
use Rattle.l4_script.proofs.Judging.{bind_ok, then_ok, must_ok, chosen, says, same_ok}
use Rattle.l4_script.proofs.AcceptedLines.{is_said, instruction_said, IsOpened, declaration_said, processors_said}

-- The place that an instruction names is kept among the targets, with the place of its thread.
abbrev names : (thread place : ℕ) → Target → Bool
names thread place t = (t.thread == thread) && (t.place == place)

abbrev is_kept : List Target → (thread : ℕ) → Instr → Bool
is_kept targets thread (Jump place) = list_any (names thread place) targets
is_kept targets thread (OnErr place) = list_any (names thread place) targets
is_kept targets thread _ = true

-- A thread as it stands before the end of a text.
record IsUnderway (f : Format) (targets : List Target) (place : ℕ) (d : Declaration) : Type 0 where
  global : is_global_in f d.id ≡ true
  space : d.space < 2 ^ 32
  few : length d.script ≤ 1024
  said : list_all (is_said f) d.script ≡ true
  kept : list_all (is_kept targets place) d.script ≡ true

-- What was read of a text of this format.
record IsRead (f : Format) (r : Reading) : Type 0 where
  format : r.format ≡ f
  lawful : IsLawful r.machine
  apart : are_apart r.machine.threads ≡ true
  threads : (i : ℕ) → i < length r.machine.threads → IsUnderway r.format r.targets i (declared r.machine i)

abbrev IsSound : Format → Stage → Type 0
IsSound f Start = ⊥
IsSound f (Processors heading) = heading.format ≡ f
IsSound f (Threads r) = IsRead f r

-- More targets keep what was kept.

more_names : (thread place : ℕ) (targets more : List Target) → list_any (names thread place) targets ≡ true → list_any (names thread place) (targets ++ more) ≡ true
more_names thread place targets more h = list_any-append (names thread place) targets more ∙ or_left _ (list_any (names thread place) more) h

still_kept : (targets more : List Target) (thread : ℕ) (instr : Instr) → is_kept targets thread instr ≡ true → is_kept (targets ++ more) thread instr ≡ true
still_kept targets more thread (Jump place) h = more_names thread place targets more h
still_kept targets more thread (OnErr place) h = more_names thread place targets more h
still_kept targets more thread _ h = refl

all_still_kept : (targets more : List Target) (thread : ℕ) (script : List Instr) → list_all (is_kept targets thread) script ≡ true → list_all (is_kept (targets ++ more) thread) script ≡ true
all_still_kept targets more thread [] h = refl
all_still_kept targets more thread (instr ∷ script) h =
    let parts = and_parts (is_kept targets thread instr) (list_all (is_kept targets thread) script) h in
    and_from _ _ (still_kept targets more thread instr parts.0) (all_still_kept targets more thread script parts.1)

still_underway : (f : Format) (targets more : List Target) (place : ℕ) (d : Declaration) → IsUnderway f targets place d → IsUnderway f (targets ++ more) place d
still_underway f targets more place d h = record { global = h.global; space = h.space; few = h.few; said = h.said; kept = all_still_kept targets more place d.script h.kept }

named_last : (targets : List Target) (line thread place : ℕ) → list_any (names thread place) (targets ++ target line thread place) ≡ true
named_last targets line thread place =
    list_any-append (names thread place) targets (target line thread place)
    ∙ or_right _ _ (or_left _ false (and_from _ _ (eq-eqb thread thread refl) (eq-eqb place place refl)))

-- The places that an instruction names are kept with its line.
new_kept : (targets : List Target) (line thread : ℕ) (instr : Instr) → is_kept (targets ++ targets_of line thread instr) thread instr ≡ true
new_kept targets line thread (Jump place) = named_last targets line thread place
new_kept targets line thread (OnErr place) = named_last targets line thread place
new_kept targets line thread _ = refl

-- A number that no thread has, has none behind them either.
pub own-push : (ds : List Declaration) (d : Declaration) → are_apart ds ≡ true → list_any (has_number d.id.number) ds ≡ false → are_apart (ds ++ d ∷ []) ≡ true
own-push [] d own new = refl
own-push (x ∷ ds) d own new =
    let parts = and_parts (not (list_any (has_number x.id.number) ds)) (are_apart ds) own in
    let other = or_parts (eqb x.id.number d.id.number) (list_any (has_number d.id.number) ds) new in
    let apart : eqb d.id.number x.id.number ≡ false = ne_eqb d.id.number x.id.number (λ e. eqb-false x.id.number d.id.number other.0 (sym e)) in
    let none : list_any (has_number x.id.number) (ds ++ d ∷ []) ≡ false = list_any-append (has_number x.id.number) ds (d ∷ []) ∙ or_from _ _ (not-true _ parts.0) (or_from _ _ apart refl) in
    and_from _ _ (not_from_false _ none) (own-push ds d parts.1 other.1)

-- A change of a script changes no number.
pub any-set : (n : ℕ) (ds : List Declaration) (k : ℕ) (d : Declaration) → k < length ds → d.id ≡ (get_or ds k undeclared).id → list_any (has_number n) (set ds k d) ≡ list_any (has_number n) ds
any-set n [] k d l e = refl
any-set n (x ∷ ds) zero d l e = rw e refl
any-set n (x ∷ ds) (suc k) d l e = rw (any-set n ds k d (omega arith) e) refl

pub own-set : (ds : List Declaration) (k : ℕ) (d : Declaration) → k < length ds → d.id ≡ (get_or ds k undeclared).id → are_apart (set ds k d) ≡ are_apart ds
own-set [] k d l e = refl
own-set (x ∷ ds) zero d l e = rw e refl
own-set (x ∷ ds) (suc k) d l e = rw (any-set x.id.number ds k d (omega arith) e, own-set ds k d (omega arith) e) refl

-- One more thread

opened : (f : Format) (cpus : ℕ) (targets : List Target) (place : ℕ) (d : Declaration) → IsOpened f cpus d → IsUnderway f targets place d
opened f cpus targets place d h =
    record {
      global = h.global;
      space = h.space;
      few = rw h.script (omega arith);
      said = rw h.script refl;
      kept = rw h.script refl;
    }

with_thread_read : (f : Format) (r : Reading) (d : Declaration) → IsRead f r → IsOpened r.format r.machine.cpus d → length r.machine.threads < 1024 → is_taken d.id.number r.machine ≡ false → IsRead f (record r { machine = with_thread d r.machine })
with_thread_read f r d known h room new =
    record {
      format = known.format;
      lawful = lawful-with_thread d r.machine known.lawful room h.home new;
      apart = own-push r.machine.threads d known.apart new;
      threads = threads;
    }
  where
    threads : (i : ℕ) → i < length (r.machine.threads ++ d ∷ []) → IsUnderway r.format r.targets i (declared (with_thread d r.machine) i)
    threads i l =
        elim (cases_lt i (length r.machine.threads)) [
          | inl lt ↦ rw (get_or_append_left r.machine.threads (d ∷ []) undeclared i lt) (known.threads i lt)
          | inr ge ↦
              let e : length r.machine.threads ≡ i = omega (arith, length_push r.machine.threads d) in
              rw (get_or_push r.machine.threads d undeclared i e) (opened r.format r.machine.cpus r.targets i d h)
        ]

declared_read : (f : Format) (r after : Reading) (d : Declaration) → IsRead f r → IsOpened r.format r.machine.cpus d → declared_in r d ≡ Ok after → IsRead f after
unfolding declare
declared_read f r after d known h e =
    let grown = bind_ok (declare d r.machine) _ after e in
    let room = then_ok (must (nat_lt (length r.machine.threads) 1024) TooManyThreads) _ grown.0 grown.1 in
    let new = then_ok (must (not (is_taken d.id.number r.machine)) DoubleId) _ grown.0 room.1 in
    let machine : with_thread d r.machine ≡ grown.0 = same_ok _ _ new.1 in
    let below = ltb-true (length r.machine.threads) 1024 (must_ok _ TooManyThreads room.0) in
    let free = not-true (is_taken d.id.number r.machine) (must_ok _ DoubleId new.0) in
    subst (IsRead f) (ap (λ (m : Machine). record r { machine = m }) machine ∙ same_ok _ after grown.2) (with_thread_read f r d known h below free)

-- One more instruction

more_underway : (f : Format) (targets : List Target) (line place : ℕ) (d : Declaration) (instr : Instr) → IsUnderway f targets place d → length d.script < 1024 → is_said f instr ≡ true
    → IsUnderway f (targets ++ targets_of line place instr) place (with_instruction instr d)
more_underway f targets line place d instr h room said =
    record {
      global = h.global;
      space = h.space;
      few = omega (arith, length_push d.script instr);
      said = list_all-append (is_said f) d.script (instr ∷ []) ∙ and_from _ _ h.said (and_from _ true said refl);
      kept = list_all-append (is_kept (targets ++ targets_of line place instr) place) d.script (instr ∷ []) ∙ and_from _ _ (all_still_kept targets (targets_of line place instr) place d.script h.kept) (and_from _ true (new_kept targets line place instr) refl);
    }

extended_read : (f : Format) (line : ℕ) (r : Reading) (instr : Instr) → IsRead f r → 0 < length r.machine.threads → length (last_thread r.machine).script < 1024 → is_said r.format instr ≡ true
    → IsRead f (naming (targets_of line (last_place r.machine) instr) (record r { machine = extended instr r.machine }))
extended_read f line r instr known some room said =
    record {
      format = known.format;
      lawful = lawful-extended instr r.machine known.lawful some;
      apart = own-set r.machine.threads (last_place r.machine) (with_instruction instr (last_thread r.machine)) (omega arith) refl ∙ known.apart;
      threads = threads;
    }
  where
    threads : (i : ℕ) → i < length (set r.machine.threads (last_place r.machine) (with_instruction instr (last_thread r.machine)))
        → IsUnderway r.format (r.targets ++ targets_of line (last_place r.machine) instr) i (declared (extended instr r.machine) i)
    threads i l =
        let place = last_place r.machine in
        let below : place < length r.machine.threads = omega arith in
        let size = length-set r.machine.threads place (with_instruction instr (last_thread r.machine)) in
        elim (cases_eq i place) [
          | inl e ↦ rw (e, get_or-set_same r.machine.threads place (with_instruction instr (last_thread r.machine)) undeclared below) (more_underway r.format r.targets line place (last_thread r.machine) instr (known.threads place below) room said)
          | inr ne ↦ rw (get_or-set_other r.machine.threads place i (with_instruction instr (last_thread r.machine)) undeclared ne) (still_underway r.format r.targets (targets_of line place instr) i (declared r.machine i) (known.threads i (omega (arith, size))))
        ]

extended_at_read : (f : Format) (line : ℕ) (r after : Reading) (instr : Instr) → IsRead f r → 0 < length r.machine.threads → is_said r.format instr ≡ true → extended_at line r instr ≡ Ok after → IsRead f after
unfolding extend
extended_at_read f line r after instr known some said e =
    let grown = bind_ok (extend instr r.machine) _ after e in
    let room = then_ok (must (nat_lt (length (last_thread r.machine).script) 1024) TooManyInstructions) _ grown.0 grown.1 in
    let below = ltb-true (length (last_thread r.machine).script) 1024 (must_ok _ TooManyInstructions room.0) in
    let machine : extended instr r.machine ≡ grown.0 = same_ok _ _ room.1 in
    subst (IsRead f) (ap (λ (m : Machine). naming (targets_of line (last_place r.machine) instr) (record r { machine = m })) machine ∙ same_ok _ after grown.2)
    (extended_read f line r instr known some below said)

-- Lines

thread_line_read : (f : Format) (line : ℕ) (r after : Reading) (words : List (List ℕ)) → IsRead f r → thread_line line r words ≡ Ok after → IsRead f after
unfolding thread_line
thread_line_read f line r after [] known e = absurd cc
thread_line_read f line r after (name ∷ operands) known e =
    chosen (IsRead f after) (bytes_eq name (codes "thread")) (declaration_of r.format r.machine.cpus operands >>= λ thread. declared_in r thread) _ (says after) e
    (λ t e.
    let thread = bind_ok (declaration_of r.format r.machine.cpus operands) _ after e in
    declared_read f r after thread.0 known (declaration_said r.format r.machine.cpus operands thread.0 thread.1) thread.2)
    (λ e.
    let some = then_ok (must (nat_lt 0 (length r.machine.threads)) BadLine) _ after e in
    let instr = bind_ok (instruction_of r.format name operands) _ after some.1 in
    extended_at_read f line r after instr.0 known (ltb-true 0 (length r.machine.threads) (must_ok _ BadLine some.0)) (instruction_said r.format name operands instr.0 instr.1) instr.2)

nothing_is_read : (heading : Heading) (cpus : ℕ) → 1 ≤ cpus → cpus ≤ 16 → IsRead heading.format (nothing_read heading cpus)
nothing_is_read heading cpus some limit =
    record {
      format = refl;
      lawful = record { machine = record { placed = λ i l. absurd (omega (arith, l)); homed = λ i l. absurd (omega (arith, l)) }; some = some; limit = limit; threads = omega arith };
      apart = refl;
      threads = λ i l. absurd (omega (arith, l));
    }

words_sound : (f : Format) (line : ℕ) (stage after : Stage) (words : List (List ℕ)) → IsSound f stage → after_words line stage words ≡ Ok after → IsSound f after
unfolding after_words
words_sound f line Start after words known e = absurd known
words_sound f line (Processors heading) after words known e =
    let cpus = bind_ok (processors_line words) _ after e in
    let range = processors_said words cpus.0 cpus.1 in
    subst (IsSound f) (same_ok _ after cpus.2) (subst (λ g. IsRead g (nothing_read heading cpus.0)) known (nothing_is_read heading cpus.0 range.0 range.1))
words_sound f line (Threads r) after words known e =
    let next = bind_ok (thread_line line r words) _ after e in
    subst (IsSound f) (same_ok _ after next.2) (thread_line_read f line r next.0 words known next.1)

said_sound : (f : Format) (line : ℕ) (stage after : Stage) (said : Option (List (List ℕ))) → IsSound f stage → after_said line stage said ≡ Ok after → IsSound f after
said_sound f line stage after None known e = subst (IsSound f) (same_ok stage after e) known
said_sound f line stage after (Some words) known e = words_sound f line stage after words known e

line_sound : (f : Format) (line : ℕ) (stage after : Stage) (text : List ℕ) → IsSound f stage → after_line line stage text ≡ Ok after → IsSound f after
unfolding after_line
line_sound f line stage after text known e = let said = bind_ok (line_of text) _ after e in said_sound f line stage after said.0 known said.2

-- The end of a text

-- A place that is kept is in its script, where no target is missed.
target_hit : (targets : List Target) (m : Machine) (thread place : ℕ) → list_any (is_missed m) targets ≡ false → list_any (names thread place) targets ≡ true
    → nat_le place (length (declared m thread).script) ≡ true
target_hit [] m thread place hits kept = absurd (false≢true kept)
target_hit (t ∷ ts) m thread place hits kept =
    let none = or_parts (is_missed m t) (list_any (is_missed m) ts) hits in
    elim (or_cases (names thread place t) (list_any (names thread place) ts) kept) [
      | inl here ↦
          let same = and_parts (t.thread == thread) (t.place == place) here in
          let at : t.thread ≡ thread = eqb-true t.thread thread same.0 in
          let to : t.place ≡ place = eqb-true t.place place same.1 in
          let upper : t.place ≤ length (declared m t.thread).script = ltb-false (length (declared m t.thread).script) t.place none.0 in
          le-leb place (length (declared m thread).script) (subst (λ (p : ℕ). p ≤ length (declared m thread).script) to (subst (λ (i : ℕ). t.place ≤ length (declared m i).script) at upper))
      | inr later ↦ target_hit ts m thread place none.1 later
    ]

instruction_hit : (f : Format) (targets : List Target) (m : Machine) (place : ℕ) (instr : Instr) → list_any (is_missed m) targets ≡ false → is_said f instr ≡ true → is_kept targets place instr ≡ true
    → can_be_written f (length (declared m place).script) instr ≡ true
instruction_hit f targets m place (Run (Assign register value)) hits said kept = said
instruction_hit f targets m place (Tag word) hits said kept = said
instruction_hit f targets m place (Vs from) hits said kept = said
instruction_hit f targets m place (Ipc to from send receive) hits said kept = said
instruction_hit f targets m place (Ask target what) hits said kept = said
instruction_hit f targets m place (Jump to) hits said kept = target_hit targets m place to hits kept
instruction_hit f targets m place (OnErr to) hits said kept = target_hit targets m place to hits kept
instruction_hit f targets m place (OnLabel label to) hits said kept = said
instruction_hit f targets m place (OnWord register word to) hits said kept = said
instruction_hit f targets m place (OnFrom id to) hits said kept = said
instruction_hit f targets m place End hits said kept = refl

script_hit : (f : Format) (targets : List Target) (m : Machine) (place : ℕ) (script : List Instr) → list_any (is_missed m) targets ≡ false → list_all (is_said f) script ≡ true → list_all (is_kept targets place) script ≡ true
    → list_all (can_be_written f (length (declared m place).script)) script ≡ true
script_hit f targets m place [] hits said kept = refl
script_hit f targets m place (instr ∷ script) hits said kept =
    let saids = and_parts (is_said f instr) (list_all (is_said f) script) said in
    let kepts = and_parts (is_kept targets place instr) (list_all (is_kept targets place) script) kept in
    and_from _ _ (instruction_hit f targets m place instr hits saids.0 kepts.0) (script_hit f targets m place script hits saids.1 kepts.1)

thread_ended : (f : Format) (targets : List Target) (m : Machine) (place : ℕ) → list_any (is_missed m) targets ≡ false → (declared m place).cpu < m.cpus → IsUnderway f targets place (declared m place)
    → can_be_declared f m.cpus (declared m place) ≡ true
thread_ended f targets m place hits home h =
    let found = and_from (is_global_in f (declared m place).id) _ h.global (lt-ltb (declared m place).cpu m.cpus home) in
    and_from _ _ (and_from _ _ (and_from _ _ found (lt-ltb (declared m place).space (2 ^ 32) h.space)) (le-leb (length (declared m place).script) 1024 h.few))
    (script_hit f targets m place (declared m place).script hits h.said h.kept)

-- What holds at each place holds of all.
all_places : (p : Declaration → Bool) (ds : List Declaration) → ((i : ℕ) → i < length ds → p (get_or ds i undeclared) ≡ true) → list_all p ds ≡ true
all_places p [] h = refl
all_places p (d ∷ ds) h = and_from _ _ (h 0 (omega arith)) (all_places p ds (λ i l. h (suc i) (omega arith)))

not_found : {A : Type 0} (p : A → Bool) (xs : List A) → find p xs ≡ None → list_any p xs ≡ false
not_found p [] e = refl
not_found p (x ∷ xs) e = by_test (p x) refl e (not_found p xs)
  where
    by_test : (b : Bool) → p x ≡ b → cond b (Some x) (find p xs) ≡ None → (find p xs ≡ None → list_any p xs ≡ false) → (p x || list_any p xs) ≡ false
    by_test true t e rest = absurd cc
    by_test false t e rest = or_from _ _ t (rest e)

unmissed : (m n : Machine) (missed : Option Target) → unless_missed m missed ≡ Ok n → (missed ≡ None) × (m ≡ n)
unmissed m n None e = (refl, cc)
unmissed m n (Some t) e = absurd cc

-- What is known of a machine when its text has ended.
abbrev IsWritten : Format → Machine → Type 0
IsWritten f m = IsMachine m × HasText f m

read_written : (f : Format) (r : Reading) → IsRead f r → find (is_missed r.machine) r.targets ≡ None → IsWritten f r.machine
read_written f r known none = (
  known.lawful.machine,
  subst (λ g. HasText g r.machine) known.format
      (record {
        some = known.lawful.some;
        limit = known.lawful.limit;
        few = known.lawful.threads;
        apart = known.apart;
        each =
            all_places (can_be_declared r.format r.machine.cpus) r.machine.threads
            (λ i l. thread_ended r.format r.targets r.machine i (not_found (is_missed r.machine) r.targets none) (known.lawful.machine.homed i l) (known.threads i l));
      }),
)

end_written : (f : Format) (stage : Stage) (line : ℕ) (m : Machine) → IsSound f stage → ended stage line ≡ Ok m → IsWritten f m
end_written f Start line m known e = absurd cc
end_written f (Processors heading) line m known e = absurd cc
end_written f (Threads r) line m known e =
    let end = unmissed r.machine m (find (is_missed r.machine) r.targets) e in
    subst (IsWritten f) end.1 (read_written f r known end.0)

judged_ok : (line : ℕ) (part : Judged Stage) (rest : Stage → Result Machine TextFault) (m : Machine) → judged_at line part rest ≡ Ok m → (after : Stage) × (part ≡ Ok after) × (rest after ≡ Ok m)
judged_ok line (Ok after) rest m e = (after, refl, e)
judged_ok line (Err kind) rest m e = absurd cc

parts_written : (f : Format) (parts : List (List ℕ)) (stage : Stage) (line : ℕ) (m : Machine) → IsSound f stage → read parts stage line ≡ Ok m → IsWritten f m
parts_written f [] stage line m known e = end_written f stage line m known e
parts_written f (part ∷ []) stage line m known e = by_test (length part == 0) e
  where
    by_test : (b : Bool) → cond b (ended stage line) (Err (fault_at line BadLine)) ≡ Ok m → IsWritten f m
    by_test true e = end_written f stage line m known e
    by_test false e = absurd cc
parts_written f (part ∷ next ∷ parts) stage line m known e =
    let one = judged_ok line (after_line line stage part) (λ after. read (next ∷ parts) after (line + 1)) m e in
    parts_written f (next ∷ parts) one.0 (line + 1) m (line_sound f line stage one.0 part known one.1) one.2

-- The first line with words names the format.
abbrev IsNamed : Machine → Option Format → Type 0
IsNamed m named = IsMachine m × ((f : Format) × (named ≡ Some f) × HasText f m)

header_said : (parts : List (List ℕ)) (line : ℕ) (m : Machine) (said : Option (List (List ℕ))) (after : Stage) → after_said line Start said ≡ Ok after → read parts after (line + 1) ≡ Ok m
    → (read parts Start (line + 1) ≡ Ok m → IsNamed m (format_of_parts parts)) → IsNamed m (format_from (Ok said) (format_of_parts parts))
unfolding after_words
header_said parts line m None after e rest later = later (subst (λ (s : Stage). read parts s (line + 1) ≡ Ok m) (sym (same_ok Start after e)) rest)
header_said parts line m (Some words) after e rest later =
    let heading = bind_ok (format_line words) _ after e in
    let stage : Processors heading.0 ≡ after = same_ok _ after heading.2 in
    let written = parts_written heading.0.format parts after (line + 1) m (subst (IsSound heading.0.format) stage refl) rest in
    (written.0, (heading.0.format, ap named_by heading.1, written.1))

header_written : (parts : List (List ℕ)) (line : ℕ) (m : Machine) → read parts Start line ≡ Ok m → IsNamed m (format_of_parts parts)
unfolding after_line
header_written [] line m e = absurd cc
header_written (part ∷ []) line m e = by_test (length part == 0) e
  where
    by_test : (b : Bool) → cond b (ended Start line) (Err (fault_at line BadLine)) ≡ Ok m → IsNamed m (format_of_parts (part ∷ []))
    by_test true e = absurd cc
    by_test false e = absurd cc
header_written (part ∷ next ∷ parts) line m e =
    let one = judged_ok line (after_line line Start part) (λ after. read (next ∷ parts) after (line + 1)) m e in
    let said = bind_ok (line_of part) _ one.0 one.1 in
    subst (λ (judged : Judged (Option (List (List ℕ)))). IsNamed m (format_from judged (format_of_parts (next ∷ parts)))) (sym said.1)
    (header_said (next ∷ parts) line m said.0 one.0 said.2 one.2 (header_written (next ∷ parts) (line + 1) m))

pub each_has_text : EachHasText
each_has_text text m e = by_size (nat_lt 0x100000 (length text)) e
  where
    by_size : (b : Bool) → cond b (Err (fault_at 0 TooLong)) (read (parts_of text) Start 1) ≡ Ok m → IsNamed m (format_of_text text)
    by_size true e = absurd cc
    by_size false e = header_written (parts_of text) 1 m e
