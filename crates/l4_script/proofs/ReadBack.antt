-- A machine's canonical text is read line by line, and the machine grows to what it was.
use Rattle.std.proofs.Common.{◌≡◌, ℕ, ◌+◌, ◌-◌, ◌<◌, ◌≤◌, Bool, true, false, not, List, [], ◌∷◌, ◌++◌, length, get_or, map, None, Result, Ok, refl, sym, ap, subst, ◌∙◌, append_assoc, arith}
use Rattle.std.specs.Prelude.{◌==◌, codes, decimal, find, flat_map}
use Rattle.std.specs.List.{list_all, list_any, join_with_byte}
use Rattle.std.proofs.Math.Seq.{set-append_seam, get_or-append_seam}
use Rattle.std.proofs.lemmas.Bool.{and_parts, and_from, or_parts, or_from, not-true, not_from_false, le-ltb, lt-ltb, leb-true, ne_eqb, eqb-false}
use Rattle.std.proofs.lemmas.List.{length-append, append-nil}
use Rattle.std.proofs.lemmas.List.Folds.{list_any-append, list_all-append}
use Rattle.std.proofs.lemmas.List.Splits.{slice_split_at}
use Rattle.l4_model.specs.Words.{Format}
use Rattle.l4_model.specs.Machine.{Instr, Jump, OnErr, Declaration, Machine}
use Rattle.l4_core_model.specs.Local.{declared, undeclared}
use Rattle.l4_script.specs.declared.text.fault.TextFault.{TextFault}
use Rattle.l4_script.specs.Judged.{Judged}
use Rattle.l4_words.specs.Lines.{parts_of, line_of_words}
use Rattle.l4_script.specs.Machines.{has_number, last_thread, extended}
use Rattle.l4_script.specs.Statements.{Heading, declare, extend}
use Rattle.l4_script.specs.Texts.{Stage, Start, Processors, Threads, Reading, Target, targets_of, declared_in, extended_at, thread_line, after_words, after_line, is_missed, unless_missed, judged_at, read, first_machine_of_text}
use Rattle.l4_script.specs.Canonical.{words_of_instruction, words_of_thread, words_of_format, lines_of_thread, lines_of, canonical_text, can_be_written, can_be_declared, are_apart, HasText}
use Rattle.l4_script.proofs.Written.{are_line, line_lacks_end, after_line_read, instruction_is_line, instruction_read, declarable, thread_is_line, thread_line_read, format_is_line, format_read, processors_read, processors_is_line}

-- The parts of a text, of which the last is nothing.
abbrev pub parts : List (List (List ℕ)) → List (List ℕ)
parts lines = map (join_with_byte 32) lines ++ ([] ∷ [])

abbrev pub are_lines : List (List (List ℕ)) → Bool
are_lines lines = list_all are_line lines

pub text_is_split : (lines : List (List (List ℕ))) → are_lines lines ≡ true → parts_of (flat_map line_of_words lines) ≡ parts lines
text_is_split [] h = refl
text_is_split (words ∷ lines) h =
    let both = and_parts (are_line words) (are_lines lines) h in
    ap parts_of (append_assoc (join_with_byte 32 words) (10 ∷ []) (flat_map line_of_words lines))
    ∙ slice_split_at (λ x. x == 10) (join_with_byte 32 words) 10 (flat_map line_of_words lines) (line_lacks_end words both.0) refl
    ∙ ap (λ (rest : List (List ℕ)). join_with_byte 32 words ∷ rest) (text_is_split lines both.1)

read_first : (words : List (List ℕ)) (lines : List (List (List ℕ))) (stage : Stage) (n : ℕ) → read (parts (words ∷ lines)) stage n ≡ judged_at n (after_line n stage (join_with_byte 32 words)) (λ after. read (parts lines) after (n + 1))
read_first words [] stage n = refl
read_first words (next ∷ lines) stage n = refl

-- A line that is read leads on.
read_on : (words : List (List ℕ)) (lines : List (List (List ℕ))) (stage next : Stage) (n : ℕ) → are_line words ≡ true → after_words n stage words ≡ Ok next → read (parts (words ∷ lines)) stage n ≡ read (parts lines) next (n + 1)
read_on words lines stage next n h e =
    read_first words lines stage n
    ∙ ap (λ (judged : Judged Stage). judged_at n judged (λ after. read (parts lines) after (n + 1))) (after_line_read n stage words h ∙ e)

-- What was read of a machine

abbrev pub read_of : Machine → List Declaration → Machine
read_of m ds = record m { threads = ds }

abbrev so_far : Format → Machine → List Declaration → List Target → Stage
so_far f m ds ts = Threads (record { format = f; machine = read_of m ds; targets = ts })

-- A thread with the instructions that were read of its script.
abbrev pub partial : Declaration → List Instr → Declaration
partial d done = record d { script = done }

after_thread_line : (n : ℕ) (r r' : Reading) (words : List (List ℕ)) → thread_line n r words ≡ Ok r' → after_words n (Threads r) words ≡ Ok (Threads r')
unfolding after_words
after_thread_line n r r' words e = rw e refl

-- Places

abbrev are_missed : Machine → List Target → Bool
are_missed m ts = list_any (is_missed m) ts

none_missed : (m : Machine) (ts : List Target) → are_missed m ts ≡ false → find (is_missed m) ts ≡ None
none_missed m [] h = refl
none_missed m (t ∷ ts) h =
    let both = or_parts (is_missed m t) (are_missed m ts) h in
    rw (both.0) (none_missed m ts both.1)

-- The place that a written instruction names is one of its script.
named_is_met : (f : Format) (m : Machine) (k n : ℕ) (i : Instr) → can_be_written f (length (declared m k).script) i ≡ true → are_missed m (targets_of n k i) ≡ false
named_is_met f m k n (Jump place) h = or_from _ false (le-ltb (length (declared m k).script) place (leb-true place (length (declared m k).script) h)) refl
named_is_met f m k n (OnErr place) h = or_from _ false (le-ltb (length (declared m k).script) place (leb-true place (length (declared m k).script) h)) refl
named_is_met f m k n i h = refl

-- Growing

pub last_is : (before : List Declaration) (d : Declaration) → length (before ++ d ∷ []) - 1 ≡ length before
last_is before d = omega (arith, length-append before (d ∷ []))

pub last_thread_is : (m : Machine) (before : List Declaration) (d : Declaration) → last_thread (read_of m (before ++ d ∷ [])) ≡ d
last_thread_is m before d = rw (last_is before d) (get_or-append_seam before d [] undeclared)

extended_is : (m : Machine) (before : List Declaration) (d : Declaration) (done : List Instr) (i : Instr) → extended i (read_of m (before ++ partial d done ∷ [])) ≡ read_of m (before ++ partial d (done ++ i ∷ []) ∷ [])
extended_is m before d done i =
    ap (read_of m) (rw (last_is before (partial d done), get_or-append_seam before (partial d done) [] undeclared) (set-append_seam before (partial d done) [] (partial d (done ++ i ∷ []))))

pub extend_is : (m : Machine) (before : List Declaration) (d : Declaration) (done : List Instr) (i : Instr) → length done < 1024 → extend i (read_of m (before ++ partial d done ∷ [])) ≡ Ok (read_of m (before ++ partial d (done ++ i ∷ []) ∷ []))
unfolding extend
extend_is m before d done i room =
    rw (extended_is m before d done i, last_thread_is m before (partial d done), lt-ltb (length done) 1024 room) refl

declare_is : (m : Machine) (before : List Declaration) (d : Declaration) → length before < 1024 → list_any (has_number d.id.number) before ≡ false → declare d (read_of m before) ≡ Ok (read_of m (before ++ d ∷ []))
unfolding declare
declare_is m before d room fresh = rw (lt-ltb (length before) 1024 room, fresh) refl

-- Scripts

-- The lines that are left are read to the same end from another stage, at another line.
abbrev LeadsTo : Format → Machine → List Declaration → List (List (List ℕ)) → Result Machine TextFault → Type 0
LeadsTo f m ds lines end = (ts : List Target) × (n : ℕ) × (are_missed m ts ≡ false) × (end ≡ read (parts lines) (so_far f m ds ts) n)

comes_to : (f : Format) (m : Machine) (ds : List Declaration) (lines : List (List (List ℕ))) (first second : Result Machine TextFault) → first ≡ second → LeadsTo f m ds lines second → LeadsTo f m ds lines first
comes_to f m ds lines first second e left = (left.0, left.1, left.2, e ∙ left.3)

-- The script of the thread that was declared last is read to its end.
read_script : (f : Format) (m : Machine) (before : List Declaration) (d : Declaration) (done rest : List Instr) (lines : List (List (List ℕ))) (ts : List Target) (n : ℕ)
    → declared m (length before) ≡ d → d.script ≡ done ++ rest → length d.script ≤ 1024 → list_all (can_be_written f (length d.script)) rest ≡ true → are_missed m ts ≡ false
    → LeadsTo f m (before ++ d ∷ []) lines (read (parts (map (words_of_instruction f) rest ++ lines)) (so_far f m (before ++ partial d done ∷ []) ts) n)
read_script f m before d done [] lines ts n at e room h met =
    let whole : partial d done ≡ d = ap (partial d) (sym (e ∙ append-nil done)) in
    (ts, n, met, ap (λ (x : Declaration). read (parts lines) (so_far f m (before ++ x ∷ []) ts) n) whole)
read_script f m before d done (i ∷ rest) lines ts n at e room h met =
    let both = and_parts (can_be_written f (length d.script) i) (list_all (can_be_written f (length d.script)) rest) h in
    let size : length d.script ≡ length done + length (i ∷ rest) = ap length e ∙ length-append done (i ∷ rest) in
    let grown = extend_is m before d done i (omega (arith, size, room)) in
    let next_ts = ts ++ targets_of n (length before) i in
    let stage = so_far f m (before ++ partial d (done ++ i ∷ []) ∷ []) next_ts in
    let filled : 0 < length (before ++ partial d done ∷ []) = omega (arith, length-append before (partial d done ∷ [])) in
    let said = instruction_read n (record { format = f; machine = read_of m (before ++ partial d done ∷ []); targets = ts }) (length d.script) i filled room both.0 in
    let named : extended_at n (record { format = f; machine = read_of m (before ++ partial d done ∷ []); targets = ts }) i ≡ Ok (record { format = f; machine = read_of m (before ++ partial d (done ++ i ∷ []) ∷ []); targets = next_ts }) = rw (grown, last_is before (partial d done)) refl in
    let line = after_thread_line n _ _ (words_of_instruction f i) (said ∙ named) in
    let one = read_on (words_of_instruction f i) (map (words_of_instruction f) rest ++ lines) (so_far f m (before ++ partial d done ∷ []) ts) stage n (instruction_is_line f (length d.script) i room both.0) line in
    let written : can_be_written f (length (declared m (length before)).script) i ≡ true = subst (λ (x : Declaration). can_be_written f (length x.script) i ≡ true) (sym at) both.0 in
    let met_too = list_any-append (is_missed m) ts (targets_of n (length before) i) ∙ or_from _ _ met (named_is_met f m (length before) n i written) in
    comes_to f m (before ++ d ∷ []) lines _ _ one (read_script f m before d (done ++ i ∷ []) rest lines next_ts (n + 1) at (e ∙ sym (append_assoc done (i ∷ []) rest)) room both.1 met_too)

-- Threads

-- No thread that is left has the number of an earlier one.
abbrev pub are_fresh : List Declaration → List Declaration → Bool
are_fresh before ds = list_all (λ d. not (list_any (has_number d.id.number) before)) ds

pub fresh_at_first : (ds : List Declaration) → are_fresh [] ds ≡ true
fresh_at_first [] = refl
fresh_at_first (d ∷ ds) = fresh_at_first ds

pub still_fresh : (before : List Declaration) (d : Declaration) (ds : List Declaration) → are_fresh before ds ≡ true → list_any (has_number d.id.number) ds ≡ false → are_fresh (before ++ d ∷ []) ds ≡ true
still_fresh before d [] h other = refl
still_fresh before d (x ∷ ds) h other =
    let fresh = and_parts (not (list_any (has_number x.id.number) before)) (are_fresh before ds) h in
    let others = or_parts (has_number d.id.number x) (list_any (has_number d.id.number) ds) other in
    let apart : has_number x.id.number d ≡ false = ne_eqb d.id.number x.id.number (λ e. absurd (eqb-false x.id.number d.id.number others.0 (sym e))) in
    let none : list_any (has_number x.id.number) (before ++ d ∷ []) ≡ false = list_any-append (has_number x.id.number) before (d ∷ []) ∙ or_from _ _ (not-true _ fresh.0) (or_from _ false apart refl) in
    and_from _ _ (not_from_false _ none) (still_fresh before d ds fresh.1 others.1)

read_threads : (f : Format) (m : Machine) (before ds : List Declaration) (ts : List Target) (n : ℕ) → m.cpus ≤ 16 → m.threads ≡ before ++ ds → length m.threads ≤ 1024
    → list_all (can_be_declared f m.cpus) ds ≡ true → are_apart ds ≡ true → are_fresh before ds ≡ true → are_missed m ts ≡ false
    → read (parts (flat_map (lines_of_thread f) ds)) (so_far f m before ts) n ≡ Ok m
read_threads f m before [] ts n limit e room each apart fresh met =
    let same : m ≡ read_of m before = λ i. record m { threads = (e ∙ append-nil before) i } in
    ap (λ (x : Machine). unless_missed x (find (is_missed x) ts)) (sym same) ∙ rw (none_missed m ts met) refl
read_threads f m before (d ∷ ds) ts n limit e room each apart fresh met =
    let declarations = and_parts (can_be_declared f m.cpus d) (list_all (can_be_declared f m.cpus) ds) each in
    let numbers = and_parts (not (list_any (has_number d.id.number) ds)) (are_apart ds) apart in
    let news = and_parts (not (list_any (has_number d.id.number) before)) (are_fresh before ds) fresh in
    let can = declarable f m.cpus d declarations.0 in
    let size : length m.threads ≡ length before + length (d ∷ ds) = ap length e ∙ length-append before (d ∷ ds) in
    let grown = declare_is m before (partial d []) (omega (arith, size, room)) (not-true _ news.0) in
    let said = thread_line_read n (record { format = f; machine = read_of m before; targets = ts }) d limit can in
    let named : declared_in (record { format = f; machine = read_of m before; targets = ts }) (partial d []) ≡ Ok (record { format = f; machine = read_of m (before ++ partial d [] ∷ []); targets = ts }) = rw grown refl in
    let line = after_thread_line n _ _ (words_of_thread d) (said ∙ named) in
    let lines = map (words_of_instruction f) d.script ++ flat_map (lines_of_thread f) ds in
    let first = read_on (words_of_thread d) lines (so_far f m before ts) (so_far f m (before ++ partial d [] ∷ []) ts) n (thread_is_line f m.cpus d limit can) line in
    let at : declared m (length before) ≡ d = ap (λ (xs : List Declaration). get_or xs (length before) undeclared) e ∙ get_or-append_seam before d ds undeclared in
    let script = read_script f m before d [] d.script (flat_map (lines_of_thread f) ds) ts (n + 1) at refl can.room can.script met in
    let left = read_threads f m (before ++ d ∷ []) ds script.0 script.1 limit (e ∙ sym (append_assoc before (d ∷ []) ds)) room declarations.1 numbers.1 (still_fresh before d ds news.1 (not-true _ numbers.0)) script.2 in
    first ∙ script.3 ∙ left

-- Whole texts

script_is_lines : (f : Format) (size : ℕ) (script : List Instr) → size ≤ 1024 → list_all (can_be_written f size) script ≡ true → are_lines (map (words_of_instruction f) script) ≡ true
script_is_lines f size [] room h = refl
script_is_lines f size (i ∷ script) room h =
    let both = and_parts (can_be_written f size i) (list_all (can_be_written f size) script) h in
    and_from _ _ (instruction_is_line f size i room both.0) (script_is_lines f size script room both.1)

threads_are_lines : (f : Format) (cpus : ℕ) (ds : List Declaration) → cpus ≤ 16 → list_all (can_be_declared f cpus) ds ≡ true → are_lines (flat_map (lines_of_thread f) ds) ≡ true
threads_are_lines f cpus [] limit h = refl
threads_are_lines f cpus (d ∷ ds) limit h =
    let both = and_parts (can_be_declared f cpus d) (list_all (can_be_declared f cpus) ds) h in
    let can = declarable f cpus d both.0 in
    list_all-append are_line (lines_of_thread f d) (flat_map (lines_of_thread f) ds)
    ∙ and_from _ _ (and_from _ _ (thread_is_line f cpus d limit can) (script_is_lines f (length d.script) d.script can.room can.script)) (threads_are_lines f cpus ds limit both.1)

pub read_back : (f : Format) (m : Machine) → HasText f m → length (canonical_text f m) ≤ 0x100000 → first_machine_of_text (canonical_text f m) ≡ Ok m
read_back f m h short =
    let limit = h.limit in
    let threads = flat_map (lines_of_thread f) m.threads in
    let cpus = codes "cpus" ∷ decimal m.cpus ∷ [] in
    let heading : Heading = record { retargeting = m.retargeting; format = f } in
    let first = words_of_format f m.retargeting in
    let split = text_is_split (lines_of f m) (and_from _ _ (format_is_line f m.retargeting) (and_from _ _ (processors_is_line m.cpus limit) (threads_are_lines f m.cpus m.threads limit h.each))) in
    let format = read_on first (cpus ∷ threads) Start (Processors heading) 1 (format_is_line f m.retargeting) (format_read f m.retargeting) in
    let processors = read_on cpus threads (Processors heading) (so_far f m [] []) 2 (processors_is_line m.cpus limit) (processors_read heading m.cpus h.some limit) in
    let left = read_threads f m [] m.threads [] 3 limit refl h.few h.each h.apart (fresh_at_first m.threads) refl in
    rw (le-ltb 0x100000 (length (canonical_text f m)) short) (ap (λ (ps : List (List ℕ)). read ps Start 1) split ∙ format ∙ processors ∙ left)
