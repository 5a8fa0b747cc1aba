-- A machine's canonical text of version 2 is read line by line, and the machine grows to what it was.
use Rattle.std.proofs.Common.{◌≡◌, ℕ, suc, ◌+◌, ◌-◌, ◌<◌, ◌≤◌, true, false, not, List, [], ◌∷◌, ◌++◌, length, set, map, None, Ok, refl, sym, ap, subst, ◌∙◌, append_assoc, arith}
use Rattle.std.specs.Prelude.{nat_lt, nat_le, codes, decimal, flat_map}
use Rattle.std.specs.List.{list_all, list_any, join_with_byte, range_with_len}
use Rattle.std.proofs.Math.Seq.{set-append_seam, get_or-append_seam}
use Rattle.std.proofs.lemmas.Bool.{and_parts, and_from, not-true, le-ltb, lt-ltb, le-leb, leb-true}
use Rattle.std.proofs.lemmas.List.{length-append, append-nil, length-map}
use Rattle.std.proofs.lemmas.List.Folds.{list_any-append, list_all-append}
use Rattle.l4_model.specs.Words.{Format}
use Rattle.l4_model.specs.Machine.{Instr, Run, Assign, Tag, Vs, Ipc, Ask, Jump, OnErr, OnLabel, OnWord, OnFrom, End, Declaration, Machine, instruction_at}
use Rattle.l4_core_model.specs.Local.{undeclared}
use Rattle.l4_script.specs.Judged.{Judged}
use Rattle.l4_script.specs.Machines.{has_number}
use Rattle.l4_script.specs.Statements.{Heading}
use Rattle.l4_script.specs.Canonical.{words_of_thread, words_of_format, are_apart}
use Rattle.l4_script.specs.Second.Lines.{said}
use Rattle.l4_script.specs.Second.Statements.{with_place}
use Rattle.l4_script.specs.Second.Texts.{Target, Reading, Stage, Start, Processors, Threads, has_thread, has_script, placed, first_missed, settled, target_at, numbers_of, words_line, second_thread_line, after_words, after_line, judged_at, read, begins_second}
use Rattle.l4_script.specs.Second.Canonical.{second_words_of_instruction, second_lines_of_thread, second_lines_of, second_canonical_text, second_can_be_written, second_can_be_declared, IsSecondReadBack}
use Rattle.l4_script.proofs.ReadBack.{parts, are_lines, text_is_split, read_of, partial, last_is, last_thread_is, extend_is, are_fresh, fresh_at_first, still_fresh}
use Rattle.l4_script.proofs.Written.{are_line, processors_is_line}
use Rattle.l4_script.proofs.SecondWritten.{second_line_read, named_by, unplaced, grown, second_instruction_is_line, second_instruction_read, IsSecondDeclarable, second_declarable, second_thread_is_line, opened, second_declaration_read, second_format_read, second_format_is_line, says_so, processors_line_read}

read_first : (words : List (List ℕ)) (lines : List (List (List ℕ))) (stage : Stage) (n : ℕ) → read (parts (words ∷ lines)) stage n ≡ judged_at n (after_line n stage (join_with_byte 32 words)) (λ after. read (parts lines) after (n + 1))
read_first words [] stage n = refl
read_first words (next ∷ lines) stage n = refl

after_line_read : (n : ℕ) (stage : Stage) (words : List (List ℕ)) → are_line words ≡ true → after_line n stage (join_with_byte 32 words) ≡ after_words n stage (said None words)
unfolding after_line
after_line_read n stage words h = rw (second_line_read words h) refl

-- A line that is read leads on.
read_on : (words : List (List ℕ)) (lines : List (List (List ℕ))) (stage next : Stage) (n : ℕ) → are_line words ≡ true → after_words n stage (said None words) ≡ Ok next → read (parts (words ∷ lines)) stage n ≡ read (parts lines) next (n + 1)
read_on words lines stage next n h e =
    read_first words lines stage n
    ∙ ap (λ (judged : Judged Stage). judged_at n judged (λ after. read (parts lines) after (n + 1))) (after_line_read n stage words h ∙ e)

-- What was read of a machine

abbrev so_far : Format → Machine → List Declaration → List Target → Reading
so_far f m ds ts = record { format = f; names = []; machine = read_of m ds; heir_of = None; labels = []; targets = ts; missed = None }

after_thread_line : (n : ℕ) (r r' : Reading) (words : List (List ℕ)) → words_line n r (said None words) words ≡ Ok r' → after_words n (Threads r) (said None words) ≡ Ok (Threads r')
unfolding after_words second_thread_line
after_thread_line n r r' words e = rw e refl

-- Places that instructions name

abbrev targets_from : (line at : ℕ) → List Instr → List Target
targets_from line at [] = []
targets_from line at (i ∷ script) = target_at line at (named_by i) ++ targets_from (line + 1) (at + 1) script

instruction_at_seam : (front : List Instr) (i : Instr) (script : List Instr) → instruction_at (front ++ i ∷ script) (length front) ≡ i
instruction_at_seam [] i script = refl
instruction_at_seam (x ∷ front) i script = instruction_at_seam front i script

-- An instruction gets the place that it names.
placed_one : (front more : List Instr) (i j : Instr) (at place : ℕ) → length front ≡ at → with_place place i ≡ j → set (front ++ i ∷ more) at (with_place place (instruction_at (front ++ i ∷ more) at)) ≡ front ++ j ∷ more
placed_one front more i j at place here is =
    subst (λ (n : ℕ). set (front ++ i ∷ more) n (with_place place (instruction_at (front ++ i ∷ more) n)) ≡ front ++ j ∷ more) here
    (rw (instruction_at_seam front i more, is) (set-append_seam front i more j))

-- The rest of a script, behind an instruction that has its place.
abbrev RestIsPlaced : (line at : ℕ) (front script : List Instr) → Type 0
RestIsPlaced line at front script = (i : Instr) → placed [] (targets_from (line + 1) (at + 1) script) ((front ++ i ∷ []) ++ map unplaced script) ≡ (front ++ i ∷ []) ++ script

placed_later : (line at : ℕ) (front script : List Instr) (i : Instr) → RestIsPlaced line at front script → placed [] (targets_from (line + 1) (at + 1) script) (front ++ i ∷ map unplaced script) ≡ front ++ i ∷ script
placed_later line at front script i rest =
    ap (placed [] (targets_from (line + 1) (at + 1) script)) (sym (append_assoc front (i ∷ []) (map unplaced script))) ∙ rest i ∙ append_assoc front (i ∷ []) script

placed_named : (line at : ℕ) (front script : List Instr) (i j : Instr) (place : ℕ) → length front ≡ at → RestIsPlaced line at front script → with_place place i ≡ j
    → placed [] (targets_from (line + 1) (at + 1) script) (set (front ++ i ∷ map unplaced script) at (with_place place (instruction_at (front ++ i ∷ map unplaced script) at))) ≡ front ++ j ∷ script
placed_named line at front script i j place here rest is =
    ap (placed [] (targets_from (line + 1) (at + 1) script)) (placed_one front (map unplaced script) i j at place here is) ∙ placed_later line at front script j rest

placed_next : (line at : ℕ) (front script : List Instr) (i : Instr) → length front ≡ at → RestIsPlaced line at front script → placed [] (targets_from line at (i ∷ script)) (front ++ map unplaced (i ∷ script)) ≡ front ++ i ∷ script
placed_next line at front script (Run (Assign a value)) here rest = placed_later line at front script (Run (Assign a value)) rest
placed_next line at front script (Tag word) here rest = placed_later line at front script (Tag word) rest
placed_next line at front script (Vs from) here rest = placed_later line at front script (Vs from) rest
placed_next line at front script (Ipc to from send receive) here rest = placed_later line at front script (Ipc to from send receive) rest
placed_next line at front script (Ask target what) here rest = placed_later line at front script (Ask target what) rest
placed_next line at front script (Jump place) here rest = placed_named line at front script (Jump 0) (Jump place) place here rest refl
placed_next line at front script (OnErr place) here rest = placed_named line at front script (OnErr 0) (OnErr place) place here rest refl
placed_next line at front script (OnLabel label place) here rest = placed_named line at front script (OnLabel label 0) (OnLabel label place) place here rest refl
placed_next line at front script (OnWord a word place) here rest = placed_named line at front script (OnWord a word 0) (OnWord a word place) place here rest refl
placed_next line at front script (OnFrom id place) here rest = placed_named line at front script (OnFrom id 0) (OnFrom id place) place here rest refl
placed_next line at front script End here rest = placed_later line at front script End rest

placed_all : (line at : ℕ) (front script : List Instr) → length front ≡ at → placed [] (targets_from line at script) (front ++ map unplaced script) ≡ front ++ script
placed_all line at front [] here = refl
placed_all line at front (i ∷ script) here =
    placed_next line at front script i here (λ i. placed_all (line + 1) (at + 1) (front ++ i ∷ []) script (omega (arith, length-append front (i ∷ []), here)))

is_within : (size place : ℕ) → nat_le place size ≡ true → nat_lt size place ≡ false
is_within size place h = le-ltb size place (leb-true place size h)

next_not_missed : (f : Format) (size line at : ℕ) (script : List Instr) (i : Instr) → second_can_be_written f size i ≡ true → first_missed [] size (targets_from (line + 1) (at + 1) script) ≡ None
    → first_missed [] size (targets_from line at (i ∷ script)) ≡ None
next_not_missed f size line at script (Run (Assign a value)) h later = later
next_not_missed f size line at script (Tag word) h later = later
next_not_missed f size line at script (Vs from) h later = later
next_not_missed f size line at script (Ipc to from send receive) h later = later
next_not_missed f size line at script (Ask target what) h later = later
next_not_missed f size line at script (Jump place) h later = rw (is_within size place h) later
next_not_missed f size line at script (OnErr place) h later = rw (is_within size place h) later
next_not_missed f size line at script (OnLabel label place) h later = rw (is_within size place (and_parts _ (nat_le place size) h).1) later
next_not_missed f size line at script (OnWord a word place) h later = rw (is_within size place (and_parts _ (nat_le place size) h).1) later
next_not_missed f size line at script (OnFrom id place) h later = rw (is_within size place (and_parts _ (nat_le place size) h).1) later
next_not_missed f size line at script End h later = later

none_missed : (f : Format) (size line at : ℕ) (script : List Instr) → list_all (second_can_be_written f size) script ≡ true → first_missed [] size (targets_from line at script) ≡ None
none_missed f size line at [] h = refl
none_missed f size line at (i ∷ script) h =
    let both = and_parts (second_can_be_written f size i) (list_all (second_can_be_written f size) script) h in
    next_not_missed f size line at script i both.0 (none_missed f size (line + 1) (at + 1) script both.1)

-- Scripts

filled : (before : List Declaration) (d : Declaration) → 0 < length (before ++ d ∷ [])
filled before d = omega (arith, length-append before (d ∷ []))

-- One more instruction of the thread that was declared last.
grows : (f : Format) (m : Machine) (before : List Declaration) (d : Declaration) (got : List Instr) (ts : List Target) (n at : ℕ) (i : Instr) → length got ≡ at → at < 1024
    → grown n (so_far f m (before ++ partial d got ∷ []) ts) i ≡ Ok (so_far f m (before ++ partial d (got ++ unplaced i ∷ []) ∷ []) (ts ++ target_at n at (named_by i)))
grows f m before d got ts n at i here room =
    rw (extend_is m before d got (unplaced i) (omega (arith, here, room)), last_thread_is m before (partial d got), here) refl

-- The script of the thread that was declared last is read to its end.
read_script : (f : Format) (m : Machine) (before : List Declaration) (d : Declaration) (got rest : List Instr) (lines : List (List (List ℕ))) (ts : List Target) (n at size : ℕ)
    → length got ≡ at → at + length rest ≤ 1024 → size ≤ 1024 → list_all (second_can_be_written f size) rest ≡ true
    → read (parts (map (second_words_of_instruction f) rest ++ lines)) (Threads (so_far f m (before ++ partial d got ∷ []) ts)) n
    ≡ read (parts lines) (Threads (so_far f m (before ++ partial d (got ++ map unplaced rest) ∷ []) (ts ++ targets_from n at rest))) (n + length rest)
read_script f m before d got [] lines ts n at size here room small h =
    ap (λ (xs : List Instr). read (parts lines) (Threads (so_far f m (before ++ partial d xs ∷ []) ts)) n) (sym (append-nil got))
    ∙ ap (λ (xs : List Target). read (parts lines) (Threads (so_far f m (before ++ partial d (got ++ []) ∷ []) xs)) n) (sym (append-nil ts))
    ∙ ap (λ (k : ℕ). read (parts lines) (Threads (so_far f m (before ++ partial d (got ++ []) ∷ []) (ts ++ []))) k) (omega arith)
read_script f m before d got (i ∷ rest) lines ts n at size here room small h =
    let both = and_parts (second_can_be_written f size i) (list_all (second_can_be_written f size) rest) h in
    let r = so_far f m (before ++ partial d got ∷ []) ts in
    let next = so_far f m (before ++ partial d (got ++ unplaced i ∷ []) ∷ []) (ts ++ target_at n at (named_by i)) in
    let own : has_script r ≡ true = and_from (has_thread r) true (lt-ltb 0 (length (before ++ partial d got ∷ [])) (filled before (partial d got))) refl in
    let line = after_thread_line n r next (second_words_of_instruction f i) (second_instruction_read n r size i own small both.0 ∙ grows f m before d got ts n at i here (omega (arith, room))) in
    let one = read_on (second_words_of_instruction f i) (map (second_words_of_instruction f) rest ++ lines) (Threads r) (Threads next) n (second_instruction_is_line f size i small both.0) line in
    let left = read_script f m before d (got ++ unplaced i ∷ []) rest lines (ts ++ target_at n at (named_by i)) (n + 1) (at + 1) size (omega (arith, length-append got (unplaced i ∷ []), here)) (omega (arith, room)) small both.1 in
    one ∙ left
    ∙ ap (λ (xs : List Instr). read (parts lines) (Threads (so_far f m (before ++ partial d xs ∷ []) ((ts ++ target_at n at (named_by i)) ++ targets_from (n + 1) (at + 1) rest))) (n + 1 + length rest)) (append_assoc got (unplaced i ∷ []) (map unplaced rest))
    ∙ ap (λ (xs : List Target). read (parts lines) (Threads (so_far f m (before ++ partial d (got ++ map unplaced (i ∷ rest)) ∷ []) xs)) (n + 1 + length rest)) (append_assoc ts (target_at n at (named_by i)) (targets_from (n + 1) (at + 1) rest))
    ∙ ap (λ (k : ℕ). read (parts lines) (Threads (so_far f m (before ++ partial d (got ++ map unplaced (i ∷ rest)) ∷ []) (ts ++ targets_from n at (i ∷ rest)))) k) (omega arith)

-- Where a script ends, its instructions get the places that they name.
script_settles : (f : Format) (m : Machine) (before : List Declaration) (d : Declaration) (n : ℕ) → list_all (second_can_be_written f (length d.script)) d.script ≡ true
    → settled (so_far f m (before ++ partial d (map unplaced d.script) ∷ []) (targets_from n 0 d.script)) ≡ so_far f m (before ++ d ∷ []) []
script_settles f m before d n h =
    let x = partial d (map unplaced d.script) in
    rw (lt-ltb 0 (length (before ++ x ∷ [])) (filled before x), last_is before x, get_or-append_seam before x [] undeclared, placed_all n 0 [] d.script refl, length-map d.script unplaced, none_missed f (length d.script) n 0 d.script h)
    (ap (λ (ds : List Declaration). so_far f m ds []) (set-append_seam before x [] d))

-- Threads

numbers_are : (d : Declaration) → numbers_of (opened d) ≡ d.id.number ∷ []
numbers_are d = let one : suc d.id.number - d.id.number ≡ 1 = omega arith in ap (range_with_len d.id.number) one

-- The threads that were read, the last of them as its script may stand, and as it is.
record AreAsRead (f : Format) (m : Machine) (before ds : List Declaration) (ts : List Target) : Type 0 where
  settles : settled (so_far f m ds ts) ≡ so_far f m before []
  count : length ds ≡ length before
  numbers : (n : ℕ) → list_any (has_number n) ds ≡ list_any (has_number n) before

one_declared : (f : Format) (m : Machine) (before ds : List Declaration) (ts : List Target) (n : ℕ) (d : Declaration) → AreAsRead f m before ds ts → m.cpus ≤ 16 → length before < 1024 → list_any (has_number d.id.number) before ≡ false → IsSecondDeclarable f m.cpus d
    → words_line n (so_far f m ds ts) (said None (words_of_thread d)) (words_of_thread d) ≡ Ok (so_far f m (before ++ partial d [] ∷ []) [])
one_declared f m before ds ts n d known limit room fresh can =
    rw (second_declaration_read f [] m.cpus d limit can, numbers_are d, le-leb (length ds + 1) 1024 (omega (arith, known.count, room)), known.numbers d.id.number, fresh, known.settles) refl

last_as_read : (f : Format) (m : Machine) (before : List Declaration) (d : Declaration) (n : ℕ) → list_all (second_can_be_written f (length d.script)) d.script ≡ true → AreAsRead f m (before ++ d ∷ []) (before ++ partial d (map unplaced d.script) ∷ []) (targets_from n 0 d.script)
last_as_read f m before d n h = record {
  settles = script_settles f m before d n h;
  count = length-append before (partial d (map unplaced d.script) ∷ []) ∙ sym (length-append before (d ∷ []));
  numbers = λ k. list_any-append (has_number k) before (partial d (map unplaced d.script) ∷ []) ∙ sym (list_any-append (has_number k) before (d ∷ []));
}

read_threads : (f : Format) (m : Machine) (before ds rest : List Declaration) (ts : List Target) (n : ℕ) → AreAsRead f m before ds ts → m.cpus ≤ 16 → m.threads ≡ before ++ rest → length m.threads ≤ 1024
    → list_all (second_can_be_declared f m.cpus) rest ≡ true → are_apart rest ≡ true → are_fresh before rest ≡ true
    → read (parts (flat_map (second_lines_of_thread f) rest)) (Threads (so_far f m ds ts)) n ≡ Ok m
read_threads f m before ds [] ts n known limit e room each apart fresh =
    let same : m ≡ read_of m before = λ i. record m { threads = (e ∙ append-nil before) i } in
    rw (known.settles) (ap (λ (x : Machine). Ok x) (sym same))
read_threads f m before ds (d ∷ rest) ts n known limit e room each apart fresh =
    let declarations = and_parts (second_can_be_declared f m.cpus d) (list_all (second_can_be_declared f m.cpus) rest) each in
    let numbers = and_parts (not (list_any (has_number d.id.number) rest)) (are_apart rest) apart in
    let news = and_parts (not (list_any (has_number d.id.number) before)) (are_fresh before rest) fresh in
    let can = second_declarable f m.cpus d declarations.0 in
    let size : length m.threads ≡ length before + length (d ∷ rest) = ap length e ∙ length-append before (d ∷ rest) in
    let after = so_far f m (before ++ partial d [] ∷ []) [] in
    let lines = flat_map (second_lines_of_thread f) rest in
    let line = after_thread_line n (so_far f m ds ts) after (words_of_thread d) (one_declared f m before ds ts n d known limit (omega (arith, size, room)) (not-true _ news.0) can) in
    let first = read_on (words_of_thread d) (map (second_words_of_instruction f) d.script ++ lines) (Threads (so_far f m ds ts)) (Threads after) n (second_thread_is_line f m.cpus d limit can) line in
    let script = read_script f m before d [] d.script lines [] (n + 1) 0 (length d.script) refl (omega (arith, can.room)) can.room can.script in
    let left = read_threads f m (before ++ d ∷ []) (before ++ partial d (map unplaced d.script) ∷ []) rest (targets_from (n + 1) 0 d.script) (n + 1 + length d.script)
    (last_as_read f m before d (n + 1) can.script) limit (e ∙ sym (append_assoc before (d ∷ []) rest)) room declarations.1 numbers.1 (still_fresh before d rest news.1 (not-true _ numbers.0)) in
    first ∙ script ∙ left

-- Whole texts

script_is_lines : (f : Format) (size : ℕ) (script : List Instr) → size ≤ 1024 → list_all (second_can_be_written f size) script ≡ true → are_lines (map (second_words_of_instruction f) script) ≡ true
script_is_lines f size [] room h = refl
script_is_lines f size (i ∷ script) room h =
    let both = and_parts (second_can_be_written f size i) (list_all (second_can_be_written f size) script) h in
    and_from _ _ (second_instruction_is_line f size i room both.0) (script_is_lines f size script room both.1)

threads_are_lines : (f : Format) (cpus : ℕ) (ds : List Declaration) → cpus ≤ 16 → list_all (second_can_be_declared f cpus) ds ≡ true → are_lines (flat_map (second_lines_of_thread f) ds) ≡ true
threads_are_lines f cpus [] limit h = refl
threads_are_lines f cpus (d ∷ ds) limit h =
    let both = and_parts (second_can_be_declared f cpus d) (list_all (second_can_be_declared f cpus) ds) h in
    let can = second_declarable f cpus d both.0 in
    list_all-append are_line (second_lines_of_thread f d) (flat_map (second_lines_of_thread f) ds)
    ∙ and_from _ _ (and_from _ _ (second_thread_is_line f cpus d limit can) (script_is_lines f (length d.script) d.script can.room can.script)) (threads_are_lines f cpus ds limit both.1)

abbrev second_words : Format → Machine → List (List ℕ)
second_words f m = words_of_format f m.retargeting ++ codes "2" ∷ []

first_read : (n : ℕ) (f : Format) (m : Machine) → after_words n Start (said None (second_words f m)) ≡ Ok (Processors (record { retargeting = m.retargeting; format = f }))
unfolding after_words
first_read n f m = rw (second_format_read f m.retargeting) refl

cpus_read : (n : ℕ) (f : Format) (m : Machine) → 1 ≤ m.cpus → m.cpus ≤ 16 → after_words n (Processors (record { retargeting = m.retargeting; format = f })) (said None (codes "cpus" ∷ decimal m.cpus ∷ [])) ≡ Ok (Threads (so_far f m [] []))
unfolding after_words
cpus_read n f m some limit = rw (processors_line_read m.cpus some limit) refl

-- The first line says the version.
begins_so : (f : Format) (m : Machine) (lines : List (List (List ℕ))) → begins_second (parts (second_words f m ∷ lines)) ≡ true
begins_so f m lines = rw (second_line_read (second_words f m) (second_format_is_line f m.retargeting)) (says_so f m.retargeting)

pub second_read_back : IsSecondReadBack
second_read_back f m h short =
    let limit = h.limit in
    let threads = flat_map (second_lines_of_thread f) m.threads in
    let cpus = codes "cpus" ∷ decimal m.cpus ∷ [] in
    let heading : Heading = record { retargeting = m.retargeting; format = f } in
    let split = text_is_split (second_lines_of f m) (and_from _ _ (second_format_is_line f m.retargeting) (and_from _ _ (processors_is_line m.cpus limit) (threads_are_lines f m.cpus m.threads limit h.each))) in
    let format = read_on (second_words f m) (cpus ∷ threads) Start (Processors heading) 1 (second_format_is_line f m.retargeting) (first_read 1 f m) in
    let processors = read_on cpus threads (Processors heading) (Threads (so_far f m [] [])) 2 (processors_is_line m.cpus limit) (cpus_read 2 f m h.some limit) in
    let left = read_threads f m [] [] m.threads [] 3 (record { settles = refl; count = refl; numbers = λ n. refl }) limit refl h.few h.each h.apart (fresh_at_first m.threads) in
    let begins = ap begins_second split ∙ begins_so f m (cpus ∷ threads) in
    rw (le-ltb 0x100000 (length (second_canonical_text f m)) short, begins) (ap (λ (ps : List (List ℕ)). read ps Start 1) split ∙ format ∙ processors ∙ left)
