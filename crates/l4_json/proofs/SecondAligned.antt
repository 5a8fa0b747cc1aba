-- The lines of instructions that a text with scripts of version 2 has, beside those of its machine.
use Rattle.std.proofs.Common.{◌≡◌, ℕ, zero, suc, ◌+◌, ◌-◌, ◌<◌, Bool, true, false, cond, List, [], ◌∷◌, ◌++◌, append_assoc, append-nil, get_or, length, length-append, map, replicate, set, Option, Some, None, Result, Ok, Err, refl, sym, ap, subst, ◌∙◌, arith}
use Rattle.std.specs.Prelude.{◌==◌, codes, is_none, nat_lt, not, ◌&&◌}
use Rattle.std.specs.Str.{bytes_eq}
use Rattle.std.proofs.Math.ListN.{get_or-map}
use Rattle.std.proofs.Math.Seq.{map-set_same}
use Rattle.std.proofs.lemmas.Bool.{and_parts, le-ltb, lt-ltb, ltb-true}
use Rattle.std.proofs.lemmas.List.{get_or-set_same, length-map, length-replicate, length-set, length_push, map-append, map-set}
use Rattle.l4_core_model.specs.Local.{undeclared}
use Rattle.l4_model.specs.Machine.{Declaration, Instr, Machine}
use Rattle.l4_words.specs.Lines.{parts_of}
use Rattle.l4_words.specs.Words.{two}
use Rattle.l4_script.specs.declared.text.fault.TextFault.{TextFault}
use Rattle.l4_script.specs.declared.text.fault.TextFaultKind.TheVariants.{BadLine, BadName, TooLong, TooManyInstructions}
use Rattle.l4_script.specs.Faults.{fault_at}
use Rattle.l4_script.specs.Judged.{Judged, ◌>>=◌, must, needs}
use Rattle.l4_script.specs.Machines.{extended, last_place, last_thread, with_instruction, with_thread}
use Rattle.l4_script.specs.Statements.{extend, processors_line}
use Rattle.l4_script.specs.Texts.{first_machine_of_text}
use Rattle.l4_script.specs.Second.Lines.{Said, second_line_of}
use Rattle.l4_script.specs.Second.Names.{id_named}
use Rattle.l4_script.specs.Second.Statements.{second_declaration_of, second_format_line, second_instruction_of}
use Rattle.l4_script.specs.Second.Texts.{Label, Target, Reading, Stage, Start, Processors, Threads, after_line, after_said, after_words, begins_second, ended, found_place, has_script, has_thread, instruction_line, judged_at, labelled, may_declare, may_label, may_name, name_line, nothing_read, numbers_of, placed, placed_at, read, script_of, second_declared, second_thread_line, settled, source_of, target_at, unlabelled, unlabelled_words, unless_faulty, with_label, with_threads, words_line}
use Rattle.l4_script.proofs.Judging.{bind_ok, chosen, must_ok, same_ok, says, then_ok}
use Rattle.l4_json.specs.Lines.{all_but_last}
use Rattle.l4_json.specs.Scripts.{EachHasLine, first_script_lines, last_lines, led_to, lines_of, script_lines, second_script_lines, with_line, with_line_by}
use Rattle.l4_json.proofs.Aligned.{first_aligned}

abbrev size : Declaration → ℕ
size d = length d.script

abbrev sizes : Machine → List ℕ
sizes m = map size m.threads

-- As many lines for each thread as it has instructions.
abbrev Fit : (scripts : List (List ℕ)) → Machine → Type 0
Fit scripts m = map length scripts ≡ sizes m

module _ (scripts : List (List ℕ)) (m : Machine) (fit : Fit scripts m) where
  count : length scripts ≡ length m.threads
  count = sym (length-map scripts length) ∙ ap length fit ∙ length-map m.threads size

  last_fit : length (last_lines scripts) ≡ size (last_thread m)
  last_fit =
      sym (get_or-map length scripts (length scripts - 1) [])
      ∙ ap (λ (ns : List ℕ). get_or ns (length scripts - 1) 0) fit
      ∙ ap (λ (n : ℕ). get_or (sizes m) (n - 1) 0) count
      ∙ get_or-map size m.threads (length m.threads - 1) undeclared

  source_fit : (source : Option ℕ) → length (script_of m source) ≡ length (lines_of scripts source)
  source_fit None = refl
  source_fit (Some place) =
      sym (get_or-map size m.threads place undeclared)
      ∙ ap (λ (ns : List ℕ). get_or ns place 0) (sym fit)
      ∙ get_or-map length scripts place []

-- No thread is new, and no script longer.
stays : (number : ℕ) (r : Reading) (scripts : List (List ℕ)) → Fit scripts r.machine → with_line number r scripts ≡ scripts
stays number r scripts fit =
    let none : nat_lt (length scripts) (length r.machine.threads) ≡ false = le-ltb _ _ (omega (arith, count scripts r.machine fit)) in
    let full : nat_lt (length (last_lines scripts)) (size (last_thread r.machine)) ≡ false = le-ltb _ _ (omega (arith, last_fit scripts r.machine fit)) in
    rw (none, full) refl

unchanged : (number : ℕ) (r : Reading) (scripts : List (List ℕ)) → Fit scripts r.machine → Fit (with_line number r scripts) r.machine
unchanged number r scripts fit = subst (λ (s : List (List ℕ)). Fit s r.machine) (sym (stays number r scripts fit)) fit

-- One more instruction

last_extended : (i : Instr) (m : Machine) → 0 < length m.threads → last_thread (extended i m) ≡ with_instruction i (last_thread m)
last_extended i m some =
    let d = with_instruction i (last_thread m) in
    rw (length-set m.threads (last_place m) d) (get_or-set_same m.threads (last_place m) d undeclared (omega (arith, some)))

grows : (number : ℕ) (r : Reading) (i : Instr) (targets : List Target) (scripts : List (List ℕ)) → Fit scripts r.machine → 0 < length r.machine.threads
    → Fit (with_line number (record r { machine = extended i r.machine; targets = targets }) scripts) (extended i r.machine)
grows number r i targets scripts fit some =
    let m = r.machine in
    let d = with_instruction i (last_thread m) in
    let lines = last_lines scripts ++ number ∷ [] in
    let place : length scripts - 1 ≡ last_place m = ap (λ (n : ℕ). n - 1) (count scripts m fit) in
    let longer : length lines ≡ size d = omega (arith, last_fit scripts m fit, length_push (last_lines scripts) number, length_push (last_thread m).script i) in
    let none : nat_lt (length scripts) (length (extended i m).threads) ≡ false = le-ltb _ _ (omega (arith, count scripts m fit, length-set m.threads (last_place m) d)) in
    let last : size (last_thread (extended i m)) ≡ size d = ap size (last_extended i m some) in
    let more : nat_lt (length (last_lines scripts)) (size (last_thread (extended i m))) ≡ true = lt-ltb _ _ (omega (arith, last, longer, length_push (last_lines scripts) number)) in
    let one : with_line number (record r { machine = extended i m; targets = targets }) scripts ≡ set scripts (length scripts - 1) lines = rw (none, more) refl in
    ap (map length) one
    ∙ map-set length scripts (length scripts - 1) lines
    ∙ ap (λ (ns : List ℕ). set ns (length scripts - 1) (length lines)) fit
    ∙ ap (λ (n : ℕ). set (sizes m) n (length lines)) place
    ∙ ap (λ (n : ℕ). set (sizes m) (last_place m) n) longer
    ∙ sym (map-set size m.threads (last_place m) d)

-- More threads

replicated : (n : ℕ) (xs : List ℕ) → map length (replicate n xs) ≡ replicate n (length xs)
replicated zero xs = refl
replicated (suc n) xs = ap (λ (ns : List ℕ). length xs ∷ ns) (replicated n xs)

added : (number : ℕ) (r : Reading) (scripts : List (List ℕ)) (n : ℕ) → sizes r.machine ≡ map length scripts ++ replicate n (length (lines_of scripts r.heir_of)) → Fit (with_line number r scripts) r.machine
added number r scripts zero e = unchanged number r scripts (sym (e ∙ append-nil (map length scripts)))
added number r scripts (suc n) e =
    let lines = lines_of scripts r.heir_of in
    let many : length r.machine.threads ≡ length scripts + suc n =
    sym (length-map r.machine.threads size) ∙ ap length e ∙ length-append (map length scripts) (replicate (suc n) (length lines))
    ∙ ap (λ (k : ℕ). k + length (replicate (suc n) (length lines))) (length-map scripts length)
    ∙ ap (λ (k : ℕ). length scripts + k) (length-replicate (suc n) (length lines)) in
    let more : nat_lt (length scripts) (length r.machine.threads) ≡ true = lt-ltb _ _ (omega (arith, many)) in
    let left : length r.machine.threads - length scripts ≡ suc n = omega (arith, many) in
    let one : with_line number r scripts ≡ scripts ++ replicate (length r.machine.threads - length scripts) lines = rw more refl in
    ap (map length) (one ∙ ap (λ (k : ℕ). scripts ++ replicate k lines) left)
    ∙ map-append length scripts (replicate (suc n) lines)
    ∙ ap (λ (ns : List ℕ). map length scripts ++ ns) (replicated (suc n) lines)
    ∙ sym e

all_sizes : (numbers : List ℕ) (d : Declaration) (m : Machine) → sizes (with_threads numbers d m) ≡ sizes m ++ replicate (length numbers) (size d)
all_sizes [] d m = sym (append-nil (sizes m))
all_sizes (number ∷ numbers) d m =
    let one = record d { id = record { number = number; version = d.id.version } } in
    all_sizes numbers d (with_thread one m)
    ∙ ap (λ (ns : List ℕ). ns ++ replicate (length numbers) (size d)) (map-append size m.threads (one ∷ []))
    ∙ append_assoc (sizes m) (size d ∷ []) (replicate (length numbers) (size d))

-- The end of a script

placed_at_size : (at : ℕ) (place : Option ℕ) (script : List Instr) → length (placed_at at place script) ≡ length script
placed_at_size at None script = refl
placed_at_size at (Some place) script = length-set script at _

placed_size : (labels : List Label) (targets : List Target) (script : List Instr) → length (placed labels targets script) ≡ length script
placed_size labels [] script = refl
placed_size labels (t ∷ ts) script = placed_size labels ts (placed_at t.at (found_place labels t.place) script) ∙ placed_at_size t.at (found_place labels t.place) script

settled_sizes : (r : Reading) → sizes (settled r).machine ≡ sizes r.machine
settled_sizes r = by (has_thread r) refl
  where
    d : Declaration
    d = last_thread r.machine

    by : (b : Bool) → has_thread r ≡ b → sizes (settled r).machine ≡ sizes r.machine
    by true some = rw some (map-set_same size r.machine.threads (last_place r.machine) (record d { script = placed r.labels r.targets d.script }) undeclared (placed_size r.labels r.targets d.script))
    by false none = rw none refl

-- Lines

abbrev Led : (number : ℕ) → (scripts : List (List ℕ)) → Reading → Type 0
Led number scripts next = Fit (with_line number next scripts) next.machine

declares : (number : ℕ) (r next : Reading) (operands : List (List ℕ)) (scripts : List (List ℕ)) → Fit scripts r.machine → second_declared r operands ≡ Ok next → Led number scripts next
declares number r next operands scripts fit e =
    let heir = bind_ok (second_declaration_of r.format r.names r.machine.cpus operands) _ next e in
    let source = bind_ok (source_of r heir.0.source) _ next heir.2 in
    let own = then_ok (may_declare heir.0 r.machine) _ next source.2 in
    let s = settled r in
    let d = record heir.0.declaration { script = script_of s.machine source.0 } in
    let numbers = numbers_of heir.0 in
    let after : Reading = record s { machine = with_threads numbers d s.machine; heir_of = source.0 } in
    subst (Led number scripts) (same_ok after next own.1)
    (added number after scripts (length numbers)
    (all_sizes numbers d s.machine
    ∙ ap (λ (ns : List ℕ). ns ++ replicate (length numbers) (size d)) (settled_sizes r ∙ sym fit)
    ∙ ap (λ (n : ℕ). map length scripts ++ replicate (length numbers) n) (source_fit scripts s.machine (fit ∙ sym (settled_sizes r)) source.0)))

names : (number : ℕ) (r next : Reading) (operands : List (List ℕ)) (scripts : List (List ℕ)) → Fit scripts r.machine → name_line r operands ≡ Ok next → Led number scripts next
names number r next operands scripts fit e =
    let none = then_ok (must (not (has_thread r)) BadLine) _ next e in
    let words = bind_ok (needs (two operands) BadLine) _ next none.1 in
    let may = then_ok (must (may_name r words.0.0 && nat_lt (length r.names) 1024) BadName) _ next words.2 in
    let id = bind_ok (id_named r.format r.names words.0.1) _ next may.1 in
    let after : Reading = record r { names = r.names ++ record { name = words.0.0; id = id.0 } ∷ [] } in
    subst (Led number scripts) (same_ok after next id.2) (unchanged number after scripts fit)

labels : (number : ℕ) (label : Option (List ℕ)) (r next : Reading) → labelled label r ≡ Ok next → next.machine ≡ r.machine
labels number None r next e = ap (λ (x : Reading). x.machine) (sym (same_ok r next e))
labels number (Some name) r next e = let may = then_ok (may_label r name) _ next e in ap (λ (x : Reading). x.machine) (sym (same_ok (with_label (Some name) r) next may.1))

instructs : (number : ℕ) (r next : Reading) (name : List ℕ) (operands : List (List ℕ)) (scripts : List (List ℕ)) → Fit scripts r.machine → instruction_line number r name operands ≡ Ok next → Led number scripts next
unfolding extend
instructs number r next name operands scripts fit e =
    let own = then_ok (must (has_script r) BadLine) _ next e in
    let some = (and_parts (has_thread r) (is_none r.heir_of) (must_ok _ BadLine own.0)).0 in
    let said = bind_ok (second_instruction_of r.format r.names name operands) _ next own.1 in
    let grown = bind_ok (extend said.0.instr r.machine) _ next said.2 in
    let room = then_ok (must (nat_lt (length (last_thread r.machine).script) 1024) TooManyInstructions) _ grown.0 grown.1 in
    let machine : extended said.0.instr r.machine ≡ grown.0 = same_ok _ _ room.1 in
    let targets = r.targets ++ target_at number (length (last_thread r.machine).script) said.0.target in
    subst (Led number scripts) (ap (λ (m : Machine). record r { machine = m; targets = targets }) machine ∙ same_ok _ next grown.2)
    (grows number r said.0.instr targets scripts fit (ltb-true 0 (length r.machine.threads) some))

unlabelled_ok : (said : Said) (reading : Judged Reading) (next : Reading) → unlabelled said reading ≡ Ok next → reading ≡ Ok next
unlabelled_ok said reading next e = (then_ok (must (is_none said.label) BadLine) reading next e).1

words_led : (number : ℕ) (r next : Reading) (said : Said) (words : List (List ℕ)) (scripts : List (List ℕ)) → Fit scripts r.machine → words_line number r said words ≡ Ok next → Led number scripts next
words_led number r next said [] scripts fit e =
    unchanged number next scripts (fit ∙ ap sizes (sym (labels number said.label r next e)))
words_led number r next said (name ∷ operands) scripts fit e =
    chosen (Led number scripts next) (bytes_eq name (codes "thread")) (unlabelled said (second_declared r operands)) _ (says next) e
    (λ t e. declares number r next operands scripts fit (unlabelled_ok said (second_declared r operands) next e)) (λ e.
    chosen (Led number scripts next) (bytes_eq name (codes "name")) (unlabelled said (name_line r operands)) _ (says next) e
    (λ t e. names number r next operands scripts fit (unlabelled_ok said (name_line r operands) next e)) (λ e.
    let named = bind_ok (labelled said.label r) _ next e in
    instructs number named.0 next name operands scripts (fit ∙ ap sizes (sym (labels number said.label r named.0 named.1))) named.2))

-- Before the threads no thread has lines.
abbrev IsAt : Stage → (scripts : List (List ℕ)) → Type 0
IsAt Start scripts = scripts ≡ []
IsAt (Processors heading) scripts = scripts ≡ []
IsAt (Threads r) scripts = Fit scripts r.machine

abbrev IsLed : (number : ℕ) → (scripts : List (List ℕ)) → Stage → Type 0
IsLed number scripts next = IsAt next (with_line_by number next scripts)

words_alone : {A : Type 0} (said : Said) (rest : List (List ℕ) → Judged A) (next : A) → (unlabelled_words said >>= rest) ≡ Ok next → rest said.words ≡ Ok next
words_alone said rest next e =
    let words = bind_ok (unlabelled_words said) rest next e in
    let own = then_ok (must (is_none said.label) BadLine) (Ok said.words) words.0 words.1 in
    subst (λ (ws : List (List ℕ)). rest ws ≡ Ok next) (sym (same_ok said.words words.0 own.1)) words.2

said_led : (number : ℕ) (stage next : Stage) (said : Said) (scripts : List (List ℕ)) → IsAt stage scripts → after_words number stage said ≡ Ok next → IsLed number scripts next
unfolding after_words second_thread_line
said_led number Start next said scripts at e =
    let heading = bind_ok (second_format_line said.words) _ next (words_alone said _ next e) in
    subst (IsLed number scripts) (same_ok (Processors heading.0) next heading.2) at
said_led number (Processors heading) next said scripts at e =
    let cpus = bind_ok (processors_line said.words) _ next (words_alone said _ next e) in
    subst (IsLed number scripts) (same_ok (Threads (nothing_read heading cpus.0)) next cpus.2)
    (subst (λ (s : List (List ℕ)). Led number s (nothing_read heading cpus.0)) (sym at) refl)
said_led number (Threads r) next said scripts at e =
    let after = bind_ok (words_line number r said said.words) _ next e in
    subst (IsLed number scripts) (same_ok (Threads after.0) next after.2) (words_led number r after.0 said said.words scripts at after.1)

nothing_said : (number : ℕ) (stage : Stage) (scripts : List (List ℕ)) → IsAt stage scripts → IsLed number scripts stage
nothing_said number Start scripts at = at
nothing_said number (Processors heading) scripts at = at
nothing_said number (Threads r) scripts at = unchanged number r scripts at

line_led : (number : ℕ) (stage next : Stage) (line : List ℕ) (scripts : List (List ℕ)) → IsAt stage scripts → after_line number stage line ≡ Ok next → IsLed number scripts next
unfolding after_line
line_led number stage next line scripts at e = let said = bind_ok (second_line_of line) (after_said number stage) next e in by said.0 said.2
  where
    by : (said : Option Said) → after_said number stage said ≡ Ok next → IsLed number scripts next
    by None e = subst (IsLed number scripts) (same_ok stage next e) (nothing_said number stage scripts at)
    by (Some said) e = said_led number stage next said scripts at e

-- The end of a text

unmissed : (m n : Machine) (missed : Option TextFault) → unless_faulty m missed ≡ Ok n → m ≡ n
unmissed m n None e = cc
unmissed m n (Some fault) e = absurd cc

at_end : (stage : Stage) (number : ℕ) (scripts : List (List ℕ)) (m : Machine) → IsAt stage scripts → ended stage number ≡ Ok m → Fit scripts m
at_end Start number scripts m at e = absurd cc
at_end (Processors heading) number scripts m at e = absurd cc
at_end (Threads r) number scripts m at e = at ∙ sym (settled_sizes r) ∙ ap sizes (unmissed (settled r).machine m (settled r).missed e)

judged_ok : (line : ℕ) (part : Judged Stage) (rest : Stage → Result Machine _) (m : Machine) → judged_at line part rest ≡ Ok m → (after : Stage) × (part ≡ Ok after) × (rest after ≡ Ok m)
judged_ok line (Ok after) rest m e = (after, refl, e)
judged_ok line (Err kind) rest m e = absurd cc

aligned : (parts : List (List ℕ)) (stage : Stage) (number : ℕ) (scripts : List (List ℕ)) (m : Machine) → IsAt stage scripts → read parts stage number ≡ Ok m → Fit (second_script_lines (all_but_last parts) number stage scripts) m
aligned [] stage number scripts m at e = at_end stage number scripts m at e
aligned (part ∷ []) stage number scripts m at e = by_test (length part == 0) e
  where
    by_test : (b : Bool) → cond b (ended stage number) (Err (fault_at number BadLine)) ≡ Ok m → Fit scripts m
    by_test true e = at_end stage number scripts m at e
    by_test false e = absurd cc
aligned (part ∷ next ∷ parts) stage number scripts m at e =
    let one = judged_ok number (after_line number stage part) (λ after. read (next ∷ parts) after (number + 1)) m e in
    let lines = all_but_last (next ∷ parts) in
    ap (λ (judged : Judged Stage). map length (second_script_lines lines (number + 1) (led_to stage judged) (with_line_by number (led_to stage judged) scripts))) one.1
    ∙ aligned (next ∷ parts) one.0 (number + 1) (with_line_by number one.0 scripts) m (line_led number stage one.0 part scripts at one.1) one.2

pub each_has_line : EachHasLine
each_has_line text m e =
    chosen (map length (script_lines text) ≡ sizes m) (nat_lt 0x100000 (length text)) (Err (fault_at 0 TooLong)) _ (Ok m) e (λ long e. absurd cc) (λ e. by (begins_second (parts_of text)) e)
  where
    by : (b : Bool) → cond b (read (parts_of text) Start 1) (first_machine_of_text text) ≡ Ok m
        → map length (cond b (second_script_lines (all_but_last (parts_of text)) 1 Start []) (first_script_lines (all_but_last (parts_of text)))) ≡ sizes m
    by true e = aligned (parts_of text) Start 1 [] m refl e
    by false e = first_aligned text m e
