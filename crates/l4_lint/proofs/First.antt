-- The first fault is the one that the reader of machine texts returns.
use Rattle.std.proofs.Common.{◌≡◌, ℕ, ◌+◌, Bool, true, false, cond, List, [], ◌∷◌, length, map, Some, Result, Ok, Err, refl, sym, ap, ◌∙◌}
use Rattle.std.specs.Prelude.{◌==◌, nat_lt, filter, find}
use Rattle.l4_model.specs.Machine.{Machine}
use Rattle.l4_words.specs.Lines.{parts_of}
use Rattle.l4_script.specs.declared.text.fault.TextFault.{TextFault}
use Rattle.l4_script.specs.declared.text.fault.TextFaultKind.TheVariants.{BadLine, TooLong}
use Rattle.l4_script.specs.Faults.{fault_at}
use Rattle.l4_script.specs.Judged.{Judged}
use Rattle.l4_script.specs.Texts.{Target, Stage, Start, Processors, Threads, after_line, is_missed, unless_missed, judged_at, read}
use Rattle.l4_script.specs.Texts as texts
use Rattle.l4_script.specs.Second.Texts as second
use Rattle.l4_script.specs.Versions.{machine_of_text}
use Rattle.l4_lint.specs.Reading.{reader}
use Rattle.l4_lint.specs.Second.Faults as second_faults
use Rattle.l4_lint.specs.Second.Reading as second_reading
use Rattle.l4_lint.specs.Faults.{missed_fault, ended, unended, step_by, followed, faults_from, faults_of, too_long, not_read, first_in, fault_in, Fault}

missed_first : (whole : List (List ℕ)) (m : Machine) (targets : List Target)
    → first_in (map (missed_fault whole) (filter (is_missed m) targets)) ≡ fault_in (unless_missed m (find (is_missed m) targets))
missed_first whole m [] = refl
missed_first whole m (t ∷ targets) = by (is_missed m t) (missed_first whole m targets)
  where
    by : (missed : Bool) → first_in (map (missed_fault whole) (filter (is_missed m) targets)) ≡ fault_in (unless_missed m (find (is_missed m) targets))
        → first_in (map (missed_fault whole) (cond missed (t ∷ filter (is_missed m) targets) (filter (is_missed m) targets)))
        ≡ fault_in (unless_missed m (cond missed (Some t) (find (is_missed m) targets)))
    by true others = refl
    by false others = others

ended_first : (whole : List (List ℕ)) (stage : Stage) (number : ℕ) → first_in (ended whole stage false number) ≡ fault_in (texts.ended stage number)
ended_first whole Start number = refl
ended_first whole (Processors heading) number = refl
ended_first whole (Threads r) number = missed_first whole r.machine r.targets

last_first : (whole : List (List ℕ)) (part : List ℕ) (stage : Stage) (number : ℕ) (none : Bool)
    → first_in (cond none (ended whole stage false number) (unended number part ∷ []))
    ≡ fault_in (cond none (texts.ended stage number) (Err (fault_at number BadLine)))
last_first whole part stage number true = ended_first whole stage number
last_first whole part stage number false = refl

from_first : (whole parts : List (List ℕ)) (stage : Stage) (number : ℕ)
    → first_in (faults_from whole parts (reader stage false false) number) ≡ fault_in (read parts stage number)
from_first whole [] stage number = ended_first whole stage number
from_first whole (part ∷ []) stage number = last_first whole part stage number (length part == 0)
from_first whole (part ∷ next ∷ parts) stage number = by (after_line number stage part) (λ after. from_first whole (next ∷ parts) after (number + 1))
  where
    by : (said : Judged Stage)
        → ((after : Stage) → first_in (faults_from whole (next ∷ parts) (reader after false false) (number + 1)) ≡ fault_in (read (next ∷ parts) after (number + 1)))
        → first_in (followed (step_by number (reader stage false false) part said) (λ after. faults_from whole (next ∷ parts) after (number + 1)))
        ≡ fault_in (judged_at number said (λ after. read (next ∷ parts) after (number + 1)))
    by (Ok after) others = others after
    by (Err k) others = refl

-- A text with scripts of version 2

second_missed_first : (whole : List (List ℕ)) (said : Result Machine TextFault) → first_in (second_faults.missed_faults whole (fault_in said)) ≡ fault_in said
second_missed_first whole (Ok m) = refl
second_missed_first whole (Err f) = refl

second_ended_first : (whole : List (List ℕ)) (stage : second.Stage) (number : ℕ) → first_in (second_faults.ended whole stage false number) ≡ fault_in (second.ended stage number)
second_ended_first whole second.Start number = refl
second_ended_first whole (second.Processors heading) number = refl
second_ended_first whole (second.Threads r) number = second_missed_first whole (second.ended (second.Threads r) number)

second_last_first : (whole : List (List ℕ)) (part : List ℕ) (stage : second.Stage) (number : ℕ) (none : Bool)
    → first_in (cond none (second_faults.ended whole stage false number) (unended number part ∷ []))
    ≡ fault_in (cond none (second.ended stage number) (Err (fault_at number BadLine)))
second_last_first whole part stage number true = second_ended_first whole stage number
second_last_first whole part stage number false = refl

second_from_first : (whole parts : List (List ℕ)) (stage : second.Stage) (left number : ℕ)
    → first_in (second_faults.faults_from whole parts (second_reading.reader stage false false left) number) ≡ fault_in (second.read parts stage number)
second_from_first whole [] stage left number = second_ended_first whole stage number
second_from_first whole (part ∷ []) stage left number = second_last_first whole part stage number (length part == 0)
second_from_first whole (part ∷ next ∷ parts) stage left number =
    by (second.after_line number stage part) (λ after. second_from_first whole (next ∷ parts) after left (number + 1))
  where
    by : (said : Judged second.Stage)
        → ((after : second.Stage)
        → first_in (second_faults.faults_from whole (next ∷ parts) (second_reading.reader after false false left) (number + 1)) ≡ fault_in (second.read (next ∷ parts) after (number + 1)))
        → first_in
        (second_faults.followed (second_faults.step_by whole number (second_reading.reader stage false false left) part said)
        (λ after. second_faults.faults_from whole (next ∷ parts) after (number + 1)))
        ≡ fault_in (second.judged_at number said (λ after. second.read (next ∷ parts) after (number + 1)))
    by (Ok after) others = others after
    by (Err k) others = refl

-- Both versions: `long` says that the text is too long, `of_second` that its scripts are of version
-- 2.

abbrev said : (text : List ℕ) (long of_second : Bool) → Result Machine TextFault
said text long of_second =
    cond long (Err (fault_at 0 TooLong))
    (cond of_second (second.read (parts_of text) second.Start 1) (cond long (Err (fault_at 0 TooLong)) (read (parts_of text) Start 1)))

abbrev found : (text : List ℕ) (of_second : Bool) → List Fault
found text of_second =
    cond of_second (second_faults.faults_from (parts_of text) (parts_of text) second_faults.not_read 1) (faults_from (parts_of text) (parts_of text) not_read 1)

short_said : (text : List ℕ) (of_second : Bool) → first_in (found text of_second) ≡ fault_in (said text false of_second)
short_said text true = second_from_first (parts_of text) (parts_of text) second.Start second_faults.most_looked 1
short_said text false = from_first (parts_of text) (parts_of text) Start 1

pub short_first : (text : List ℕ) (of_second : Bool) → nat_lt 0x100000 (length text) ≡ false → second.begins_second (parts_of text) ≡ of_second
    → first_in (found text of_second) ≡ fault_in (machine_of_text text)
short_first text of_second short is = by (nat_lt 0x100000 (length text)) (second.begins_second (parts_of text)) short is
  where
    by : (long second : Bool) → long ≡ false → second ≡ of_second → first_in (found text of_second) ≡ fault_in (said text long second)
    by true second short is = absurd cc
    by false second short is = ap (λ (b : Bool). first_in (found text b)) (sym is) ∙ short_said text second

pub first_fault : (text : List ℕ) → first_in (faults_of text) ≡ fault_in (machine_of_text text)
first_fault text = by (nat_lt 0x100000 (length text)) (second.begins_second (parts_of text))
  where
    by : (long of_second : Bool) → first_in (cond long (too_long ∷ []) (found text of_second)) ≡ fault_in (said text long of_second)
    by true of_second = refl
    by false of_second = short_said text of_second
