-- Texts are read as they are written, and are written as they are read up to their first fault.
use Rattle.std.proofs.Common.{◌≡◌, ℕ, ◌+◌, ◌<◌, Bool, true, false, cond, List, [], ◌∷◌, ◌++◌, drop, length, Option, Some, None, Result, Ok, Err, refl, sym, ap, ◌∙◌, append-nil, append_assoc, arith}
use Rattle.std.specs.Prelude.{◌==◌}
use Rattle.std.specs.List.{list_all, join_with_byte, position}
use Rattle.std.proofs.lemmas.Bool.{and_parts, and_from, eqb-true, ne_eqb}
use Rattle.std.proofs.lemmas.Bool.Decides.{nat_tests}
use Rattle.std.proofs.lemmas.List.{length-append}
use Rattle.std.proofs.lemmas.List.Splits.{join_with_byte-slice_split, slice_split_at}
use Rattle.l4_model.specs.Steps.{Step}
use Rattle.l4_trace.specs.Lines.{words_of, line_of, trace_of, has_line}
use Rattle.l4_trace.specs.Reading.{step_of_line, or_line, read_parts, steps_of, IsReadBack, IsWritten, HasFaultAt, IsFirstFault}
use Rattle.l4_words.specs.Lines.{parts_of}
use Rattle.l4_words.proofs.Above.{lacks, joined_at}
use Rattle.l4_words.proofs.Splits.{split_some, split_none}
use Rattle.l4_trace.proofs.Plain.{line_is_above, step_is_plain}
use Rattle.l4_trace.proofs.ReadSteps.{body_of, line_is_read, line_is_written}
use Rattle.l4_words.proofs.Parts.{has_part}
use Rattle.l4_trace.proofs.ReadingLines.{read_line}

-- A text that begins with the line of a step.
pub parts_behind : (step : Step) (others : List ℕ) → has_line step ≡ true → parts_of (line_of step ++ others) ≡ body_of step ∷ parts_of others
parts_behind step others h =
    let lacks_end = lacks 10 (body_of step) (line_is_above (words_of step) (step_is_plain step h)) in
    ap parts_of (append_assoc (body_of step) (10 ∷ []) others) ∙ slice_split_at (λ x. x == 10) (body_of step) 10 others lacks_end refl

-- What is written is read

trace_is_read : (read steps : List Step) → list_all has_line steps ≡ true → read_parts read (parts_of (trace_of steps)) ≡ Ok (read ++ steps)
trace_is_read read [] h = ap (λ (ss : List Step). Ok ss) (sym (append-nil read))
trace_is_read read (step ∷ steps) h =
    let parts = and_parts (has_line step) (list_all has_line steps) h in
    read_line (body_of step) (trace_of steps) (parts_of (trace_of (step ∷ steps))) read (parts_behind step (trace_of steps) parts.0)
    ∙ ap (λ o. or_line (length read + 1) o (λ step. read_parts (read ++ step ∷ []) (parts_of (trace_of steps)))) (line_is_read step parts.0)
    ∙ trace_is_read (read ++ step ∷ []) steps parts.1
    ∙ ap (λ (ss : List Step). Ok ss) (append_assoc read (step ∷ []) steps)

pub read_back : IsReadBack
read_back steps h = trace_is_read [] steps h

abbrev reads : List Step → Result (List Step) ℕ
reads steps = Ok steps

abbrev stops : ℕ → Result (List Step) ℕ
stops number = Err number

ok_same : (g h : List Step) → reads g ≡ reads h → g ≡ h
ok_same g h e = cc

pub one_spelling : (g h : List Step) → list_all has_line g ≡ true → list_all has_line h ≡ true → trace_of g ≡ trace_of h → g ≡ h
one_spelling g h p q e = ok_same g h (sym (read_back g p) ∙ ap steps_of e ∙ read_back h q)

-- What is read is written

record AreStepsOf (read out : List Step) (text : List ℕ) : Type 0 where
  steps : List Step
  appended : out ≡ read ++ steps
  spelled : list_all has_line steps ≡ true
  whole : trace_of steps ≡ text

empty : (part : List ℕ) → (length part == 0) ≡ true → part ≡ []
empty [] e = refl
empty (x ∷ xs) e = absurd (omega (arith, eqb-true (length (x ∷ xs)) 0 e))

parts_are_written : (parts : List (List ℕ)) (read out : List Step) → read_parts read parts ≡ Ok out → AreStepsOf read out (join_with_byte 10 parts)
parts_are_written [] read out e = cc
parts_are_written (part ∷ []) read out e = by (length part == 0) refl e
  where
    by : (b : Bool) → (length part == 0) ≡ b → cond b (Ok read) (Err (length read + 1)) ≡ Ok out → AreStepsOf read out part
    by true is e = record { steps = []; appended = sym (ok_same read out e) ∙ sym (append-nil read); spelled = refl; whole = sym (empty part is) }
    by false is e = cc
parts_are_written (part ∷ next ∷ parts) read out e = by (step_of_line part) refl e (λ step h. parts_are_written (next ∷ parts) (read ++ step ∷ []) out h)
  where
    by : (o : Option Step) → step_of_line part ≡ o → or_line (length read + 1) o (λ step. read_parts (read ++ step ∷ []) (next ∷ parts)) ≡ Ok out →
        ((step : Step) → read_parts (read ++ step ∷ []) (next ∷ parts) ≡ Ok out → AreStepsOf (read ++ step ∷ []) out (join_with_byte 10 (next ∷ parts))) →
        AreStepsOf read out (join_with_byte 10 (part ∷ next ∷ parts))
    by None is e others = cc
    by (Some step) is e others =
        let more = others step e in
        let line = line_is_written part step is in
        record {
          steps = step ∷ more.steps;
          appended = more.appended ∙ append_assoc read (step ∷ []) more.steps;
          spelled = and_from _ _ line.spelled more.spelled;
          whole = append_assoc (body_of step) (10 ∷ []) (trace_of more.steps) ∙ (λ i. line.same i ++ 10 ∷ more.whole i);
        }

pub written : IsWritten
written text steps e =
    let w = parts_are_written (parts_of text) [] steps e in
    (ap (list_all has_line) w.appended ∙ w.spelled, ap trace_of w.appended ∙ w.whole ∙ join_with_byte-slice_split 10 text)

-- The first fault

-- The same behind steps that were read.
record HasFault (read : List Step) (text : List ℕ) (number : ℕ) : Type 0 where
  before : List Step
  spelled : list_all has_line before ≡ true
  counted : length read + length before + 1 ≡ number
  rest : List ℕ
  whole : text ≡ trace_of before ++ rest
  some : 0 < length rest
  none : (step : Step) (others : List ℕ) → has_line step ≡ true → rest ≡ line_of step ++ others → ⊥

here : (read : List Step) (text : List ℕ) (number : ℕ) → length read + 1 ≡ number → 0 < length text →
    ((step : Step) (others : List ℕ) → has_line step ≡ true → text ≡ line_of step ++ others → ⊥) → HasFault read text number
here read text number counted some none =
    record { before = []; spelled = refl; counted = omega (arith, counted); rest = text; whole = refl; some = some; none = none }

err_same : (m n : ℕ) → stops m ≡ stops n → m ≡ n
err_same m n e = cc

-- A text of two parts or more begins with a line that is ended.
record Begins (text part : List ℕ) (others : List (List ℕ)) : Type 0 where
  rest : List ℕ
  whole : part ++ (10 ∷ []) ++ rest ≡ text
  parts : parts_of rest ≡ others

begins : (text part next : List ℕ) (parts : List (List ℕ)) → parts_of text ≡ part ∷ next ∷ parts → Begins text part (next ∷ parts)
begins text part next parts e = by (position (λ x. x == 10) text) refl
  where
    same_first : (a b : List ℕ) (xs ys : List (List ℕ)) → a ∷ xs ≡ b ∷ ys → a ≡ b
    same_first a b xs ys e = cc

    same_rest : (a b : List ℕ) (xs ys : List (List ℕ)) → a ∷ xs ≡ b ∷ ys → xs ≡ ys
    same_rest a b xs ys e = cc

    by : (o : Option ℕ) → position (λ x. x == 10) text ≡ o → Begins text part (next ∷ parts)
    by None is = let alone = split_none (λ x. x == 10) text is in cc
    by (Some i) is =
        let cut = sym (split_some (λ x. x == 10) text i is) ∙ e in
        record {
          rest = drop (i + 1) text;
          whole = ap (λ (p : List ℕ). p ++ (10 ∷ []) ++ drop (i + 1) text) (sym (same_first _ _ _ _ cut)) ∙ joined_at 10 text i is;
          parts = same_rest _ _ _ _ cut;
        }

some_text : (text part next : List ℕ) (parts : List (List ℕ)) → parts_of text ≡ part ∷ next ∷ parts → 0 < length text
some_text [] part next parts e = cc
some_text (x ∷ xs) part next parts e = omega arith

parts_fault : (parts : List (List ℕ)) (text : List ℕ) (read : List Step) (number : ℕ) → parts_of text ≡ parts → read_parts read parts ≡ Err number → HasFault read text number
parts_fault [] text read number is e = let part = has_part text in absurd (let first = part.2 in cc)
parts_fault (part ∷ []) text read number is e = by (length part == 0) refl e
  where
    same : part ≡ text
    same = ap (join_with_byte 10) (sym is) ∙ join_with_byte-slice_split 10 text

    no_line : (step : Step) (others : List ℕ) → has_line step ≡ true → text ≡ line_of step ++ others → ⊥
    no_line step others h whole =
        let more = has_part others in
        let parts = sym is ∙ ap parts_of whole ∙ parts_behind step others h ∙ ap (λ (ps : List (List ℕ)). body_of step ∷ ps) more.2 in
        cc

    some : (length part == 0) ≡ false → 0 < length text
    some e =
        let filled : 0 < length part = grind (arith, nat_tests, e) in
        omega (arith, filled, ap length same)

    by : (b : Bool) → (length part == 0) ≡ b → cond b (Ok read) (Err (length read + 1)) ≡ Err number → HasFault read text number
    by true b e = cc
    by false b e = here read text number (err_same (length read + 1) number e) (some b) no_line
parts_fault (part ∷ next ∷ parts) text read number is e = by (step_of_line part) refl e (λ rest step is h. parts_fault (next ∷ parts) rest (read ++ step ∷ []) number is h)
  where
    no_line : step_of_line part ≡ None → (step : Step) (others : List ℕ) → has_line step ≡ true → text ≡ line_of step ++ others → ⊥
    no_line none step others h whole =
        let cut = sym is ∙ ap parts_of whole ∙ parts_behind step others h in
        let same : part ≡ body_of step = cc in
        let found = ap step_of_line same ∙ line_is_read step h in
        cc

    by : (o : Option Step) → step_of_line part ≡ o → or_line (length read + 1) o (λ step. read_parts (read ++ step ∷ []) (next ∷ parts)) ≡ Err number →
        ((rest : List ℕ) (step : Step) → parts_of rest ≡ next ∷ parts → read_parts (read ++ step ∷ []) (next ∷ parts) ≡ Err number → HasFault (read ++ step ∷ []) rest number) →
        HasFault read text number
    by None none e others = here read text number (err_same (length read + 1) number e) (some_text text part next parts is) (no_line none)
    by (Some step) found e others =
        let b = begins text part next parts is in
        let f = others b.rest step b.parts e in
        let line = line_is_written part step found in
        record {
          before = step ∷ f.before;
          spelled = and_from _ _ line.spelled f.spelled;
          counted = omega (arith, f.counted, length-append read (step ∷ []));
          rest = f.rest;
          whole =
              sym b.whole ∙ (λ i. sym line.same i ++ (10 ∷ []) ++ f.whole i)
              ∙ sym (append_assoc (body_of step ++ (10 ∷ [])) (trace_of f.before) f.rest);
          some = f.some;
          none = f.none;
        }

fault_found : (text : List ℕ) (number : ℕ) → steps_of text ≡ Err number → HasFaultAt text number
fault_found text number e =
    let f = parts_fault (parts_of text) text [] number refl e in
    record { before = f.before; spelled = f.spelled; counted = omega (arith, f.counted); rest = f.rest; whole = f.whole; some = f.some; none = f.none }

-- Lines of steps are read before what follows them.
read_before : (read before : List Step) (rest : List ℕ) → list_all has_line before ≡ true → read_parts read (parts_of (trace_of before ++ rest)) ≡ read_parts (read ++ before) (parts_of rest)
read_before read [] rest h = ap (λ (ss : List Step). read_parts ss (parts_of rest)) (sym (append-nil read))
read_before read (step ∷ steps) rest h =
    let parts = and_parts (has_line step) (list_all has_line steps) h in
    let others : List ℕ = trace_of steps ++ rest in
    ap (λ (text : List ℕ). read_parts read (parts_of text)) (append_assoc (line_of step) (trace_of steps) rest)
    ∙ read_line (body_of step) others (parts_of (line_of step ++ others)) read (parts_behind step others parts.0)
    ∙ ap (λ o. or_line (length read + 1) o (λ step. read_parts (read ++ step ∷ []) (parts_of others))) (line_is_read step parts.0)
    ∙ read_before (read ++ step ∷ []) steps rest parts.1
    ∙ ap (λ (ss : List Step). read_parts ss (parts_of rest)) (append_assoc read (step ∷ []) steps)

-- What does not begin with the line of a step is refused in its first line.
refused : (parts : List (List ℕ)) (read : List Step) (rest : List ℕ) → parts_of rest ≡ parts → 0 < length rest →
    ((step : Step) (others : List ℕ) → has_line step ≡ true → rest ≡ line_of step ++ others → ⊥) → read_parts read parts ≡ Err (length read + 1)
refused [] read rest is some none = refl
refused (part ∷ []) read rest is some none =
    let same : part ≡ rest = ap (join_with_byte 10) (sym is) ∙ join_with_byte-slice_split 10 rest in
    let filled : (length part == 0) ≡ false = ne_eqb (length part) 0 (λ e. absurd (omega (arith, some, e, ap length same))) in
    rw filled refl
refused (part ∷ next ∷ parts) read rest is some none = by (step_of_line part) refl
  where
    by : (o : Option Step) → step_of_line part ≡ o → or_line (length read + 1) o (λ step. read_parts (read ++ step ∷ []) (next ∷ parts)) ≡ Err (length read + 1)
    by None e = refl
    by (Some step) e =
        let b = begins rest part next parts is in
        let line = line_is_written part step e in
        absurd (none step b.rest line.spelled (sym b.whole ∙ ap (λ (p : List ℕ). p ++ (10 ∷ []) ++ b.rest) (sym line.same)))

fault_named : (text : List ℕ) (number : ℕ) → HasFaultAt text number → steps_of text ≡ Err number
fault_named text number f =
    ap steps_of f.whole ∙ read_before [] f.before f.rest f.spelled ∙ refused (parts_of f.rest) f.before f.rest refl f.some f.none ∙ ap stops f.counted

pub first_fault : IsFirstFault
first_fault text number = (fault_found text number, fault_named text number)
