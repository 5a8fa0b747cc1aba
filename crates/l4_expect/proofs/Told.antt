-- What fits a line of a report may be asked for.
use Rattle.std.proofs.Common.{◌≡◌, ◌⊎◌, inl, inr, ℕ, suc, ◌≤◌, ◌^◌, Bool, true, false, not, cond, Option, Some, None, List, [], ◌∷◌, ◌++◌, length, map, refl, sym, ap, ◌∙◌, arith, append_assoc}
use Rattle.std.specs.Prelude.{◌==◌, ◌&&◌, ◌||◌, find, flat_map, is_some, codes, decimal, slice_index}
use Rattle.std.specs.List.{join_with_byte, list_all}
use Rattle.std.specs.Str.{bytes_eq}
use Rattle.std.proofs.lemmas.Bool.{and_parts, and_from, ltb-true}
use Rattle.std.proofs.lemmas.List.{append-nil}
use Rattle.std.proofs.lemmas.List.Splits.{slice_split_at}
use Rattle.l4_model.specs.Words.{W64, Id, has_typed_words, has_word_in}
use Rattle.l4_model.specs.World.{Name}
use Rattle.l4_model.specs.History.{Report}
use Rattle.l4_types.specs.declared.reports.Ending.{Ending}
use Rattle.l4_types.specs.declared.reports.Ending.TheVariants.{Quiet, Spent}
use Rattle.l4_words.specs.Lines.{line_of_words, parts_of}
use Rattle.l4_words.specs.Names.{is_name, name_word}
use Rattle.l4_words.specs.Numbers.{hexadecimal, is_word}
use Rattle.l4_words.specs.Threads.{id_word, thread_word}
use Rattle.l4_words.specs.Words.{words_in}
use Rattle.l4_words.proofs.Above.{is_above, above_lower, hexadecimal_is_above, lacks}
use Rattle.l4_lines.specs.Lines.{are_rest, asks_for_number, asks_of_deleted, fault_of_words, fits, fits_line, fits_word, has_line, is_any, is_rest, lines_of, may_begin}
use Rattle.l4_lines.specs.declared.lines.LineFault.{LineFault}
use Rattle.l4_lines.specs.declared.lines.LineFault.TheVariants.{Unknown, Deleted, Number}
use Rattle.l4_lines.proofs.Fitting.{first_line, found_line}
use Rattle.l4_reports.specs.ReportLines.{before_set, ending_line, ending_word, report_text, shown_registers, state_word, thread_line, up_to_last_set, waiting_line}
use Rattle.l4_trace.proofs.Plain.{are_plain, line_is_above, line_is_split}
use Rattle.l4_expect.specs.Columns.{fits_columns, may_be_line, of_ending, of_send, of_thread}
use Rattle.l4_expect.specs.Judging.{has_early_rest, wrong_asked, wrong_by}
use Rattle.l4_expect.specs.declared.columns.Column.TheVariants as columns
use Rattle.l4_expect.specs.declared.judging.Scope.TheVariants.{OneRun}
use Rattle.l4_expect.specs.declared.judging.Wrong.TheVariants.{BadLine}
use Rattle.l4_expect.proofs.Fitting.{Stands, columns_may, ends_set, no_early_rest, none_may, or_right, or_split, registers_may, word_fits}
use Rattle.l4_expect.proofs.Reported.{IsIn, IsTold, destination_in, error_in, id_in, is_some_thread, name_in, no_name, no_register_name, in_column, sender_in, state_in, tag_in, thread_in, thread_read, number_unlike}

-- Registers up to the last that is not 0

before_set_ends : (n : ℕ) (words : List ℕ) → ends_set words ≡ true → ends_set (before_set n words) ≡ true
before_set_ends n [] h = by (n == 0) refl
  where
    by : (zero : Bool) → (n == 0) ≡ zero → ends_set (cond zero [] (n ∷ [])) ≡ true
    by true is = refl
    by false is = ap not is
before_set_ends n (next ∷ words) h = h

shown_ends : (words : List ℕ) → ends_set (up_to_last_set words) ≡ true
shown_ends [] = refl
shown_ends (n ∷ words) = before_set_ends n (up_to_last_set words) (shown_ends words)

before_set_small : (n : ℕ) (words : List ℕ) → is_word n ≡ true → list_all is_word words ≡ true → list_all is_word (before_set n words) ≡ true
before_set_small n [] h k = by (n == 0)
  where
    by : (zero : Bool) → list_all is_word (cond zero [] (n ∷ [])) ≡ true
    by true = refl
    by false = and_from (is_word n) true h refl
before_set_small n (next ∷ words) h k = and_from (is_word n) (list_all is_word (next ∷ words)) h k

shown_small : (words : List ℕ) → list_all is_word words ≡ true → list_all is_word (up_to_last_set words) ≡ true
shown_small [] h = refl
shown_small (n ∷ words) h =
    let parts = and_parts (is_word n) (list_all is_word words) h in
    before_set_small n (up_to_last_set words) parts.0 (shown_small words parts.1)

before_set_few : (n : ℕ) (words : List ℕ) → length (before_set n words) ≤ suc (length words)
before_set_few n [] = by (n == 0)
  where
    by : (zero : Bool) → length (cond zero [] (n ∷ [])) ≤ 1
    by true = omega arith
    by false = omega arith
before_set_few n (next ∷ words) = omega arith

shown_few : (words : List ℕ) → length (up_to_last_set words) ≤ length words
shown_few [] = omega arith
shown_few (n ∷ words) = omega (arith, before_set_few n (up_to_last_set words), shown_few words)

-- Lines

-- The line has a first word, and what fits the line may be asked for.
pub record IsLine (first : List ℕ) (others : List (List ℕ)) : Type 0 where
  pub plain : are_plain (first ∷ others) ≡ true
  pub unlike : list_all (λ w. not (is_rest w)) (first ∷ others) ≡ true
  pub begins : (a : List ℕ) → fits_word a first ≡ true → may_begin a ≡ true
  pub may : (a : List ℕ) (asked : List (List ℕ)) → fits_word a first ≡ true → fits (a ∷ asked) (first ∷ others) ≡ true → may_be_line (a ∷ asked) ≡ true

-- The first word of a line.
first_stands : (word : List ℕ) → Stands columns.First word
first_stands word = record { may = λ asked h. or_right (is_any asked) true refl }

first_of_four : (a b c d : Bool) → a ≡ true → (a || b || c || d) ≡ true
first_of_four true b c d h = refl
first_of_four false b c d h = cc

first_begins : (word : List ℕ) → is_above 35 word ≡ true → may_begin word ≡ true → (a : List ℕ) → fits_word a word ≡ true → may_begin a ≡ true
first_begins word above begins a h = begin_by (word_fits a word (no_name word above) h)
  where
    begin_by : (is_any a ≡ true) ⊎ (a ≡ word) → may_begin a ≡ true
    begin_by (inl any) = first_of_four (is_any a) (bytes_eq a (codes "thread")) (bytes_eq a (codes "waiting")) (bytes_eq a (codes "ending")) any
    begin_by (inr same) = ap may_begin same ∙ begins

first_of : (a b c : Bool) → a ≡ true → (a || b || c) ≡ true
first_of true b c h = refl
first_of false b c h = cc

second_of : (a b c : Bool) → b ≡ true → (a || b || c) ≡ true
second_of true b c h = refl
second_of false true c h = refl
second_of false false c h = cc

third_of : (a b c : Bool) → c ≡ true → (a || b || c) ≡ true
third_of true b c h = refl
third_of false true c h = refl
third_of false false c h = h

registers_plain : (words : List ℕ) → list_all is_word words ≡ true → are_plain (map hexadecimal words) ≡ true
registers_plain [] h = refl
registers_plain (n ∷ words) h =
    let parts = and_parts (is_word n) (list_all is_word words) h in
    let above = hexadecimal_is_above n (ltb-true n (2 ^ 64) parts.0) in
    and_from (is_above 32 (hexadecimal n)) (are_plain (map hexadecimal words)) (above_lower 32 46 (omega arith) (hexadecimal n) above) (registers_plain words parts.1)

registers_unlike : (words : List ℕ) → list_all is_word words ≡ true → list_all (λ w. not (is_rest w)) (map hexadecimal words) ≡ true
registers_unlike [] h = refl
registers_unlike (n ∷ words) h =
    let parts = and_parts (is_word n) (list_all is_word words) h in
    and_from (not (is_rest (hexadecimal n))) (list_all (λ w. not (is_rest w)) (map hexadecimal words))
    (number_unlike 16 (hexadecimal n) (hexadecimal_is_above n (ltb-true n (2 ^ 64) parts.0))) (registers_unlike words parts.1)

-- The words behind the first one of the line of a thread.
abbrev pub of_report : Report → List (List ℕ)
of_report r = thread_word r.id ∷ state_word r.state ∷ decimal r.error ∷ id_word r.from ∷ id_word r.actual ∷ map hexadecimal (shown_registers r.words)

abbrev with_words : Report → ℕ → List ℕ → List (List ℕ)
with_words r mr0 others =
    thread_word r.id ∷ state_word r.state ∷ decimal r.error ∷ id_word r.from ∷ id_word r.actual ∷ hexadecimal mr0 ∷ map hexadecimal (up_to_last_set others)

thread_by : (r : Report) (mr0 : ℕ) (others : List ℕ) → IsTold r → r.words ≡ mr0 ∷ others → IsLine (codes "thread") (with_words r mr0 others)
thread_by r mr0 others told is =
    let words_are : list_all is_word (mr0 ∷ others) ≡ true = ap (list_all is_word) (sym is) ∙ told.words in
    let words = and_parts (is_word mr0) (list_all is_word others) words_are in
    let shown = up_to_last_set others in
    let small = shown_small others words.1 in
    let id = thread_in columns.Thread r.id told.id (thread_read r.id told.id) in
    let state = state_in r.state in
    let error = error_in r.error told.error in
    let from = sender_in r.from told.from in
    let actual = id_in r.actual told.actual in
    let untyped : has_typed_words mr0 ≡ false = ap (λ ws. has_typed_words (slice_index ws 0)) (sym is) ∙ told.tag in
    let tag = tag_in mr0 words.0 untyped in
    let few : length shown ≤ 63 = omega (arith, shown_few others, ap length is, told.size) in
    record {
      plain =
          and_from _ _ id.plain (and_from _ _ state.plain (and_from _ _ error.plain
          (and_from _ _ from.plain (and_from _ _ actual.plain (and_from _ _ tag.plain (registers_plain shown small))))));
      unlike =
          and_from _ _ id.unlike (and_from _ _ state.unlike (and_from _ _ error.unlike
          (and_from _ _ from.unlike (and_from _ _ actual.unlike (and_from _ _ tag.unlike (registers_unlike shown small))))));
      begins = first_begins (codes "thread") refl refl;
      may = λ a asked fa h.
          first_of (fits_word a (codes "thread") && fits_columns true of_thread (a ∷ asked))
          (fits_word a (codes "waiting") && fits_columns false of_send (a ∷ asked)) (fits_word a (codes "ending") && fits_columns false of_ending (a ∷ asked))
          (and_from (fits_word a (codes "thread")) (fits_columns true of_thread (a ∷ asked)) fa
          (columns_may true of_thread (a ∷ asked)
          (codes "thread" ∷ thread_word r.id ∷ state_word r.state ∷ decimal r.error ∷ id_word r.from ∷ id_word r.actual ∷ hexadecimal mr0 ∷ [])
          (map hexadecimal shown)
          (first_stands (codes "thread"), (id.stands, (state.stands, (error.stands, (from.stands, (actual.stands, (tag.stands, tt)))))))
          (λ left k. registers_may 63 left shown no_register_name few small (shown_ends others) k) h));
    }

pub thread_is : (r : Report) → IsTold r → IsLine (codes "thread") (of_report r)
thread_is r told = by r.words refl
  where
    by : (words : List ℕ) → r.words ≡ words → IsLine (codes "thread") (thread_word r.id ∷ state_word r.state ∷ decimal r.error ∷ id_word r.from ∷ id_word r.actual ∷ map hexadecimal (shown_registers words))
    by [] is = absurd (omega (arith, ap length is, told.size))
    by (mr0 ∷ others) is = thread_by r mr0 others told is

-- What a report tells of an undecided send.
pub record IsUndecided (p : Name × Id) : Type 0 where
  pub name : is_name p.0 ≡ true
  pub destination : has_word_in W64 p.1 ≡ true
  pub some : is_some_thread p.1 ≡ true

pub waiting_is : (p : Name × Id) → IsUndecided p → IsLine (codes "waiting") (name_word p.0 ∷ id_word p.1 ∷ [])
waiting_is p told =
    let name = name_in p.0 told.name in
    let destination = destination_in p.1 told.destination told.some in
    record {
      plain = and_from _ _ name.plain (and_from _ _ destination.plain refl);
      unlike = and_from _ _ name.unlike (and_from _ _ destination.unlike refl);
      begins = first_begins (codes "waiting") refl refl;
      may = λ a asked fa h.
          second_of (fits_word a (codes "thread") && fits_columns true of_thread (a ∷ asked))
          (fits_word a (codes "waiting") && fits_columns false of_send (a ∷ asked)) (fits_word a (codes "ending") && fits_columns false of_ending (a ∷ asked))
          (and_from (fits_word a (codes "waiting")) (fits_columns false of_send (a ∷ asked)) fa
          (columns_may false of_send (a ∷ asked) (codes "waiting" ∷ name_word p.0 ∷ id_word p.1 ∷ []) []
          (first_stands (codes "waiting"), (name.stands, (destination.stands, tt))) none_may h));
    }

ending_in : (ending : Ending) → IsIn columns.Ending (ending_word ending)
ending_in Quiet = in_column columns.Ending (codes "quiet") refl (no_name (codes "quiet") refl) refl refl
ending_in Spent = in_column columns.Ending (codes "spent") refl (no_name (codes "spent") refl) refl refl

pub ending_is : (ending : Ending) → IsLine (codes "ending") (ending_word ending ∷ [])
ending_is ending =
    let word = ending_in ending in
    record {
      plain = and_from _ _ word.plain refl;
      unlike = and_from _ _ word.unlike refl;
      begins = first_begins (codes "ending") refl refl;
      may = λ a asked fa h.
          third_of (fits_word a (codes "thread") && fits_columns true of_thread (a ∷ asked))
          (fits_word a (codes "waiting") && fits_columns false of_send (a ∷ asked)) (fits_word a (codes "ending") && fits_columns false of_ending (a ∷ asked))
          (and_from (fits_word a (codes "ending")) (fits_columns false of_ending (a ∷ asked)) fa
          (columns_may false of_ending (a ∷ asked) (codes "ending" ∷ ending_word ending ∷ []) []
          (first_stands (codes "ending"), (word.stands, tt)) none_may h));
    }

-- What is wrong with a line

fault_by : (begins deleted number : Bool) → begins ≡ true →
    wrong_by OneRun true (cond (not begins) (Some Unknown) (cond deleted (Some Deleted) (cond number (Some Number) None))) ≡ None
fault_by true true number h = refl
fault_by true false true h = refl
fault_by true false false h = refl
fault_by false deleted number h = cc

alone_by : (begins : Bool) → begins ≡ true → wrong_by OneRun true (cond begins None (Some Unknown)) ≡ None
alone_by true h = refl
alone_by false h = cc

fault_none : (a : List ℕ) (asked : List (List ℕ)) → may_begin a ≡ true → wrong_by OneRun true (fault_of_words (a ∷ asked)) ≡ None
fault_none a [] h = alone_by (may_begin a) h
fault_none a (second ∷ others) h = fault_by (may_begin a) (asks_of_deleted a others) (asks_for_number a second) h

wrong_none : (early may : Bool) (fault : Option LineFault) → early ≡ false → may ≡ true → wrong_by OneRun true fault ≡ None →
    cond early (Some BadLine) (wrong_by OneRun may fault) ≡ None
wrong_none true may fault e h k = cc
wrong_none false true fault e h k = k
wrong_none false false fault e h k = cc

words_may : (asked : List (List ℕ)) (first : List ℕ) (others : List (List ℕ)) → IsLine first others → are_rest asked ≡ false → fits asked (first ∷ others) ≡ true →
    cond (has_early_rest asked) (Some BadLine) (wrong_by OneRun (may_be_line asked) (fault_of_words asked)) ≡ None
words_may [] first others line some h = cc
words_may (a ∷ asked) first others line some h = by (or_split (are_rest (a ∷ asked)) (fits_word a first && fits asked others) h)
  where
    by : (are_rest (a ∷ asked) ≡ true) ⊎ ((fits_word a first && fits asked others) ≡ true) →
        cond (has_early_rest (a ∷ asked)) (Some BadLine) (wrong_by OneRun (may_be_line (a ∷ asked)) (fault_of_words (a ∷ asked))) ≡ None
    by (inl rest) = absurd (let bad : true ≡ false = sym rest ∙ some in cc)
    by (inr parts) =
        let fa = (and_parts (fits_word a first) (fits asked others) parts).0 in
        wrong_none (has_early_rest (a ∷ asked)) (may_be_line (a ∷ asked)) (fault_of_words (a ∷ asked)) (no_early_rest (a ∷ asked) (first ∷ others) line.unlike h)
        (line.may a asked fa h) (fault_none a asked (line.begins a fa))

-- Texts

abbrev pub Every : {A : Type 0} → (A → Type 0) → List A → Type 0
Every P [] = Unit
Every P (x ∷ xs) = P x × Every P xs

abbrev has_it : (asked text : List ℕ) → Bool
has_it asked text = is_some (find (fits_line asked) (lines_of text))

line_behind : (first : List ℕ) (others : List (List ℕ)) (rest : List ℕ) → are_plain (first ∷ others) ≡ true →
    parts_of (line_of_words (first ∷ others) ++ rest) ≡ join_with_byte 32 (first ∷ others) ∷ parts_of rest
line_behind first others rest plain =
    ap parts_of (append_assoc (join_with_byte 32 (first ∷ others)) (10 ∷ []) rest)
    ∙ slice_split_at (λ x. x == 10) (join_with_byte 32 (first ∷ others)) 10 rest (lacks 10 (join_with_byte 32 (first ∷ others)) (line_is_above (first ∷ others) plain)) refl

first_may : (asked first : List ℕ) (others : List (List ℕ)) (rest : List ℕ) → IsLine first others → are_rest (words_in asked) ≡ false →
    has_it asked (line_of_words (first ∷ others) ++ rest) ≡ true → (wrong_asked OneRun asked ≡ None) ⊎ (has_it asked rest ≡ true)
first_may asked first others rest line some h =
    by (fits_line asked (join_with_byte 32 (first ∷ others))) refl
    (sym (ap (λ ls. is_some (find (fits_line asked) ls))
    (first_line (join_with_byte 32 (first ∷ others)) rest (line_of_words (first ∷ others) ++ rest) (line_behind first others rest line.plain))) ∙ h)
  where
    by : (fit : Bool) → fits_line asked (join_with_byte 32 (first ∷ others)) ≡ fit →
        is_some (cond fit (Some (join_with_byte 32 (first ∷ others))) (find (fits_line asked) (lines_of rest))) ≡ true →
        (wrong_asked OneRun asked ≡ None) ⊎ (has_it asked rest ≡ true)
    by true is k =
        inl (words_may (words_in asked) first others line some (ap (fits (words_in asked)) (sym (line_is_split first others line.plain)) ∙ is))
    by false is k = inr k

lines_may : {A : Type 0} (asked : List ℕ) (first : A → List ℕ) (others : A → List (List ℕ)) (xs : List A) (rest : List ℕ) →
    Every (λ x. IsLine (first x) (others x)) xs → are_rest (words_in asked) ≡ false →
    has_it asked (flat_map (λ x. line_of_words (first x ∷ others x)) xs ++ rest) ≡ true → (wrong_asked OneRun asked ≡ None) ⊎ (has_it asked rest ≡ true)
lines_may asked first others [] rest all some h = inr h
lines_may asked first others (x ∷ xs) rest all some h =
    let behind = flat_map (λ x. line_of_words (first x ∷ others x)) xs in
    by (λ k. lines_may asked first others xs rest all.1 some k)
    (first_may asked (first x) (others x) (behind ++ rest) all.0 some (ap (has_it asked) (sym (append_assoc (line_of_words (first x ∷ others x)) behind rest)) ∙ h))
  where
    by : (has_it asked (flat_map (λ x. line_of_words (first x ∷ others x)) xs ++ rest) ≡ true → (wrong_asked OneRun asked ≡ None) ⊎ (has_it asked rest ≡ true)) →
        (wrong_asked OneRun asked ≡ None) ⊎ (has_it asked (flat_map (λ x. line_of_words (first x ∷ others x)) xs ++ rest) ≡ true) →
        (wrong_asked OneRun asked ≡ None) ⊎ (has_it asked rest ≡ true)
    by later (inl ok) = inl ok
    by later (inr k) = later k

every_line : {A : Type 0} (P : A → Type 0) (first : A → List ℕ) (others : A → List (List ℕ)) → ((x : A) → P x → IsLine (first x) (others x)) →
    (xs : List A) → Every P xs → Every (λ x. IsLine (first x) (others x)) xs
every_line P first others is [] all = tt
every_line P first others is (x ∷ xs) all = (is x all.0, every_line P first others is xs all.1)

pub report_may : (asked : List ℕ) (threads : List Report) (waiting : List (Name × Id)) (ending : Ending) → Every IsTold threads → Every IsUndecided waiting →
    are_rest (words_in asked) ≡ false → has_line asked (report_text threads waiting ending) ≡ true → wrong_asked OneRun asked ≡ None
report_may asked threads waiting ending told undecided some h =
    let sends = flat_map waiting_line waiting in
    let end = ending_line ending in
    let whole : has_it asked (flat_map thread_line threads ++ (sends ++ end)) ≡ true =
    ap (has_it asked) (sym (append_assoc (flat_map thread_line threads) sends end)) ∙ found_line asked (report_text threads waiting ending) ∙ h in
    by_sends (lines_may asked (λ (r : Report). codes "thread") of_report threads (sends ++ end) (every_line IsTold (λ (r : Report). codes "thread") of_report thread_is threads told) some whole)
  where
    by_end : (wrong_asked OneRun asked ≡ None) ⊎ (has_it asked [] ≡ true) → wrong_asked OneRun asked ≡ None
    by_end (inl ok) = ok
    by_end (inr bad) = cc

    at_end : (wrong_asked OneRun asked ≡ None) ⊎ (has_it asked (ending_line ending) ≡ true) → wrong_asked OneRun asked ≡ None
    at_end (inl ok) = ok
    at_end (inr k) = by_end (first_may asked (codes "ending") (ending_word ending ∷ []) [] (ending_is ending) some (ap (has_it asked) (append-nil (ending_line ending)) ∙ k))

    by_sends : (wrong_asked OneRun asked ≡ None) ⊎ (has_it asked (flat_map waiting_line waiting ++ ending_line ending) ≡ true) → wrong_asked OneRun asked ≡ None
    by_sends (inl ok) = ok
    by_sends (inr k) =
        at_end (lines_may asked (λ (p : Name × Id). codes "waiting") (λ (p : Name × Id). name_word p.0 ∷ id_word p.1 ∷ []) waiting (ending_line ending)
        (every_line IsUndecided (λ (p : Name × Id). codes "waiting") (λ (p : Name × Id). name_word p.0 ∷ id_word p.1 ∷ []) waiting_is waiting undecided) some k)
