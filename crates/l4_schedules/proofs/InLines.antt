-- The list that stands in a recorded text.
use Rattle.std.proofs.Common.{◌≡◌, ℕ, ◌+◌, ◌<◌, ◌%◌, Bool, true, false, not, List, [], ◌∷◌, ◌++◌, length, map, All, refl, sym, ap, ap₂, subst, ◌∙◌, arith, append-nil, append_assoc}
use Rattle.std.specs.Prelude.{◌==◌, nat_lt, if◌then◌else◌, codes, flat_map}
use Rattle.std.specs.List.{AllByRecursion, join_by, list_all, onto_first, slice_split}
use Rattle.std.proofs.lemmas.Bool.{and_from, and_parts}
use Rattle.std.proofs.lemmas.Bool.Decides.{nat_tests}
use Rattle.std.proofs.lemmas.List.Elements.{All-append, All-cons, All-nil}
use Rattle.std.proofs.lemmas.List.Folds.{list_all-append}
use Rattle.std.proofs.lemmas.List.Splits.{slice_split-cons_yes, slice_split-cons_no, length-slice_split, slice_split_none, slice_split_at}
use Rattle.l4_core_model.specs.Schedules.{Entry}
use Rattle.l4_words.specs.Lines.{parts_of}
use Rattle.l4_schedules.specs.InFiles.{is_blank, is_comment, kept_line, list_in_file, trimmed, without_comments}
use Rattle.l4_schedules.specs.Items.{items_of, item_of}
use Rattle.l4_schedules.specs.Written.{in_lines, recorded_text, schedule_text, separator}
use Rattle.l4_schedules.proofs.Plain.{IsPlain, is_plain, are_plain, no_comma}
use Rattle.l4_schedules.proofs.Splits.{ArePlain, filled, is_comma}
use Rattle.l4_schedules.proofs.Trimmed.{are_blank, between_blanks}

-- A text without a semicolon has no comment.

abbrev pub is_other : ℕ → Bool
is_other byte = not (byte == 59)

abbrev pub has_none : List ℕ → Bool
has_none bytes = list_all is_other bytes

abbrev pub ends_line : ℕ → Bool
ends_line byte = byte == 10

record AreKept (lines : List (List ℕ)) (text : List ℕ) : Type 0 where
  no_comments : AllByRecursion (λ line. is_comment line ≡ false) lines
  kept : flat_map kept_line lines ≡ text ++ codes "\n"

longer_line : (byte : ℕ) (lines : List (List ℕ)) (text : List ℕ) → is_other byte ≡ true →
    0 < length lines → AreKept lines text → AreKept (onto_first byte lines) (byte ∷ text)
longer_line byte [] text other some rest = absurd (omega arith)
longer_line byte (line ∷ lines) text other some rest =
    let no : (byte == 59) ≡ false = grind (arith, nat_tests, other) in
    let short : kept_line line ≡ line ++ codes "\n" = rw rest.no_comments.0 refl in
    let long : kept_line (byte ∷ line) ≡ byte ∷ kept_line line = rw no (ap (λ l. byte ∷ l) (sym short)) in
    record {
      no_comments = (no, rest.no_comments.1);
      kept = ap (λ l. l ++ flat_map kept_line lines) long ∙ ap (λ l. byte ∷ l) rest.kept;
    }

next_line : (byte : ℕ) (lines : List (List ℕ)) (text : List ℕ) → ends_line byte ≡ true →
    AreKept lines text → AreKept ([] ∷ lines) (byte ∷ text)
next_line byte lines text ends rest =
    let same : 10 ≡ byte = grind (arith, nat_tests, ends) in
    record {
      no_comments = (refl, rest.no_comments);
      kept = ap (λ l. 10 ∷ l) rest.kept ∙ ap (λ b. b ∷ text ++ codes "\n") same;
    }

lines_kept : (text : List ℕ) → has_none text ≡ true → AreKept (parts_of text) text
lines_kept [] h = record { no_comments = (refl, tt); kept = refl }
lines_kept (byte ∷ text) h =
    let parts = and_parts (is_other byte) (has_none text) h in
    by _ refl parts.0 (lines_kept text parts.1)
  where
    by : (b : Bool) → ends_line byte ≡ b → is_other byte ≡ true → AreKept (parts_of text) text →
        AreKept (parts_of (byte ∷ text)) (byte ∷ text)
    by true is other rest =
        subst (λ lines. AreKept lines (byte ∷ text)) (sym (slice_split-cons_yes ends_line byte text is))
        (next_line byte (parts_of text) text is rest)
    by false is other rest =
        subst (λ lines. AreKept lines (byte ∷ text)) (sym (slice_split-cons_no ends_line byte text is))
        (longer_line byte (parts_of text) text other (omega (arith, length-slice_split ends_line text)) rest)

-- The bytes of a list in lines

others : (bytes : List ℕ) → are_plain bytes ≡ true → has_none bytes ≡ true
others [] h = refl
others (byte ∷ bytes) h =
    let parts = and_parts (is_plain byte) (are_plain bytes) h in
    let one = and_parts (nat_lt 47 byte) (is_other byte) parts.0 in
    and_from _ _ one.1 (others bytes parts.1)

both_others : (xs ys : List ℕ) → has_none xs ≡ true → has_none ys ≡ true →
    has_none (xs ++ ys) ≡ true
both_others xs ys p q = list_all-append is_other xs ys ∙ and_from _ _ p q

-- What stands before an item is nothing, or a comma and blanks.
record IsBehindComma (bytes : List ℕ) : Type 0 where
  lead : List ℕ
  is : bytes ≡ 44 ∷ lead
  blank : are_blank lead ≡ true
  no_semicolon : has_none lead ≡ true

abbrev lead_of : Bool → List ℕ
lead_of ends = if ends then codes ",\n" else codes ","

by_line : (ends : Bool) → IsBehindComma (lead_of ends)
by_line true = record { lead = codes "\n"; is = refl; blank = refl; no_semicolon = refl }
by_line false = record { lead = []; is = refl; blank = refl; no_semicolon = refl }

separated : (before : ℕ) → 0 < before → IsBehindComma (separator before)
separated before some =
    let more : (before == 0) ≡ false = grind (arith, nat_tests, some) in
    subst IsBehindComma (ap (λ b. if b then [] else lead_of (before % 16 == 0)) (sym more))
    (by_line (before % 16 == 0))

lead_other : (b c : Bool) → has_none (if b then [] else lead_of c) ≡ true
lead_other true c = refl
lead_other false true = refl
lead_other false false = refl

separator_other : (before : ℕ) → has_none (separator before) ≡ true
separator_other before = lead_other (before == 0) (before % 16 == 0)

lines_other : (before : ℕ) (entries : List Entry) → ArePlain entries →
    has_none (in_lines before entries) ≡ true
lines_other before [] plain = refl
lines_other before (entry ∷ entries) plain =
    both_others (separator before ++ item_of entry) (in_lines (before + 1) entries)
    (both_others (separator before) (item_of entry) (separator_other before)
    (others (item_of entry) plain.0.bytes))
    (lines_other (before + 1) entries plain.1)

-- Its items

blank_no_comma : (bytes : List ℕ) → are_blank bytes ≡ true → All (λ byte. is_comma byte ≡ false) bytes
blank_no_comma [] h = All-nil _
blank_no_comma (byte ∷ bytes) h =
    let parts = and_parts (is_blank byte) (are_blank bytes) h in
    let other : is_comma byte ≡ false = grind (arith, nat_tests, parts.0) in
    All-cons (λ byte. is_comma byte ≡ false) byte bytes other (blank_no_comma bytes parts.1)

-- What stands between the commas behind a place. The first item may follow blanks.
pub trimmed_items : (lead : List ℕ) (before : ℕ) (entry : Entry) (entries : List Entry) (tail : List ℕ) →
    0 < before → are_blank lead ≡ true → IsPlain (item_of entry) → ArePlain entries → are_blank tail ≡ true →
    map trimmed (slice_split is_comma (lead ++ item_of entry ++ in_lines before entries ++ tail)) ≡ map item_of (entry ∷ entries)
trimmed_items lead before entry [] tail some blank one more after =
    let whole = lead ++ item_of entry ++ tail in
    let none : All (λ byte. is_comma byte ≡ false) whole =
    All-append (λ byte. is_comma byte ≡ false) (lead ++ item_of entry) tail
    (All-append (λ byte. is_comma byte ≡ false) lead (item_of entry) (blank_no_comma lead blank) (no_comma (item_of entry) one.bytes))
    (blank_no_comma tail after) in
    ap (λ bytes. map trimmed (slice_split is_comma (bytes ++ tail))) (append-nil (lead ++ item_of entry))
    ∙ ap (map trimmed) (slice_split_none is_comma whole none)
    ∙ ap (λ item. item ∷ []) (between_blanks lead (item_of entry) tail blank one.bytes one.some after)
trimmed_items lead before entry (next ∷ entries) tail some blank one more after =
    let s = separated before some in
    let first = lead ++ item_of entry in
    let rest = s.lead ++ item_of next ++ in_lines (before + 1) entries ++ tail in
    let none : All (λ byte. is_comma byte ≡ false) first =
    All-append (λ byte. is_comma byte ≡ false) lead (item_of entry) (blank_no_comma lead blank) (no_comma (item_of entry) one.bytes) in
    let whole : lead ++ item_of entry ++ in_lines before (next ∷ entries) ++ tail ≡ first ++ 44 ∷ rest = simp (s.is, append_assoc) in
    let trim : trimmed first ≡ item_of entry =
    ap trimmed (sym (append-nil (lead ++ item_of entry))) ∙ between_blanks lead (item_of entry) [] blank one.bytes one.some refl in
    ap (λ bytes. map trimmed (slice_split is_comma bytes)) whole
    ∙ ap (map trimmed) (slice_split_at is_comma first 44 rest none refl)
    ∙ ap₂ (λ (item : List ℕ) (items : List (List ℕ)). item ∷ items) trim
    (trimmed_items s.lead (before + 1) next entries tail (omega arith) s.blank more.0 more.1 after)

-- The list

flat_mapped : {X : Type 0} (f : X → List ℕ) (xs : List X) →
    flat_map (λ x. codes "," ++ f x) xs ≡ flat_map (λ piece. codes "," ++ piece) (map f xs)
flat_mapped f [] = refl
flat_mapped f (x ∷ xs) = ap (λ rest. codes "," ++ f x ++ rest) (flat_mapped f xs)

join_mapped : {X : Type 0} (f : X → List ℕ) (xs : List X) →
    join_by f (codes ",") xs ≡ join_by (λ piece. piece) (codes ",") (map f xs)
join_mapped f [] = refl
join_mapped f (x ∷ xs) = ap (λ rest. f x ++ rest) (flat_mapped f xs)

listed : (items : List (List ℕ)) (entries : List Entry) → map trimmed items ≡ map item_of entries →
    join_by trimmed (codes ",") items ≡ schedule_text entries
listed items entries same =
    join_mapped trimmed items ∙ ap (join_by (λ piece. piece) (codes ",")) same
    ∙ sym (join_mapped item_of entries)

pub list_recorded : (entries : List Entry) → ArePlain entries →
    list_in_file (recorded_text entries) ≡ schedule_text entries
list_recorded [] plain = refl
list_recorded (entry ∷ entries) plain =
    let text = in_lines 0 (entry ∷ entries) ++ codes "\n" in
    let no = both_others (in_lines 0 (entry ∷ entries)) (codes "\n") (lines_other 0 (entry ∷ entries) plain) refl in
    let body = item_of entry ++ in_lines 1 entries ++ codes "\n\n" in
    let lines : flat_map kept_line (parts_of text) ≡ body =
    (lines_kept text no).kept ∙ append_assoc (in_lines 0 (entry ∷ entries)) (codes "\n") (codes "\n") in
    let some : (length body == 0) ≡ false =
    ap (λ l. length l == 0) (append_assoc (item_of entry) (in_lines 1 entries) (codes "\n\n"))
    ∙ filled (item_of entry) (in_lines 1 entries ++ codes "\n\n") plain.0.some in
    let items : map trimmed (items_of body) ≡ map item_of (entry ∷ entries) =
    rw some (trimmed_items [] 1 entry entries (codes "\n\n") (omega arith) refl plain.0 plain.1 refl) in
    listed (items_of (without_comments (recorded_text (entry ∷ entries)))) (entry ∷ entries)
    (ap (λ l. map trimmed (items_of l)) lines ∙ items)
