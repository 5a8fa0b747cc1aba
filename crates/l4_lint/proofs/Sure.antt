-- What is marked `always` holds in every history: of each doubt of a line, and so of a text.
use Rattle.std.proofs.Common.{subst, ◌≡◌, ℕ, zero, suc, ◌+◌, ◌-◌, ◌<◌, Bool, true, false, cond, Option, Some, None, Result, Ok, List, [], ◌∷◌, ◌++◌, length, take, refl, ap, sym, ◌∙◌, arith, append_assoc, length-append}
use Rattle.std.specs.Prelude.{not, ◌&&◌, ◌||◌, is_some, is_none, IfSome, IsSomeAnd, slice_get, slice_index_or, codes}
use Rattle.std.specs.List.{AllByRecursion, count_by, list_all, list_any}
use Rattle.std.specs.Str.{bytes_eq}
use Rattle.std.proofs.lemmas.Bool.{and_parts, and_from, not-true}
use Rattle.std.proofs.lemmas.List.{take_at}
use Rattle.std.proofs.lemmas.List.Sums.{sum_by-cons, sum_by-append}
use Rattle.l4_model.specs.Words.{Format, GlobalId}
use Rattle.l4_model.specs.Machine.{Machine, Declaration, Word, Register, Computed, FromWord, Assign, Instr, Run, place_of, is_declared}
use Rattle.l4_model.specs.Steps.{Step}
use Rattle.l4_model.specs.History.{IsHistory}
use Rattle.l4_words.specs.Lines.{parts_of}
use Rattle.l4_words.specs.Threads.{thread_of}
use Rattle.l4_model.proofs.Chains.{some_is}
use Rattle.l4_core_model.specs.Local.{undeclared}
use Rattle.l4_core_model.specs.Runs.{IsMachine}
use Rattle.l4_script.specs.Numbers.{time_from}
use Rattle.l4_script.specs.Second.Canonical.{HasSecondText, EachHasSecondText, second_can_be_declared, second_can_be_written}
use Rattle.l4_script.specs.Second.Texts as second
use Rattle.l4_script.specs.Versions.{machine_of_text}
use Rattle.l4_script.specs.declared.text.fault.TextFault.{TextFault}
use Rattle.l4_lint.specs.declared.doubts.Doubt.TheVariants.{NoThread, NoLimit, NotSent, NotPropagated, OtherSpace, ToItself, FromItself, NoDestination, NoSource, NoTarget, LongTime, NothingReceived, LeftOut, KeptLow, NotReached, UnusedName}
use Rattle.l4_lint.specs.Always.{cancels, names_thread, delivers_register, delivers_propagated, thread_on, stage_after, second_thread_on, thread_in, IsAlwaysSo, AreAlwaysSo}
use Rattle.l4_lint.specs.Bytes.{behind, word_of}
use Rattle.l4_lint.specs.Doubts.{Doubtful, doubted, doubtful_at, doubts_from, doubts_in, doubts_of, doubts_on, begun_behind, place_behind, id_doubts, answer_doubts, ipc_doubts, write_doubts, keep_doubts, tag_doubts, script_doubts, operand_doubts, way_doubts, words_doubts, label_at, label_doubts, name_doubts, last_doubts, thread_after, thread_at, stage_behind, second_line_doubts, second_doubts_from, from_doubts, is_any, is_foreign, is_long, is_order, is_own, is_unheard_by, is_unreached_by, is_unused_label, order_doubts, time_doubts, to_doubts, timeout_doubts, is_no_thread, is_endless, is_one_of_ids, is_write, number_in, asks_to_propagate, names_originator, spells_local, spells_nobody}
use Rattle.l4_lint.specs.Lines.{lines_of}
use Rattle.l4_lint.specs.Reading.{begins_script}
use Rattle.l4_lint.specs.Scripts.{uses, is_left_out, is_kept_low}
use Rattle.l4_lint.specs.Second.Commands.{is_instruction}
use Rattle.l4_lint.specs.Second.Parts.{Parts, parts_of as parts_in_line}
use Rattle.l4_lint.specs.Second.Unused.{is_name_looked_for, is_unused_name}
use Rattle.l4_lint.proofs.Foreign.{never_cancels}
use Rattle.l4_lint.proofs.Named.{never_named}
use Rattle.l4_lint.proofs.Never.{IsPlaced, writes_above, never_delivers_register, never_delivers_propagated}

-- The thread in whose script a line of a number stands.
abbrev On : Type 0
On = (number : ℕ) → Option Declaration

all_append : {A : Type 0} (P : A → Type 0) (xs ys : List A) → AllByRecursion P xs → AllByRecursion P ys → AllByRecursion P (xs ++ ys)
all_append P [] ys a b = b
all_append P (x ∷ xs) ys a b = (a.0, all_append P xs ys a.1 b)

doubted_so : (P : Doubtful → Type 0) (b : Bool) (d : Doubtful) → (b ≡ true → P d) → AllByRecursion P (doubted b d)
doubted_so P true d h = (h refl, tt)
doubted_so P false d h = tt

-- An id that no thread has

none_undeclared : (m : Machine) (t : GlobalId) → is_none (place_of m t) ≡ true → is_declared m t ≡ false
none_undeclared m t h = by (place_of m t) h
  where
    by : (o : Option ℕ) → is_none o ≡ true → is_some o ≡ false
    by None h = refl
    by (Some i) h = cc

id_so : (m : Machine) (thread : On) (h : List Step) (number : ℕ) (line rest : List ℕ) → IsHistory m h →
    AllByRecursion (IsAlwaysSo thread h) (id_doubts m number line rest)
id_so m thread h number line rest history =
    doubted_so (IsAlwaysSo thread h) (is_no_thread m (thread_of (word_of rest))) (doubtful_at number line rest NoThread) (λ none is_always. by (thread_of (word_of rest)) none)
  where
    by : (o : Option GlobalId) → is_no_thread m o ≡ true → IsSomeAnd o (λ t. list_any (names_thread t) h ≡ false)
    by None none = cc
    by (Some t) none = never_named m t h history.0 (none_undeclared m t none) history.1

answer_so : (m : Machine) (thread : On) (h : List Step) (number : ℕ) (line to time : List ℕ) →
    AllByRecursion (IsAlwaysSo thread h) (answer_doubts number line to time)
answer_so m thread h number line to time =
    doubted_so (IsAlwaysSo thread h) (bytes_eq (word_of to) (codes "last") && is_endless (time_from (word_of time))) (doubtful_at number line time NoLimit)
    (λ endless is_always. cc)

-- The thread in whose script a line stands

slot : {A : Type 0} (xs : List A) (i : ℕ) (x y : A) → slice_get xs i ≡ Some x → (slice_index_or xs i y ≡ x) × (i < length xs)
slot [] i x y h = cc
slot (z ∷ xs) zero x y h = (some_is z x h, omega arith)
slot (z ∷ xs) (suc i) x y h = let rest = slot xs i x y h in (rest.0, omega (arith, rest.1))

all_slot : {A : Type 0} (p : A → Bool) (xs : List A) (i : ℕ) (x : A) → list_all p xs ≡ true → slice_get xs i ≡ Some x → p x ≡ true
all_slot p [] i x all h = cc
all_slot p (z ∷ xs) zero x all h = ap p (sym (some_is z x h)) ∙ (and_parts (p z) (list_all p xs) all).0
all_slot p (z ∷ xs) (suc i) x all h = all_slot p xs i x (and_parts (p z) (list_all p xs) all).1 h

-- Each declared thread is found at its place, and its script can be written.
record IsRead (f : Format) (m : Machine) : Type 0 where
  machine : IsMachine m
  text : HasSecondText f m

placed : (f : Format) (m : Machine) (i : ℕ) (d : Declaration) → IsRead f m → slice_get m.threads i ≡ Some d → IsPlaced m i d
placed f m i d read at =
    let here = slot m.threads i d undeclared at in
    record { declared = at; place = ap (λ (x : Declaration). place_of m x.id) (sym here.0) ∙ read.machine.placed i here.1 }

-- What can be written writes no register below the first.

is_above : (f : Format) (size : ℕ) (i : Instr) → second_can_be_written f size i ≡ true → writes_above i ≡ true
is_above f size (Run (Assign a (FromWord format))) h = (and_parts _ _ h).0
is_above f size (Run (Assign a (Word word))) h = (and_parts _ _ h).0
is_above f size (Run (Assign a (Register b))) h = (and_parts _ _ h).0
is_above f size (Run (Assign a (Computed operation format word))) h = (and_parts _ _ h).0
is_above f size _ h = refl

all_above : (f : Format) (size : ℕ) (script : List Instr) → list_all (second_can_be_written f size) script ≡ true → list_all writes_above script ≡ true
all_above f size [] h = refl
all_above f size (i ∷ script) h =
    let parts = and_parts (second_can_be_written f size i) (list_all (second_can_be_written f size) script) h in
    and_from _ _ (is_above f size i parts.0) (all_above f size script parts.1)

script_above : (f : Format) (m : Machine) (i : ℕ) (d : Declaration) → IsRead f m → slice_get m.threads i ≡ Some d → list_all writes_above d.script ≡ true
script_above f m i d read at =
    all_above f (length d.script) d.script (and_parts _ _ (all_slot (second_can_be_declared f m.cpus) m.threads i d read.text.each at)).1

-- A thread that is declared somewhere.
abbrev IsSlot : Machine → Declaration → Type 0
IsSlot m d = (i : ℕ) × (slice_get m.threads i ≡ Some d)

slot_of : (m : Machine) (i : ℕ) (d : Option Declaration) → slice_get m.threads i ≡ d → IfSome d (IsSlot m)
slot_of m i None is = tt
slot_of m i (Some d) is = (i, is)

write_so : (f : Format) (m : Machine) (thread : On) (h : List Step) (place number : ℕ) (line rest : List ℕ) (d : Declaration) → IsRead f m → IsHistory m h →
    IsSlot m d → thread number ≡ Some d → AllByRecursion (IsAlwaysSo thread h) (write_doubts d place number line rest)
write_so f m thread h place number line rest d read history at on =
    all_append (IsAlwaysSo thread h) (doubted (not (list_any (uses (number_in rest)) d.script)) (doubtful_at number line rest NotSent)) _
    (doubted_so (IsAlwaysSo thread h) (not (list_any (uses (number_in rest)) d.script)) (doubtful_at number line rest NotSent)
    (λ unused is_always. subst (λ (o : Option Declaration). IsSomeAnd o (λ d. list_any (delivers_register (number_in rest) d.id) h ≡ false)) (sym on)
    (never_delivers_register m at.0 (number_in rest) d h history.0 (placed f m at.0 d read at.1) (not-true _ unused) (script_above f m at.0 d read at.1) history.1)))
    (doubted_so (IsAlwaysSo thread h) (is_left_out (number_in rest) d.script place) (doubtful_at number line rest LeftOut) (λ cut is_always. cc))

keep_so : (thread : On) (h : List Step) (number : ℕ) (line rest : List ℕ) (d : Declaration) → AllByRecursion (IsAlwaysSo thread h) (keep_doubts d number line rest)
keep_so thread h number line rest d =
    doubted_so (IsAlwaysSo thread h) (is_kept_low (number_in rest) d.script) (doubtful_at number line rest KeptLow) (λ low is_always. cc)

tag_so : (f : Format) (m : Machine) (thread : On) (h : List Step) (number : ℕ) (line rest : List ℕ) (d : Declaration) → IsRead f m → IsHistory m h →
    IsSlot m d → thread number ≡ Some d → AllByRecursion (IsAlwaysSo thread h) (tag_doubts m d number line rest)
tag_so f m thread h number line rest d read history at on =
    doubted_so (IsAlwaysSo thread h) (asks_to_propagate (number_in rest) && not (list_any (names_originator m d.id) d.script)) (doubtful_at number line rest NotPropagated)
    (λ doubted is_always. subst (λ (o : Option Declaration). IsSomeAnd o (λ d. list_any (delivers_propagated d.id) h ≡ false)) (sym on)
    (never_delivers_propagated m at.0 d h history.0 (placed f m at.0 d read at.1)
    (not-true _ (and_parts (asks_to_propagate (number_in rest)) _ doubted).1) (script_above f m at.0 d read at.1) history.1))

-- A line

all_cond : (P : Doubtful → Type 0) (b : Bool) (xs ys : List Doubtful) → AllByRecursion P xs → AllByRecursion P ys → AllByRecursion P (cond b xs ys)
all_cond P true xs ys a b = a
all_cond P false xs ys a b = b

script_so : (f : Format) (m : Machine) (thread : On) (h : List Step) (place number : ℕ) (line words : List ℕ) (d : Option Declaration) → IsRead f m → IsHistory m h →
    IfSome d (IsSlot m) → thread number ≡ d → AllByRecursion (IsAlwaysSo thread h) (script_doubts m d place number line words)
script_so f m thread h place number line words None read history at on = tt
script_so f m thread h place number line words (Some d) read history at on =
    let P = IsAlwaysSo thread h in
    all_cond P (is_write (word_of words)) _ _ (write_so f m thread h place number line (behind words) d read history at on)
    (all_cond P (bytes_eq (word_of words) (codes "from")) _ _ (keep_so thread h number line (behind words) d)
    (all_cond P (bytes_eq (word_of words) (codes "tag")) _ _ (tag_so f m thread h number line (behind words) d read history at on) tt))

last_so : (thread : On) (h : List Step) (d : Option Declaration) (place number : ℕ) (line rest : List ℕ) →
    AllByRecursion (IsAlwaysSo thread h) (last_doubts d place number line rest)
last_so thread h d place number line rest =
    doubted_so (IsAlwaysSo thread h) (bytes_eq (word_of rest) (codes "last") && is_unheard_by d place) (doubtful_at number line rest NothingReceived) (λ unheard is_always. cc)

to_so : (m : Machine) (thread : On) (h : List Step) (d : Option Declaration) (place number : ℕ) (line to : List ℕ) → IsHistory m h →
    AllByRecursion (IsAlwaysSo thread h) (to_doubts m d place number line to)
to_so m thread h d place number line to history =
    let P = IsAlwaysSo thread h in
    let ids = id_doubts m number line to in
    let own = doubted (is_own d (thread_of (word_of to))) (doubtful_at number line to ToItself) in
    let nobody = doubted (is_any (word_of to) || spells_local (word_of to)) (doubtful_at number line to NoDestination) in
    all_append P (ids ++ own ++ nobody) _
    (all_append P (ids ++ own) _
    (all_append P ids _ (id_so m thread h number line to history)
    (doubted_so P (is_own d (thread_of (word_of to))) (doubtful_at number line to ToItself) (λ own is_always. cc)))
    (doubted_so P (is_any (word_of to) || spells_local (word_of to)) (doubtful_at number line to NoDestination) (λ any is_always. cc)))
    (last_so thread h d place number line to)

from_so : (m : Machine) (thread : On) (h : List Step) (d : Option Declaration) (place number : ℕ) (line from : List ℕ) → IsHistory m h →
    AllByRecursion (IsAlwaysSo thread h) (from_doubts m d place number line from)
from_so m thread h d place number line from history =
    let P = IsAlwaysSo thread h in
    let endless = is_own d (thread_of (word_of from)) && is_endless (time_from (word_of (behind (behind from)))) in
    let ids = id_doubts m number line from in
    let own = doubted endless (doubtful_at number line from FromItself) in
    let nobody = doubted (spells_local (word_of from)) (doubtful_at number line from NoSource) in
    all_append P (ids ++ own ++ nobody) _
    (all_append P (ids ++ own) _
    (all_append P ids _ (id_so m thread h number line from history)
    (doubted_so P endless (doubtful_at number line from FromItself) (λ own is_always. cc)))
    (doubted_so P (spells_local (word_of from)) (doubtful_at number line from NoSource) (λ local is_always. cc)))
    (last_so thread h d place number line from)

time_so : (m : Machine) (thread : On) (h : List Step) (number : ℕ) (line time : List ℕ) →
    AllByRecursion (IsAlwaysSo thread h) (time_doubts number line time)
time_so m thread h number line time =
    doubted_so (IsAlwaysSo thread h) (is_long (word_of time)) (doubtful_at number line time LongTime) (λ long is_always. cc)

timeout_so : (m : Machine) (thread : On) (h : List Step) (number : ℕ) (line to times : List ℕ) →
    AllByRecursion (IsAlwaysSo thread h) (timeout_doubts number line to times)
timeout_so m thread h number line to times =
    let P = IsAlwaysSo thread h in
    let answer = answer_doubts number line to times in
    all_append P (answer ++ time_doubts number line times) _
    (all_append P answer _ (answer_so m thread h number line to times) (time_so m thread h number line times)) (time_so m thread h number line (behind times))

ipc_so : (m : Machine) (thread : On) (h : List Step) (d : Option Declaration) (place number : ℕ) (line to : List ℕ) → IsHistory m h →
    AllByRecursion (IsAlwaysSo thread h) (ipc_doubts m d place number line to)
ipc_so m thread h d place number line to history =
    let P = IsAlwaysSo thread h in
    let ids = to_doubts m d place number line to in
    all_append P (ids ++ from_doubts m d place number line (behind to)) _
    (all_append P ids _ (to_so m thread h d place number line to history) (from_so m thread h d place number line (behind to) history))
    (timeout_so m thread h number line to (behind (behind to)))

-- An order, or a `vs`

order_so : (m : Machine) (thread : On) (h : List Step) (number : ℕ) (line words : List ℕ) (d : Option Declaration) → IsHistory m h →
    thread number ≡ d → AllByRecursion (IsAlwaysSo thread h) (order_doubts m d number line words)
order_so m thread h number line words d history on =
    let P = IsAlwaysSo thread h in
    let word = word_of (behind words) in
    let foreign = bytes_eq (word_of words) (codes "exregs") && is_foreign m d (thread_of word) in
    let ids = id_doubts m number line (behind words) in
    all_append P (ids ++ doubted foreign (doubtful_at number line (behind words) OtherSpace)) _
    (all_append P ids _ (id_so m thread h number line (behind words) history)
    (doubted_so P foreign (doubtful_at number line (behind words) OtherSpace)
    (λ doubted is_always.
    subst (λ (o : Option Declaration). IsSomeAnd o (λ d. IsSomeAnd (thread_of word) (λ t. list_any (cancels d.id t) h ≡ false))) (sym on)
    (by d (thread_of word) (and_parts _ _ doubted).1))))
    (doubted_so P (is_order (word_of words) && spells_nobody word) (doubtful_at number line (behind words) NoTarget) (λ nobody is_always. cc))
  where
    by : (d : Option Declaration) (t : Option GlobalId) → is_foreign m d t ≡ true → IsSomeAnd d (λ d. IsSomeAnd t (λ t. list_any (cancels d.id t) h ≡ false))
    by None t foreign = cc
    by (Some d) None foreign = cc
    by (Some d) (Some t) foreign = never_cancels m d t h history.0 foreign history.1

operands_so : (f : Format) (m : Machine) (thread : On) (h : List Step) (place number : ℕ) (line words : List ℕ) (d : Option Declaration) → IsRead f m → IsHistory m h →
    IfSome d (IsSlot m) → thread number ≡ d → AllByRecursion (IsAlwaysSo thread h) (operand_doubts m d place number line words)
operands_so f m thread h place number line words d read history at on =
    let P = IsAlwaysSo thread h in
    all_cond P (bytes_eq (word_of words) (codes "ipc")) (ipc_doubts m d place number line (behind words)) _ (ipc_so m thread h d place number line (behind words) history)
    (all_cond P (is_one_of_ids (word_of words)) (order_doubts m d number line words) (script_doubts m d place number line words)
    (order_so m thread h number line words d history on) (script_so f m thread h place number line words d read history at on))

words_so : (f : Format) (m : Machine) (thread : On) (h : List Step) (place number : ℕ) (line words : List ℕ) (d : Option Declaration) → IsRead f m → IsHistory m h →
    IfSome d (IsSlot m) → thread number ≡ d → AllByRecursion (IsAlwaysSo thread h) (words_doubts m d place number line words)
words_so f m thread h place number line words d read history at on =
    let P = IsAlwaysSo thread h in
    all_append P (way_doubts d place number line words) _
    (doubted_so P (is_instruction words && is_unreached_by d place) (doubtful_at number line words NotReached) (λ unreached is_always. cc))
    (operands_so f m thread h place number line words d read history at on)

-- The first lines of more
take_first : (before : List (List ℕ)) (line : List ℕ) (lines : List (List ℕ)) → take (length before) (before ++ line ∷ lines) ≡ before
take_first before line lines = take_at before (line ∷ lines) (length before) refl

take_more : (before : List (List ℕ)) (line : List ℕ) (lines : List (List ℕ)) → take (length before + 1) (before ++ line ∷ lines) ≡ before ++ line ∷ []
take_more before line lines =
    let same : (before ++ line ∷ []) ++ lines ≡ before ++ line ∷ lines = append_assoc before (line ∷ []) lines in
    ap (λ (xs : List (List ℕ)). take (length before + 1) xs) (sym same)
    ∙ take_at (before ++ line ∷ []) lines (length before + 1) (length-append before (line ∷ []))

-- A text of version 1

begun_more : (before : List (List ℕ)) (line : List ℕ) → begun_behind (count_by begins_script before) line ≡ count_by begins_script (before ++ line ∷ [])
begun_more before line =
    let f : List ℕ → ℕ = λ x. cond (begins_script x) 1 0 in
    let one : count_by begins_script (line ∷ []) ≡ cond (begins_script line) 1 0 + count_by begins_script [] = sum_by-cons f line [] in
    let none : count_by begins_script [] ≡ 0 = refl in
    let all : count_by begins_script (before ++ line ∷ []) ≡ count_by begins_script before + count_by begins_script (line ∷ []) = sum_by-append f before (line ∷ []) in
    omega (arith, one, none, all)

lines_so : (f : Format) (m : Machine) (h : List Step) (before lines : List (List ℕ)) (place : ℕ) → IsRead f m → IsHistory m h →
    AllByRecursion (IsAlwaysSo (thread_on m (before ++ lines)) h) (doubts_from m lines (count_by begins_script before) place (length before + 1))
lines_so f m h before [] place read history = tt
lines_so f m h before (line ∷ lines) place read history =
    let whole = before ++ line ∷ lines in
    let begun = count_by begins_script before in
    let next = place_behind place line in
    let on : thread_on m whole (length before + 1) ≡ thread_after m begun =
    ap (λ (n : ℕ). thread_after m (count_by begins_script (take n whole))) (omega arith)
    ∙ ap (λ (xs : List (List ℕ)). thread_after m (count_by begins_script xs)) (take_first before line lines) in
    let same : (before ++ line ∷ []) ++ lines ≡ whole = append_assoc before (line ∷ []) lines in
    let counted : length (before ++ line ∷ []) ≡ length before + 1 = length-append before (line ∷ []) in
    all_append (IsAlwaysSo (thread_on m whole) h) (words_doubts m (thread_after m begun) place (length before + 1) line line) _
    (words_so f m (thread_on m whole) h place (length before + 1) line line (thread_after m begun) read history (slot_of m (begun - 1) (thread_after m begun) refl) on)
    (subst (λ (xs : List (List ℕ)). AllByRecursion (IsAlwaysSo (thread_on m xs) h) (doubts_from m lines (begun_behind begun line) next (length before + 1 + 1))) same
    (subst (λ (n : ℕ). AllByRecursion (IsAlwaysSo (thread_on m ((before ++ line ∷ []) ++ lines)) h) (doubts_from m lines n next (length before + 1 + 1))) (sym (begun_more before line))
    (subst (λ (n : ℕ). AllByRecursion (IsAlwaysSo (thread_on m ((before ++ line ∷ []) ++ lines)) h) (doubts_from m lines (count_by begins_script (before ++ line ∷ [])) next (n + 1))) counted
    (lines_so f m h (before ++ line ∷ []) lines next read history))))

-- A text of version 2

stage_more : (before : List (List ℕ)) (line : List ℕ) (stage : second.Stage) (number : ℕ) →
    stage_after (before ++ line ∷ []) stage number ≡ stage_behind (number + length before) (stage_after before stage number) line
stage_more [] line stage number = ap (λ (n : ℕ). stage_behind n stage line) (omega arith)
stage_more (first ∷ before) line stage number =
    stage_more before line (stage_behind number stage first) (number + 1)
    ∙ ap (λ (n : ℕ). stage_behind n (stage_after before (stage_behind number stage first) (number + 1)) line) (omega arith)

slot_at : (m : Machine) (stage : second.Stage) → IfSome (thread_at m stage) (IsSlot m)
slot_at m second.Start = tt
slot_at m (second.Processors heading) = tt
slot_at m (second.Threads r) = slot_of m (length r.machine.threads - 1) (thread_at m (second.Threads r)) refl

abbrev read_to : List (List ℕ) → second.Stage
read_to before = stage_after before second.Start 1

second_line_so : (f : Format) (m : Machine) (thread : On) (h : List Step) (stage : second.Stage) (lines : List (List ℕ)) (place number : ℕ) (p : Parts) → IsRead f m → IsHistory m h →
    thread number ≡ thread_at m stage → AllByRecursion (IsAlwaysSo thread h) (second_line_doubts m stage lines place number p)
second_line_so f m thread h stage lines place number p read history on =
    let P = IsAlwaysSo thread h in
    let label = label_doubts (thread_at m stage) place number p in
    let name = bytes_eq (word_of p.words) (codes "name") && (is_name_looked_for stage && is_unused_name lines (word_of (behind p.words))) in
    all_append P (label ++ name_doubts stage lines number p) _
    (all_append P label _
    (doubted_so P (is_unused_label (thread_at m stage) place p.label) (label_at number p) (λ unused is_always. cc))
    (doubted_so P name (doubtful_at number p.front (behind p.words) UnusedName) (λ unused is_always. cc)))
    (words_so f m thread h place number p.front p.words (thread_at m stage) read history (slot_at m stage) on)

second_lines_so : (f : Format) (m : Machine) (h : List Step) (before lines : List (List ℕ)) (place : ℕ) → IsRead f m → IsHistory m h →
    AllByRecursion (IsAlwaysSo (second_thread_on m (before ++ lines)) h) (second_doubts_from m lines (read_to before) place (length before + 1))
second_lines_so f m h before [] place read history = tt
second_lines_so f m h before (line ∷ lines) place read history =
    let whole = before ++ line ∷ lines in
    let here = stage_behind (length before + 1) (read_to before) line in
    let next = place_behind place (parts_in_line line).words in
    let more : read_to (before ++ line ∷ []) ≡ here =
    stage_more before line second.Start 1 ∙ ap (λ (n : ℕ). stage_behind n (read_to before) line) (omega arith) in
    let on : second_thread_on m whole (length before + 1) ≡ thread_at m here =
    ap (λ (xs : List (List ℕ)). thread_at m (read_to xs)) (take_more before line lines) ∙ ap (thread_at m) more in
    let same : (before ++ line ∷ []) ++ lines ≡ whole = append_assoc before (line ∷ []) lines in
    let counted : length (before ++ line ∷ []) ≡ length before + 1 = length-append before (line ∷ []) in
    all_append (IsAlwaysSo (second_thread_on m whole) h) (second_line_doubts m here lines place (length before + 1) (parts_in_line line)) _
    (second_line_so f m (second_thread_on m whole) h here lines place (length before + 1) (parts_in_line line) read history on)
    (subst (λ (xs : List (List ℕ)). AllByRecursion (IsAlwaysSo (second_thread_on m xs) h) (second_doubts_from m lines here next (length before + 1 + 1))) same
    (subst (λ (s : second.Stage). AllByRecursion (IsAlwaysSo (second_thread_on m ((before ++ line ∷ []) ++ lines)) h) (second_doubts_from m lines s next (length before + 1 + 1))) more
    (subst (λ (n : ℕ). AllByRecursion (IsAlwaysSo (second_thread_on m ((before ++ line ∷ []) ++ lines)) h) (second_doubts_from m lines (read_to (before ++ line ∷ [])) next (n + 1))) counted
    (second_lines_so f m h (before ++ line ∷ []) lines next read history))))

-- A text

pub all_always_so : EachHasSecondText → (text : List ℕ) → AreAlwaysSo text (doubts_of text)
all_always_so each text m h is history =
    let read = each text m is in
    let whole : IsRead read.1.0 m = record { machine = read.0; text = read.1.2 } in
    subst
    (λ (said : Result Machine TextFault). AllByRecursion (IsAlwaysSo (thread_in text m) h) (doubts_on (second.begins_second (parts_of text)) said (lines_of text)))
    (sym is) (by read.1.0 whole (second.begins_second (parts_of text)))
  where
    by : (f : Format) → IsRead f m → (of_second : Bool) →
        AllByRecursion (IsAlwaysSo (λ number. cond of_second (second_thread_on m (lines_of text) number) (thread_on m (lines_of text) number)) h)
        (doubts_in of_second m (lines_of text))
    by f read true = second_lines_so f m h [] (lines_of text) 0 read history
    by f read false = lines_so f m h [] (lines_of text) 0 read history

-- What is found of the machine of a text are its doubts.
pub found_is : (text : List ℕ) (m : Machine) (found : List Doubtful) → machine_of_text text ≡ Ok m →
    found ≡ doubts_in (second.begins_second (parts_of text)) m (lines_of text) → found ≡ doubts_of text
found_is text m found is all =
    all ∙ ap (λ (said : Result Machine TextFault). doubts_on (second.begins_second (parts_of text)) said (lines_of text)) (sym is)
