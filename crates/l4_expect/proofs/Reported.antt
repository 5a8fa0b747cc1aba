-- The lines of a report, and the lines that fit them.
use Rattle.std.proofs.Common.{◌≡◌, ℕ, ◌<◌, ◌^◌, Bool, true, false, not, cond, Option, Some, None, List, [], ◌++◌, get_or, length, refl, sym, ap, ◌∙◌, arith}
use Rattle.std.specs.Prelude.{◌==◌, ◌&&◌, ◌||◌, nat_le, is_some, codes, decimal, slice_index}
use Rattle.std.specs.List.{list_all, position}
use Rattle.std.specs.Str.{bytes_eq}
use Rattle.std.proofs.lemmas.Bool.{and_parts, ltb-true, leb-true, eqb-true, not_from_false}
use Rattle.std.proofs.lemmas.List.Quantifiers.{position-Some}
use Rattle.std.proofs.lemmas.Slice.Eq.{bytes_eq-Decides}
use Rattle.l4_model.specs.Words.{W64, GlobalId, Id, NilThread, AnyThread, AnyLocalThread, LocalThread, GlobalThread, has_typed_words, has_word_in, is_global, register_count}
use Rattle.l4_model.specs.World.{Name}
use Rattle.l4_model.specs.History.{Report, State, IsReady, IsSending, IsReceiving, IsOrdering, IsEnded, IsDeleted}
use Rattle.l4_words.specs.Names.{is_hash, is_name, name_of, name_word}
use Rattle.l4_words.specs.Numbers.{hexadecimal, is_word}
use Rattle.l4_words.specs.Threads.{id_word, thread_of, thread_word}
use Rattle.l4_words.proofs.Above.{is_above, above_lower, above_parts, decimal_is_above, hexadecimal_is_above, lacks}
use Rattle.l4_words.proofs.Numerals.{decimal_is_read, hexadecimal_is_read}
use Rattle.l4_words.proofs.ReadNames.{name_is_read}
use Rattle.l4_words.proofs.Spelled.{thread_is_above, thread_is_read}
use Rattle.l4_lines.specs.Lines.{has_number, is_rest, thread_named}
use Rattle.l4_lines.proofs.Sends.{none_named}
use Rattle.l4_reports.specs.ReportLines.{state_word}
use Rattle.l4_expect.specs.Columns.{is_destination, is_local, is_number, is_of, is_nil}
use Rattle.l4_expect.specs.declared.columns.Column.{Column}
use Rattle.l4_expect.specs.declared.columns.Column.TheVariants as columns
use Rattle.l4_expect.proofs.Fitting.{Stands, or_left, or_right, send_may, word_may}

-- What a report may tell of a thread

abbrev pub is_sender : Id → Bool
is_sender NilThread = true
is_sender (GlobalThread t) = is_global t
is_sender _ = false

abbrev pub is_error : ℕ → Bool
is_error code = code == 0 || (nat_le 2 code && nat_le code 7)

pub record IsTold (r : Report) : Type 0 where
  pub id : is_global r.id ≡ true
  pub error : is_error r.error ≡ true
  pub from : is_sender r.from ≡ true
  pub actual : has_word_in W64 r.actual ≡ true
  pub tag : has_typed_words (slice_index r.words 0) ≡ false
  pub size : length r.words ≡ register_count
  pub words : list_all is_word r.words ≡ true

-- Words

-- A word of a report in its column.
pub record IsIn (column : Column) (word : List ℕ) : Type 0 where
  pub stands : Stands column word
  pub plain : is_above 32 word ≡ true
  pub unlike : not (is_rest word) ≡ true

-- Where no byte is a `#`, nothing stands behind one.
pub no_name : (word : List ℕ) → is_above 35 word ≡ true → thread_named word ≡ None
no_name word h = by (position is_hash word) refl
  where
    by : (o : Option ℕ) → position is_hash word ≡ o → thread_named word ≡ None
    by None is = none_named word is
    by (Some i) is =
        let at = position-Some is_hash word i 0 is in
        let lacking : (get_or word i 0 == 35) ≡ false = lacks 35 word h i 0 at.0 in
        let hash : (get_or word i 0 == 35) ≡ true = at.1 in
        cc

no_name_at_hash : (digits : List ℕ) → thread_named (codes "#" ++ digits) ≡ None
unfolding thread_of
no_name_at_hash digits = by (has_number (codes "#" ++ digits))
  where
    by : (number : Bool) → cond number (thread_of []) None ≡ None
    by true = refl
    by false = refl

pub no_register_name : (n : ℕ) → is_word n ≡ true → thread_named (hexadecimal n) ≡ None
no_register_name n small = no_name (hexadecimal n) (above_lower 35 46 (omega arith) (hexadecimal n) (hexadecimal_is_above n (ltb-true n (2 ^ 64) small)))

pub in_column : (column : Column) (word : List ℕ) → is_of column word ≡ true → thread_named word ≡ None → is_above 32 word ≡ true → not (is_rest word) ≡ true → IsIn column word
in_column column word is none plain unlike =
    record { stands = record { may = λ asked h. word_may (is_of column) asked word is none h }; plain = plain; unlike = unlike }

-- A word that is read as something is not `..`.
read_unlike : {A : Type 0} (read : List ℕ → Option A) (word : List ℕ) → read (codes "..") ≡ None → is_some (read word) ≡ true → not (is_rest word) ≡ true
read_unlike {A = A} read word none some = by (is_rest word) refl
  where
    by : (rest : Bool) → is_rest word ≡ rest → not rest ≡ true
    by false is = refl
    by true is =
        let same : word ≡ codes ".." = (bytes_eq-Decides word (codes "..")).0 is in
        let bad : is_some {T = A} None ≡ true = sym (ap (λ w. is_some (read w)) same ∙ ap is_some none) ∙ some in
        cc

dots_no_thread : thread_of (codes "..") ≡ None
unfolding thread_of
dots_no_thread = refl

dots_no_name : name_of (codes "..") ≡ None
unfolding name_of thread_of
dots_no_name = refl

pub number_unlike : (radix : ℕ) (word : List ℕ) → is_above 46 word ≡ true → not (is_rest word) ≡ true
number_unlike radix word h = by (is_rest word) refl
  where
    by : (rest : Bool) → is_rest word ≡ rest → not rest ≡ true
    by false is = refl
    by true is =
        let same : word ≡ codes ".." = (bytes_eq-Decides word (codes "..")).0 is in
        let bad : is_above 46 (codes "..") ≡ true = ap (is_above 46) (sym same) ∙ h in
        cc

-- A thread in any column that takes it.
pub thread_in : (column : Column) (t : GlobalId) → is_global t ≡ true → is_of column (thread_word t) ≡ true → IsIn column (thread_word t)
thread_in column t h is =
    let above = thread_is_above t h in
    in_column column (thread_word t) is (no_name (thread_word t) above) (above_lower 32 35 (omega arith) (thread_word t) above)
    (read_unlike thread_of (thread_word t) dots_no_thread (ap is_some (thread_is_read t h)))

pub thread_read : (t : GlobalId) → is_global t ≡ true → is_some (thread_of (thread_word t)) ≡ true
thread_read t h = ap is_some (thread_is_read t h)

number_in : (column : Column) (word : List ℕ) → is_above 46 word ≡ true → is_of column word ≡ true → IsIn column word
number_in column word above is =
    in_column column word is (no_name word (above_lower 35 46 (omega arith) word above)) (above_lower 32 46 (omega arith) word above) (number_unlike 10 word above)

pub state_in : (state : State) → IsIn columns.State (state_word state)
state_in IsReady = in_column columns.State (codes "ready") refl (no_name (codes "ready") refl) refl refl
state_in IsSending = in_column columns.State (codes "sending") refl (no_name (codes "sending") refl) refl refl
state_in IsReceiving = in_column columns.State (codes "receiving") refl (no_name (codes "receiving") refl) refl refl
state_in IsOrdering = in_column columns.State (codes "ordering") refl (no_name (codes "ordering") refl) refl refl
state_in IsEnded = in_column columns.State (codes "ended") refl (no_name (codes "ended") refl) refl refl
state_in IsDeleted = in_column columns.State (codes "deleted") refl (no_name (codes "deleted") refl) refl refl

small_error : (code : ℕ) → is_error code ≡ true → code < 2 ^ 64
small_error code h = by (code == 0) refl h
  where
    by : (zero : Bool) → (code == 0) ≡ zero → (zero || (nat_le 2 code && nat_le code 7)) ≡ true → code < 2 ^ 64
    by true is h = omega (arith, eqb-true code 0 is)
    by false is h = omega (arith, leb-true code 7 (and_parts (nat_le 2 code) (nat_le code 7) h).1)

pub error_in : (code : ℕ) → is_error code ≡ true → IsIn columns.Code (decimal code)
error_in code h =
    let small = small_error code h in
    number_in columns.Code (decimal code) (decimal_is_above code small) (ap (is_number is_error) (decimal_is_read code small) ∙ h)

pub sender_in : (from : Id) → is_sender from ≡ true → IsIn columns.Sender (id_word from)
sender_in NilThread h = in_column columns.Sender (codes "nil") refl (no_name (codes "nil") refl) refl refl
sender_in (GlobalThread t) h = thread_in columns.Sender t h (or_right (is_nil (thread_word t)) (is_some (thread_of (thread_word t))) (thread_read t h))
sender_in AnyThread h = cc
sender_in AnyLocalThread h = cc
sender_in (LocalThread word) h = cc

third : (a b c d : Bool) → c ≡ true → (a || b || c || d) ≡ true
third true b c d h = refl
third false true c d h = refl
third false false c d h = or_left c d h

fourth : (a b c d : Bool) → d ≡ true → (a || b || c || d) ≡ true
fourth true b c d h = refl
fourth false true c d h = refl
fourth false false c d h = or_right c d h

local_read : (local : ℕ) → has_word_in W64 (LocalThread local) ≡ true → local < 2 ^ 64
local_read local h = ltb-true local (2 ^ 64) (and_parts _ _ (and_parts _ _ (and_parts _ _ h).0).0).0

local_is : (local : ℕ) → has_word_in W64 (LocalThread local) ≡ true → is_local (codes "#" ++ hexadecimal local) ≡ true
local_is local h = ap (is_number (λ local. has_word_in W64 (LocalThread local))) (hexadecimal_is_read local (local_read local h)) ∙ h

local_destination : (local : ℕ) → has_word_in W64 (LocalThread local) ≡ true → is_destination (codes "#" ++ hexadecimal local) ≡ true
local_destination local h =
    let word = codes "#" ++ hexadecimal local in
    third (bytes_eq word (codes "any")) (bytes_eq word (codes "anylocal")) (is_local word) (is_some (thread_of word)) (local_is local h)

thread_destination : (t : GlobalId) → is_global t ≡ true → is_destination (thread_word t) ≡ true
thread_destination t h =
    let word = thread_word t in
    fourth (bytes_eq word (codes "any")) (bytes_eq word (codes "anylocal")) (is_local word) (is_some (thread_of word)) (thread_read t h)

local_in : (column : Column) (local : ℕ) → has_word_in W64 (LocalThread local) ≡ true → is_of column (codes "#" ++ hexadecimal local) ≡ true →
    IsIn column (codes "#" ++ hexadecimal local)
local_in column local h is =
    let above = above_lower 32 46 (omega arith) (hexadecimal local) (hexadecimal_is_above local (local_read local h)) in
    in_column column (codes "#" ++ hexadecimal local) is (no_name_at_hash (hexadecimal local)) (above_parts 32 (codes "#") (hexadecimal local) refl above) refl

pub id_in : (id : Id) → has_word_in W64 id ≡ true → IsIn columns.Id (id_word id)
id_in NilThread h = in_column columns.Id (codes "nil") refl (no_name (codes "nil") refl) refl refl
id_in AnyThread h = in_column columns.Id (codes "any") refl (no_name (codes "any") refl) refl refl
id_in AnyLocalThread h = in_column columns.Id (codes "anylocal") refl (no_name (codes "anylocal") refl) refl refl
id_in (LocalThread local) h = local_in columns.Id local h (or_right (is_nil (codes "#" ++ hexadecimal local)) (is_destination (codes "#" ++ hexadecimal local)) (local_destination local h))
id_in (GlobalThread t) h = thread_in columns.Id t h (or_right (is_nil (thread_word t)) (is_destination (thread_word t)) (thread_destination t h))

abbrev pub is_some_thread : Id → Bool
is_some_thread NilThread = false
is_some_thread _ = true

pub destination_in : (id : Id) → has_word_in W64 id ≡ true → is_some_thread id ≡ true → IsIn columns.Destination (id_word id)
destination_in NilThread h some = cc
destination_in AnyThread h some = in_column columns.Destination (codes "any") refl (no_name (codes "any") refl) refl refl
destination_in AnyLocalThread h some = in_column columns.Destination (codes "anylocal") refl (no_name (codes "anylocal") refl) refl refl
destination_in (LocalThread local) h some = local_in columns.Destination local h (local_destination local h)
destination_in (GlobalThread t) h some = thread_in columns.Destination t h (thread_destination t h)

pub tag_in : (tag : ℕ) → is_word tag ≡ true → has_typed_words tag ≡ false → IsIn columns.Tag (hexadecimal tag)
tag_in tag word untyped =
    let small = ltb-true tag (2 ^ 64) word in
    number_in columns.Tag (hexadecimal tag) (hexadecimal_is_above tag small)
    (ap (is_number (λ tag. not (has_typed_words tag))) (hexadecimal_is_read tag small) ∙ not_from_false (has_typed_words tag) untyped)

name_plain : (s : Name) → is_name s ≡ true → is_above 32 (name_word s) ≡ true
name_plain s h =
    let front = and_parts _ _ h in
    let thread = above_lower 32 35 (omega arith) (thread_word s.thread) (thread_is_above s.thread (and_parts _ _ front.0).0) in
    let k = above_lower 32 46 (omega arith) (decimal s.k) (decimal_is_above s.k (ltb-true s.k (2 ^ 64) front.1)) in
    above_parts 32 (thread_word s.thread ++ codes "#") (decimal s.k) (above_parts 32 (thread_word s.thread) (codes "#") thread refl) k

pub name_in : (s : Name) → is_name s ≡ true → IsIn columns.Send (name_word s)
name_in s h =
    let read : is_some (name_of (name_word s)) ≡ true = ap is_some (name_is_read s h) in
    record {
      stands = record { may = λ asked fits. send_may asked (name_word s) read fits };
      plain = name_plain s h;
      unlike = read_unlike name_of (name_word s) dots_no_name read;
    }
