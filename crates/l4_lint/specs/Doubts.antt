-- What is doubtful in a text that declares a machine. Each doubtful word may be intended.
use Rattle.std.specs.Prelude.{ℕ, ◌+◌, ◌-◌, ◌/◌, ◌%◌, ◌^◌, ◌==◌, Bool, true, false, not, ◌&&◌, ◌||◌}
use Rattle.std.specs.Prelude.{nat_lt, if◌then◌else◌, Option, Some, None, is_none, is_some}
use Rattle.std.specs.Prelude.{unwrap_or, Result, Ok, Err, List, [], ◌∷◌, ◌++◌, codes, flat_map}
use Rattle.std.specs.Prelude.{length, slice_get}
use Rattle.std.specs.List.{list_all, list_any}
use Rattle.std.specs.Str.{bytes_eq}
use Rattle.l4_model.specs.Words.{W64, W32, GlobalId, Id, LocalThread, GlobalThread, Period, same_id}
use Rattle.l4_model.specs.Machine.{Declaration, IdFrom, Fixed, Instr, Vs, Ipc, Machine, place_of}
use Rattle.l4_model.specs.Rules.{permitted}
use Rattle.l4_words.specs.Lines.{parts_of}
use Rattle.l4_words.specs.Threads.{thread_of}
use Rattle.l4_types.specs.Ids.{global_of}
use Rattle.l4_script.specs.Ids.{id_of}
use Rattle.l4_script.specs.Judged.{Judged}
use Rattle.l4_script.specs.Numbers.{number_of, time_from}
use Rattle.l4_script.specs.Second.Names.{is_digit}
use Rattle.l4_script.specs.Second.Texts as second
use Rattle.l4_script.specs.Versions.{machine_of_text}
use Rattle.l4_script.specs.declared.text.fault.TextFault.{TextFault}
use Rattle.l4_lint.specs.declared.doubts.Doubt.{Doubt}
use Rattle.l4_lint.specs.declared.doubts.Doubt.TheVariants.{NoThread, NoLimit, NotSent}
use Rattle.l4_lint.specs.declared.doubts.Doubt.TheVariants.{NotPropagated, OtherSpace, ToItself}
use Rattle.l4_lint.specs.declared.doubts.Doubt.TheVariants.{FromItself, NoDestination, NoSource}
use Rattle.l4_lint.specs.declared.doubts.Doubt.TheVariants.{NoTarget, LongTime, NothingReceived}
use Rattle.l4_lint.specs.declared.doubts.Doubt.TheVariants.{LeftOut, KeptLow, NotReached}
use Rattle.l4_lint.specs.declared.doubts.Doubt.TheVariants.{UnusedLabel, UnusedName}
use Rattle.l4_lint.specs.declared.doubts.Mark.{Mark}
use Rattle.l4_lint.specs.declared.hints.Operand.{Operand}
use Rattle.l4_lint.specs.declared.hints.Operand.TheVariants as operand
use Rattle.l4_lint.specs.Commands.{first_operand}
use Rattle.l4_lint.specs.declared.doubts.Mark.TheVariants.{Always, Perhaps}
use Rattle.l4_lint.specs.Bytes.{behind, word_of}
use Rattle.l4_lint.specs.Faults.{faults_of}
use Rattle.l4_lint.specs.Lines.{lines_of}
use Rattle.l4_lint.specs.Reading.{begins_script}
use Rattle.l4_lint.specs.Scripts.{uses, may_receive, is_led_to, is_unreached, is_unheard}
use Rattle.l4_lint.specs.Scripts.{is_left_out, is_kept_low}
use Rattle.l4_lint.specs.Second.Commands.{is_instruction}
use Rattle.l4_lint.specs.Second.Parts.{Parts, parts_of as parts_in_line}
use Rattle.l4_lint.specs.Second.Unused.{is_unused_name, is_name_looked_for}
use Rattle.l4_lint.specs.Spelling.{faults_text, place_text}

-- The line and the column of its first byte, both counted from 1, the word that stands there, and
-- why it is doubtful.
pub record Doubtful : Type 0 where
  pub line : ℕ
  pub column : ℕ
  pub word : List ℕ
  pub doubt : Doubt

-- The doubt about the first word of the rest of a line, where there is one.

abbrev pub doubtful_at : (number : ℕ) → (line rest : List ℕ) → Doubt → Doubtful
doubtful_at number line rest doubt =
    record {
      line = number;
      column = length line - length rest + 1;
      word = word_of rest;
      doubt = doubt;
    }

abbrev pub doubted : Bool → Doubtful → List Doubtful
doubted false d = []
doubted true d = d ∷ []

-- The number that a rest of a line begins with.
abbrev pub number_in : (rest : List ℕ) → ℕ
number_in rest = unwrap_or (number_of (word_of rest)) 0

-- An id that no thread has, so a send to it or a receive from it is refused.

abbrev pub is_no_thread : Machine → Option GlobalId → Bool
is_no_thread m None = false
is_no_thread m (Some t) = is_none (place_of m t)

abbrev pub id_doubts : Machine → (number : ℕ) → (line rest : List ℕ) → List Doubtful
id_doubts m number line rest =
    doubted (is_no_thread m (thread_of (word_of rest))) (doubtful_at number line rest NoThread)

-- A send to the last sender, as the answer of a server, without time limit. If the client does not
-- wait for it, the server is held up.

abbrev pub is_endless : Judged Period → Bool
is_endless (Ok None) = true
is_endless _ = false

abbrev pub answer_doubts : (number : ℕ) → (line to time : List ℕ) → List Doubtful
answer_doubts number line to time =
    doubted (bytes_eq (word_of to) (codes "last") && is_endless (time_from (word_of time)))
    (doubtful_at number line time NoLimit)

-- A thread that sends to itself does not receive meanwhile. One that receives from itself waits for
-- nobody else: where that has no time limit, only a cancellation ends it.

abbrev pub is_own : Option Declaration → Option GlobalId → Bool
is_own None t = false
is_own (Some d) None = false
is_own (Some d) (Some t) = same_id d.id t

-- Anythread and anylocalthread name no destination. A local id names nobody, in either format.

abbrev pub is_any : (word : List ℕ) → Bool
is_any word = bytes_eq word (codes "any") || bytes_eq word (codes "anylocal")

abbrev pub is_local : Option Id → Bool
is_local (Some (LocalThread word)) = true
is_local id = false

abbrev pub spells_local : (word : List ℕ) → Bool
spells_local word = is_local (id_of W64 word) || is_local (id_of W32 word)

-- `last` where nothing has been received.

abbrev pub is_unheard_by : Option Declaration → (place : ℕ) → Bool
is_unheard_by None place = false
is_unheard_by (Some d) place = is_unheard d.id d.script place

abbrev pub last_doubts : Option Declaration → (place number : ℕ) → (line rest : List ℕ) →
    List Doubtful
last_doubts d place number line rest =
    doubted (bytes_eq (word_of rest) (codes "last") && is_unheard_by d place)
    (doubtful_at number line rest NothingReceived)

abbrev pub to_doubts : Machine → Option Declaration → (place number : ℕ) → (line to : List ℕ) →
    List Doubtful
to_doubts m d place number line to =
    id_doubts m number line to
    ++ doubted (is_own d (thread_of (word_of to))) (doubtful_at number line to ToItself)
    ++ doubted (is_any (word_of to) || spells_local (word_of to))
    (doubtful_at number line to NoDestination)
    ++ last_doubts d place number line to

abbrev pub from_doubts : Machine → Option Declaration → (place number : ℕ) →
    (line from : List ℕ) → List Doubtful
from_doubts m d place number line from =
    id_doubts m number line from
    ++ doubted
    (is_own d (thread_of (word_of from))
    && is_endless (time_from (word_of (behind (behind from)))))
    (doubtful_at number line from FromItself)
    ++ doubted (spells_local (word_of from)) (doubtful_at number line from NoSource)
    ++ last_doubts d place number line from

-- A time above 1023 in decimal is no number of microseconds.

abbrev pub is_decimal : (word : List ℕ) → Bool
is_decimal word = list_all is_digit word

abbrev pub is_long : (word : List ℕ) → Bool
is_long word = is_decimal word && nat_lt 1023 (number_in word)

abbrev pub time_doubts : (number : ℕ) → (line time : List ℕ) → List Doubtful
time_doubts number line time =
    doubted (is_long (word_of time)) (doubtful_at number line time LongTime)

-- Of the two timeouts of an ipc, the first of which may be that of an answer.
abbrev pub timeout_doubts : (number : ℕ) → (line to times : List ℕ) → List Doubtful
timeout_doubts number line to times =
    answer_doubts number line to times ++ time_doubts number line times
    ++ time_doubts number line (behind times)

abbrev pub ipc_doubts : Machine → Option Declaration → (place number : ℕ) → (line to : List ℕ) →
    List Doubtful
ipc_doubts m d place number line to =
    to_doubts m d place number line to ++ from_doubts m d place number line (behind to)
    ++ timeout_doubts number line to (behind (behind to))

-- A register that is written, but neither sent by a tag of the script, nor copied, tested or taken
-- for an id. A script that receives may send as many registers as its last message had; but the
-- next tag may leave this one out.

abbrev pub write_doubts : Declaration → (place number : ℕ) → (line rest : List ℕ) → List Doubtful
write_doubts d place number line rest =
    doubted (not (list_any (uses (number_in rest)) d.script)) (doubtful_at number line rest NotSent)
    ++ doubted (is_left_out (number_in rest) d.script place)
    (doubtful_at number line rest LeftOut)

-- `from A`: whose id is kept in MR A may be lost.
abbrev pub keep_doubts : Declaration → (number : ℕ) → (line rest : List ℕ) → List Doubtful
keep_doubts d number line rest =
    doubted (is_kept_low (number_in rest) d.script) (doubtful_at number line rest KeptLow)

-- A tag that asks for propagation, by bit 12, where the script receives nothing and `vs` names no
-- thread of its address space. The message is sent as the sender's own.

abbrev pub asks_to_propagate : (word : ℕ) → Bool
asks_to_propagate word = (word / 2 ^ 12) % 2 == 1

abbrev pub may_name_originator : Machine → GlobalId → IdFrom → Bool
may_name_originator m sender (Fixed id) = is_some (permitted m sender id)
may_name_originator m sender from = true

abbrev pub names_originator : Machine → GlobalId → Instr → Bool
names_originator m sender (Vs from) = may_name_originator m sender from
names_originator m sender (Ipc to from send_period receive_period) = may_receive from
names_originator m sender _ = false

abbrev pub tag_doubts : Machine → Declaration → (number : ℕ) → (line rest : List ℕ) → List Doubtful
tag_doubts m d number line rest =
    doubted
    (asks_to_propagate (number_in rest) && not (list_any (names_originator m d.id) d.script))
    (doubtful_at number line rest NotPropagated)

-- What is doubtful in a line, from left to right.

abbrev pub is_order : (word : List ℕ) → Bool
is_order word = bytes_eq word (codes "exregs") || bytes_eq word (codes "delete")

abbrev pub is_one_of_ids : (word : List ℕ) → Bool
is_one_of_ids word = is_order word || bytes_eq word (codes "vs")

-- A thread of another address space. An order to cancel what it does is not given.

abbrev pub is_foreign : Machine → Option Declaration → Option GlobalId → Bool
is_foreign m None t = false
is_foreign m (Some d) None = false
is_foreign m (Some d) (Some t) =
    is_some (place_of m t) && not (is_some (permitted m d.id (GlobalThread t)))

-- No thread: nilthread, anythread, anylocalthread or a local id.

abbrev pub is_nobody : Option Id → Bool
is_nobody None = false
is_nobody (Some id) = is_none (global_of id)

abbrev pub spells_nobody : (word : List ℕ) → Bool
spells_nobody word = is_nobody (id_of W64 word) || is_nobody (id_of W32 word)

abbrev pub order_doubts : Machine → Option Declaration → (number : ℕ) → (line words : List ℕ) →
    List Doubtful
order_doubts m d number line words =
    id_doubts m number line (behind words)
    ++ doubted
    (bytes_eq (word_of words) (codes "exregs")
    && is_foreign m d (thread_of (word_of (behind words))))
    (doubtful_at number line (behind words) OtherSpace)
    ++ doubted (is_order (word_of words) && spells_nobody (word_of (behind words)))
    (doubtful_at number line (behind words) NoTarget)

-- A line that writes a register names it first.

abbrev pub names_register : Option Operand → Bool
names_register (Some operand.Register) = true
names_register _ = false

abbrev pub is_write : (word : List ℕ) → Bool
is_write word = names_register (first_operand word)

abbrev pub script_doubts : Machine → Option Declaration → (place number : ℕ) →
    (line words : List ℕ) → List Doubtful
script_doubts m None place number line words = []
script_doubts m (Some d) place number line words =
    if is_write (word_of words) then write_doubts d place number line (behind words)
    else if bytes_eq (word_of words) (codes "from") then keep_doubts d number line (behind words)
    else if bytes_eq (word_of words) (codes "tag") then tag_doubts m d number line (behind words)
    else []

abbrev pub operand_doubts : Machine → Option Declaration → (place number : ℕ) →
    (line words : List ℕ) → List Doubtful
operand_doubts m d place number line words =
    if bytes_eq (word_of words) (codes "ipc") then ipc_doubts m d place number line (behind words)
    else if is_one_of_ids (word_of words) then order_doubts m d number line words
    else script_doubts m d place number line words

-- An instruction that nothing leads to. `place` is its own, or of another line that of the next
-- one.

abbrev pub is_unreached_by : Option Declaration → (place : ℕ) → Bool
is_unreached_by None place = false
is_unreached_by (Some d) place = is_unreached d.script place

abbrev pub way_doubts : Option Declaration → (place number : ℕ) → (line words : List ℕ) →
    List Doubtful
way_doubts d place number line words =
    doubted (is_instruction words && is_unreached_by d place)
    (doubtful_at number line words NotReached)

-- Of the words that a line ends with. In a text of version 1 they are all of it.
abbrev pub words_doubts : Machine → Option Declaration → (place number : ℕ) →
    (line words : List ℕ) → List Doubtful
words_doubts m d place number line words =
    way_doubts d place number line words ++ operand_doubts m d place number line words

-- The thread whose script has a line: the one that the last `thread` line before it declares.
abbrev pub thread_after : Machine → (begun : ℕ) → Option Declaration
thread_after m begun = slice_get m.threads (begun - 1)

abbrev pub begun_behind : (begun : ℕ) → (line : List ℕ) → ℕ
begun_behind begun line = begun + (if begins_script line then 1 else 0)

-- The place that the next instruction has in its script.
abbrev pub place_behind : (place : ℕ) → (words : List ℕ) → ℕ
place_behind place words =
    if begins_script words then 0 else if is_instruction words then place + 1 else place

abbrev pub doubts_from : Machine → (lines : List (List ℕ)) → (begun place number : ℕ) →
    List Doubtful
doubts_from m [] begun place number = []
doubts_from m (line ∷ lines) begun place number =
    words_doubts m (thread_after m begun) place number line line
    ++ doubts_from m lines (begun_behind begun line) (place_behind place line) (number + 1)

-- The same of a text with scripts of version 2. What is doubtful there stands among the words of a
-- line, and the thread is the last one that is read up to the line.

abbrev pub stage_or : second.Stage → Judged second.Stage → second.Stage
stage_or before (Ok after) = after
stage_or before (Err k) = before

abbrev pub stage_behind : (number : ℕ) → second.Stage → (line : List ℕ) → second.Stage
stage_behind number stage line = stage_or stage (second.after_line number stage line)

abbrev pub thread_at : Machine → second.Stage → Option Declaration
thread_at m (second.Threads r) = thread_after m (length r.machine.threads)
thread_at m stage = None

-- A name of an instruction to which nothing leads.

abbrev pub is_unused_label : Option Declaration → (place : ℕ) → (label : Option (List ℕ)) → Bool
is_unused_label (Some d) place (Some label) = not (is_led_to d.script place)
is_unused_label d place label = false

abbrev pub label_at : (number : ℕ) → Parts → Doubtful
label_at number p =
    record {
      line = number;
      column = length p.front - length p.said + 1;
      word = unwrap_or p.label [];
      doubt = UnusedLabel;
    }

abbrev pub label_doubts : Option Declaration → (place number : ℕ) → Parts → List Doubtful
label_doubts d place number p = doubted (is_unused_label d place p.label) (label_at number p)

-- A name of an id that no line behind has.
abbrev pub name_doubts : second.Stage → (lines : List (List ℕ)) → (number : ℕ) → Parts →
    List Doubtful
name_doubts stage lines number p =
    doubted
    (bytes_eq (word_of p.words) (codes "name")
    && (is_name_looked_for stage && is_unused_name lines (word_of (behind p.words))))
    (doubtful_at number p.front (behind p.words) UnusedName)

-- `stage` is the one behind the line, `lines` are those there.
abbrev pub second_line_doubts : Machine → second.Stage → (lines : List (List ℕ)) →
    (place number : ℕ) → Parts → List Doubtful
second_line_doubts m stage lines place number p =
    label_doubts (thread_at m stage) place number p
    ++ name_doubts stage lines number p
    ++ words_doubts m (thread_at m stage) place number p.front p.words

abbrev pub second_doubts_from : Machine → (lines : List (List ℕ)) → second.Stage →
    (place number : ℕ) → List Doubtful
second_doubts_from m [] stage place number = []
second_doubts_from m (line ∷ lines) stage place number =
    second_line_doubts m (stage_behind number stage line) lines place number (parts_in_line line)
    ++ second_doubts_from m lines (stage_behind number stage line)
    (place_behind place (parts_in_line line).words) (number + 1)

-- All doubts of a text, in order of its lines. A text with a faulty line has none.

abbrev pub doubts_in : (of_second : Bool) → Machine → (lines : List (List ℕ)) → List Doubtful
doubts_in of_second m lines = if of_second then second_doubts_from m lines second.Start 0 1
    else doubts_from m lines 0 0 1

abbrev pub doubts_on : (of_second : Bool) → Result Machine TextFault → (lines : List (List ℕ)) →
    List Doubtful
doubts_on of_second (Err fault) lines = []
doubts_on of_second (Ok m) lines = doubts_in of_second m lines

abbrev pub doubts_of : (text : List ℕ) → List Doubtful
doubts_of text =
    doubts_on (second.begins_second (parts_of text)) (machine_of_text text) (lines_of text)

-- How a doubt is marked. What `always` says is in `Says`.

abbrev pub marked : Doubt → Mark
marked NoThread = Always
marked NotSent = Always
marked NotPropagated = Always
marked OtherSpace = Always
marked NoLimit = Perhaps
marked ToItself = Perhaps
marked FromItself = Perhaps
marked NoDestination = Perhaps
marked NoSource = Perhaps
marked NoTarget = Perhaps
marked LongTime = Perhaps
marked NothingReceived = Perhaps
marked LeftOut = Perhaps
marked KeptLow = Perhaps
marked NotReached = Perhaps
marked UnusedLabel = Perhaps
marked UnusedName = Perhaps

abbrev pub mark_word : Mark → List ℕ
mark_word Always = codes "always"
mark_word Perhaps = codes "perhaps"

-- What is printed for the doubts: a line for each.

abbrev pub doubt_text : Doubt → List ℕ
doubt_text NoThread = codes "no thread has this id; nothing reaches it or comes from it"
doubt_text NoLimit = codes "an answer has no time limit; a server that must not wait says zero"
doubt_text NotSent = codes "this register is never delivered, and nothing copies it"
doubt_text NotPropagated =
    codes "vs names no thread of this address space, so no message is propagated"
doubt_text OtherSpace =
    codes "this thread is of another address space, so exregs cancels nothing of it"
doubt_text ToItself = codes "a send to the thread itself; it can't receive it meanwhile"
doubt_text FromItself = codes "a receive from the thread itself that only a cancellation ends"
doubt_text NoDestination = codes "no destination; the send fails with ErrorCode 4"
doubt_text NoSource = codes "nobody to receive from; the receive fails with ErrorCode 5"
doubt_text NoTarget = codes "no thread; the order fails with ErrorCode 2"
doubt_text LongTime =
    codes "above 1023 this is no number of microseconds: E * 1024 + N is N * 2^E of them"
doubt_text NothingReceived = codes "nothing has been received here, so this is nil"
doubt_text LeftOut = codes "the next tag does not send this register, and nothing else uses it"
doubt_text KeptLow =
    codes "a message of so many words overwrites this register; one above 31 keeps the id longer"
doubt_text NotReached = codes "nothing leads here"
doubt_text UnusedLabel = codes "no jump, onerr or branch goes here"
doubt_text UnusedName = codes "no line behind has this name"

abbrev pub doubt_line : (file : Option (List ℕ)) → Doubtful → List ℕ
doubt_line file d =
    place_text file d.line d.column ++ mark_word (marked d.doubt) ++ codes ": `" ++ d.word
    ++ codes "`: " ++ doubt_text d.doubt ++ codes "\n"

abbrev pub doubts_text : (file : Option (List ℕ)) → List Doubtful → List ℕ
doubts_text file found = flat_map (doubt_line file) found

-- What is printed for a text: its faults, or its doubts. Where the file is named, each line begins
-- with its name.
abbrev pub lint_text : (file : Option (List ℕ)) → (text : List ℕ) → List ℕ
lint_text file text =
    faults_text file (faults_of text) ++ doubts_text file (doubts_of text)
