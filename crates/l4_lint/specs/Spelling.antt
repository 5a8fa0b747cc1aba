-- The lines of faults.
use Rattle.std.specs.Prelude.{ℕ, ◌==◌, if◌then◌else◌, Option, Some, None, List, [], ◌∷◌, ◌++◌}
use Rattle.std.specs.Prelude.{length, flat_map, codes, decimal}
use Rattle.std.specs.Char.Escape.{escape_ascii}
use Rattle.l4_script.specs.declared.text.fault.TextFaultKind.{TextFaultKind}
use Rattle.l4_script.specs.declared.text.fault.TextFaultKind.TheVariants as kinds
use Rattle.l4_lint.specs.declared.hints.Hint.{Hint}
use Rattle.l4_lint.specs.declared.hints.Hint.TheVariants as hints
use Rattle.l4_lint.specs.declared.hints.Lines.{Lines}
use Rattle.l4_lint.specs.declared.hints.Lines.TheVariants as these
use Rattle.l4_lint.specs.declared.hints.Operand.{Operand}
use Rattle.l4_lint.specs.declared.hints.Operand.TheVariants as operand
use Rattle.l4_lint.specs.Faults.{Fault}

abbrev pub kind_word : TextFaultKind → List ℕ
kind_word kinds.TooLong = codes "TooLong"
kind_word kinds.NoMemory = codes "NoMemory"
kind_word kinds.BadLine = codes "BadLine"
kind_word kinds.BadNumber = codes "BadNumber"
kind_word kinds.BadId = codes "BadId"
kind_word kinds.BadName = codes "BadName"
kind_word kinds.BadCpu = codes "BadCpu"
kind_word kinds.TypedItems = codes "TypedItems"
kind_word kinds.DoubleId = codes "DoubleId"
kind_word kinds.TooManyThreads = codes "TooManyThreads"
kind_word kinds.TooManyInstructions = codes "TooManyInstructions"
kind_word kinds.BadTarget = codes "BadTarget"

abbrev pub operand_text : Operand → List ℕ
operand_text operand.Profile = codes "wanted: a profile, 1 or 2"
operand_text operand.Width = codes "wanted: the bits of a word, 64 or 32"
operand_text operand.Processors = codes "wanted: a number of processors, 1 to 16"
operand_text operand.Thread = codes "wanted: a thread N.V"
operand_text operand.CpuKeyword = codes "wanted: cpu"
operand_text operand.Processor = codes "wanted: a processor, below the number of the cpus line"
operand_text operand.SpaceKeyword = codes "wanted: space"
operand_text operand.Space = codes "wanted: an address space, 0 to 4294967295"
operand_text operand.Register = codes "wanted: a register, 1 to 63"
operand_text operand.Source = codes "wanted: a register, 0 to 63"
operand_text operand.Word = codes "wanted: a word of the format of line 1"
operand_text operand.Tag = codes "wanted: a tag, a word of the format of line 1"
operand_text operand.Id =
    codes "wanted: nil, any, anylocal, a thread N.V, or # and all digits of a word"
operand_text operand.Destination =
    codes "wanted: last, nil, any, anylocal, a thread N.V, or # and all digits of a word"
operand_text operand.Time = codes "wanted: never, zero, or a time, 0 to 0x7fff"
operand_text operand.Bits = codes "wanted: S, R or SR"
operand_text operand.Place = codes "wanted: a place of the script, 0 to its number of instructions"
operand_text operand.NamedThread = codes "wanted: a thread N.V, or its name"
operand_text operand.ToKeyword = codes "wanted: to"
operand_text operand.LastThread = codes "wanted: a thread of the same version and no lower number"
operand_text operand.AsKeyword = codes "wanted: as"
operand_text operand.Heir = codes "wanted: a thread that is declared before"
operand_text operand.NewName = codes "wanted: a name"
operand_text operand.NamedId =
    codes "wanted: a name, nil, any, anylocal, a thread N.V, or # and all digits of a word"
operand_text operand.IdOrRegister = codes
    "wanted: a name, mr0 to mr63, nil, any, anylocal, a thread N.V, or # and all digits of a word"
operand_text operand.IdOrLast = codes
    "wanted: a name, last, mr0 to mr63, nil, any, anylocal, a thread N.V, or # and all digits of a word"
operand_text operand.CountedTime =
    codes "wanted: never, zero, a time as 5us, 5ms or 0s, or its bits, 0 to 0x7fff"
operand_text operand.Label = codes "wanted: a label of the format of line 1"
operand_text operand.NamedPlace =
    codes "wanted: a name in this script, or a place, 0 to its number of instructions"

abbrev pub lines_text : Lines → List ℕ
lines_text these.Format = codes "wanted: the first line, l4 P B"
lines_text these.Processors = codes "wanted: the second line, cpus N"
lines_text these.Thread = codes "wanted: a line thread N.V cpu P space S"
lines_text these.Script = codes "wanted: an instruction, or a line thread N.V cpu P space S"
lines_text these.Names = codes "wanted: a line name NAME ID, or a line thread N.V cpu P space S"

-- The words of a hint that has no number.
abbrev pub plain_hint : Hint → List ℕ
plain_hint hints.LongText = codes "a text has at most 1048576 bytes"
plain_hint hints.NoLineEnd = codes "the last line has no line end"
plain_hint hints.ByteOrderMark = codes "a byte order mark; a text begins with its first line"
plain_hint hints.CarriageReturn = codes "a carriage return; a line ends with the byte 0x0a alone"
plain_hint hints.SurplusReturn =
    codes "a carriage return; one may stand at the end of a line, and none elsewhere"
plain_hint hints.Tab = codes "a tab; one space stands between two words"
plain_hint hints.Unprintable = codes "no printable ASCII"
plain_hint hints.Space = codes "a space too many; one stands between two words and none elsewhere"
plain_hint (hints.Begins which) = lines_text which
plain_hint hints.OtherComment = codes "a comment begins with ;"
plain_hint hints.CommentBehind = codes "a comment stands on a line of its own"
plain_hint hints.Surplus = codes "a word too many"
plain_hint (hints.Wanted what) = operand_text what
plain_hint hints.Hexadecimal = codes "a hexadecimal number is 0x and lower-case digits"
plain_hint hints.TimeUnit =
    codes "a time has no unit: N below 1024 is N microseconds, E * 1024 + N is N * 2^E of them"
plain_hint hints.Last = codes "last stands only where an ipc sends to"
plain_hint hints.Version = codes "no thread has this version; its low six bits are not all zero"
plain_hint hints.TypedItems = codes "t, bits 6 to 11 of a tag, is not zero"
plain_hint hints.DoubleNumber = codes "a thread before has this number"
plain_hint hints.DoubleAmong = codes "a thread before has one of the numbers up to this one"
plain_hint hints.ManyThreads = codes "a machine has at most 1024 threads"
plain_hint hints.ManyInstructions = codes "a script has at most 1024 instructions"
plain_hint hints.NoName = codes
    "a name is a letter and then letters, digits, - and _, at most 31 bytes, and no keyword"
plain_hint hints.Unknown = codes "no line declares this name"
plain_hint hints.OfHeir = codes "a thread with the script of another has no line of its own"
plain_hint other = []

abbrev pub declared_text : (line : ℕ) → List ℕ
declared_text line = codes "line " ++ decimal line ++ codes " declares this name"

abbrev pub elsewhere_text : (line : ℕ) → List ℕ
elsewhere_text line =
    codes "line " ++ decimal line
    ++ codes " declares this name, but outside this script; a label is known in its own alone"

abbrev pub near_text : (line : ℕ) → List ℕ
near_text line = codes "line " ++ decimal line ++ codes " declares a name that is near"

abbrev pub counted_text : (ticks : ℕ) → List ℕ
counted_text ticks = decimal ticks ++ codes "us"

abbrev pub near_times_text : (below above : ℕ) → List ℕ
near_times_text below above =
    codes "no time means this; the nearest are " ++ counted_text below ++ codes " and "
    ++ counted_text above

abbrev pub hint_text : Hint → List ℕ
hint_text (hints.DeclaredOn line) = declared_text line
hint_text (hints.ElsewhereOn line) = elsewhere_text line
hint_text (hints.NearOn line) = near_text line
hint_text (hints.NearTimes below above) = near_times_text below above
hint_text hint = plain_hint hint

-- What stands there, its bytes escaped as Rust escapes them in ASCII, if anything stands there.
abbrev pub shown_word : (word : List ℕ) → List ℕ
shown_word word =
    if length word == 0 then [] else (codes "`" ++ flat_map escape_ascii word ++ codes "`: ")

-- A line begins with its place: in words, or with the name of the file, as editors look for it.
abbrev pub place_text : (file : Option (List ℕ)) → (line column : ℕ) → List ℕ
place_text None line column =
    codes "line " ++ decimal line ++ codes " column " ++ decimal column ++ codes ": "
place_text (Some name) line column =
    name ++ codes ":" ++ decimal line ++ codes ":" ++ decimal column ++ codes ": "

abbrev pub fault_line : (file : Option (List ℕ)) → Fault → List ℕ
fault_line file f =
    place_text file f.line f.place.column ++ kind_word f.kind ++ codes ": "
    ++ shown_word f.place.word ++ hint_text f.place.hint ++ codes "\n"

-- What is printed for the faults of a text: a line for each. The status is 1 where there is one.
abbrev pub faults_text : (file : Option (List ℕ)) → List Fault → List ℕ
faults_text file found = flat_map (fault_line file) found

abbrev pub status_of : List Fault → ℕ
status_of [] = 0
status_of (f ∷ others) = 1
