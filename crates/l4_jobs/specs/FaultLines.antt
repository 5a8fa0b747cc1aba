-- The lines of faults.
use Rattle.std.specs.Prelude.{ℕ, Bool, List, ◌++◌, codes, decimal}
use Rattle.l4_expect.specs.declared.judging.Wrong.{Wrong}
use Rattle.l4_expect.specs.declared.judging.Wrong.TheVariants as wrong
use Rattle.l4_script.specs.declared.text.fault.TextFaultKind.{TextFaultKind}
use Rattle.l4_script.specs.declared.text.fault.TextFaultKind.TheVariants as kind
use Rattle.l4_jobs.specs.declared.fault.Fault.{Fault}
use Rattle.l4_jobs.specs.declared.fault.Fault.TheVariants as fault

abbrev pub kind_word : TextFaultKind → List ℕ
kind_word kind.TooLong = codes "TooLong"
kind_word kind.NoMemory = codes "NoMemory"
kind_word kind.BadLine = codes "BadLine"
kind_word kind.BadNumber = codes "BadNumber"
kind_word kind.BadId = codes "BadId"
kind_word kind.BadName = codes "BadName"
kind_word kind.BadCpu = codes "BadCpu"
kind_word kind.TypedItems = codes "TypedItems"
kind_word kind.DoubleId = codes "DoubleId"
kind_word kind.TooManyThreads = codes "TooManyThreads"
kind_word kind.TooManyInstructions = codes "TooManyInstructions"
kind_word kind.BadTarget = codes "BadTarget"

abbrev pub wrong_word : Wrong → List ℕ
wrong_word wrong.BadLine = codes "BadLine"
wrong_word wrong.Unknown = codes "Unknown"
wrong_word wrong.BadWord = codes "BadWord"
wrong_word wrong.Deleted = codes "Deleted"
wrong_word wrong.Number = codes "Number"

-- The words of a fault, and its line.
abbrev pub fault_words : Fault → List ℕ
fault_words (fault.Text line kind) = codes "line " ++ decimal line ++ codes ": " ++ kind_word kind
fault_words fault.Turns = codes "turns out of range"
fault_words fault.Depth = codes "depth out of range"
fault_words fault.States = codes "states out of range"
fault_words fault.Memory = codes "memory out of range"
fault_words fault.Ending = codes "ending out of range"
fault_words (fault.Schedule number) = codes "schedule item " ++ decimal number
fault_words (fault.Threads number) = codes "threads item " ++ decimal number
fault_words (fault.Trace line) = codes "trace line " ++ decimal line
fault_words (fault.Refused step) = codes "refused at step " ++ decimal step
fault_words (fault.Expectation line wrong) =
    codes "expectation line " ++ decimal line ++ codes ": " ++ wrong_word wrong
fault_words (fault.Condition line wrong) =
    codes "condition line " ++ decimal line ++ codes ": " ++ wrong_word wrong
fault_words fault.NoMemory = codes "no memory"
fault_words (fault.Read name reason) = codes "cannot read " ++ name.now
fault_words (fault.Unwritten name) = codes "cannot write " ++ name.now
fault_words fault.Write = codes "cannot write"

abbrev pub fault_line : Fault → List ℕ
fault_line f = codes "l4run: " ++ fault_words f ++ codes "\n"

-- A line whose words are followed by a number, a colon and a name, each of which may be empty.
abbrev pub line_in_parts : (words number colon name : List ℕ) → List ℕ
line_in_parts words number colon name =
    codes "l4run: " ++ (words ++ (number ++ (colon ++ (name ++ codes "\n"))))

-- The fault's one line was handed to the writer. If it did not take all of it, only the status tells.
abbrev pub IsReported : (takes : (bytes : List ℕ) → (all : Bool) → Type 0) → Fault → Type 0
IsReported takes f = (all : Bool) × takes (fault_line f) all
