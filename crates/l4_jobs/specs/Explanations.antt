-- What is told of a fault on a terminal: behind its line, what explains it.
use Rattle.std.specs.Prelude.{ℕ, Bool, true, false, List, [], ◌++◌, codes}
use Rattle.l4_expect.specs.declared.judging.Wrong.{Wrong}
use Rattle.l4_expect.specs.declared.judging.Wrong.TheVariants as wrong
use Rattle.l4_lint.specs.Excerpts.{fault_shown}
use Rattle.l4_jobs.specs.FaultLines.{fault_line}
use Rattle.l4_jobs.specs.declared.fault.Fault.{Fault}
use Rattle.l4_jobs.specs.declared.fault.Fault.TheVariants as fault
use Rattle.l4_jobs.specs.declared.fault.Reason.{Reason}
use Rattle.l4_jobs.specs.declared.fault.Reason.TheVariants as reason

-- Why a file can't be read, as far as the system tells it.
abbrev pub reason_text : (name : List ℕ) → Reason → List ℕ
reason_text name reason.NoSuchFile = name ++ codes ": no such file\n"
reason_text name reason.IsDirectory = name ++ codes ": is a directory\n"
reason_text name reason.NotAllowed = name ++ codes ": not allowed\n"
reason_text name reason.Untold = []

-- Why a line can't be asked for, where its kind alone does not say it.
abbrev pub wrong_text : Wrong → List ℕ
wrong_text wrong.BadWord =
    codes "no line that may be asked for has such a word there, or so few or so many words\n"
wrong_text wrong.Deleted =
    codes "of a deleted thread no more may be asked for than its state, as thread 1.1 deleted ..\n"
wrong_text wrong.Number =
    codes "no number of a send may be asked for, but any send of a thread, as waiting 1.1#* 2.1\n"
wrong_text _ = []

-- A fault of the text in this file is explained as a lint does, with the line that it is in.
abbrev pub explanation : (file text : List ℕ) → Fault → List ℕ
explanation file text (fault.Text line kind) = fault_shown file text
explanation file text (fault.Read name why) = reason_text name.now why
explanation file text (fault.Expectation line why) = wrong_text why
explanation file text (fault.Condition line why) = wrong_text why
explanation file text _ = []

-- The line of a fault, with its explanation where that is asked for.
abbrev pub told_line : (explains : Bool) → (file text : List ℕ) → Fault → List ℕ
told_line false file text f = fault_line f
told_line true file text f = fault_line f ++ explanation file text f

-- That was handed to the writer. If it did not take all of it, only the status tells.
abbrev pub IsExplained : (explains : Bool) → (file text : List ℕ) →
    (takes : (bytes : List ℕ) → (all : Bool) → Type 0) → Fault → Type 0
IsExplained explains file text takes f = (all : Bool) × takes (told_line explains file text f) all
