-- What a call answers, and where it puts that.
use Rattle.std.specs.Prelude.{◌≡◌, ◌⊎◌, ◌++◌, ℕ, Bool, false, if◌then◌else◌, nat_lt, Option, Some, None, Result, Ok, List, [], codes, drop, length}
use Rattle.std.specs.String.{string_bytes}
use Rattle.std.specs.Str.{IsUtf8}
use Rattle.l4_commands.specs.Asked.{IsAsked, IsRefusal, Tells, told_of, wrong_in}
use Rattle.l4_commands.specs.Commands.{faults_of}
use Rattle.l4_commands.specs.Files.{expected_of, file_of, on_output, second_file_of}
use Rattle.l4_commands.specs.declared.job.Job.{Job}
use Rattle.l4_commands.specs.declared.words.WordsFault.{WordsFault}
use Rattle.l4_commands.specs.declared.words.WordsFault.TheVariants.{Help, Usage, NoMemory}
use Rattle.l4_jobs.specs.FaultLines.{fault_line}
use Rattle.l4_jobs.specs.Jobs.{IsDone, IsFault}
use Rattle.l4_jobs.specs.Outputs.{Output}
use Rattle.l4_jobs.specs.Rounds.{IsInRounds}
use Rattle.l4_jobs.specs.declared.fault.Fault.{Fault}
use Rattle.l4_jobs.specs.declared.fault.Fault.TheVariants as fault
use Rattle.l4_c.specs.Files.{IsNotThere, first_missing, found, found_where, gives_in, names_of}
use Rattle.l4_c.specs.Words.{line_of}
use Rattle.l4_c.specs.declared.Lengths.{Lengths}
use Rattle.l4_c.specs.declared.answers.Answer.{Answer}

-- What a buffer has when bytes were put to its beginning. One that is too small stays as it is.
abbrev pub put_in : (bytes buffer : List ℕ) → List ℕ
put_in bytes buffer =
    if nat_lt (length buffer) (length bytes) then buffer else bytes ++ drop (length bytes) buffer

-- What goes to the output, to the faults and into the record, and the exit status.
pub record Answered : Type 0 where
  pub out : List ℕ
  pub faults : List ℕ
  pub recorded : List ℕ
  pub status : ℕ

abbrev pub answered : Answer → Answered
answered answer = record {
  out = answer.out.items;
  faults = answer.faults.items;
  recorded = answer.recorded.items;
  status = answer.status;
}

abbrev pub lengths_of : Answered → Lengths
lengths_of a = record {
  out = length a.out;
  faults = length a.faults;
  recorded = length a.recorded;
}

-- Faults and a status, and nothing else.
abbrev pub told : (faults : List ℕ) → (status : ℕ) → Answered
told faults status = record { out = []; faults = faults; recorded = []; status = status }

abbrev pub told_fault : Fault → Answered
told_fault f = told (fault_line f) 1

-- Help goes to the output.
abbrev pub refusal : WordsFault → Answered
refusal (Help text) = record { out = string_bytes text; faults = []; recorded = []; status = 0 }
refusal (Usage text) = told (string_bytes text) 2
refusal NoMemory = told_fault fault.NoMemory

-- The text of the list that is recorded. Where none is, it is empty.
abbrev pub recorded_of : (list : Option (List ℕ × List ℕ)) → List ℕ
recorded_of None = []
recorded_of (Some list) = list.1

-- What a job comes to on these files. `in_place` is done in its place: of a run the replay of no
-- entries, which goes on until rest.
pub record IsDoneOver (job : Job) (files : List (List ℕ × List ℕ)) (a : Answered) : Type 0 where
  pub there : first_missing (names_of job) files ≡ None
  pub in_place : Job
  pub is_in_place : IsInRounds job in_place
  pub output : Output
  pub done : IsDone in_place (gives_in (found (file_of job) files))
      (gives_in (found_where (second_file_of job) files))
      (gives_in (found_where (expected_of job) files)) output
  pub out : a.out ≡ output.lines
  pub faults : a.faults ≡ output.said
  pub status : a.status ≡ output.status
  pub recorded : a.recorded ≡ recorded_of output.list

-- Why it comes to nothing: the first of its files that is not there, or a fault.
pub record IsFaultOver (job : Job) (files : List (List ℕ × List ℕ)) (f : Fault) : Type 0 where
  pub there : first_missing (names_of job) files ≡ None
  pub in_place : Job
  pub is_in_place : IsInRounds job in_place
  pub fault : IsFault in_place (gives_in (found (file_of job) files))
      (gives_in (found_where (second_file_of job) files))
      (gives_in (found_where (expected_of job) files)) f

abbrev pub IsFaultyOver : Job → (files : List (List ℕ × List ℕ)) → Fault → Type 0
IsFaultyOver job files f =
    IsNotThere (first_missing (names_of job) files) f ⊎ IsFaultOver job files f

-- The answer to a job.
abbrev pub IsAnswerFor : Job → (files : List (List ℕ × List ℕ)) → Answered → Type 0
IsAnswerFor job files a =
    IsDoneOver job files a ⊎ ((f : Fault) × IsFaultyOver job files f × (a ≡ told_fault f))

-- The answer to words that ask for no job.
pub record IsRefused (words : List (List ℕ)) (a : Answered) : Type 0 where
  pub why : WordsFault
  pub is_right : IsRefusal (wrong_in words) why
  pub tells : faults_of words ≡ [] → Tells (told_of words) why
  pub is : a ≡ refusal why

-- The answer to the words of a command line. A chart is drawn as for an output that is no terminal.
abbrev pub IsAnswerTo : (words : List (List ℕ)) → (files : List (List ℕ × List ℕ)) → Answered →
    Type 0
IsAnswerTo words files a =
    IsRefused words a
    ⊎ ((job : Job) × IsAsked words job
    × IsAnswerFor (on_output false 0 job) files a)

-- The answer to the bytes of a call, whatever they are. Memory may be refused at any time.
abbrev pub IsAnswer : (words : List ℕ) → (files : List (List ℕ × List ℕ)) → Answered → Type 0
IsAnswer words files a =
    (a ≡ told_fault fault.NoMemory)
    ⊎ ((IsUtf8 words → ⊥) × (a ≡ told (codes "l4run: an argument is not UTF-8\n") 2))
    ⊎ (IsUtf8 words × IsAnswerTo (line_of words) files a)
