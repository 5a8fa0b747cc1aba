-- What is written of a job.
use Rattle.std.specs.Prelude.{◌≡◌, ◌⊎◌, ℕ, Bool, true, false, Option, Some, None, IsSomeAnd, Result, Ok, Err, List, [], ◌∷◌}
use Rattle.std.specs.declared.io.ErrorKind.{ErrorKind}
use Rattle.l4_model.specs.Machine.{Machine}
use Rattle.l4_script.specs.Versions.{machine_of_text}
use Rattle.l4_commands.specs.Files.{expected_of, file_of, second_file_of}
use Rattle.l4_commands.specs.declared.job.EndingsJob.{EndingsJob}
use Rattle.l4_commands.specs.declared.job.Job.{Job}
use Rattle.l4_commands.specs.declared.job.Job.TheVariants.{Step}
use Rattle.l4_commands.specs.declared.job.StepJob.{StepJob}
use Rattle.l4_jobs.specs.FaultLines.{IsReported}
use Rattle.l4_jobs.specs.Explanations.{IsExplained}
use Rattle.l4_jobs.specs.Inputs.{FailsWith, Gives, IsUnread, gives_nothing}
use Rattle.l4_jobs.specs.Jobs.{IsDone, IsFaultFor, IsTrueFor}
use Rattle.l4_jobs.specs.Outputs.{Output}
use Rattle.l4_jobs.specs.Steps.{IsHeld, IsHeldUpTo, session_of}
use Rattle.l4_jobs.specs.Streaming.{IsCutOff, fault_of_stop, streamed_of}
use Rattle.l4_streams.specs.Streams.{GivenGives}
use Rattle.l4_jobs.specs.declared.fault.Fault.{Fault}
use Rattle.l4_jobs.specs.declared.fault.Fault.TheVariants as fault
use Rattle.l4_streams.specs.declared.streams.Given.{Given}
use Rattle.l4_streams.specs.declared.streams.Given.TheVariants.{Source, Nothing}

-- What a sink takes: these bytes, all of them or not.
abbrev pub Takes : Type 1
Takes = List ℕ → Bool → Type 0

-- What was written to each sink, or that it is as it was. `list` is the record of a name.
pub record Sinks : Type 1 where
  pub list : (name : List ℕ) → Takes
  pub keeps_list : Type 0
  pub out : Takes
  pub keeps_out : Type 0
  pub faults : Takes
  pub keeps_faults : Type 0

abbrev pub sinks : (list : List ℕ → Takes) → (keeps_list : Type 0) → (out : Takes) →
    (keeps_out : Type 0) → (faults : Takes) → (keeps_faults : Type 0) → Sinks
sinks list keeps_list out keeps_out faults keeps_faults = record {
  list = list;
  keeps_list = keeps_list;
  out = out;
  keeps_out = keeps_out;
  faults = faults;
  keeps_faults = keeps_faults;
}

-- No record is kept.
abbrev pub keeps_none : List ℕ → Takes
keeps_none name bytes all = all ≡ false

-- None is asked for.
abbrev pub asks_none : List ℕ → Takes
asks_none name bytes all = ⊥

-- A fault of a job on the text in this file was told with status 1, and nothing else was written.
abbrev pub IsFaultTold : (explains : Bool) → (file text : List ℕ) → Fault → Sinks →
    (status : ℕ) → Type 0
IsFaultTold explains file text f s status =
    s.keeps_list × s.keeps_out × IsExplained explains file text s.faults f × (status ≡ 1)

-- The fault of a file of this name that can't be written.
abbrev pub IsUnwritten : (name : List ℕ) → Fault → Type 0
IsUnwritten name (fault.Unwritten file) = file.now ≡ name
IsUnwritten name _ = ⊥

-- What is said was written to the faults once, or there is nothing to say. If the writer did not
-- take all of it, only the status tells.
abbrev pub IsSaid : (said : List ℕ) → Takes → (keeps : Type 0) → Type 0
IsSaid [] takes keeps = keeps
IsSaid (byte ∷ said) takes keeps = (all : Bool) × takes (byte ∷ said) all

-- The lines were written once, and then what is said; or the lines were not taken whole, which was
-- reported with status 1.
abbrev pub IsLinesOut : Output → (out faults : Takes) → (keeps_faults : Type 0) → (status : ℕ) →
    Type 0
IsLinesOut o out faults keeps_faults status =
    (out o.lines true × IsSaid o.said faults keeps_faults × (status ≡ o.status))
    ⊎ (out o.lines false × IsReported faults fault.Write × (status ≡ 1))

-- A record is written before the lines, where there is one. If it was not taken whole, that was
-- reported with status 1, and nothing else was written.
abbrev pub IsKeptOut : Output → Option (List ℕ × List ℕ) → Sinks → (status : ℕ) → Type 0
IsKeptOut o None s status = s.keeps_list × IsLinesOut o s.out s.faults s.keeps_faults status
IsKeptOut o (Some p) s status =
    (s.list p.0 p.1 true × IsLinesOut o s.out s.faults s.keeps_faults status)
    ⊎ ((f : Fault) × IsUnwritten p.0 f × s.list p.0 p.1 false × s.keeps_out
    × IsReported s.faults f × (status ≡ 1))

abbrev pub IsWrittenOut : Output → Sinks → (status : ℕ) → Type 0
IsWrittenOut o s status = IsKeptOut o o.list s status

-- The fault of a job whose machine text was read as this one, or could not be read.
abbrev pub IsFaultIn : Job → (machine second expects : Gives) → (text : List ℕ) → Fault → Type 0
IsFaultIn job machine second expects text f =
    (f ≡ fault.NoMemory)
    ⊎ FailsWith (file_of job) machine f
    ⊎ (machine (Ok text) × IsFaultFor job (machine_of_text text) second expects f)

-- A job was done for what its sources give: its output was written, or its fault was told, with
-- what explains it where that is asked for.
abbrev pub IsPerformed : (explains : Bool) → Job → (machine second expects : Gives) → Sinks →
    (status : ℕ) → Type 0
IsPerformed explains job machine second expects s status =
    ((text : List ℕ) × (f : Fault) × IsFaultIn job machine second expects text f
    × IsFaultTold explains (file_of job) text f s status)
    ⊎ ((o : Output) × IsDone job machine second expects o × IsWrittenOut o s status)

-- A search whose endings are written as they are found was stopped. Endings were written, whole and
-- from the first on, where memory was refused, or else a beginning of such; then its fault was told
-- with status 1.
pub record IsStopped (search : EndingsJob) (machine expects : Gives) (s : Sinks) (status : ℕ) :
    Type 0 where
  pub text : List ℕ
  pub given : machine (Ok text)
  pub all : Bool
  pub wrote : IsCutOff search text expects s.out all
  pub unrecorded : s.keeps_list
  pub told : IsReported s.faults (fault_of_stop all)
  pub status_is : status ≡ 1

-- A job was done, or such a search was stopped.
abbrev pub IsDoneOrStopped : (explains : Bool) → Job → (machine second expects : Gives) → Sinks →
    (status : ℕ) → Type 0
IsDoneOrStopped explains job machine second expects s status =
    IsPerformed explains job machine second expects s status
    ⊎ IsSomeAnd (streamed_of job) (λ search. IsStopped search machine expects s status)

-- What was written to the output of a run or a replay is true of the machine that its text declares.
abbrev pub IsTrulyDone : Job → (machine : Gives) → (out : Takes) → (status : ℕ) → Type 0
IsTrulyDone job machine out status =
    (text : List ℕ) × (lines : List ℕ) × machine (Ok text) × out lines true
    × IsTrueFor job text lines status

-- On files

-- The file of this name was opened, where there is one.
abbrev pub IsOpened : {File : Type 0} → (opens : List ℕ → Result File ErrorKind → Type 0) →
    (name : Option (List ℕ)) → Given File → Type 0
IsOpened opens None given = given ≡ Nothing
IsOpened {File} opens (Some name) given =
    (file : File) × opens name (Ok file) × (given ≡ Source file)

-- It can't be opened.
abbrev pub IsUnopened : {File : Type 0} → (opens : List ℕ → Result File ErrorKind → Type 0) →
    (name : Option (List ℕ)) → Fault → Type 0
IsUnopened opens None f = ⊥
IsUnopened opens (Some name) f = (kind : ErrorKind) × opens name (Err kind) × IsUnread name kind f

-- The files of a job: the machine text's, then that of the trace or of the list, then that of what
-- is expected. Each is opened before anything is read.
pub record Opened (File : Type 0) : Type 0 where
  pub machine : Given File
  pub second : Given File
  pub expects : Given File

pub record AreOpened {File : Type 0} (opens : List ℕ → Result File ErrorKind → Type 0) (job : Job)
    (o : Opened File) : Type 0 where
  pub machine : IsOpened opens (Some (file_of job)) o.machine
  pub second : IsOpened opens (second_file_of job) o.second
  pub expects : IsOpened opens (expected_of job) o.expects

-- The first of them that can't be opened.
abbrev pub AreUnopened : {File : Type 0} → (opens : List ℕ → Result File ErrorKind → Type 0) →
    Job → Fault → Type 0
AreUnopened {File} opens job f =
    IsUnopened opens (Some (file_of job)) f
    ⊎ ((machine : Given File) × IsOpened opens (Some (file_of job)) machine
    × (IsUnopened opens (second_file_of job) f
    ⊎ ((second : Given File) × IsOpened opens (second_file_of job) second
    × IsUnopened opens (expected_of job) f)))

-- A job was done on the files that it names, or the first of them that can't be opened was told. Or
-- there was no memory to tell of it.
abbrev pub IsPerformedOn : {File : Type 0} → (opens : List ℕ → Result File ErrorKind → Type 0) →
    (gives : File → Gives) → (explains : Bool) → Job → Sinks → (status : ℕ) → Type 0
IsPerformedOn {File} opens gives explains job s status =
    ((f : Fault) × ((f ≡ fault.NoMemory) ⊎ AreUnopened opens job f)
    × IsFaultTold explains (file_of job) [] f s status)
    ⊎ ((o : Opened File) × AreOpened opens job o
    × IsDoneOrStopped explains job (GivenGives gives o.machine) (GivenGives gives o.second)
    (GivenGives gives o.expects) s status)

-- What it wrote to the output of a run or a replay is true of the machine that its text declares.
abbrev pub IsTrulyDoneOn : {File : Type 0} → (opens : List ℕ → Result File ErrorKind → Type 0) →
    (gives : File → Gives) → Job → (out : Takes) → (status : ℕ) → Type 0
IsTrulyDoneOn {File} opens gives job out status =
    (machine : Given File) × IsOpened opens (Some (file_of job)) machine
    × IsTrulyDone job (GivenGives gives machine) out status

-- Sessions

-- A session was held to its end, with status 0; or a fault ended it, which was reported with status
-- 1. What was told before that stays.
abbrev pub IsHeldOut : (tells : List (List ℕ) → List ℕ) → (known : Option (List ℕ)) → Sinks →
    (status : ℕ) → Type 0
IsHeldOut tells known s status =
    (IsHeld tells known s.out × s.keeps_faults × (status ≡ 0))
    ⊎ ((f : Fault) × IsHeldUpTo tells known s.out f × IsReported s.faults f × (status ≡ 1))

-- It was held on the machine that a text declares.
abbrev pub IsHeldBy : StepJob → (machine : Gives) → (known : Option (List ℕ)) → Sinks →
    (status : ℕ) → Type 0
IsHeldBy step machine known s status =
    (text : List ℕ) × (m : Machine) × machine (Ok text) × (machine_of_text text ≡ Ok m)
    × IsHeldOut (session_of step text m) known s status

-- It was held on the machine text in a file, or the fault of that was told. A job of its kind that
-- is given no input comes to nothing but a fault.
abbrev pub IsHeldOn : {File : Type 0} → (opens : List ℕ → Result File ErrorKind → Type 0) →
    (gives : File → Gives) → (explains : Bool) → StepJob → (known : Option (List ℕ)) → Sinks →
    (status : ℕ) → Type 0
IsHeldOn {File} opens gives explains step known s status =
    ((f : Fault) × ((f ≡ fault.NoMemory) ⊎ IsUnopened opens (Some step.file.now) f)
    × IsFaultTold explains step.file.now [] f s status)
    ⊎ ((machine : Given File) × IsOpened opens (Some step.file.now) machine
    × (IsPerformed explains (Step step) (GivenGives gives machine) gives_nothing gives_nothing s
    status
    ⊎ IsHeldBy step (GivenGives gives machine) known s status))
