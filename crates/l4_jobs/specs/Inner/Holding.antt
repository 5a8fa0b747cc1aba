-- What a session has come to behind some lines, and on a text.
use Rattle.std.specs.Prelude.{◌≡◌, ◌⊎◌, ◌++◌, ◌∷◌, ℕ, Bool, true, Option, None, Some, Ok, List, []}
use Rattle.l4_model.specs.Machine.{Machine}
use Rattle.l4_core_model.specs.Schedules.{Entry}
use Rattle.l4_chart.specs.Listings.{Listing}
use Rattle.l4_chart.specs.declared.whole.TextForm.{TextForm}
use Rattle.l4_script.specs.Versions.{machine_of_text}
use Rattle.l4_commands.specs.declared.job.Job.TheVariants.{Step}
use Rattle.l4_commands.specs.declared.job.StepJob.{StepJob}
use Rattle.l4_steps.specs.Sessions.{IsSession, lines_of, told_of}
use Rattle.l4_jobs.specs.Explanations.{IsExplained}
use Rattle.l4_jobs.specs.Inputs.{gives_nothing}
use Rattle.l4_jobs.specs.Jobs.{IsFaultFor}
use Rattle.l4_jobs.specs.Performing.{IsHeldOut, Sinks}
use Rattle.l4_jobs.specs.Steps.{session_of}
use Rattle.l4_jobs.specs.declared.fault.Fault.{Fault}
use Rattle.l4_jobs.specs.declared.fault.Fault.TheVariants as fault

-- A line was read, and then there are the others.
abbrev pub GivesLine : (old new : Option (List ℕ)) → (line : List ℕ) → Type 0
GivesLine None new line = Unit {0}
GivesLine (Some bytes) None line = ⊥
GivesLine (Some bytes) (Some left) line = lines_of bytes ≡ line ∷ lines_of left

-- These lines were read.
abbrev pub HasLines : (old new : Option (List ℕ)) → (read : List (List ℕ)) → Type 0
HasLines None new read = Unit {0}
HasLines (Some bytes) None read = ⊥
HasLines (Some bytes) (Some left) read = lines_of bytes ≡ read ++ lines_of left

-- They were answered, and the session goes on behind these entries.
pub record IsBehind (m : Machine) (listing : Listing) (form : TextForm)
    (known left : Option (List ℕ)) (out : List ℕ → Bool → Type 0) (es : List Entry) : Type 0 where
  pub session : IsSession m es
  pub read : List (List ℕ)
  pub told : List ℕ
  pub has : HasLines known left read
  pub goes_on :
      (lines : List (List ℕ)) →
      told_of m listing form (read ++ lines) [] ≡ told ++ told_of m listing form lines es
  pub wrote : out told true

-- On a text, as it was read: its fault was told, or that there is no memory to tell it, or the
-- session was held.
abbrev pub IsTextHeld : (explains : Bool) → StepJob → (text : List ℕ) →
    (known : Option (List ℕ)) → Sinks → (status : ℕ) → Type 0
IsTextHeld explains step text known s status =
    ((f : Fault)
    × ((f ≡ fault.NoMemory)
    ⊎ IsFaultFor (Step step) (machine_of_text text) gives_nothing gives_nothing f)
    × s.keeps_out
    × (IsExplained explains step.file.now text s.faults f
    ⊎ IsExplained explains step.file.now text s.faults fault.NoMemory)
    × (status ≡ 1))
    ⊎ ((m : Machine) × (machine_of_text text ≡ Ok m)
    × IsHeldOut (session_of step text m) known s status)
