-- A session: what is told of the lines of an input.
use Rattle.std.specs.Prelude.{◌≡◌, ◌⊎◌, ◌++◌, ℕ, Bool, true, false, Option, None, Some, List, [], codes}
use Rattle.l4_model.specs.Machine.{Machine}
use Rattle.l4_chart.specs.Listings.{listing_of}
use Rattle.l4_commands.specs.declared.job.StepJob.{StepJob}
use Rattle.l4_steps.specs.Sessions.{lines_of, session_text}
use Rattle.l4_jobs.specs.Inputs.{FailsWith, Gives}
use Rattle.l4_jobs.specs.Outputs.{Output}
use Rattle.l4_jobs.specs.Searches.{text_form}
use Rattle.l4_streams.specs.Streams.{MayGive}
use Rattle.l4_jobs.specs.declared.fault.Fault.{Fault}
use Rattle.l4_jobs.specs.declared.fault.Fault.TheVariants as fault

-- What a session tells of these lines, on the machine that a text declares.
abbrev pub session_of : StepJob → (text : List ℕ) → Machine → (lines : List (List ℕ)) → List ℕ
session_of step text m lines = session_text m (listing_of text) (text_form step.chart) lines

-- The lines of an input whose bytes are known. Of another they may be any.
abbrev pub AreLines : (known : Option (List ℕ)) → (lines : List (List ℕ)) → Type 0
AreLines None lines = Unit {0}
AreLines (Some input) lines = lines ≡ lines_of input

-- All that a session tells of its lines was written.
abbrev pub IsHeld : (tells : List (List ℕ) → List ℕ) → (known : Option (List ℕ)) →
    (out : List ℕ → Bool → Type 0) → Type 0
IsHeld tells known out = (lines : List (List ℕ)) × AreLines known lines × out (tells lines) true

-- Its input can't be read, whose bytes may be known.
abbrev pub IsInputUnread : (known : Option (List ℕ)) → Fault → Type 0
IsInputUnread known f = FailsWith (codes "-") (MayGive known) f

-- What ends a session before its end, while its output takes all: no memory, or an input that can't
-- be read.
abbrev pub EndsSession : (known : Option (List ℕ)) → Fault → Type 0
EndsSession known f = (f ≡ fault.NoMemory) ⊎ IsInputUnread known f

-- A fault ended it, and a beginning of that was written. What the output does not take may break off
-- anywhere, and then that is the fault.
abbrev pub IsHeldUpTo : (tells : List (List ℕ) → List ℕ) → (known : Option (List ℕ)) →
    (out : List ℕ → Bool → Type 0) → Fault → Type 0
IsHeldUpTo tells known out f =
    (lines : List (List ℕ)) × AreLines known lines
    × ((told left : List ℕ) × (tells lines ≡ told ++ left)
    × ((EndsSession known f × out told true) ⊎ ((f ≡ fault.Write) × out told false)))

-- What a session comes to whose input is there.
pub record IsStepDone (step : StepJob) (text : List ℕ) (m : Machine) (input : List ℕ) (o : Output) :
    Type 0 where
  pub lines_are : o.lines ≡ session_of step text m (lines_of input)
  pub said : o.said ≡ []
  pub status_is : o.status ≡ 0
  pub unrecorded : o.list ≡ None

-- Its input can't be read.
abbrev pub IsStepFault : (second : Gives) → Fault → Type 0
IsStepFault second f = FailsWith (codes "-") second f
