-- A search whose endings are written as soon as each is found.
use Rattle.std.specs.Prelude.{◌≡◌, ◌⊎◌, ◌&&◌, ℕ, Bool, true, false, not, is_none, if◌then◌else◌, Option, None, Some, Ok, List}
use Rattle.std.specs.Option.{option_copied}
use Rattle.l4_model.specs.Machine.{Machine}
use Rattle.l4_expect.specs.Expected.{Expected}
use Rattle.l4_questions.specs.Beside.{Shown}
use Rattle.l4_questions.specs.Told.{HasBegun, IsToldFirst, PlacedHasBegun, Takes}
use Rattle.l4_questions.specs.declared.question.Question.{Question}
use Rattle.l4_questions.specs.declared.question.QuestionFault.TheVariants as question
use Rattle.l4_questions.specs.declared.teller.TellFault.{TellFault}
use Rattle.l4_questions.specs.declared.teller.TellFault.TheVariants.{NoAnswer, NotTold}
use Rattle.l4_script.specs.Versions.{machine_of_text}
use Rattle.l4_commands.specs.declared.job.EndingsJob.{EndingsJob}
use Rattle.l4_commands.specs.declared.job.Job.{Job}
use Rattle.l4_commands.specs.declared.job.Job.TheVariants.{Endings}
use Rattle.l4_commands.specs.declared.job.Scheduler.{Scheduler}
use Rattle.l4_commands.specs.declared.job.Scheduler.TheVariants.{Any, Placed}
use Rattle.l4_jobs.specs.Expectations.{IsExpected, scope_of}
use Rattle.l4_jobs.specs.Inputs.{Gives, gives_nothing}
use Rattle.l4_jobs.specs.Jobs.{IsFaultFor}
use Rattle.l4_jobs.specs.Outputs.{Output}
use Rattle.l4_jobs.specs.Searches.{IsAnswerDone, fault_of_endings, fault_of_question, fault_of_rests, question_of, shown_of}
use Rattle.l4_jobs.specs.declared.fault.Fault.{Fault}
use Rattle.l4_jobs.specs.declared.fault.Fault.TheVariants as fault
use Rattle.l4_jobs.specs.declared.streaming.Stop.{Stop}
use Rattle.l4_jobs.specs.declared.streaming.Stop.TheVariants as stop

-- Endings are written so where they are printed in lines: not where a trace or the answer about a
-- condition is printed in their place, and not as objects.

abbrev pub is_streamed : EndingsJob → Bool
is_streamed e = is_none e.trace && is_none e.always && not e.json

abbrev pub streamed_of : Job → Option EndingsJob
streamed_of (Endings e) = if is_streamed e then Some e else None
streamed_of _ = None

-- A search on the machine that a text declares, with what is expected of each ending.
pub record IsBegun (search : EndingsJob) (text : List ℕ) (expects : Gives) (m : Machine)
    (expected : Option (List Expected)) : Type 0 where
  pub declares : machine_of_text text ≡ Ok m
  pub asked :
      IsExpected (option_copied search.expected) (scope_of (Endings search)) expects expected
  pub rests : fault_of_rests m search ≡ None

-- All endings of at most so many steps, or events, were found, and the first of them written, or a
-- beginning of these.
abbrev pub HasBegunBy : Scheduler → Takes → Machine → Question → Shown → (all : Bool) → Type 0
HasBegunBy Any = HasBegun
HasBegunBy Placed = PlacedHasBegun

-- Such a search was stopped.
pub record IsCutOff (search : EndingsJob) (text : List ℕ) (expects : Gives) (out : Takes)
    (all : Bool) : Type 0 where
  pub machine : Machine
  pub expected : Option (List Expected)
  pub begun : IsBegun search text expects machine expected
  pub wrote :
      HasBegunBy search.scheduler out machine (question_of search) (shown_of text search) all

-- It was not, and this is left of what it comes to.
pub record IsAllButWritten (search : EndingsJob) (text : List ℕ) (expects : Gives) (out : Takes)
    (left : Output) : Type 0 where
  pub machine : Machine
  pub expected : Option (List Expected)
  pub begun : IsBegun search text expects machine expected
  pub answered :
      IsToldFirst out
      (λ lines. IsAnswerDone search text machine expected (record left { lines = lines }))
      left.lines

-- Why there is no answer: a fault before anything was written, or what a search has begun.
abbrev pub IsStop : (is_fault : Fault → Type 0) → (begun : (all : Bool) → Type 0) →
    (keeps_out : Type 0) → Stop → Type 0
IsStop is_fault begun keeps_out (stop.Faulty f) = ((f ≡ fault.NoMemory) ⊎ is_fault f) × keeps_out
IsStop is_fault begun keeps_out stop.NoMemory = begun true
IsStop is_fault begun keeps_out stop.NotWritten = begun false

-- Of a search on a machine, and on what its sources give.

abbrev pub IsSearchStop : EndingsJob → (text : List ℕ) → Machine → (out : Takes) →
    (keeps_out : Type 0) → Stop → Type 0
IsSearchStop search text m out keeps_out =
    IsStop (λ f. fault_of_endings m search ≡ Some f)
    (λ all. (fault_of_rests m search ≡ None)
    × HasBegunBy search.scheduler out m (question_of search) (shown_of text search) all)
    keeps_out

abbrev pub IsStopFor : EndingsJob → (text : List ℕ) → (expects : Gives) → (out : Takes) →
    (keeps_out : Type 0) → Stop → Type 0
IsStopFor search text expects out keeps_out =
    IsStop (IsFaultFor (Endings search) (machine_of_text text) gives_nothing expects)
    (IsCutOff search text expects out) keeps_out

abbrev pub stop_of : TellFault → Stop
stop_of NotTold = stop.NotWritten
stop_of (NoAnswer question.NoMemory) = stop.NoMemory
stop_of (NoAnswer f) = stop.Faulty (fault_of_question f)

-- The fault that is told of a search that was stopped.
abbrev pub fault_of_stop : (all : Bool) → Fault
fault_of_stop true = fault.NoMemory
fault_of_stop false = fault.Write
