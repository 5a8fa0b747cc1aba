-- A text that is read forward, line by line.
use Rattle.std.specs.Prelude.{ℕ, ◌≡◌, ◌+◌, ◌++◌, true, Option, Some, None, Result, Ok, Err, List, [], ◌∷◌}
use Rattle.l4_model.specs.Steps.{Step, Deliver}
use Rattle.l4_types.specs.declared.step_ref.DeliveryRef.{DeliveryRef}
use Rattle.l4_types.specs.declared.steps.Step.{Step as StepRef}
use Rattle.l4_types.specs.StepView.{seen}
use Rattle.l4_words.specs.Lines.{parts_of}
use Rattle.l4_trace.specs.declared.fault.TraceFault.{TraceFault}
use Rattle.l4_trace.specs.declared.fault.TraceFault.TheVariants.{NoMemory, Line}
use Rattle.l4_trace.specs.declared.frequent.Told.{Told}
use Rattle.l4_trace.specs.Lines.{has_line, line_of}
use Rattle.l4_trace.specs.Reading.{step_of_line, steps_of}

-- How many lines were read, and the text that follows them.
pub record Ahead : Type 0 where
  pub read : ℕ
  pub rest : List ℕ

-- The next line is that of `step`, and `new` is behind that line.
pub record IsNext (old : Ahead) (step : Step) (new : Ahead) : Type 0 where
  pub line : List ℕ
  pub cut : parts_of old.rest ≡ line ∷ parts_of new.rest
  pub spelled : step_of_line line ≡ Some step
  pub counted : new.read ≡ old.read + 1

-- Nothing is left, or a step was read, or the next line is faulty and the reader stays before it.
abbrev pub ReadsNext : (old : Ahead) → Result (Option (StepRef DeliveryRef)) TraceFault →
    (new : Ahead) → Type 0
ReadsNext old (Ok None) new = (steps_of old.rest ≡ Ok []) × (new ≡ old)
ReadsNext old (Ok (Some step)) new = IsNext old (seen step) new
ReadsNext old (Err fault) new =
    (fault ≡ Line (old.read + 1)) × (steps_of old.rest ≡ Err 1) × (new ≡ old)

-- The text that follows the lines read is read to its end, or this line is its first faulty one.
abbrev pub ReadsOn : {X : Type 0} → Ahead → Result X TraceFault → Type 0
ReadsOn ahead (Ok x) = (steps : List Step) × (steps_of ahead.rest ≡ Ok steps)
ReadsOn ahead (Err NoMemory) = ⊥
ReadsOn ahead (Err (Line number)) =
    (behind : ℕ) × (steps_of ahead.rest ≡ Err behind) × (number ≡ ahead.read + behind)

-- A text begins with the line of this step, and this follows that line.
pub record BeginsWith (step : Step) (rest text : List ℕ) : Type 0 where
  pub spelled : has_line step ≡ true
  pub whole : text ≡ line_of step ++ rest

-- The delivery of a line, once the words of its message are read.
abbrev pub told_step : Told → (words : List ℕ) → Step
told_step t words = Deliver t.name t.receiver t.shown t.actual t.tag words
