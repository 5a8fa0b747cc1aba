-- What becomes of a step that is taken, or refused.
use Rattle.std.specs.Prelude.{◌≡◌, Bool, true, false, Some, None, Result, Ok, Err}
use Rattle.l4_model.specs.Steps.{Step, next}
use Rattle.l4_worlds.specs.Late.{next_late}
use Rattle.l4_audit.specs.declared.reasons.StepFault.{StepFault}
use Rattle.l4_audit.specs.declared.reasons.StepFault.TheVariants.{NoMemory, Refused}
use Rattle.l4_audit.specs.Inner.Audited.{Audited}
use Rattle.l4_audit.specs.Reasons.{reason}

-- The step was possible, and this is the world after it.
pub record IsTaken (a : Audited) (step : Step) (b : Audited) : Type 0 where
  pub machine : b.machine ≡ a.machine
  pub possible : next a.machine a.world step ≡ Some b.world

-- The step was not possible, and this is why.
abbrev pub Explains : Audited → Step → StepFault → Type 0
Explains a step NoMemory = Unit {0}
Explains a step (Refused r) = reason a.machine a.world step ≡ Some r

-- A step was taken, or it was refused and nothing has changed.
abbrev pub Judged : {A : Type 0} → Audited → Step → Result A StepFault → Audited → Type 0
Judged a step (Ok done) b = IsTaken a step b
Judged a step (Err fault) b = Explains a step fault × (b ≡ a)

-- A step was taken as it is possible now, or refused as it is not, and nothing has changed.
abbrev pub JudgedNow : Audited → Step → (taken : Bool) → Audited → Type 0
JudgedNow a step true b = IsTaken a step b
JudgedNow a step false b = (next a.machine a.world step ≡ None) × (b ≡ a)

-- The step was possible where each finite period is over, and this is the world after it.
pub record IsTakenLate (a : Audited) (step : Step) (b : Audited) : Type 0 where
  pub machine : b.machine ≡ a.machine
  pub possible : next_late a.machine a.world step ≡ Some b.world

-- A step was taken as it is possible there, or refused as it is not, and nothing has changed.
abbrev pub JudgedLate : Audited → Step → (taken : Bool) → Audited → Type 0
JudgedLate a step true b = IsTakenLate a step b
JudgedLate a step false b = (next_late a.machine a.world step ≡ None) × (b ≡ a)
