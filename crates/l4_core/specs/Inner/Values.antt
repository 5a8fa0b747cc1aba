-- An event as a value.
use Rattle.std.specs.Prelude.{◌≡◌, ℕ, Option, Some, None, List, map}
use Rattle.l4_core_model.specs.Acts.{Work}
use Rattle.l4_core_model.specs.Letters.{Letter}
use Rattle.l4_core_model.specs.Turns as turns
use Rattle.l4_types.specs.StepView.{step_of}
use Rattle.l4_types.specs.declared.steps.Event.{Event}
use Rattle.l4_core.specs.declared.processor.values.Turn.{Turn}
use Rattle.l4_core.specs.declared.processor.values.Turn.TheVariants.{Did, Idle}
use Rattle.l4_core.specs.Processor.{Processor}

-- An event was told, as a value, with the letters that it posts.
pub record IsToldEvent (event : Option Work) (old new : Processor) (told : Event)
    (letters : List (ℕ × Letter)) : Type 0 where
  pub machine : new.machine ≡ old.machine
  pub cpu : new.cpu ≡ old.cpu
  pub is : event ≡ Some (record {
    local = new.local;
    steps = map step_of told.steps.items;
    letters = letters;
  })
  pub stamped : told.stamp ≡ new.local.stamp

-- There is no such event, and nothing has changed.
pub record IsUntold (event : Option Work) (old new : Processor) : Type 0 where
  pub none : event ≡ None
  pub same : new ≡ old

abbrev pub Turned : (old new : Processor) → Turn → Type 0
Turned old new (Did event letters) = IsToldEvent (turns.turn old.machine old.cpu old.local) old new
    event letters.items
Turned old new Idle = IsUntold (turns.turn old.machine old.cpu old.local) old new
