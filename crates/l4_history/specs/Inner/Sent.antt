-- The steps of a send that its receiver takes at once.
use Rattle.std.specs.Prelude.{List, [], ◌∷◌}
use Rattle.l4_model.specs.Steps.{Step, Begin, Queue}
use Rattle.l4_types.specs.declared.step_ref.DeliveryRef.{DeliveryRef}
use Rattle.l4_types.specs.StepView.{delivered}

-- It begins, it is queued, and it is delivered.
abbrev pub sent : DeliveryRef → List Step
sent d = Begin d.name ∷ Queue d.name ∷ delivered d ∷ []
