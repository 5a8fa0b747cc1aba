-- How deliveries are seen matters only where a step is one.
use Rattle.std.proofs.Common.{◌≡◌, Some, refl}
use Rattle.l4_types.specs.declared.steps.Step.{Step}
use Rattle.l4_types.specs.declared.steps.Step.TheVariants.{Local, Begin, Queue, Deliver, Wait, SendTimeout, ReceiveTimeout, SendNobody, ReceiveNobody, SendCancel, ReceiveCancel, Drop, Order, Obey, Tick, Retarget}
use Rattle.l4_types.specs.StepView.{delivery_in, step_by}
use Rattle.l4_model.specs.Steps as steps

pub seen_alike : {D : Type 0} (v w : D → steps.Step) (s : Step D) → ((d : D) → delivery_in s ≡ Some d → v d ≡ w d) → step_by v s ≡ step_by w s
seen_alike v w (Local t) alike = refl
seen_alike v w (Begin s) alike = refl
seen_alike v w (Queue s) alike = refl
seen_alike v w (Deliver d) alike = alike d refl
seen_alike v w (Wait t) alike = refl
seen_alike v w (SendTimeout s) alike = refl
seen_alike v w (ReceiveTimeout t) alike = refl
seen_alike v w (SendNobody s) alike = refl
seen_alike v w (ReceiveNobody t) alike = refl
seen_alike v w (SendCancel s) alike = refl
seen_alike v w (ReceiveCancel t) alike = refl
seen_alike v w (Drop s) alike = refl
seen_alike v w (Order caller target what) alike = refl
seen_alike v w (Obey t) alike = refl
seen_alike v w (Tick t) alike = refl
seen_alike v w (Retarget s) alike = refl
