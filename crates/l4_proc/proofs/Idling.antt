-- Whether a processor has something to do, as a test of its parts.
use Rattle.std.proofs.Common.{◌≡◌, ℕ, [], false, Option, Some, None, refl}
use Rattle.std.specs.Prelude.{is_some}
use Rattle.std.specs.Option.{option_map}
use Rattle.l4_core_model.specs.Turns.{is_busy}
use Rattle.l4_mail.specs.Ports.{kept_from}
use Rattle.l4_proc.specs.Working.{IsIdle}
use Rattle.l4_proc.specs.declared.processor.Processor.{Processor}

none_if : {A : Type 0} (o : Option A) → is_some o ≡ false → o ≡ None
none_if None is = refl
none_if (Some a) is = absurd cc

no_value : {A B : Type 0} (f : A → B) (o : Option A) → is_some o ≡ false → option_map f o ≡ None
no_value f None is = refl
no_value f (Some a) is = absurd cc

was_none : {A B : Type 0} (f : A → B) (o : Option A) → option_map f o ≡ None → is_some o ≡ false
was_none f None is = refl
was_none f (Some a) is = absurd cc

pub idle_then : (p : Processor) → is_some p.worker.hand ≡ false → ((from : ℕ) → kept_from p.port from ≡ []) → is_busy p.worker.core.machine p.worker.core.cpu p.worker.core.local ≡ false → IsIdle p
idle_then p empty kept idle = record {
  refused = record { empty = none_if p.worker.hand empty; none = no_value _ _ idle };
  kept = kept;
}

pub idle_core : (p : Processor) → IsIdle p → is_busy p.worker.core.machine p.worker.core.cpu p.worker.core.local ≡ false
idle_core p idle = was_none _ _ idle.refused.none
