use Rattle.std.proofs.Common.{◌≡◌, false, ◌&&◌, Option, None, Some, refl, sym, ap, ◌∙◌}
use Rattle.l4_model.specs.Machine.{Machine}
use Rattle.l4_model.specs.World.{Send}
use Rattle.l4_model.specs.Conditions.{Found, is_refusable}
use Rattle.l4_core_model.specs.Acts.{zero_refusable}
use Rattle.l4_core_model.specs.Local.{held, thread}
use Rattle.l4_core.specs.Inner.Covered.{is_zero_send}
use Rattle.l4_core.proofs.known.ProcessorState.zero_refusable.Goals as goal

-- A send that may wait is not refused for its timeout.
not_refused : (m : Machine) (r : Found) (send : Option Send) → is_zero_send send ≡ false → false ≡ zero_refusable m r send
not_refused m r None e = refl
not_refused m r (Some send) e = sym (ap (λ b. b && is_refusable m send (Some r)) e)

pub returns-then-not-is_zero : goal.returns-then-not-is_zero
returns-then-not-is_zero c =
    let p = c.args.self.now in
    not_refused p.machine (held p.machine p.local c.args.receiver) (thread p.local c.args.sender).send (sym c.is_zero.ensures ∙ c.if-not-is_zero.true)
