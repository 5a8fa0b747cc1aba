-- A begun send goes to its destination.
use Rattle.std.proofs.Common.{◌≡◌, ℕ, true, false, cond, Option, Some, None, refl, ap, sym, ◌∙◌}
use Rattle.l4_model.specs.Machine.{Machine}
use Rattle.l4_model.specs.World.{Send}
use Rattle.l4_core_model.specs.Local.{destination_place, is_own}
use Rattle.l4_core_model.specs.Acts.{arrives, send_goes_to, split_receiver, posts_send}
use Rattle.l4_core.specs.Processor.{Processor}
use Rattle.l4_core.specs.EventBuffers.{EventBuffer}
use Rattle.l4_core.specs.Inner.Turning.{work, Does}

pub goes_away : (p u : Processor) (r i : ℕ) (send : Send) (before after : EventBuffer) (o : Option ℕ) → o ≡ Some r → is_own p.machine p.cpu r ≡ false → Does (posts_send p.machine r i send) p u before after → Does (send_goes_to p.machine p.cpu i send o) p u before after
goes_away p u r i send before after o e away doing = record {
  machine = doing.machine;
  cpu = doing.cpu;
  stamp = doing.stamp;
  kept = doing.kept;
  work = doing.work ∙ sym (ap (λ q. send_goes_to p.machine p.cpu i send q (work p.local before)) e ∙ ap (λ b. cond b (arrives p.machine p.cpu r i (work p.local before)) (posts_send p.machine r i send (work p.local before))) away);
}

pub goes_here : (p u : Processor) (r i : ℕ) (send : Send) (before after : EventBuffer) (o : Option ℕ) → o ≡ Some r → is_own p.machine p.cpu r ≡ true → Does (arrives p.machine p.cpu r i) p u before after → Does (send_goes_to p.machine p.cpu i send o) p u before after
goes_here p u r i send before after o e here doing = record {
  machine = doing.machine;
  cpu = doing.cpu;
  stamp = doing.stamp;
  kept = doing.kept;
  work = doing.work ∙ sym (ap (λ q. send_goes_to p.machine p.cpu i send q (work p.local before)) e ∙ ap (λ b. cond b (arrives p.machine p.cpu r i (work p.local before)) (posts_send p.machine r i send (work p.local before))) here);
}

-- A send whose receiver is here is not split.
pub stays_here : (m : Machine) (cpu r : ℕ) (o : Option Send) (send : Send) → o ≡ Some send → destination_place m send.to ≡ Some r → is_own m cpu r ≡ true → split_receiver m cpu o ≡ None
stays_here m cpu r o send has to here = ap (split_receiver m cpu) has ∙ (rw (to, here) refl)
