-- Whether there is something to do.
use Rattle.std.proofs.Common.{◌≡◌, ℕ, true, false, Option, Some, None, is_some, [], ◌∷◌, refl, ap, sym, ◌∙◌}
use Rattle.std.specs.Prelude.{slice_get}
use Rattle.std.specs.Option.{option_map}
use Rattle.l4_core_model.specs.Plain.{due_block}
use Rattle.l4_core_model.specs.Turns as turns
use Rattle.l4_core_model.specs.Turns.{first_some, ByDue, ByReady}
use Rattle.l4_core.specs.declared.known.duties.Duty.{Duty}
use Rattle.l4_core.specs.Inner.Choosing.{duty_of, IsFound}
use Rattle.l4_core.specs.Inner.Covered.{HasNoDuty}
use Rattle.l4_core.specs.Processor.{Processor}
use Rattle.l4_core.proofs.Choosing.{chooses_duty, chooses_other}

pub with_duty : (p : Processor) (o : Option (ℕ × Duty)) → IsFound o p → is_some o ≡ true → true ≡ is_some (turns.choice p.machine p.cpu p.local)
with_duty p None found e = cc
with_duty p (Some x) found e = sym (ap is_some (chooses_duty p.machine p.cpu p.local x.0 (duty_of p.local.owed x.0 x.1) found))

pub no_duty : (p : Processor) (o : Option (ℕ × Duty)) → IsFound o p → is_some o ≡ false → HasNoDuty p.machine p.cpu p.local
no_duty p None found e = found
no_duty p (Some x) found e = cc

ready_is : (o q : Option ℕ) → is_some o ≡ false → is_some q ≡ is_some (first_some (option_map ByDue o ∷ option_map ByReady q ∷ []))
ready_is None None e = refl
ready_is None (Some i) e = refl
ready_is (Some i) q e = cc

pub with_ready : (p : Processor) → HasNoDuty p.machine p.cpu p.local → is_some (due_block p.local.clock p.local.lists.armed) ≡ false → is_some (slice_get p.local.lists.ready 0) ≡ is_some (turns.choice p.machine p.cpu p.local)
with_ready p none e = ready_is _ (slice_get p.local.lists.ready 0) e ∙ sym (ap is_some (chooses_other p.machine p.cpu p.local none))
