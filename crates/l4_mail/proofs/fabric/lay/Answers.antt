use Rattle.std.proofs.Common.{refl, sym, ap, Some}
use Rattle.l4_mail.specs.Ends.{outlet_ring}
use Rattle.l4_mail.proofs.Growing.{outlet_gained, inlet_gained}
use Rattle.l4_mail.proofs.fabric.lay.Goals as goal

pub returns : goal.returns
returns c = (
  outlet_ring c.in_ok-outlet.outlet,
  c.in_ok-outlet.ensures.room,
  outlet_gained _ _ (Some c.in_ok-outlet.outlet) _ refl refl c.in_ok-push.ensures.items refl c.in_ok-outlet.ensures.posted,
  inlet_gained _ _ (Some c.in_ok-outlet.inlet) _ refl refl c.in_ok-push-2.ensures.items (ap Some (sym c.in_ok-outlet.ensures.ring)) c.in_ok-outlet.ensures.taken.0 c.in_ok-outlet.ensures.taken.1,
)
