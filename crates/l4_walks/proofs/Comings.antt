-- What a walk comes to.
use Rattle.std.proofs.Common.{◌≡◌, ℕ, ◌≤◌, true, Option, None, Some, List, length, refl, sym, subst, arith}
use Rattle.std.specs.Prelude.{IsSome}
use Rattle.l4_model.specs.Machine.{Machine}
use Rattle.l4_model.specs.World.{World}
use Rattle.l4_worlds.specs.Timeless.{timeless}
use Rattle.l4_worlds.specs.Histories.{IsTimed, IsStillLate}
use Rattle.l4_worlds.proofs.Reaching.{still_from}
use Rattle.l4_explore.specs.Tries.{deepest}
use Rattle.l4_futures.specs.Choices.{world_after}
use Rattle.l4_futures.specs.Inner.Ends.{is_end}
use Rattle.l4_futures.specs.Traces.{trace_along}
use Rattle.l4_futures.proofs.Led.{is_led}
use Rattle.l4_futures.proofs.Untimed.{settled_untimed}
use Rattle.l4_futures.proofs.Ways.{at_end}
use Rattle.l4_outlooks.specs.Inner.Foreseen.{Foreseen, IsLed}
use Rattle.l4_walks.specs.Inner.Walked.{IsChoice, LeadsToEnding}

-- Where entries lead to a world in which nothing is possible, their history comes to an ending.
pub leads_to_ending : (m : Machine) (most : ℕ) (s : List ℕ) (w : World) → IsTimed m →
    most ≤ deepest → length s ≤ most → world_after m s ≡ Some w → is_end m w ≡ true →
    LeadsToEnding m most s
leads_to_ending m most s w timed short few at ends =
    let led = is_led m s w timed (omega (arith, short, few)) at in
    let still : IsStillLate m (timeless led.world)
    = subst (IsStillLate m) (sym led.alike) (at_end m w ends) in
    record {
      leads = record { leads = subst IsSome (sym at) refl; few = omega (arith, short, few) };
      world = led.world;
      ending = record {
        comes = record { reaches = led.reaches; still = still_from m led.world still };
        untimed = settled_untimed m (trace_along m s) led.world led.reaches still;
      };
      near = omega (arith, led.long, few);
    }

-- So do the entries of a walk, where it is at an end.
pub comes : (m : Machine) (most : ℕ) (entries : List ℕ) (o : Foreseen) → IsTimed m →
    most ≤ deepest → length entries ≤ most → IsLed m entries o →
    is_end o.machine o.world ≡ true → LeadsToEnding m most entries
comes m most entries o timed short few led ends =
    leads_to_ending m most entries o.world timed short few led.leads
    (subst (λ n. is_end n o.world ≡ true) led.machine ends)

-- Where no entry was chosen, it is.
pub chose_none : (m : Machine) (w : World) (chosen : Option ℕ) → chosen ≡ None →
    IsChoice m w chosen → is_end m w ≡ true
chose_none m w chosen none is = subst (IsChoice m w) none is
