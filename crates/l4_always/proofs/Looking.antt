-- What a search has looked at, whatever it goes on by.
use Rattle.std.specs.Prelude.{slice_get}
use Rattle.std.proofs.Common.{subst, ◌≡◌, ℕ, ◌+◌, ◌≤◌, Bool, false, List, length, ap, ◌∙◌}
use Rattle.std.proofs.lemmas.List.{length-map}
use Rattle.l4_model.specs.Machine.{Machine}
use Rattle.l4_model.specs.World.{World}
use Rattle.l4_worlds.specs.Histories.{IsTimed}
use Rattle.l4_explore.specs.Search.{Offers, Seen, IsExplored}
use Rattle.l4_invariants.specs.Inner.Searched.{IsNoneMet}
use Rattle.l4_futures.specs.Choices.{world_after}
use Rattle.l4_futures.specs.Inner.Search.{state_after, schedules_of}
use Rattle.l4_futures.proofs.Searched.{found_by, are_found, lead}
use Rattle.l4_always.specs.Always.{AreLookedAt, AreUnmet, IsMetByNone}

module _ (m : Machine) (timed : IsTimed m) (found : List Seen) (asked most depth : ℕ) (is_whole : Bool)
    (low : depth ≤ 1000000) (offers : Offers) (ex : IsExplored (state_after m) offers found depth is_whole) where
  pub looked_at : AreLookedAt m (schedules_of found) (length found) (depth + 1)
  looked_at = record {
    count = length-map found (λ (s : Seen). s.schedule);
    lead = lead m timed found asked most depth is_whole low offers ex;
    are = are_found m timed found asked most depth is_whole low offers ex;
  }

  -- Where no found world meets a condition, none of them does.
  pub met_by_none : (condition : World → Bool) → IsNoneMet m found condition → IsMetByNone m condition (schedules_of found)
  met_by_none condition none i schedule w at leads =
      let f = found_by found i schedule at in
      none i w (record { inside = f.inside; leads = ap (world_after m) f.is ∙ leads })

-- So where as many worlds as may be were looked at.
pub are_unmet : (m : Machine) (timed : IsTimed m) (found : List Seen) (depth most : ℕ) (offers : Offers) (condition : World → Bool) → depth ≤ 1000000 →
    IsExplored (state_after m) offers found depth false → length found ≡ most → IsNoneMet m found condition → AreUnmet m condition most
are_unmet m timed found depth most offers condition low ex full none = record {
  schedules = schedules_of found;
  long = depth + 1;
  are = subst (λ n. AreLookedAt m (schedules_of found) n (depth + 1)) full (looked_at m timed found most most depth false low offers ex);
  none = met_by_none m timed found most most depth false low offers ex condition none;
}
