-- Why a search for stuck threads was cut.
use Rattle.std.proofs.Common.{ℕ, ◌≡◌, ◌≤◌, ◌∙◌, ◌⊎◌, inl, inr, Bool, List, length, map, subst, sym}
use Rattle.std.proofs.lemmas.List.{length-map}
use Rattle.l4_model.specs.Machine.{Machine}
use Rattle.l4_worlds.specs.Histories.{IsTimed}
use Rattle.l4_explore.specs.Search.{Seen, IsCut, IsExplored}
use Rattle.l4_explore.specs.Tries.{deepest}
use Rattle.l4_futures.specs.Endings.{IsCutByDepth, IsCutByWorlds}
use Rattle.l4_futures.specs.Inner.Search.{schedules_of, state_after}
use Rattle.l4_futures.specs.Traces.{trace_along}
use Rattle.l4_futures.proofs.Searched.{are_found, cut_by}
use Rattle.l4_forever.specs.Inner.Walks.{AreWalked}
use Rattle.l4_stuck.specs.Stuck.{IsCutOff}

pub cut_off : (m : Machine) (found : List Seen) (asked most depth : ℕ) (is_whole : Bool) →
    IsTimed m → depth ≤ deepest →
    IsExplored (state_after m) (AreWalked m) found depth is_whole →
    IsCut (state_after m) (AreWalked m) found asked most depth → IsCutOff m asked most
cut_off m found asked most depth is_whole timed low ex cut = record {
  histories = map (trace_along m) (schedules_of found);
  depth = depth;
  are = are_found m timed found asked most depth is_whole low (AreWalked m) ex;
  cut = by (cut_by m timed found asked most depth is_whole low (AreWalked m) ex cut);
}
  where
    long : length (map (trace_along m) (schedules_of found)) ≡ length found
    long = length-map (schedules_of found) (trace_along m) ∙ length-map found (λ (s : Seen). s.schedule)

    by : IsCutByDepth (map (trace_along m) (schedules_of found)) asked depth
        ⊎ IsCutByWorlds m (length found) asked most depth →
        IsCutByDepth (map (trace_along m) (schedules_of found)) asked depth
        ⊎ IsCutByWorlds m (length (map (trace_along m) (schedules_of found))) asked most depth
    by (inl deep) = inl deep
    by (inr full) = inr (subst (λ n. IsCutByWorlds m n asked most depth) (sym long) full)
