-- What a search of all worlds has looked at.
use Rattle.std.specs.Prelude.{slice_get}
use Rattle.std.specs.Option.{option_map}
use Rattle.l4_explore.specs.Tries.{State, Next}
use Rattle.l4_model.proofs.Chains.{some_is}
use Rattle.std.proofs.Common.{subst, zero, suc, ◌≡◌, ℕ, ◌+◌, ◌<◌, ◌≤◌, Bool, true, false, ◌⊎◌, Some, List, [], ◌∷◌, ◌++◌, length, refl, ap, sym, ◌∙◌}
use Rattle.std.proofs.lemmas.List.{length-map}
use Rattle.l4_model.specs.Machine.{Machine}
use Rattle.l4_model.specs.World.{World, opening}
use Rattle.l4_worlds.specs.Histories.{IsTimed}
use Rattle.l4_explore.specs.Search.{Seen, seen_at, depth_of, AreMet, IsFound, IsExplored, IsCut}
use Rattle.l4_futures.specs.Inner.Codes.{code_of}
use Rattle.l4_futures.specs.Choices.{tried, world_after}
use Rattle.l4_futures.specs.Inner.Search.{state_in, state_after, next_by, nexts, AreTried, schedules_of}
use Rattle.l4_futures.specs.Endings.{IsAmong, IsGoneOn, HasLooked}
use Rattle.l4_futures.proofs.Kept.{one_more, state_led, same_code, as_good}
use Rattle.l4_futures.proofs.Searched.{schedule_at, found_by, are_found, lead, by_whole, cut_by}
use Rattle.l4_futures.proofs.Ways.{in_filter}

module _ (m : Machine) (timed : IsTimed m) (found : List Seen) (asked most depth : ℕ) (is_whole : Bool)
    (low : depth ≤ 1000000) (ex : IsExplored (state_after m) (AreTried m) found depth is_whole) where
  -- A state that was found is among the worlds.
  among : (s t : List ℕ) (v : World) → world_after m s ≡ Some v → IsFound found (state_in m v) t → IsAmong m (schedules_of found) v
  among s t v leads f =
      let x = state_led m (seen_at found f.place).schedule (seen_at found f.place).state (ex.all.reached f.place f.inside) in
      let code : code_of m v ≡ code_of m x.0 = same_code m v x.0 (ap (λ (a : State). a.code) (sym (x.2 ∙ f.is))) in
      record {
        place = f.place;
        schedule = (seen_at found f.place).schedule;
        at = schedule_at found f.place f.inside;
        world = x.0;
        leads = x.1;
        as_good = as_good m timed s (seen_at found f.place).schedule v x.0 leads x.1 code;
      }

  -- So is what a choice leads to that was met.
  met_at : (s : List ℕ) (ns : List Next) (j : ℕ) (n : Next) → AreMet found s ns → slice_get ns j ≡ Some n → IsFound found n.state (s ++ n.entry ∷ [])
  met_at s [] j n met at = cc
  met_at s (x ∷ ns) zero n met at = subst (λ (y : Next). IsFound found y.state (s ++ y.entry ∷ [])) (some_is x n at) met.0
  met_at s (x ∷ ns) (suc j) n met at = met_at s ns j n met.1 at

  gone_on : (i : ℕ) (schedule : List ℕ) → slice_get (schedules_of found) i ≡ Some schedule → (length schedule < depth) ⊎ (is_whole ≡ true) → IsGoneOn m (schedules_of found) schedule
  gone_on i schedule at_s why j w v c leads at_c goes =
      let f = found_by found i schedule at_s in
      let g = ex.gone_on i f.inside (subst (λ s. (length s < depth) ⊎ (is_whole ≡ true)) (sym f.is) why) in
      let here : world_after m (seen_at found i).schedule ≡ Some w = ap (world_after m) f.is ∙ leads in
      let world : g.offered.world ≡ w = some_is g.offered.world w (sym g.offered.leads ∙ here) in
      let n : Next = record { entry = c.entry; state = state_in m v } in
      let next : next_by m w c ≡ Some n = ap (option_map (λ x. record { entry = c.entry; state = state_in m x })) goes in
      let at_n = in_filter (next_by m w) (tried m w) j c n at_c next in
      let are : g.choices ≡ nexts m w = g.offered.are ∙ ap (nexts m) world in
      let met = met_at (seen_at found i).schedule g.choices at_n.0 n g.all_met (ap (λ ns. slice_get ns at_n.0) are ∙ at_n.1) in
      among ((seen_at found i).schedule ++ c.entry ∷ []) ((seen_at found i).schedule ++ c.entry ∷ []) v
      (one_more m (seen_at found i).schedule c.entry (opening m) w v here goes) met

  pub looked : length found ≤ most → (is_whole ≡ true → (depth ≡ depth_of found) × (depth < asked)) →
      (is_whole ≡ false → IsCut (state_after m) (AreTried m) found asked most depth) →
      HasLooked m asked most (length found) depth is_whole
  looked few whole cut = record {
    schedules = schedules_of found;
    count = length-map found (λ (s : Seen). s.schedule);
    few = few;
    are = are_found m timed found asked most depth is_whole low (AreTried m) ex;
    lead = lead m timed found asked most depth is_whole low (AreTried m) ex;
    first = among [] [] (opening m) refl (ex.all.opening (state_in m (opening m)) refl);
    gone_on = gone_on;
    whole = λ w. by_whole m timed found asked most depth is_whole low (AreTried m) ex (whole w);
    cut = λ no. cut_by m timed found asked most depth is_whole low (AreTried m) ex (cut no);
  }
