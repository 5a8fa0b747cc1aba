-- What no listed ending has, no ending has.
use Rattle.std.proofs.Common.{◌≡◌, ℕ, ◌≤◌, Bool, true, false, ◌⊎◌, inl, inr, List, ◌∙◌}
use Rattle.l4_model.specs.Machine.{Machine}
use Rattle.l4_model.specs.World.{World}
use Rattle.l4_model.specs.Steps.{Step}
use Rattle.l4_futures.specs.Endings.{IsListed, AreAllEndings, length_of}
use Rattle.l4_futures.specs.Inner.Asked.{TellsNoneApart, IsNoneListed, IsNoneReached}
use Rattle.l4_futures.specs.Stuck.{is_stuck_world}
use Rattle.l4_futures.proofs.Stuck.{stuck_same}

pub none_asked : (m : Machine) (traces : List (List Step)) (depth : ℕ) (is_whole : Bool) (asked : World → Bool) → TellsNoneApart asked → AreAllEndings m traces depth is_whole → IsNoneListed m traces asked → IsNoneReached m depth is_whole asked
none_asked m traces depth is_whole asked same all none h w e near = by (listed near)
  where
    listed : (length_of h ≤ depth) ⊎ (is_whole ≡ true) → IsListed m traces w (length_of h)
    listed (inl short) = all.complete h w e short
    listed (inr whole) = all.whole whole h w e

    by : IsListed m traces w (length_of h) → asked w ≡ false
    by l = same w l.world l.as_good ∙ none l.place l.trace l.world l.at l.reaches

pub none_stuck : (m : Machine) (traces : List (List Step)) (depth : ℕ) (is_whole : Bool) → AreAllEndings m traces depth is_whole → IsNoneListed m traces is_stuck_world → IsNoneReached m depth is_whole is_stuck_world
none_stuck m traces depth is_whole all none = none_asked m traces depth is_whole is_stuck_world stuck_same all none
