-- The owed retargets of the world are those that are kept beside threads and those that are under way.
use Rattle.std.specs.Prelude.{ℕ, ◌<◌, ◌≡◌, Bool, ◌==◌, ◌&&◌, false, not, Option, Some, None, IfSome, List, [], ◌∷◌, length, filter, filter_map, slice_index_or, unwrap_or}
use Rattle.std.specs.List.{AllByRecursion, cons_option}
use Rattle.l4_model.specs.Words.{GlobalId, same_id}
use Rattle.l4_model.specs.Machine.{Machine, place_of, is_place}
use Rattle.l4_model.specs.World.{Owed}
use Rattle.l4_core_model.specs.Letters.{Content, SendLetter, RetargetLetter}
use Rattle.l4_core_model.specs.Runs.{Posted}
use Rattle.l4_refines.proofs.Relation.Views.{home}

-- The retarget that a letter is about, and those that are under way.
abbrev pub retarget_in : Content → Option Owed
retarget_in (RetargetLetter o) = Some o
retarget_in _ = None

abbrev pub retarget_of : Posted → Option Owed
retarget_of p = retarget_in p.letter.content

abbrev pub retargets_in : List Posted → List Owed
retargets_in mail = filter_map retarget_of mail

-- The home of a declared thread.
abbrev pub home_of : Machine → GlobalId → ℕ
home_of m id = home m (unwrap_or (place_of m id) 0)

abbrev pub is_at_one : Machine → Owed → Bool
is_at_one m o = home_of m o.originator == home_of m o.new_partner

-- It is told by a letter, since its two threads are of two processors, or is kept beside the new partner, at this place.
abbrev pub goes_away : Machine → Owed → Bool
goes_away m o = not (is_at_one m o)

abbrev pub is_beside : Machine → (place : ℕ) → Owed → Bool
is_beside m r o = is_place (place_of m o.new_partner) r && is_at_one m o

-- A letter of it goes from the new partner's home to the originator's.
abbrev pub IsRouted : Machine → Posted → Type 0
IsRouted m p = IfSome (retarget_of p) (λ o. (p.from ≡ home_of m o.new_partner) × (p.to ≡ home_of m o.originator))

-- No letter of it stands behind a send of its new partner.
abbrev pub IsNoSendOf : Owed → Content → Type 0
IsNoSendOf o (SendLetter s receiver message zero_timeout) = same_id s.thread o.new_partner ≡ false
IsNoSendOf o _ = Unit {0}

abbrev pub MayFollow : Posted → Posted → Type 0
MayFollow p q = IfSome (retarget_of q) (λ o. IsNoSendOf o p.letter.content)

abbrev pub AreInOrder : List Posted → Type 0
AreInOrder [] = Unit {0}
AreInOrder (p ∷ ps) = AllByRecursion (MayFollow p) ps × AreInOrder ps

-- What the processors keep beside threads, and the letters under way, are what the world has owed, each in its order.
pub record Owing (m : Machine) (kept_beside : ℕ → List (Option Owed)) (mail : List Posted) (owed : List Owed) : Type 0 where
  pub sized : (cpu : ℕ) → cpu < m.cpus → length (kept_beside cpu) ≡ length m.threads
  pub letters : retargets_in mail ≡ filter (goes_away m) owed
  pub kept : (r : ℕ) → r < length m.threads → filter (is_beside m r) owed ≡ cons_option (slice_index_or (kept_beside (home m r)) r None) []
  pub routed : AllByRecursion (IsRouted m) mail
  pub in_order : AreInOrder mail
