-- Circles of threads that wait for each other.
use Rattle.std.specs.Prelude.{ℕ, zero, suc, ◌≡◌, ◌<◌, ◌==◌, nat_lt, if◌then◌else◌, Option, Some}
use Rattle.std.specs.Prelude.{None, List, [], ◌∷◌, map, length, position, slice_index_or}
use Rattle.std.specs.List.{AllByRecursion}
use Rattle.std.specs.Option.{option_map}
use Rattle.l4_model.specs.Words.{GlobalId, same_id}
use Rattle.l4_model.specs.Conditions.{◌>>=◌}
use Rattle.l4_types.specs.Ids.{global_of}
use Rattle.l4_audit.specs.declared.waits.Wait.{Wait}
use Rattle.l4_audit.specs.declared.waits.Wait.TheVariants.{Send, Arrival, Receive}

-- The one thread that a waiting thread waits for: the destination of its send, or the thread that
-- its receive phase is closed for. None for an open receive, and for a send that its destination
-- accepts now.
abbrev pub partner : Wait → Option GlobalId
partner (Send to) = global_of to
partner (Arrival to) = None
partner (Receive from) = global_of from

-- The place of a thread among those that wait.
abbrev pub place_in : List (GlobalId × Wait) → GlobalId → Option ℕ
place_in waits id = position (λ w. same_id w.0 id) waits

-- The place of its partner. None where it has no partner, or one that does not wait.
abbrev pub next_of : List (GlobalId × Wait) → (GlobalId × Wait) → Option ℕ
next_of waits w = partner w.1 >>= place_in waits

abbrev pub nexts_of : List (GlobalId × Wait) → List (Option ℕ)
nexts_of waits = map (next_of waits) waits

abbrev pub next_at : List (Option ℕ) → ℕ → Option ℕ
next_at nexts i = slice_index_or nexts i None

-- The places behind `first`, each the next of the one before it, until `first` comes again. None
-- where that takes more than so many, or where a place before `first` comes.

abbrev pub goes_back : (first : ℕ) → (at : Option ℕ) → (ℕ → Option (List ℕ)) → Option (List ℕ)
goes_back first None behind = None
goes_back first (Some i) behind =
    if i == first then Some []
    else if nat_lt first i then option_map (λ others. i ∷ others) (behind i) else None

abbrev pub way_back : List (Option ℕ) → (first left : ℕ) → (at : Option ℕ) → Option (List ℕ)
way_back nexts first zero at = None
way_back nexts first (suc left) at =
    goes_back first at (λ i. way_back nexts first left (next_at nexts i))

-- The circle that begins with this place.
abbrev pub circle_at : List (Option ℕ) → (first : ℕ) → Option (List ℕ)
circle_at nexts first =
    option_map (λ others. first ∷ others)
    (way_back nexts first (length nexts) (next_at nexts first))

-- What a circle is

-- Each of these places is the next of the one before it, from one place to another.
abbrev pub Leads : List (Option ℕ) → (along : List ℕ) → (from to : ℕ) → Type 0
Leads nexts [] from to = next_at nexts from ≡ Some to
Leads nexts (i ∷ along) from to = (next_at nexts from ≡ Some i) × Leads nexts along i to

-- Each thread waits for the next, and the last for the first. Of them the first was declared first.
pub record IsCircle (nexts : List (Option ℕ)) (first : ℕ) (others : List ℕ) : Type 0 where
  pub leads_back : Leads nexts others first first
  pub earliest : AllByRecursion (λ i. first < i) others
