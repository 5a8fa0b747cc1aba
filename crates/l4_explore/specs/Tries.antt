-- What can be tried by schedules.
use Rattle.std.specs.Prelude.{ℕ, ◌+◌, ◌<◌, ◌≤◌, ◌≡◌, Bool, Option, None, Some, List, [], ◌∷◌, ◌++◌}

-- A state as a search knows it: its code, and whether it is an end, where nothing is left to do.
pub record State : Type 0 where
  pub code : List ℕ
  pub is_end : Bool

-- A schedule is a list of numbers, its entries. `state_of` gives the state that a schedule leads
-- to, or None if it leads to none. States with equal codes are equal.
abbrev pub AreCoded : (state_of : List ℕ → Option State) → Type 0
AreCoded state_of =
    (s t : List ℕ) (a b : State) → state_of s ≡ Some a → state_of t ≡ Some b →
    a.code ≡ b.code → a ≡ b

pub record AreSchedules (state_of : List ℕ → Option State) : Type 0 where
  -- if the beginning of a schedule leads to no state, neither does the schedule
  pub begins : (s : List ℕ) (e : ℕ) → state_of s ≡ None → state_of (s ++ e ∷ []) ≡ None
  pub coded : AreCoded state_of

-- A schedule stands for all that lead to its state. If one more entry leads from one of them to a
-- state, it leads from this one to that state too.
abbrev pub StandsForAll : (state_of : List ℕ → Option State) → List ℕ → Type 0
StandsForAll state_of t =
    (s : List ℕ) (e : ℕ) (a : State) → state_of s ≡ state_of t →
    state_of (s ++ e ∷ []) ≡ Some a → state_of (t ++ e ∷ []) ≡ Some a

-- A search goes at most as deep.
abbrev pub deepest : ℕ
deepest = 1000000

-- One more entry, and the state that it leads to.
pub record Next : Type 0 where
  pub entry : ℕ
  pub state : State

-- The entry of `n` is not below `from`, and leads on from the schedule to its state.
pub record LeadsOn (state_of : List ℕ → Option State) (s : List ℕ) (from : ℕ)
    (n : Next) : Type 0 where
  pub later : from ≤ n.entry
  pub leads : state_of (s ++ n.entry ∷ []) ≡ Some n.state

-- The entries rise, from `from` on, and each leads on from the schedule to its state.
abbrev pub LeadOn : (state_of : List ℕ → Option State) (s : List ℕ) (from : ℕ) → List Next → Type 0
LeadOn state_of s from [] = Unit {0}
LeadOn state_of s from (n ∷ ns) =
    LeadsOn state_of s from n × LeadOn state_of s (n.entry + 1) ns

-- The entry of `n` is the first, from `from` on, that leads on from the schedule. Its state is the
-- one that it leads to.
pub record IsNext (state_of : List ℕ → Option State) (s : List ℕ) (from : ℕ)
    (n : Next) : Type 0 where
  pub later : from ≤ n.entry
  pub first : (e : ℕ) → from ≤ e → e < n.entry → state_of (s ++ e ∷ []) ≡ None
  pub leads : state_of (s ++ n.entry ∷ []) ≡ Some n.state

-- The list has all entries, from `from` on, that lead on from the schedule, rising.
abbrev pub AreNexts : (state_of : List ℕ → Option State) (s : List ℕ) (from : ℕ) → List Next →
    Type 0
AreNexts state_of s from [] = (e : ℕ) → from ≤ e → state_of (s ++ e ∷ []) ≡ None
AreNexts state_of s from (n ∷ ns) = IsNext state_of s from n × AreNexts state_of s (n.entry + 1) ns
