-- What is left to a walk along one of several lists, and along the armed blocks.
use Rattle.std.specs.Prelude.{◌≡◌, ℕ, ◌==◌, List, [], ◌∷◌, if◌then◌else◌, slice_get, Option, Some, None}
use Rattle.l4_model.specs.World.{is_in}
use Rattle.tcb_arena.specs.Inner.Due.{Due, armed_of, AreOnce}
use Rattle.tcb_arena.specs.Inner.Rings.{Lists, list_at, AreSound}

-- The names of a list from one on.
abbrev pub names_from : ℕ → List ℕ → List ℕ
names_from name [] = []
names_from name (x ∷ xs) = if name == x then x ∷ xs else names_from name xs

-- The same, of the first list where that one stands.
abbrev pub names_from_any : ℕ → List (List ℕ) → List ℕ
names_from_any name [] = []
names_from_any name (l ∷ ls) = if is_in name l then names_from name l else names_from_any name ls

-- The names from the next on, if there is one.
abbrev pub names_left : Lists → Option ℕ → List ℕ
names_left s None = []
names_left s (Some name) = names_from_any name s.lists

-- The next name is that of a place in a list, and there is none behind the last.
pub record IsPlace (s : Lists) (next : Option ℕ) : Type 0 where
  pub sound : AreSound s
  pub head : ℕ
  pub place : ℕ
  pub next_is : next ≡ slice_get (list_at s head) place

-- The entries from that of a block on.
abbrev pub entries_from : ℕ → List (ℕ × ℕ) → List (ℕ × ℕ)
entries_from block [] = []
entries_from block (e ∷ es) = if block == e.1 then e ∷ es else entries_from block es

-- The entries from the next on, if there is one.
abbrev pub entries_left : List (ℕ × ℕ) → Option (ℕ × ℕ) → List (ℕ × ℕ)
entries_left es None = []
entries_left es (Some e) = entries_from e.1 es

-- The next armed block is that of a place, and there is none behind the last.
pub record IsArmedPlace (s : Due) (next : Option (ℕ × ℕ)) : Type 0 where
  pub once : AreOnce s
  pub place : ℕ
  pub next_is : next ≡ slice_get (armed_of s) place
