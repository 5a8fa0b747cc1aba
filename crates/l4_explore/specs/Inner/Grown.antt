-- The tree of found states. Each state but the first has the state that it was found from, and the
-- entry that led from there.
use Rattle.std.specs.Prelude.{ℕ, ◌+◌, ◌<◌, List, [], ◌∷◌, ◌++◌, length, slice_index_or}
use Rattle.l4_explore.specs.Tries.{State}
use Rattle.l4_explore.specs.Search.{Seen, seen_at, unseen}

pub record Node : Type 0 where
  pub state : State
  pub from : ℕ
  pub entry : ℕ

-- What `node_at` gives past the end.
abbrev pub no_node : Node
no_node = record { state = unseen.state; from = 0; entry = 0 }

abbrev pub node_at : List Node → ℕ → Node
node_at nodes i = slice_index_or nodes i no_node

-- The schedule of a state is the schedule of the state that it was found from, and one more entry.
abbrev pub grown : List Seen → Node → Seen
grown seen n = record { state = n.state; schedule = (seen_at seen n.from).schedule ++ n.entry ∷ [] }

abbrev pub all_grown : List Seen → List Node → List Seen
all_grown seen [] = seen
all_grown seen (n ∷ ns) = all_grown (seen ++ grown seen n ∷ []) ns

-- The first node is that of the empty schedule.
abbrev pub seen_of : List Node → List Seen
seen_of [] = []
seen_of (n ∷ ns) = all_grown (record { state = n.state; schedule = [] } ∷ []) ns

-- There is a first node, and each other node was found from an earlier one.
pub record AreNodes (nodes : List Node) : Type 0 where
  pub some : 0 < length nodes
  pub earlier : (i : ℕ) → i + 1 < length nodes → (node_at nodes (i + 1)).from < i + 1
