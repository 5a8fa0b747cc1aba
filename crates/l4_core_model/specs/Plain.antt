-- Plain lists of blocks: for each block the sends that wait at it, the ready blocks, and the armed
-- ones.
use Rattle.std.specs.Prelude.{ℕ, ◌==◌, nat_le, Bool, not, if◌then◌else◌, List, [], ◌∷◌, ◌++◌, map, filter, find, drop, slice_index_or, Option, Some, None}
use Rattle.std.specs.Option.{option_map}
use Rattle.std.specs.List.{list_any}
use Rattle.l4_model.specs.Words.{GlobalId, Id}
use Rattle.l4_model.specs.World.{changed}
use Rattle.l4_model.specs.Rules.{takes}

-- A waiting send: its sender's block, the sender that it shows, and whether the shown sender is of
-- the receiver's space.
pub record Waiting : Type 0 where
  pub block : ℕ
  pub shown : GlobalId
  pub local : Bool

-- The armed blocks stand with their deadlines, rising, equal ones in order of arming.
pub record Plain : Type 0 where
  pub waiting : List (List Waiting)
  pub ready : List ℕ
  pub armed : List (ℕ × ℕ)

-- Waiting sends

abbrev pub list_of : Plain → ℕ → List Waiting
list_of s receiver = slice_index_or s.waiting receiver []

abbrev pub is_queued : Plain → ℕ → Bool
is_queued s block = list_any (list_any (λ w. block == w.block)) s.waiting

abbrev pub queued : (receiver : ℕ) → Waiting → Plain → Plain
queued receiver w s = record s { waiting = changed (λ ws. ws ++ w ∷ []) s.waiting receiver }

abbrev pub unqueued : ℕ → Plain → Plain
unqueued block s = record s { waiting = map (filter (λ w. not (block == w.block))) s.waiting }

-- The block of the first send that a receive phase with this specifier takes.
abbrev pub first_taken : Id → List Waiting → Option ℕ
first_taken from ws = option_map (λ w. w.block) (find (λ w. takes from w.shown w.local) ws)

-- Ready blocks

abbrev pub made_ready : ℕ → Plain → Plain
made_ready block s = record s { ready = s.ready ++ block ∷ [] }

abbrev pub dropped : ℕ → Plain → Plain
dropped block s = record s { ready = filter (λ b. not (block == b)) s.ready }

abbrev pub popped : Plain → Plain
popped s = record s { ready = drop 1 s.ready }

-- Armed blocks

-- Inserts an entry behind all entries that are not later.
abbrev pub put_entry : ℕ × ℕ → List (ℕ × ℕ) → List (ℕ × ℕ)
put_entry e [] = e ∷ []
put_entry e (x ∷ xs) = if nat_le x.0 e.0 then x ∷ put_entry e xs else e ∷ x ∷ xs

abbrev pub armed : (deadline block : ℕ) → Plain → Plain
armed deadline block s = record s { armed = put_entry (deadline, block) s.armed }

abbrev pub without_block : ℕ → List (ℕ × ℕ) → List (ℕ × ℕ)
without_block block = filter (λ e. not (block == e.1))

abbrev pub disarmed : ℕ → Plain → Plain
disarmed block s = record s { armed = without_block block s.armed }

-- The first armed block where its deadline is past.
abbrev pub due_block : ℕ → List (ℕ × ℕ) → Option ℕ
due_block now [] = None
due_block now (e ∷ es) = if nat_le e.0 now then Some e.1 else None

abbrev pub popped_due : Plain → Plain
popped_due s = record s { armed = drop 1 s.armed }
