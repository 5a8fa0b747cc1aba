-- Worked rows of plain lists, stamps and clocks, computed.
use Rattle.std.specs.Prelude.{◌≡◌, ℕ, true, false, is_some, Some, None, List, [], ◌∷◌, map, replicate, refl}
use Rattle.l4_model.specs.Words.{global_id}
use Rattle.l4_model.proofs.Rows.{first_path}
use Rattle.l4_core_model.specs.Plain.{Plain, Waiting, queued, unqueued, armed, due_block, popped_due}
use Rattle.l4_core_model.specs.Local.{opening_local}
use Rattle.l4_core_model.specs.Turns.{can_stamp, advance}

abbrev empty : Plain
empty = record { waiting = replicate 4 []; ready = []; armed = [] }

abbrev waits : ℕ → Waiting
waits block = record { block = block; shown = global_id 1 1; local = true }

-- The names that wait at each block.
abbrev names : Plain → List (List ℕ)
names s = map (map (λ w. w.block)) s.waiting

abbrev three_wait : Plain
three_wait = unqueued 1 (queued 3 (waits 2) (queued 3 (waits 1) (queued 3 (waits 0) empty)))

one_leaves : names three_wait ≡ [] ∷ [] ∷ [] ∷ (0 ∷ 2 ∷ []) ∷ []
one_leaves = refl

one_returns : names (queued 3 (waits 1) three_wait) ≡ [] ∷ [] ∷ [] ∷ (0 ∷ 2 ∷ 1 ∷ []) ∷ []
one_returns = refl

waits_at_itself : names (queued 3 (waits 3) (unqueued 0 (queued 3 (waits 1) three_wait))) ≡ [] ∷ [] ∷ [] ∷ (2 ∷ 1 ∷ 3 ∷ []) ∷ []
waits_at_itself = refl

-- Deadlines are served in their order, equal ones in order of arming.

abbrev three_armed : Plain
three_armed = armed 70 2 (armed 6 1 (armed 70 0 empty))

armed_in_order : three_armed.armed ≡ (6, 1) ∷ (70, 0) ∷ (70, 2) ∷ []
armed_in_order = refl

none_due : due_block 5 three_armed.armed ≡ None
none_due = refl

due_in_order : due_block 70 three_armed.armed ∷ due_block 70 (popped_due three_armed).armed ∷ due_block 70 (popped_due (popped_due three_armed)).armed ∷ due_block 70 (popped_due (popped_due (popped_due three_armed))).armed ∷ [] ≡ Some 1 ∷ Some 0 ∷ Some 2 ∷ None ∷ []
due_in_order = refl

-- Stamps and clocks stay below 2^62.

stamps_below : can_stamp (opening_local first_path 0) 4611686018427387902 ≡ true
stamps_below = refl

stamps_end : can_stamp (opening_local first_path 0) 4611686018427387903 ≡ false
stamps_end = refl

clocks_rise : is_some (advance first_path 0 0 (opening_local first_path 0)) ≡ false
clocks_rise = refl

clocks_end : is_some (advance first_path 0 4611686018427387904 (opening_local first_path 0)) ≡ false
clocks_end = refl
