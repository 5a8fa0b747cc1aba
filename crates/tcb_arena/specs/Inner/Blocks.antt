-- The plain lists of a number of blocks.
use Rattle.std.specs.Prelude.{ℕ, ◌==◌, Bool, List, [], replicate, slice_get, Option, is_some, if◌then◌else◌}
use Rattle.std.specs.Option.{option_map}
use Rattle.std.specs.List.{list_any}
use Rattle.l4_core_model.specs.Plain.{Plain, due_block, popped_due}

-- Whether a block is among the ready ones.
abbrev pub is_ready : Plain → ℕ → Bool
is_ready s block = list_any (λ b. block == b) s.ready

-- Whether a block has an entry, and whether it is armed.
abbrev pub has_entry : ℕ → List (ℕ × ℕ) → Bool
has_entry block = list_any (λ e. block == e.1)

abbrev pub is_armed : Plain → ℕ → Bool
is_armed s block = has_entry block s.armed

abbrev pub least_deadline : Plain → Option ℕ
least_deadline s = option_map (λ e. e.0) (slice_get s.armed 0)

-- Without the first armed block, where its deadline is at most `now`.
abbrev pub without_due : (now : ℕ) → Plain → Plain
without_due now s = if is_some (due_block now s.armed) then popped_due s else s

-- No block waits, is ready or is armed.
abbrev pub empty_lists : (blocks : ℕ) → Plain
empty_lists blocks = record { waiting = replicate blocks []; ready = []; armed = [] }
