-- Which instructions have phases.
use Rattle.std.specs.Prelude.{Bool, true, false, not, ◌||◌}
use Rattle.l4_model.specs.Words.{Id, NilThread}

abbrev pub is_nil : Id → Bool
is_nil NilThread = true
is_nil _ = false

-- An ipc has a send phase unless it sends to nilthread, and a receive phase unless it accepts
-- nilthread.
abbrev pub has_phase : (to from : Id) → Bool
has_phase to from = not (is_nil to) || not (is_nil from)
