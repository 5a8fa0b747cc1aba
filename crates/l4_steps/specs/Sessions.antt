-- What the entries of a session are, and all that it tells.
use Rattle.std.specs.Prelude.{◌≡◌, ◌≤◌, ◌==◌, ℕ, if◌then◌else◌, None, List, [], ◌∷◌, ◌++◌, length}
use Rattle.l4_model.specs.Machine.{Machine}
use Rattle.l4_core_model.specs.Schedules.{Entry, replay_entries, turns_of}
use Rattle.l4_chart.specs.Listings.{Listing}
use Rattle.l4_chart.specs.declared.whole.TextForm.{TextForm}
use Rattle.l4_replay.specs.Entries.{first_stranger, most_entries}
use Rattle.l4_steps.specs.Possible.{choices_text}
use Rattle.l4_steps.specs.Replies.{Reply, reply_to}

-- They are a schedule of the machine, and each of them was possible where it stands: the replay has
-- an event for each.
pub record IsSession (m : Machine) (es : List Entry) : Type 0 where
  pub few : length es ≤ most_entries
  pub lawful : first_stranger m 1 es ≡ None
  pub done : turns_of (replay_entries m es) ≡ length es

-- The lines of an input, each with its end, byte 10, but the last may have none.

abbrev pub with_byte : ℕ → List (List ℕ) → List (List ℕ)
with_byte byte [] = (byte ∷ []) ∷ []
with_byte byte (line ∷ lines) = (byte ∷ line) ∷ lines

abbrev pub lines_of : (input : List ℕ) → List (List ℕ)
lines_of [] = []
lines_of (byte ∷ bytes) =
    if byte == 10 then (byte ∷ []) ∷ lines_of bytes else with_byte byte (lines_of bytes)

-- What is told of lines, one behind the other, up to the one that ends the session.

abbrev pub told_then : Reply → (more : List Entry → List ℕ) → List ℕ
told_then r more = r.text ++ (if r.ends then [] else more r.entries)

abbrev pub told_of : Machine → Listing → TextForm → (lines : List (List ℕ)) → List Entry → List ℕ
told_of m listing form [] es = []
told_of m listing form (line ∷ lines) es =
    told_then (reply_to m listing form es line) (told_of m listing form lines)

-- All that a session tells: what is possible at the opening, and then the reply to each line.
abbrev pub session_text : Machine → Listing → TextForm → (lines : List (List ℕ)) → List ℕ
session_text m listing form lines = choices_text m [] ++ told_of m listing form lines []
