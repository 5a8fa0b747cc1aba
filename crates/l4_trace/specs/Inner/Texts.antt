-- What is kept as text.
use Rattle.std.specs.Prelude.{◌≡◌, ℕ, ◌+◌, ◌≤◌, true, List, ◌++◌, codes, length, drop}
use Rattle.l4_model.specs.Words.{is_global}
use Rattle.l4_model.specs.Steps.{Step}
use Rattle.l4_trace.specs.Lines.{thread_word, name_word, is_name, line_of, has_line}
use Rattle.l4_trace.specs.declared.lines.TheConstants.{LONGEST_LINE}
use Rattle.l4_trace.specs.declared.texts.ThreadText.{ThreadText}
use Rattle.l4_trace.specs.declared.texts.NameText.{NameText}

-- A space and a word, at the end of these bytes.
pub record EndsWith (bytes : List ℕ) (start : ℕ) (word : List ℕ) : Type 0 where
  pub within : start ≤ length bytes
  pub text : drop start bytes ≡ codes " " ++ word

-- The text of a thread.
pub record IsThreadText (t : ThreadText) : Type 0 where
  pub text : EndsWith t.bytes t.start (thread_word t.thread)
  pub spelled : is_global t.thread ≡ true

-- The text of the name of a send.
pub record IsNameText (t : NameText) : Type 0 where
  pub text : EndsWith t.bytes t.start (name_word t.name)
  pub spelled : is_name t.name ≡ true

-- The line of a step stands just before what began at `end`.
pub record HasBefore (old : List ℕ) (end : ℕ) (step : Step) (new : List ℕ) (start : ℕ) : Type 0 where
  pub same_room : length new ≡ length old
  pub few : end ≤ start + LONGEST_LINE
  pub within : start ≤ end
  pub line : drop start new ≡ line_of step ++ drop end old
  pub spelled : has_line step ≡ true
