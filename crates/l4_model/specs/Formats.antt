-- A machine whose script writes words of a format alone has no other words, in any register or
-- message.
use Rattle.std.specs.Prelude.{ℕ, ◌≡◌, Bool, true, ◌&&◌, Some, List, slice_get}
use Rattle.std.specs.List.{list_all}
use Rattle.l4_model.specs.Words.{Format, is_word_in, same_format}
use Rattle.l4_model.specs.Machine.{Value, Word, Register, Computed, FromWord, Instr, Run, Assign, AssignTag, Declaration, Machine}
use Rattle.l4_model.specs.World.{Thread, World}
use Rattle.l4_model.specs.Steps.{Step, Deliver}

-- Whether a value is a word of the format: what an operation makes where the format counts it,
-- and the word of `from` in it. What is in a register is one already.
abbrev pub gives_words : Format → Value → Bool
gives_words f (Word word) = is_word_in f word
gives_words f (Register b) = true
gives_words f (Computed operation format word) = same_format format f
gives_words f (FromWord format) = same_format format f

-- Whether an instruction writes only words of the format. Beside values and tags, it writes the tag
-- of an ipc at most.
abbrev pub writes_words : Format → Instr → Bool
writes_words f (Run (Assign a value)) = gives_words f value
writes_words f (Run (AssignTag word)) = is_word_in f word
writes_words f _ = true

abbrev pub is_of_format : Format → Machine → Bool
is_of_format f m = list_all (λ d. list_all (writes_words f) d.script) m.threads

-- What a delivery tells are words of the format, its label with them.
abbrev pub tells_words : Format → Step → Bool
tells_words f (Deliver s receiver shown actual tag words) = is_word_in f tag &&
    list_all (is_word_in f) words
tells_words f _ = true

abbrev pub has_words : Format → Thread → Bool
has_words f t = list_all (is_word_in f) t.context.words

-- What a history tells, and the registers of the world that it reaches, are words of the format.
pub record StaysIn (f : Format) (m : Machine) (h : List Step) (w : World) : Type 0 where
  pub told : list_all (tells_words f) h ≡ true
  pub registers : (i : ℕ) (d : Declaration) (t : Thread) → slice_get m.threads i ≡ Some d →
      slice_get w.threads i ≡ Some t → has_words f t ≡ true
