-- A machine text by its lines, and where in it the instructions of its threads stand.
use Rattle.std.specs.Prelude.{ℕ, ◌-◌, Option, List, [], option_and_then, slice_get, slice_index_or}
use Rattle.std.specs.Option.{option_map}
use Rattle.l4_json.specs.Lines.{all_but_last}
use Rattle.l4_json.specs.Scripts.{script_lines}
use Rattle.l4_script.specs.Second.Lines.{said_in, without_return}
use Rattle.l4_words.specs.Lines.{parts_of}

-- An instruction, as what its line says.
pub record Instruction : Type 0 where
  -- the number of its line, counted from 1
  pub line : ℕ
  pub text : List ℕ

pub record Listing : Type 0 where
  pub lines : List (List ℕ)
  -- for each thread the numbers of the lines of its instructions
  pub scripts : List (List ℕ)

abbrev pub listing_of : (text : List ℕ) → Listing
listing_of text = record { lines = all_but_last (parts_of text); scripts = script_lines text }

abbrev pub instruction_on : Listing → (line : ℕ) → Instruction
instruction_on l line = record {
  line = line;
  text = said_in (without_return (slice_index_or l.lines (line - 1) []));
}

-- The instruction at this place of the script of this thread, both counted from 0.
abbrev pub instruction_at : Listing → (thread place : ℕ) → Option Instruction
instruction_at l thread place =
    option_map (instruction_on l)
    (option_and_then (λ lines. slice_get lines place) (slice_get l.scripts thread))
