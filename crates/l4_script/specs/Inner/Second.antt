-- What the reader of scripts of version 2 keeps, as the definitions have it.
use Rattle.std.specs.Prelude.{ℕ, ◌==◌, Bool, false, ◌||◌, Option, List, [], ◌∷◌}
use Rattle.std.specs.Option.{option_copied, option_map}
use Rattle.l4_script.specs.Inner.Headings.{heading_of}
use Rattle.l4_script.specs.Inner.Scripts.{instr_of}
use Rattle.l4_script.specs.Judged.{Judged, ◌>>=◌}
use Rattle.l4_script.specs.declared.text.second.lines.Said.{Said}
use Rattle.l4_script.specs.declared.text.second.operands.Place.{Place}
use Rattle.l4_script.specs.declared.text.second.operands.Place.TheVariants as places
use Rattle.l4_script.specs.declared.text.second.statements.Heir.{Heir}
use Rattle.l4_script.specs.declared.text.second.statements.HomeWords.{HomeWords}
use Rattle.l4_script.specs.declared.text.second.statements.ThreadWords.{ThreadWords}
use Rattle.l4_script.specs.declared.text.second.statements.Unplaced.{Unplaced}
use Rattle.l4_script.specs.declared.text.second.reading.Stage.{Stage}
use Rattle.l4_script.specs.declared.text.second.reading.Stage.TheVariants as stages
use Rattle.l4_script.specs.Second.Lines as lines
use Rattle.l4_script.specs.Second.Operands as operands
use Rattle.l4_script.specs.Second.Statements as statements
use Rattle.l4_script.specs.Second.Texts as texts

abbrev pub said_of : Said → lines.Said
said_of said = record { label = option_copied said.label; words = said.words }

abbrev pub place_of : Place → operands.Place
place_of (places.Numbered place) = operands.Numbered place
place_of (places.Labelled name) = operands.Labelled name.now

abbrev pub home_words_view : HomeWords → statements.HomeWords
home_words_view w =
    record { cpu = w.cpu.now; space = w.space.now; source = option_copied w.source }

abbrev pub thread_words_view : ThreadWords → statements.ThreadWords
thread_words_view w =
    record { id = w.id.now; last = option_copied w.last; home = home_words_view w.home }

abbrev pub heir_of : Heir → statements.Heir
heir_of heir = record {
  declaration = record { id = heir.id; cpu = heir.cpu; space = heir.space; script = [] };
  last = heir.last;
  source = option_copied heir.source;
}

abbrev pub unplaced_of : Unplaced → statements.Unplaced
unplaced_of said = record { instr = instr_of said.instr; target = option_map place_of said.target }

abbrev pub stage_of : Stage → texts.Stage
stage_of stages.Start = texts.Start
stage_of (stages.Processors heading) = texts.Processors (heading_of heading)
stage_of (stages.Threads reading) = texts.Threads reading

-- Begins with the first letter of `jump`, 106, or of what begins with `on`, 111.
abbrev pub begins_as_branch : (word : List ℕ) → Bool
begins_as_branch [] = false
begins_as_branch (byte ∷ bytes) = byte == 106 || byte == 111

-- An instruction that is judged, with its name if it has one, of a thread that may have it.
unfoldable pub judged_line : (line : ℕ) → (label : Option (List ℕ)) → Judged statements.Unplaced →
    texts.Reading → Judged texts.Reading
judged_line line label judged r =
    judged >>= λ said. texts.said_line line said (texts.with_label label r)
