-- Kinds of lines as the definitions see them.
use Rattle.std.specs.Prelude.{ℕ, List, map}
use Rattle.l4_json.specs.Rows as rows
use Rattle.l4_json.specs.declared.lines.More.{More}
use Rattle.l4_json.specs.declared.rows.Part.{Part}
use Rattle.l4_json.specs.declared.rows.Part.TheVariants.{Label, Word, Ended, Words, Text}
use Rattle.l4_json.specs.declared.rows.Row.{Row}

abbrev pub part_of : Part → rows.Part
part_of (Label word) = rows.Label word.now
part_of (Word key) = rows.Word key.now
part_of (Ended key) = rows.Ended key.now
part_of (Words key) = rows.Words key.now
part_of (Text key) = rows.Text key.now

abbrev pub row_view : Row → rows.Row
row_view r = rows.row r.kind.now (map part_of r.parts.now)

abbrev pub more_of : More → List ℕ × List ℕ
more_of m = (m.key.now, m.word.now)
