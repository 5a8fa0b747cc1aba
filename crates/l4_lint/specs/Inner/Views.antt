-- The values of the code, as the definitions have them.
use Rattle.std.specs.Prelude.{Option}
use Rattle.std.specs.Option.{option_copied, option_map}
use Rattle.l4_types.specs.Inner.FormatView.{format_of}
use Rattle.l4_script.specs.Inner.Second.{stage_of as second_stage_of}
use Rattle.l4_script.specs.Inner.Stages.{stage_of}
use Rattle.l4_lint.specs.declared.contexts.Context.{Context}
use Rattle.l4_lint.specs.declared.doubts.Doubtful.{Doubtful}
use Rattle.l4_lint.specs.declared.faults.Fault.{Fault}
use Rattle.l4_lint.specs.declared.places.Place.{Place}
use Rattle.l4_lint.specs.declared.reading.Reader.{Reader}
use Rattle.l4_lint.specs.declared.second.parts.Parts.{Parts}
use Rattle.l4_lint.specs.declared.second.reading.Reader.{Reader as SecondReader}
use Rattle.l4_lint.specs.declared.walks.Walked.{Walked}
use Rattle.l4_lint.specs.Contexts as contexts
use Rattle.l4_lint.specs.Doubts as doubts
use Rattle.l4_lint.specs.Faults as faults
use Rattle.l4_lint.specs.Places as places
use Rattle.l4_lint.specs.Reading as reading
use Rattle.l4_lint.specs.Second.Faults as second_faults
use Rattle.l4_lint.specs.Second.Parts as parts
use Rattle.l4_lint.specs.Second.Reading as second_reading
use Rattle.l4_lint.specs.Walks as walks

abbrev pub context_of : Context → contexts.Context
context_of c = contexts.context c.lines (format_of c.format) c.cpus

abbrev pub place_of : Place → places.Place
place_of p = places.placed p.column p.word.now p.hint

abbrev pub walked_of : Walked → walks.Walked
walked_of w = walks.walked w.rest.now w.failed

abbrev pub fault_of : Fault → faults.Fault
fault_of f = faults.fault f.line f.kind (place_of f.place)

abbrev pub reader_of : Reader → reading.Reader
reader_of r = reading.reader (stage_of r.stage) r.lost r.faulty

abbrev pub step_of : Reader → Option Fault → faults.Step
step_of r f = record { after = reader_of r; found = option_map fault_of f }

abbrev pub doubtful_of : Doubtful → doubts.Doubtful
doubtful_of d = record { line = d.line; column = d.column; word = d.word.now; doubt = d.doubt }

-- The same of a text with scripts of version 2.

abbrev pub parts_view : Parts → parts.Parts
parts_view p = parts.parts p.front.now p.said.now (option_copied p.label) p.words.now

abbrev pub second_reader_of : SecondReader → second_reading.Reader
second_reader_of r = second_reading.reader (second_stage_of r.stage) r.lost r.faulty r.left

abbrev pub second_step_of : SecondReader → Option Fault → second_faults.Step
second_step_of r f = record { after = second_reader_of r; found = option_map fault_of f }
