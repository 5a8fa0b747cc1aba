use Rattle.std.proofs.Common.{[], refl}
use Rattle.l4_trace.specs.Reading.{steps_of}
use Rattle.l4_words.specs.Lines.{parts_of}
use Rattle.l4_trace.proofs.ReadingLines.{stops}
use Rattle.l4_trace.proofs.reader.Reader.next_of_any.Goals as goal

pub returns-in_default-step_of_line : goal.returns-in_default-step_of_line
returns-in_default-step_of_line c =
    let rest = c.self.inside.rest.now in (
      c.fault.ensures,
      rw (← c.self.view_is)
          (stops c.in-Some.line.now c.in-Some.others.now (parts_of rest) [] (steps_of rest) c.in-Some.ensures.parts refl c.in_default-step_of_line.ensures),
      refl,
    )
