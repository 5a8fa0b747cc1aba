use Rattle.std.proofs.Common.{length}
use Rattle.l4_words.specs.Lines.{parts_of}
use Rattle.l4_trace.proofs.ReadingOn.{IsAhead}
use Rattle.l4_trace.proofs.reading.read_history.Given as goal

abbrev pub invariant-steps : goal.invariant-steps
invariant-steps l = IsAhead (record { read = 0; rest = l.text }) l.history.steps l.reader

abbrev pub decreases-steps : goal.decreases-steps
decreases-steps l = length (parts_of l.reader.rest)
