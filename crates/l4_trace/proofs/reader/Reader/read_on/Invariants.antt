use Rattle.std.proofs.Common.{List, length}
use Rattle.l4_model.specs.Steps.{Step}
use Rattle.l4_words.specs.Lines.{parts_of}
use Rattle.l4_trace.proofs.ReadingOn.{IsAhead}
use Rattle.l4_trace.proofs.reader.Reader.read_on.Given as goal

abbrev pub invariant-lines : goal.invariant-lines
invariant-lines l = (steps : List Step) × IsAhead l.initial.reader steps l.reader

abbrev pub decreases-lines : goal.decreases-lines
decreases-lines l = length (parts_of l.reader.rest)
