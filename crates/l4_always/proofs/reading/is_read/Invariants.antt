use Rattle.std.proofs.Common.{◌≡◌, List, ℕ, drop, map}
use Rattle.std.specs.Borrow.{Bor}
use Rattle.l4_condition_lines.specs.Inner.Reading.{reads_of}
use Rattle.l4_always.specs.Inner.Parts.{part_of}
use Rattle.l4_always.proofs.reading.is_read.Given as goal

-- The lines that are left decide.
abbrev pub invariant-loop-line : goal.invariant-loop-line
invariant-loop-line l =
    reads_of (map (λ (line : Bor (List ℕ)). line.now) (drop l.line-index l.lines)) l.id (part_of l.part)
    ≡ reads_of (map (λ (line : Bor (List ℕ)). line.now) l.lines) l.id (part_of l.part)
