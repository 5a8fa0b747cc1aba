use Rattle.std.proofs.Common.{◌≡◌, List, ℕ, drop, map}
use Rattle.std.specs.Borrow.{Bor}
use Rattle.std.specs.List.{list_all}
use Rattle.l4_lines.specs.Lines.{has_line}
use Rattle.l4_expect.proofs.conditions.are_told.Given as goal

-- The lines that are left decide.
abbrev pub invariant-loop-line : goal.invariant-loop-line
invariant-loop-line l =
    list_all (λ line. has_line line l.text) (map (λ (line : Bor (List ℕ)). line.now) (drop l.line-index l.lines))
    ≡ list_all (λ line. has_line line l.text) (map (λ (line : Bor (List ℕ)). line.now) l.lines)
