use Rattle.std.proofs.Common.{◌≡◌, drop, map}
use Rattle.std.specs.List.{list_any}
use Rattle.l4_script.specs.Inner.Scripts.{instr_of}
use Rattle.l4_lint.specs.Doubts.{names_originator}
use Rattle.l4_lint.proofs.doubts.has_originator.Given as goal

-- The instructions that are left decide.
abbrev pub invariant-loop-instruction : goal.invariant-loop-instruction
invariant-loop-instruction l =
    list_any (names_originator l.machine l.sender) (map instr_of (drop l.instruction-index l.script))
    ≡ list_any (names_originator l.machine l.sender) (map instr_of l.script)
