use Rattle.std.proofs.Common.{◌≡◌, drop, map}
use Rattle.std.specs.List.{list_any}
use Rattle.l4_script.specs.Inner.Scripts.{instr_of}
use Rattle.l4_lint.specs.Scripts.{uses}
use Rattle.l4_lint.proofs.scripts.is_used.Given as goal

-- The instructions that are left decide.
abbrev pub invariant-loop-instruction : goal.invariant-loop-instruction
invariant-loop-instruction l =
    list_any (uses l.register) (map instr_of (drop l.instruction-index l.script))
    ≡ list_any (uses l.register) (map instr_of l.script)
