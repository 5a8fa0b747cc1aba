use Rattle.std.proofs.Common.{◌≡◌, drop, map}
use Rattle.std.specs.List.{list_any}
use Rattle.l4_script.specs.Inner.Scripts.{instr_of}
use Rattle.l4_lint.specs.Scripts.{may_hear}
use Rattle.l4_lint.proofs.scripts.hears.Given as goal

-- The instructions that are left decide.
abbrev pub invariant-loop-instruction : goal.invariant-loop-instruction
invariant-loop-instruction l =
    list_any may_hear (map instr_of (drop l.instruction-index l.script))
    ≡ list_any may_hear (map instr_of l.script)
