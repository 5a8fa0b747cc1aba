use Rattle.std.proofs.Common.{◌≡◌, drop, map}
use Rattle.l4_script.specs.Inner.Scripts.{instr_of}
use Rattle.l4_lint.specs.Scripts.{next_tag}
use Rattle.l4_lint.proofs.scripts.next_tag.Given as goal

-- The instructions that are left decide.
abbrev pub invariant-loop-instruction : goal.invariant-loop-instruction
invariant-loop-instruction l =
    next_tag (map instr_of (drop l.instruction-index l.script)) ≡ next_tag (map instr_of l.script)
