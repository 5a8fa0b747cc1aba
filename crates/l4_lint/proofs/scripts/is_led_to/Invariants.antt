use Rattle.std.proofs.Common.{◌≡◌, drop, map}
use Rattle.std.specs.List.{list_any}
use Rattle.l4_script.specs.Inner.Scripts.{instr_of}
use Rattle.l4_lint.specs.Scripts.{leads_to}
use Rattle.l4_lint.proofs.scripts.is_led_to.Given as goal

-- The instructions that are left decide.
abbrev pub invariant-loop-instruction : goal.invariant-loop-instruction
invariant-loop-instruction l =
    list_any (leads_to l.place) (map instr_of (drop l.instruction-index l.script))
    ≡ list_any (leads_to l.place) (map instr_of l.script)
