use Rattle.std.proofs.Common.{◌≡◌, drop, map}
use Rattle.std.specs.List.{list_any}
use Rattle.l4_script.specs.Inner.Scripts.{instr_of}
use Rattle.l4_outlooks.specs.Inner.Touches.{touches}
use Rattle.l4_outlooks.proofs.scripts.script_touches.Given as goal

-- The instructions that are left decide.
abbrev pub invariant-loop-instr : goal.invariant-loop-instr
invariant-loop-instr l =
    list_any (touches l.touch l.id) (map instr_of (drop l.instr-index l.script))
    ≡ list_any (touches l.touch l.id) (map instr_of l.script)
