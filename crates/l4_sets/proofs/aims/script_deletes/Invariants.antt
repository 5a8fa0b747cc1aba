use Rattle.std.proofs.Common.{◌≡◌, drop, map}
use Rattle.std.specs.List.{list_any}
use Rattle.l4_script.specs.Inner.Scripts.{instr_of}
use Rattle.l4_first.specs.First.{instruction_deletes}
use Rattle.l4_sets.proofs.aims.script_deletes.Given as goal

-- The instructions that are left decide.
abbrev pub invariant-loop-instr : goal.invariant-loop-instr
invariant-loop-instr l =
    list_any (instruction_deletes l.id) (map instr_of (drop l.instr-index l.script))
    ≡ list_any (instruction_deletes l.id) (map instr_of l.script)
