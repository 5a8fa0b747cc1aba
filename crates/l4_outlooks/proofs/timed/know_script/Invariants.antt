use Rattle.std.proofs.Common.{drop, map}
use Rattle.std.specs.List.{AllByRecursion}
use Rattle.l4_script.specs.Inner.Scripts.{instr_of}
use Rattle.l4_worlds.specs.Histories.{IsShortIn}
use Rattle.l4_outlooks.proofs.timed.know_script.Given as goal

-- If the instructions that are left are so, all are.
abbrev pub invariant-loop-instr : goal.invariant-loop-instr
invariant-loop-instr l =
    AllByRecursion IsShortIn (map instr_of (drop l.instr-index l.script)) → AllByRecursion IsShortIn (map instr_of l.script)
