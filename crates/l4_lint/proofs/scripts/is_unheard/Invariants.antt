use Rattle.std.proofs.Common.{◌≡◌, map}
use Rattle.l4_script.specs.Inner.Scripts.{instr_of}
use Rattle.l4_lint.specs.Scripts.{is_unheard}
use Rattle.l4_lint.proofs.scripts.is_unheard.Given as goal

-- The instructions before it decide.
abbrev pub invariant-back : goal.invariant-back
invariant-back l =
    is_unheard l.own (map instr_of l.script) l.at
    ≡ is_unheard l.own (map instr_of l.script) l.place

abbrev pub decreases-back : goal.decreases-back
decreases-back l = l.at
