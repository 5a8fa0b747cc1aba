use Rattle.std.proofs.Common.{◌≡◌, drop}
use Rattle.std.specs.Option.{option_copied}
use Rattle.l4_lint.specs.Second.Forms.{walk}
use Rattle.l4_lint.specs.Inner.Views.{context_of}
use Rattle.l4_lint.proofs.second.forms.walk_all.Given as goal

-- The operands that are left decide.
abbrev pub invariant-loop-operand : goal.invariant-loop-operand
invariant-loop-operand l =
    walk l.test (context_of l.context) (option_copied l.reading) l.words (drop l.operand-index l.operands) l.rest
    ≡ walk l.test (context_of l.context) (option_copied l.reading) l.words l.operands l.words
