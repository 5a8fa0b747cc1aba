use Rattle.std.proofs.Common.{◌≡◌, take}
use Rattle.l4_told.specs.Inner.Kept.{begins}
use Rattle.l4_told.proofs.kept_steps.begun_history.Given as goal

abbrev pub invariant-loop-name : goal.invariant-loop-name
invariant-loop-name l = l.history.steps ≡ begins (take l.name-index l.sends)
