use Rattle.l4_colours.proofs.Written.{nothing}
use Rattle.l4_colours.proofs.outputs.PaintedOutput.write_parts.Goals as goal
use Rattle.std.proofs.Common.{refl}

pub returns-in_default-clause-taken : goal.returns-in_default-clause-taken
returns-in_default-clause-taken g c = nothing _ _

pub returns-in_default-clause-same : goal.returns-in_default-clause-same
returns-in_default-clause-same g c = refl
