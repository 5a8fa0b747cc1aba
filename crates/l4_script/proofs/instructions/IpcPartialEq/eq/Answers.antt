use Rattle.std.proofs.Math.Bool.{and_assoc}
use Rattle.l4_script.proofs.instructions.IpcPartialEq.eq.Goals as goal

pub returns : goal.returns
returns c =
    rw (c.and_eq-3.ensures, c.and_eq-2.ensures, c.and_eq.ensures, c.eq.ensures, ← c.t1-1.view_is, ← c.t2-1.view_is, and_assoc, and_assoc)
