use Rattle.l4_waits.proofs.Circling.{circles_exactly}
use Rattle.l4_waits.proofs.circles.law_circles.Goals as goal

pub returns : goal.returns
returns c = circles_exactly
