use Rattle.std.proofs.Common.{length}
use Rattle.l4_json.proofs.lines.+push_told.Given as goal

abbrev pub decreases-push_told : goal.decreases-push_told
decreases-push_told l = length l.parts.now
