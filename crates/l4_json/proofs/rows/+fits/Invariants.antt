use Rattle.std.proofs.Common.{length}
use Rattle.l4_json.proofs.rows.+fits.Given as goal

abbrev pub decreases-fits : goal.decreases-fits
decreases-fits l = length l.parts.now
