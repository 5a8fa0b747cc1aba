use Rattle.l4_core.proofs.PlaceSets.{lowest_is}
use Rattle.l4_core.proofs.places.lowest.Goals as goal

pub returns : goal.returns
returns c = lowest_is c.args.word c.requires c.ranges.word.fits
