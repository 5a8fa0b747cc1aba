use Rattle.l4_colours.proofs.Stripped.{stripped}
use Rattle.l4_colours.proofs.laws.law_colours_are_all_that_is_added.Goals as goal

pub returns : goal.returns
returns c = stripped
