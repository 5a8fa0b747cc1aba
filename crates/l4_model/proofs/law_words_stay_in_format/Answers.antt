use Rattle.l4_model.proofs.InFormat.{stays_in}
use Rattle.l4_model.proofs.law_words_stay_in_format.Goals as goal

pub returns : goal.returns
returns c = stays_in
