use Rattle.l4_json.proofs.Fitting.{text_part_fits}
use Rattle.l4_json.proofs.rows.+fits.Goals as goal

pub returns-in-Text-Some : goal.returns-in-Text-Some
returns-in-Text-Some t c = text_part_fits c.args.parts.now _ _ _ _ _ c.in-Some.ensures.cases.0 c.in-Text-Some.is-0 c.in-Text-Some.is-1
