use Rattle.std.proofs.Common.{eqb, rules, tests}
use Rattle.std.proofs.lemmas.Iterator.Splits.{YieldsList-from_slice_split}
use Rattle.std.proofs.lemmas.Iterator.Search.{any_from_yields_List}
use Rattle.l4_colours.specs.Tones.{is_bad}
use Rattle.l4_colours.proofs.tones.has_bad.Goals as goal

pub returns : goal.returns
returns c =
    any_from_yields_List is_bad _ _ _ c.any.ensures.ran (YieldsList-from_slice_split _ (λ b. eqb b 32) c.args.line.now c.split.ensures.rest c.split.ensures.done c.split.ensures.closure (λ x b q h. search (rules, tests))) (λ x b q k. search (rules, tests))
