use Rattle.std.proofs.Common.{eqb, ap, rules, tests, ◌∙◌, sym}
use Rattle.std.specs.Option.{option_copied}
use Rattle.std.proofs.lemmas.Iterator.Splits.{YieldsList-from_slice_split}
use Rattle.std.proofs.lemmas.Iterator.Search.{any_from_yields_List}
use Rattle.l4_questions.specs.Resting.{may_rest, names}
use Rattle.l4_questions.proofs.resting.may_rest.Goals as goal

pub returns-in-Some : goal.returns-in-Some
returns-in-Some c =
    any_from_yields_List (names c.args.id) _ _ _ c.any.ensures.ran (YieldsList-from_slice_split _ (λ b. eqb b 44) c.in-Some.list.now (c.split.ensures.rest ∙ c.as_bytes.ensures.value) c.split.ensures.done c.split.ensures.closure (λ x b q h. search (rules, tests))) (λ x b q k. search (rules, tests))
    ∙ ap (λ list. may_rest (option_copied list) c.args.id) (sym c.in-Some.is)
