use Rattle.std.proofs.Common.{◌<◌, nat_lt, subst, sym, true, ◌∙◌}
use Rattle.std.proofs.lemmas.Bool.{ltb-true}
use Rattle.l4_model.proofs.Chains.{some_is}
use Rattle.l4_stuck.proofs.Walking.{is_later, no_one}
use Rattle.l4_stuck.proofs.walks.is_later.Goals as goal

pub returns-in-Some : goal.returns-in-Some
returns-in-Some c =
    is_later c.args.found.now c.args.place c.args.code.now c.place_of.result
    (nat_lt c.args.place c.in-Some.at) c.requires.inside c.requires.once c.place_of.ensures.found
    c.place_of.ensures.absent
    (λ i here later. subst (λ j. c.args.place < j) (some_is c.in-Some.at i (sym c.in-Some.is ∙ here))
    (ltb-true c.args.place c.in-Some.at later))

pub returns-in-None : goal.returns-in-None
returns-in-None c =
    is_later c.args.found.now c.args.place c.args.code.now c.place_of.result true
    c.requires.inside c.requires.once c.place_of.ensures.found c.place_of.ensures.absent
    (λ i here later. no_one i (sym c.in-None.is ∙ here))
