use Rattle.std.proofs.Common.{length, map, sym, subst, arith}
use Rattle.std.proofs.lemmas.List.{length-map}
use Rattle.l4_script.specs.Inner.Scripts.{instr_of}
use Rattle.l4_sets.specs.Inner.Aimed.{AreAimed}
use Rattle.l4_sets.proofs.Aiming.{all_aimed, are_aimed}
use Rattle.l4_sets.proofs.aims.aims_of_script.Goals as goal

pub returns-then-are_settled : goal.returns-then-are_settled
returns-then-are_settled c =
    let script = map instr_of c.args.script.now in
    subst (AreAimed c.args.machine.now script) c.deref.ensures.value
    (are_aimed c.args.machine.now script c.deref.result.now
    (λ k inside. c.are_settled.ensures c.if-are_settled.true k
    (omega (arith, inside, length-map c.args.script.now instr_of))))

pub returns : goal.returns
returns c =
    let script = map instr_of c.args.script.now in
    subst (AreAimed c.args.machine.now script)
    (sym (c.in_ok-all.ensures.items_if_clones_equal (λ y same. same)))
    (all_aimed c.args.machine.now script c.everybody.result (length c.args.script.now)
    (omega (arith, length-map c.args.script.now instr_of)) c.everybody.ensures)
