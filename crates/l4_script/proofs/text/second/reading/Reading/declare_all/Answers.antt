use Rattle.std.proofs.Common.{ℕ, ◌+◌, subst, sym}
use Rattle.l4_script.specs.Inner.Second.{heir_of}
use Rattle.l4_script.specs.Second.Texts.{Reading}
use Rattle.l4_script.proofs.Declaring.{IsLeft, begins, goes_on}
use Rattle.l4_script.proofs.text.second.reading.Reading.declare_all.Goals as goal

pub numbers-init : goal.numbers-init
numbers-init c =
    let heir = heir_of c.args.heir.now in
    subst (λ (number : ℕ). IsLeft heir c.args.source c.args.self.now number c.args.self.now) (sym c.number-number.ensures)
    (begins heir c.args.source c.args.self.now c.requires.rises c.requires.may c.requires.source)

pub numbers-preserved : goal.numbers-preserved
numbers-preserved c =
    let heir = heir_of c.args.heir.now in
    subst (λ (r : Reading). IsLeft heir c.args.source c.args.self.now (c.numbers.number + 1) r) (sym c.in_ok-declare.ensures)
    (goes_on heir c.args.source c.args.self.now c.numbers.number c.numbers.self c.numbers.invariant c.numbers-test.true)
