use Rattle.std.proofs.Common.{◌≡◌, true, false, Ok, Err, subst, arith}
use Rattle.std.specs.Option.{option_copied}
use Rattle.l4_script.specs.Inner.Second.{begins_as_branch}
use Rattle.l4_script.specs.Second.Statements.{plain_of}
use Rattle.l4_script.specs.Second.Texts.{Reading, has_script, may_be_labelled}
use Rattle.l4_script.proofs.Judging.{fails}
use Rattle.l4_script.proofs.Labelling.{no_plain}
use Rattle.l4_script.proofs.text.second.reading.Reading.instruction_line.Goals as goal

pub returns-in-Err-clause-leads : goal.returns-in-Err-clause-leads
returns-in-Err-clause-leads c =
    let r = c.args.self.now in
    let label = option_copied c.args.label in
    let script : has_script r ≡ true = grind (arith, c.has_script.ensures, c.if-not-has_script.false) in
    let may : may_be_labelled r label ≡ Ok tt = grind (arith, c.may_be_labelled.ensures, c.in_ok-may_be_labelled.was) in
    let none : begins_as_branch c.args.name.now ≡ false = grind (arith, c.begins_as_branch.ensures, c.if-begins_as_branch.false) in
    let kind = c.in-Err.kind in
    let said = rw (c.as_slice.ensures.value, c.in-Err.is) at c.plain.ensures in
    let plain = subst (λ (r : Reading). plain_of r.format r.names c.args.name.now c.args.operands ≡ Err kind) c.self.view_is said in
    fails kind _ (no_plain c.args.line label c.args.name.now c.args.operands r kind script may none plain)
