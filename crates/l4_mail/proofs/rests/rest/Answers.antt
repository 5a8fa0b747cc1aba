use Rattle.std.proofs.Common.{sym, arith}
use Rattle.l4_mail.specs.Ports.{account}
use Rattle.l4_mail.proofs.Whole.{same_length}
use Rattle.l4_mail.proofs.Numbers.{are_few}
use Rattle.l4_mail.proofs.rests.rest.Goals as goal

pub list-requires : goal.list-requires
list-requires c =
    let few = are_few c.args.ports.now (sym c.if-not-are_all.ensures) in
    let len = same_length account c.rest_all.new.ports c.args.ports.now c.rest_all.ensures.same in omega arith
