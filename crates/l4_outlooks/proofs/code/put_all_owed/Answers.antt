use Rattle.std.proofs.Common.{arith}
use Rattle.l4_types.specs.Inner.OwedView.{owed_of}
use Rattle.l4_states.specs.Inner.Codes.{owed_code}
use Rattle.l4_outlooks.proofs.Coding.{viewed_on}
use Rattle.l4_outlooks.proofs.code.put_all_owed.Goals as goal

pub loop-owed-preserved : goal.loop-owed-preserved
loop-owed-preserved c =
    let l = c.loop-owed in
    viewed_on owed_of owed_code c.args.all.now l.owed-index c.owed-item.result c.args.code.now l.code c.put.new.self c.put_owed.new.code (omega (arith, c.loop-owed-test.true)) c.owed-item.is l.invariant
    c.in_ok-put.ensures c.in_ok-put_owed.ensures
