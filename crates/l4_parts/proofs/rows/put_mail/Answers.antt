use Rattle.std.proofs.Common.{arith}
use Rattle.std.proofs.lemmas.List.FromFn.{length-range_with_len}
use Rattle.l4_core_model.specs.Runs.{processors}
use Rattle.l4_states.specs.Inner.Codes.{mail_code, mail_to_code}
use Rattle.l4_codes.proofs.Writing.{each_over}
use Rattle.l4_parts.proofs.Composing.{one_on}
use Rattle.l4_parts.proofs.rows.put_mail.Goals as goal

pub loop-to-preserved : goal.loop-to-preserved
loop-to-preserved c = λ m g i.
    one_on m (mail_to_code (processors m) g.mail) (mail_code (processors m) g.mail) c.loop-to.to
    c.args.code.now c.loop-to.code c.put_mail_to.new.code
    (omega (arith, c.loop-to-test.true, i.cpus_are)) (c.loop-to.invariant m g i)
    (c.in_ok-put_mail_to.ensures m g i)

pub returns : goal.returns
returns c = λ m g i.
    each_over (mail_to_code (processors m) g.mail) (mail_code (processors m) g.mail)
    (processors m) c.loop-to.to c.args.code.now c.loop-to.code
    (omega (arith, c.loop-to-test.false, i.cpus_are, length-range_with_len 0 m.cpus))
    (c.loop-to.invariant m g i)
