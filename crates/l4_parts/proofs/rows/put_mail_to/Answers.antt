use Rattle.std.proofs.Common.{◌<◌, arith, ap, ◌∙◌}
use Rattle.std.proofs.lemmas.List.FromFn.{length-range_with_len}
use Rattle.l4_core_model.specs.Runs.{letters, processors}
use Rattle.l4_states.specs.Inner.Codes.{mail_from_code, mail_to_code}
use Rattle.l4_codes.proofs.Writing.{each_over}
use Rattle.l4_parts.specs.Inner.Numbers.{part_at}
use Rattle.l4_parts.specs.Inner.Known.{number_at}
use Rattle.l4_parts.proofs.Composing.{one_on, pair_empty, pair_written}
use Rattle.l4_parts.proofs.rows.put_mail_to.Goals as goal

pub loop-from-preserved : goal.loop-from-preserved
loop-from-preserved c = λ m g i.
    let parts = c.args.parts.now in
    let row = c.args.row.now in
    let from = c.loop-from.from in
    let own : from < c.args.cpus = omega (arith, c.loop-from-test.true) in
    let is = c.part.ensures ∙ ap (λ n. part_at parts (number_at row n)) c.pair_place.ensures in
    one_on m (mail_from_code g.mail c.args.to) (mail_to_code (processors m) g.mail c.args.to) from
    c.args.code.now c.loop-from.code c.put_letters.new.code
    (omega (arith, c.loop-from-test.true, i.cpus_are)) (c.loop-from.invariant m g i)
    (c.in_ok-put_letters.ensures (letters g.mail from c.args.to)
    (pair_empty m g parts row c.args.cpus i from c.args.to c.part.result.now own c.requires.to is)
    (pair_written m g parts row c.args.cpus i from c.args.to c.part.result.now own c.requires.to is))

pub returns : goal.returns
returns c = λ m g i.
    each_over (mail_from_code g.mail c.args.to) (mail_to_code (processors m) g.mail c.args.to)
    (processors m) c.loop-from.from c.args.code.now c.loop-from.code
    (omega (arith, c.loop-from-test.false, i.cpus_are, length-range_with_len 0 m.cpus))
    (c.loop-from.invariant m g i)
