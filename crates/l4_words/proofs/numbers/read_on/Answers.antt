use Rattle.std.proofs.Common.{sym, take, get_or, add-one, arith}
use Rattle.std.proofs.Math.Seq.{take-suc}
use Rattle.l4_words.proofs.Few.{room_for_digit, next_is_small}
use Rattle.l4_words.proofs.Front.{one_more}
use Rattle.l4_words.proofs.numbers.read_on.Goals as goal

pub with_next_digit-requires-clause-room : goal.with_next_digit-requires-clause-room
with_next_digit-requires-clause-room c =
    let l = c.loop-count in
    let within = c.loop-count-test.true in
    room_for_digit l.value l.count l.invariant.small (omega (arith, within, c.requires.few))

pub loop-count-preserved : goal.loop-count-preserved
loop-count-preserved c =
    let l = c.loop-count in
    let text = c.args.text.now in
    let within = c.loop-count-test.true in
    let read = one_more c.args.radix 0 l.value (get_or text l.count 0) c.in-Some.more (take l.count text) l.invariant.read (sym c.in-Some.ensures.value) in
    record {
      within = omega (arith, within);
      read = rw (add-one l.count, take-suc text l.count 0 (omega (arith, within))) read;
      small = next_is_small l.value c.in-Some.more l.count l.invariant.small c.in-Some.ensures.small;
    }
