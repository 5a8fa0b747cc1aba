use Rattle.std.proofs.Common.{arith}
use Rattle.l4_words.proofs.Few.{room_for_digit}
use Rattle.l4_words.proofs.numbers.value_of_few.Goals as goal

pub with_next_digit-requires-clause-room : goal.with_next_digit-requires-clause-room
with_next_digit-requires-clause-room c =
    let l = c.loop-byte in
    let within = c.loop-byte-test.true in
    room_for_digit l.value l.byte-index l.invariant.1 (omega (arith, within, c.requires.few))
