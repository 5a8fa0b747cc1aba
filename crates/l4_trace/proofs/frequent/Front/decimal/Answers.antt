use Rattle.std.proofs.Common.{ℕ, ◌-◌, ◌<◌, length, take, get_or, refl, add-one, take-suc, arith}
use Rattle.std.proofs.lemmas.List.{take_rest}
use Rattle.l4_words.proofs.Front.{one_more}
use Rattle.l4_trace.proofs.InFront.{room_for_digit, next_is_small, digit_put, is_number, zero_front, some_text, first_digit}
use Rattle.l4_trace.proofs.frequent.Front.decimal.Goals as goal

pub overflow_mul-value : goal.overflow_mul-value
overflow_mul-value c =
    let l = c.loop-count in
    let room = room_for_digit l.value l.count l.invariant.small (omega (arith, c.loop-count-test.true, c.min-most.ensures)) in
    omega (arith, room)

pub overflow_add-value : goal.overflow_add-value
overflow_add-value c =
    let l = c.loop-count in
    let digit = c.if-is_digit.ensures refl in
    let room = room_for_digit l.value l.count l.invariant.small (omega (arith, c.loop-count-test.true, c.min-most.ensures)) in
    omega (arith, room, digit.1, c.from.ensures)

pub loop-count-init : goal.loop-count-init
loop-count-init c =
    let text = c.self.inside.rest.now in
    let digit = c.if-not-is_digit.ensures refl in
    record {
      some = omega arith;
      within = omega (arith, c.min-most.ensures, some_text text digit.0);
      read = rw c.from-value.ensures (first_digit text digit.0 digit.1);
      small = omega (arith, c.from-value.ensures, digit.1);
    }

pub loop-count-preserved : goal.loop-count-preserved
loop-count-preserved c =
    let l = c.loop-count in
    let text = c.self.inside.rest.now in
    let byte : ℕ = get_or text l.count 0 in
    let test = c.loop-count-test.true in
    let digit = c.if-is_digit.ensures refl in
    let within : l.count < length text = omega (arith, test, c.min-most.ensures) in
    let room = room_for_digit l.value l.count l.invariant.small (omega (arith, test, c.min-most.ensures)) in
    let put = digit_put l.value byte digit.0 digit.1 (omega (arith, room, digit.1)) in
    record {
      some = omega arith;
      within = omega (arith, test);
      read = rw (add-one l.count, take-suc text l.count 0 within, c.from.ensures) (one_more 10 0 l.value byte _ (take l.count text) l.invariant.read put);
      small = rw c.from.ensures (next_is_small l.value (byte - 48) l.count l.invariant.small (omega (arith, digit.1)));
    }

pub returns-then-text-eq48 : goal.returns-then-text-eq48
returns-then-text-eq48 c =
    let text = c.self.inside.rest.now in
    rw (← c.self.view_is, take_rest text 1) (zero_front text c.if-text-eq48.true)

pub returns : goal.returns
returns c =
    let text = c.self.inside.rest.now in
    let l = c.loop-count in
    let i = l.invariant in
    rw (← c.self.view_is, take_rest text l.count)
    (is_number l.value l.count text i.some (omega (arith, i.within, c.min-most.ensures)) c.if-text-eq48.false i.read)
