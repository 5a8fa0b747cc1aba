use Rattle.l4_states.specs.Inner.Codes.{flag_code, global_code, listed, number_code}
use Rattle.l4_codes.proofs.Writing.{last, then}
use Rattle.l4_codes.proofs.messages.put_message.Goals as goal

pub returns : goal.returns
returns c =
    last c.put_global-2.result (λ rest. number_code c.args.message.now.label (listed number_code
    c.args.message.now.words (flag_code c.args.message.now.propagated (global_code
    c.args.message.now.shown rest)))) (global_code c.args.message.now.actual) c.args.code.now
    c.put_global.new.code c.put_global-2.new.code (then (λ rest. number_code
    c.args.message.now.label (listed number_code c.args.message.now.words (flag_code
    c.args.message.now.propagated rest))) (global_code c.args.message.now.shown) c.args.code.now
    c.put_flag.new.self c.put_global.new.code (then (λ rest. number_code c.args.message.now.label
    (listed number_code c.args.message.now.words rest)) (flag_code c.args.message.now.propagated)
    c.args.code.now c.put_words.new.code c.put_flag.new.self (then (number_code
    c.args.message.now.label) (listed number_code c.args.message.now.words) c.args.code.now
    c.put.new.self c.put_words.new.code (rw c.label.ensures.value at c.in_ok-put.ensures) (rw
    c.words.ensures.value at c.in_ok-put_words.ensures)) (rw c.propagated.ensures at
    c.in_ok-put_flag.ensures)) (rw c.shown.ensures at c.in_ok-put_global.ensures)) (rw
    c.actual.ensures at c.put_global-2.ensures)
