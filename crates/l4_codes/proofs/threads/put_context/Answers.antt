use Rattle.l4_states.specs.Inner.Codes.{each, id_code, length_code, number_code}
use Rattle.l4_model.specs.Words.{register_count}
use Rattle.std.proofs.Common.{length}
use Rattle.l4_codes.proofs.Writing.{last, then}
use Rattle.l4_codes.proofs.threads.put_context.Goals as goal

pub returns : goal.returns
returns c =
    last c.put-2.result (λ rest. number_code (length_code register_count (length c.args.thread.now.context.words))
    (each number_code c.args.thread.now.context.words (number_code c.args.thread.now.context.error
    (id_code c.args.thread.now.context.from (id_code c.args.thread.now.context.actual rest)))))
    (number_code c.args.thread.now.context.place) c.args.code.now c.put_id-2.new.code
    c.put-2.new.self (then (λ rest. number_code (length_code register_count (length
    c.args.thread.now.context.words)) (each number_code c.args.thread.now.context.words (number_code
    c.args.thread.now.context.error (id_code c.args.thread.now.context.from rest)))) (id_code
    c.args.thread.now.context.actual) c.args.code.now c.put_id.new.code c.put_id-2.new.code (then
    (λ rest. number_code (length_code register_count (length c.args.thread.now.context.words)) (each
    number_code c.args.thread.now.context.words (number_code c.args.thread.now.context.error rest)))
    (id_code c.args.thread.now.context.from) c.args.code.now c.put.new.self c.put_id.new.code (then
    (λ rest. number_code (length_code register_count (length c.args.thread.now.context.words)) (each
    number_code c.args.thread.now.context.words rest)) (number_code c.args.thread.now.context.error)
    c.args.code.now c.put_all.new.self c.put.new.self (then (number_code (length_code register_count
    (length c.args.thread.now.context.words))) (each number_code c.args.thread.now.context.words)
    c.args.code.now c.put_length.new.self c.put_all.new.self (rw (
      c.as_slice-words.ensures,
      c.regs-regs.ensures,
    ) at c.in_ok-put_length.ensures) (rw (
      c.as_slice-words.ensures,
      c.regs-regs.ensures,
    ) at c.in_ok-put_all.ensures)) (rw c.regs-regs.ensures at
    c.in_ok-put.ensures)) (rw c.regs-regs.ensures at c.in_ok-put_id.ensures)) (rw
    c.regs-regs.ensures at c.in_ok-put_id-2.ensures)) (rw c.place.ensures at c.put-2.ensures)
