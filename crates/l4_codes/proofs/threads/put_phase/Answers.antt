use Rattle.l4_states.specs.Inner.Codes.{number_code, phase_code, receive_code}
use Rattle.std.proofs.Common.{sym}
use Rattle.l4_codes.proofs.Phases.{receiving_code}
use Rattle.l4_codes.proofs.Writing.{last, same_last}
use Rattle.l4_codes.proofs.threads.put_phase.Goals as goal

pub returns : goal.returns
returns c =
    same_last c.put_receive.result
    (λ rest. number_code 2 (receive_code c.in-Some.receive.now rest))
    (phase_code c.args.block.now.thread.phase) c.args.code.now c.put_receive.new.code
    (receiving_code c.args.block.now.thread.phase c.in-Some.receive.now (sym c.in-Some.ensures))
    (last c.put_receive.result (number_code 2) (receive_code c.in-Some.receive.now) c.args.code.now
    c.put.new.self c.put_receive.new.code c.in_ok-put.ensures c.put_receive.ensures)
