use Rattle.std.proofs.Common.{ap}
use Rattle.l4_core_model.specs.Plain.{Waiting}
use Rattle.l4_states.specs.Inner.Codes.{flag_code, global_code, number_code, waiting_code}
use Rattle.l4_codes.proofs.Writing.{last, same_last, then}
use Rattle.l4_codes.proofs.processors.put_send.Goals as goal

pub returns : goal.returns
returns c =
    let s = c.send.inside in
    same_last c.put_flag.result
    (λ rest. number_code s.block (global_code s.shown (flag_code s.local rest)))
    (waiting_code c.args.send) c.args.code.now c.put_flag.new.self
    (λ rest. ap (λ (w : Waiting). waiting_code w rest) c.send.view_is)
    (last c.put_flag.result (λ rest. number_code s.block (global_code s.shown rest))
    (flag_code s.local) c.args.code.now c.put_global.new.code c.put_flag.new.self
    (then (number_code s.block) (global_code s.shown) c.args.code.now c.put.new.self
    c.put_global.new.code c.in_ok-put.ensures c.in_ok-put_global.ensures) c.put_flag.ensures)
