use Rattle.l4_states.specs.Inner.Codes.{id_code, number_code, optional}
use Rattle.l4_codes.proofs.Writing.{last}
use Rattle.l4_codes.proofs.messages.put_receive.Goals as goal

pub returns : goal.returns
returns c =
    last c.put_period.result (id_code c.args.receive.from)
    (optional number_code c.args.receive.period) c.args.code.now c.put_id.new.code
    c.put_period.new.code (rw c.from.ensures at c.in_ok-put_id.ensures)
    (rw c.period.ensures.value at c.put_period.ensures)
