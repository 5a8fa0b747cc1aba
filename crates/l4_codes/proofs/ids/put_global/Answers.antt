use Rattle.l4_states.specs.Inner.Codes.{number_code}
use Rattle.l4_codes.proofs.Writing.{last}
use Rattle.l4_codes.proofs.ids.put_global.Goals as goal

pub returns : goal.returns
returns c =
    last c.put-2.result (number_code c.args.id.number) (number_code c.args.id.version)
    c.args.code.now c.put.new.self c.put-2.new.self (rw (c.from.ensures, c.number.ensures) at
    c.in_ok-put.ensures) (rw (c.from-2.ensures, c.version.ensures.value) at c.put-2.ensures)
