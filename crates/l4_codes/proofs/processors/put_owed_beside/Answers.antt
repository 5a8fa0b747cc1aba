use Rattle.std.proofs.Common.{Option, ap, sym}
use Rattle.std.specs.Option.{option_map}
use Rattle.l4_types.specs.Inner.OwedView.{owed_of}
use Rattle.l4_types.specs.declared.owed.Owed.{Owed}
use Rattle.l4_states.specs.Inner.Codes.{number_code, optional, owed_code}
use Rattle.l4_codes.proofs.Writing.{last, same_last}
use Rattle.l4_codes.proofs.processors.put_owed_beside.Goals as goal

pub returns-in_ok-put-in-Some : goal.returns-in_ok-put-in-Some
returns-in_ok-put-in-Some c =
    same_last c.put_owed.result (λ rest. number_code 1 (owed_code (owed_of c.in-Some.owed) rest))
    (optional owed_code (option_map owed_of c.args.owed)) c.args.code.now c.put_owed.new.code
    (λ rest. ap (λ (o : Option Owed). optional owed_code (option_map owed_of o) rest)
    (sym c.in-Some.is))
    (last c.put_owed.result (number_code 1) (owed_code (owed_of c.in-Some.owed)) c.args.code.now
    c.put-in-Some.new.self c.put_owed.new.code c.in_ok-put-in-Some.ensures c.put_owed.ensures)
