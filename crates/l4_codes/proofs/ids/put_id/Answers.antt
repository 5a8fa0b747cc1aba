use Rattle.l4_states.specs.Inner.Codes.{id_code, number_code}
use Rattle.std.proofs.Common.{sym, ◌∙◌}
use Rattle.l4_codes.proofs.IdKinds.{local_id, global_id_told}
use Rattle.l4_codes.proofs.Writing.{last, same_last, then}
use Rattle.l4_codes.proofs.ids.put_id.Goals as goal

pub returns-in_ok-put-in-Local : goal.returns-in_ok-put-in-Local
returns-in_ok-put-in-Local c =
    same_last c.put-in-Local-2.result (λ rest. number_code 3 (number_code c.raw.result rest))
    (id_code c.args.id) c.args.code.now c.put-in-Local-2.new.self (λ rest. sym (local_id c.args.id
    c.raw.result (sym c.kind.ensures ∙ c.in-Local.is) c.raw.ensures.value rest))
    (last c.put-in-Local-2.result (number_code 3) (number_code c.raw.result) c.args.code.now
    c.put-in-Local.new.self c.put-in-Local-2.new.self c.in_ok-put-in-Local.ensures
    c.put-in-Local-2.ensures)

pub returns-in_ok-put-in-Global-2 : goal.returns-in_ok-put-in-Global-2
returns-in_ok-put-in-Global-2 c =
    same_last c.put-in-Global-3.result (λ rest. number_code 4 (number_code c.in-Global.number
    (number_code c.in-Global.version rest))) (id_code c.args.id) c.args.code.now
    c.put-in-Global-3.new.self (λ rest. sym (global_id_told c.args.id c.in-Global.number
    c.in-Global.version (sym c.kind.ensures ∙ c.in-Global.is) rest))
    (last c.put-in-Global-3.result (λ rest. number_code 4 (number_code c.in-Global.number rest))
    (number_code c.in-Global.version) c.args.code.now c.put-in-Global-2.new.self
    c.put-in-Global-3.new.self (then (number_code 4) (number_code c.in-Global.number)
    c.args.code.now c.put-in-Global.new.self c.put-in-Global-2.new.self
    c.in_ok-put-in-Global.ensures (rw c.from.ensures at c.in_ok-put-in-Global-2.ensures)) (rw
    c.from-in-Global.ensures at c.put-in-Global-3.ensures))
