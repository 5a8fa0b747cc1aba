use Rattle.l4_states.specs.Inner.Codes.{global_code, name_code}
use Rattle.l4_codes.proofs.Writing.{last, then}
use Rattle.l4_codes.proofs.letters.put_owed.Goals as goal

pub returns : goal.returns
returns c =
    last c.put_global-3.result (λ rest. name_code c.args.owed.now.send (global_code
    c.args.owed.now.originator (global_code c.args.owed.now.old_partner rest))) (global_code
    c.args.owed.now.new_partner) c.args.code.now c.put_global-2.new.code c.put_global-3.new.code
    (then (λ rest. name_code c.args.owed.now.send (global_code c.args.owed.now.originator rest))
    (global_code c.args.owed.now.old_partner) c.args.code.now c.put_global.new.code
    c.put_global-2.new.code (then (name_code c.args.owed.now.send) (global_code
    c.args.owed.now.originator) c.args.code.now c.put_name.new.code c.put_global.new.code
    c.in_ok-put_name.ensures c.in_ok-put_global.ensures) c.in_ok-put_global-2.ensures)
    c.put_global-3.ensures
