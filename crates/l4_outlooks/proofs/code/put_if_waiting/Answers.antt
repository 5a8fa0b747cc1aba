use Rattle.std.proofs.Common.{ap, sym, ◌∙◌}
use Rattle.l4_states.specs.Inner.Codes.{number_code}
use Rattle.l4_codes.proofs.Writing.{last, same_last}
use Rattle.l4_outlooks.specs.Inner.Named.{sender_code}
use Rattle.l4_outlooks.proofs.code.put_if_waiting.Goals as goal

pub returns : goal.returns
returns c =
    let n = c.args.sender in
    same_last c.put-2.result (λ rest. number_code 1 (number_code n rest)) _ c.args.code.now c.put-2.new.self
    (λ rest. ap (λ b. sender_code b n rest) (sym (sym c.waits_at.ensures ∙ c.if-not-waits_at.false)))
    (last c.put-2.result (number_code 1) (number_code n) c.args.code.now c.put.new.self c.put-2.new.self c.in_ok-put.ensures c.put-2.ensures)
