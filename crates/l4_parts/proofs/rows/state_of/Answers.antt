use Rattle.std.proofs.Common.{◌∙◌}
use Rattle.l4_parts.proofs.Composing.{is_state}
use Rattle.l4_parts.proofs.rows.state_of.Goals as goal

pub returns : goal.returns
returns c = λ m g i.
    is_state m g c.reserve.new.self c.put_cores.new.code c.put_mail.new.code
    c.in_ok-into_bytes.field-0.items c.is_at_rest.result (c.reserve.ensures ∙ c.new-code.ensures)
    (c.in_ok-put_cores.ensures m g i) (c.in_ok-put_mail.ensures m g i)
    c.in_ok-into_bytes.ensures (c.is_at_rest.ensures m g i)
