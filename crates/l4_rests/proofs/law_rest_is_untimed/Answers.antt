use Rattle.l4_rests.proofs.Rest.{rest_untimed, rest_in_order_untimed}
use Rattle.l4_rests.proofs.law_rest_is_untimed.Goals as goal

pub returns-clause-told : goal.returns-clause-told
returns-clause-told c = rest_untimed

pub returns-clause-in_order : goal.returns-clause-in_order
returns-clause-in_order c = rest_in_order_untimed
