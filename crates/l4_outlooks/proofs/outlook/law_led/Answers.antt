use Rattle.l4_outlooks.proofs.Leading.{led}
use Rattle.l4_outlooks.proofs.outlook.law_led.Goals as goal

pub returns : goal.returns
returns c = λ m entries entry o p h b. led m entries entry o p h b
