-- What a contract sees of an `Ipc`.
use Rattle.l4_types.specs.declared.times.Period.{Period}
use Rattle.l4_script.specs.declared.instructions.IdFrom.{IdFrom}

pub record Call : Type 0 where
  pub to : IdFrom
  pub from : IdFrom
  pub send_period : Period
  pub receive_period : Period
