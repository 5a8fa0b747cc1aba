-- Counts that one more step can be added to.
use Rattle.std.specs.Prelude.{◌<◌, ◌^◌}
use Rattle.l4_counts.specs.declared.counts.Counts.{Counts}

pub record AreFew (c : Counts) : Type 0 where
  pub turns : c.turns < 2 ^ 63
  pub sends : c.sends < 2 ^ 63
  pub delivered : c.delivered < 2 ^ 63
  pub received : c.received < 2 ^ 63
  pub send_timeouts : c.send_timeouts < 2 ^ 63
  pub receive_timeouts : c.receive_timeouts < 2 ^ 63
  pub sends_to_nobody : c.sends_to_nobody < 2 ^ 63
  pub receives_from_nobody : c.receives_from_nobody < 2 ^ 63
  pub sends_cancelled : c.sends_cancelled < 2 ^ 63
  pub receives_cancelled : c.receives_cancelled < 2 ^ 63
