use Rattle.std.proofs.Common.{sym, ◌∙◌}
use Rattle.l4_core_model.specs.Schedules.{ticks}
use Rattle.l4_rounds.specs.Inner.Replays.{run_of}
use Rattle.l4_rounds.proofs.Replaying.{stays_at}
use Rattle.l4_rounds.proofs.Rounds.{not_ahead, unticked}
use Rattle.l4_rounds.proofs.replays.Replay.tick.Goals as goal

pub returns-in_default : goal.returns-in_default
returns-in_default c =
    let r = c.args.self.now in
    stays_at ticks r c.requires.replay
    (unticked r.machine.now (run_of r) c.in-Some.deadline (sym c.earliest_deadline.ensures ∙ c.in-Some.is)
    (not_ahead c.in-Some.deadline (sym c.if-is_ahead.ensures)))
