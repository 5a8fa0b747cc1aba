use Rattle.std.proofs.Common.{◌≡◌, sym, ◌∙◌}
use Rattle.l4_core_model.specs.Schedules.{least_deadline}
use Rattle.l4_rounds.specs.Inner.Replays.{run_of}
use Rattle.l4_rounds.proofs.Replaying.{deadline_next, deadline_own}
use Rattle.l4_rounds.proofs.replays.Replay.earliest_deadline.Goals as goal

pub loop-cpu-preserved : goal.loop-cpu-preserved
loop-cpu-preserved c =
    let r = c.args.self.now in
    let m = r.machine.now in
    let g = (run_of r).system in
    let cpu = c.loop-cpu.cpu in
    let its = c.core.ensures m (run_of r) c.requires.run in
    let own : c.least_deadline.result ≡ least_deadline g cpu =
    c.least_deadline.ensures.value ∙ sym (deadline_own m g cpu c.core.result.now its) in
    c.earliest-first.ensures ∙ deadline_next g cpu c.loop-cpu.first c.least_deadline.result c.loop-cpu.invariant own
