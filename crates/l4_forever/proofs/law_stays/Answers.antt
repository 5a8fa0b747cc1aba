use Rattle.std.proofs.Common.{sym, ◌∙◌}
use Rattle.l4_worlds.specs.Timeless.{timeless}
use Rattle.l4_worlds.specs.Late.{no_ticks}
use Rattle.l4_forever.proofs.Waiting.{runs_late, wait_timeless}
use Rattle.l4_forever.proofs.law_stays.Goals as goal

pub returns : goal.returns
returns c = λ m h more place v s goes.
    sym (wait_timeless v place)
    ∙ s.for_ever.stays (no_ticks more) (timeless v) (runs_late m more s.world v goes)
    ∙ wait_timeless s.world place
