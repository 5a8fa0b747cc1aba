use Rattle.std.proofs.Common.{map, ap, ◌∙◌}
use Rattle.l4_types.specs.StepView.{step_of}
use Rattle.l4_trace.specs.Reading.{steps_of}
use Rattle.l4.proofs.round_trips.audited_outcome.Goals as goal

pub read_back-requires : goal.read_back-requires
read_back-requires c = (
  map step_of c.as_slice.result.now,
  ap steps_of (c.as_slice-2.ensures.value ∙ c.in_ok-trace.ensures.lines) ∙ c.law_read_back.ensures.read_back _ c.in_ok-trace.ensures.spelled,
)
