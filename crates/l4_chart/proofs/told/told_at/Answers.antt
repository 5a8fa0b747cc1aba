use Rattle.l4_types.specs.StepView.{seen}
use Rattle.l4_chart.specs.Waiting.{all_waits}
use Rattle.l4_chart.proofs.Walking.{told_is}
use Rattle.std.proofs.Common.{ap, ◌∙◌}
use Rattle.l4_chart.specs.Changes.{all_held, changes_since}
use Rattle.l4_chart.proofs.told.told_at.Goals as goal

pub returns-clause-told : goal.returns-clause-told
returns-clause-told c =
    told_is c.args.world.now c.take.new.world c.args.listing.now c.args.watched.now c.args.number (seen c.args.step) _ _ _ _ _ _ c.in_ok-take.ensures
    c.known_before-known.ensures c.step_destination-to.ensures c.step_instruction-at.ensures (c.in_ok-held.ensures ∙ ap (all_held c.args.world.now.machine c.args.world.now.world) c.changing.ensures)
    (c.in_ok-changes.ensures ∙ ap (changes_since c.take.new.world.machine c.take.new.world.world) c.as_slice.ensures.value)
    (c.in_ok-waits.ensures ∙ ap (all_waits c.take.new.world.machine c.take.new.world.world) c.columns.ensures)
