use Rattle.std.proofs.Common.{ap, arith, sym, ◌∙◌}
use Rattle.std.specs.Option.{option_map}
use Rattle.l4_types.specs.StepView.{seen}
use Rattle.l4_outlooks.proofs.Choosing.{goes_on, left_none}
use Rattle.l4_outlooks.proofs.outlook.Outlook.is_end.Goals as goal

pub returns-in-Some : goal.returns-in-Some
returns-in-Some c =
    let o = c.args.self.now in
    let l = c.loop-entry in
    sym (goes_on o.machine o.world l.entry _ (omega (arith, c.loop-entry-test.true, c.entry_count-entry-end.ensures)) (sym c.in-Some.ensures) l.invariant)

pub loop-entry-preserved : goal.loop-entry-preserved
loop-entry-preserved c =
    let o = c.args.self.now in
    let l = c.loop-entry in
    l.invariant
    ∙ left_none o.machine o.world l.entry (omega (arith, c.loop-entry-test.true, c.entry_count-entry-end.ensures)) (sym c.open_step.ensures ∙ ap (option_map seen) c.in-None.is)
