use Rattle.std.proofs.Common.{ap, arith, subst, sym, ◌+◌, ◌/◌, ◌∙◌}
use Rattle.std.specs.Option.{option_map}
use Rattle.std.specs.Prelude.{slice_get}
use Rattle.l4_types.specs.StepView.{seen}
use Rattle.l4_outlooks.specs.Inner.Standing.{stands_by}
use Rattle.l4_outlooks.proofs.Choosing.{alone_found, AreSoFar, one_found, passed}
use Rattle.l4_outlooks.proofs.Sparing.{judges}
use Rattle.l4_outlooks.proofs.outlook.Outlook.choices.Goals as goal

pub loop-entry-preserved-in_default : goal.loop-entry-preserved-in_default
loop-entry-preserved-in_default c =
    let o = c.args.self.now in
    let l = c.loop-entry in
    passed o.machine o.world l.entries.items l.entry (omega (arith, c.loop-entry-test.true, c.entry_count-entry-end.ensures)) (sym c.open_step.ensures ∙ ap (option_map seen) c.in_default.is) l.invariant

pub returns-then-has : goal.returns-then-has
returns-then-has c =
    let o = c.args.self.now in
    let l = c.loop-entry in
    let s = seen c.in-Some.step in
    let is = sym c.in-Some.ensures in
    let by_place = sym (judges o.machine o.world l.entry s is) ∙ sym (ap (λ xs. stands_by (slice_get xs (l.entry / 14)) s) c.requires) in
    c.in_ok-vec.ensures.items
    ∙ alone_found o.machine o.world l.entries.items l.entry s (omega (arith, c.loop-entry-test.true, c.entry_count-entry-end.ensures)) is (by_place ∙ sym c.has.ensures ∙ c.if-has.true) l.invariant

pub loop-entry-preserved : goal.loop-entry-preserved
loop-entry-preserved c =
    let o = c.args.self.now in
    let l = c.loop-entry in
    let s = seen c.in-Some.step in
    let is = sym c.in-Some.ensures in
    let by_place = sym (judges o.machine o.world l.entry s is) ∙ sym (ap (λ xs. stands_by (slice_get xs (l.entry / 14)) s) c.requires) in
    subst (λ xs. AreSoFar o.machine o.world xs (l.entry + 1)) (sym c.in_ok-push.ensures.items)
    (one_found o.machine o.world l.entries.items l.entry s (omega (arith, c.loop-entry-test.true, c.entry_count-entry-end.ensures)) is (by_place ∙ sym c.has.ensures ∙ c.if-has.false) l.invariant)
