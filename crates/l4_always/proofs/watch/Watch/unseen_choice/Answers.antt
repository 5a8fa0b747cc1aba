use Rattle.std.proofs.Common.{◌≡◌, true, Some, ap, subst, sym, ◌∙◌}
use Rattle.std.specs.Prelude.{IsSome}
use Rattle.l4_model.specs.Machine.{Machine}
use Rattle.l4_model.specs.Steps.{Step}
use Rattle.l4_explore.specs.Inner.Views.{next_from}
use Rattle.l4_futures.specs.Choices.{after_entry}
use Rattle.l4_invariants.specs.Inner.Reads.{goes_unseen}
use Rattle.l4_outlooks.specs.Inner.Foreseen.{Foreseen}
use Rattle.l4_outlooks.specs.Inner.Named.{open_step}
use Rattle.l4_all_endings.specs.Tried.{next_at}
use Rattle.l4_condition_lines.specs.Inner.Reading.{reads_of}
use Rattle.l4_types.specs.StepView.{step_of}
use Rattle.l4_always.proofs.Watching.{is_open, unseen_by}
use Rattle.l4_always.proofs.watch.Watch.unseen_choice.Goals as goal

pub choice_by-requires-clause-possible : goal.choice_by-requires-clause-possible
choice_by-requires-clause-possible c =
    let o = c.args.outlook.now in
    subst (λ (x : Foreseen). IsSome (after_entry x.machine x.world c.args.entry))
    (sym c.in_ok-try_clone.ensures)
    (is_open o.machine o.world c.args.entry (step_of c.in-Some.step) (sym c.in-Some.ensures))

pub returns : goal.returns
returns c =
    let m = c.args.self.now.machine.now in
    let asked = c.args.self.now.condition.now in
    let o = c.args.outlook.now in
    let entry = c.args.entry in
    let step = step_of c.in-Some.step in
    let next = next_from c.in_ok-choice.choice in
    unseen_by m (reads_of asked) o.world entry step next
    (ap (λ (n : Machine). open_step n o.world entry) (sym c.requires.same) ∙ sym c.in-Some.ensures)
    (subst (λ (s : Step). goes_unseen m (reads_of asked) o.world s ≡ true) c.from-step.ensures
    (c.goes_unseen.ensures c.if-not-goes_unseen.false asked
    (c.deref.ensures.value ∙ c.args.self.now.reads)))
    (ap (λ (n : Machine). next_at n o.world entry) (sym c.requires.same)
    ∙ subst (λ (x : Foreseen). next_at x.machine x.world entry ≡ Some next) c.in_ok-try_clone.ensures
    c.in_ok-choice.ensures)
