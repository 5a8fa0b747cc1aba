use Rattle.std.proofs.Common.{◌≡◌, Some, get_or, refl, subst, sym, arith}
use Rattle.std.specs.Prelude.{IsSome}
use Rattle.l4_explore.specs.Inner.Views.{next_from}
use Rattle.l4_futures.specs.Choices.{after_entry}
use Rattle.l4_outlooks.specs.Inner.Foreseen.{Foreseen}
use Rattle.l4_all_endings.specs.Tried.{next_at}
use Rattle.l4_all_endings.proofs.Leading.{one_next, open_at}
use Rattle.l4_stuck.proofs.walks.choices_by.Goals as goal

pub choice_by-requires-clause-possible : goal.choice_by-requires-clause-possible
choice_by-requires-clause-possible c =
    let o = c.args.outlook.now in
    let entries = c.args.entries.now in
    let i = c.loop-entry.entry-index in
    subst (λ (x : Foreseen). IsSome (after_entry x.machine x.world (get_or entries i 0)))
    (sym c.in_ok-copy.ensures)
    (open_at o.machine o.world entries i (omega (arith, c.loop-entry-test.true))
    c.requires.possible)

pub loop-entry-preserved : goal.loop-entry-preserved
loop-entry-preserved c =
    let o = c.args.outlook.now in
    let entries = c.args.entries.now in
    let i = c.loop-entry.entry-index in
    one_next o.machine o.world entries i _ c.loop-entry.choices.items c.push.new.self.items
    c.in_ok-choice_by.field-0 (omega (arith, c.loop-entry-test.true)) refl
    (subst (λ (x : Foreseen). next_at x.machine x.world (get_or entries i 0)
    ≡ Some (next_from c.in_ok-choice_by.field-0)) c.in_ok-copy.ensures c.in_ok-choice_by.ensures)
    c.in_ok-push.ensures.items c.loop-entry.invariant
