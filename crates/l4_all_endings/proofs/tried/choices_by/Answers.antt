use Rattle.std.proofs.Common.{◌≡◌, Some, get_or, map, refl, subst, sym, arith}
use Rattle.std.proofs.lemmas.List.{take_all}
use Rattle.std.specs.Prelude.{IsSome}
use Rattle.l4_explore.specs.Inner.Views.{next_from}
use Rattle.l4_futures.specs.Choices.{after_entry}
use Rattle.l4_outlooks.specs.Inner.Foreseen.{Foreseen}
use Rattle.l4_all_endings.specs.Tried.{next_at, nexts_at, AreOpen}
use Rattle.l4_all_endings.proofs.Leading.{last_next, one_next, open_before, open_last}
use Rattle.l4_all_endings.proofs.tried.choices_by.Goals as goal

pub choice_by-requires-clause-possible : goal.choice_by-requires-clause-possible
choice_by-requires-clause-possible c =
    let o = c.args.outlook in
    let others = c.in-Some.others.now in
    let i = c.loop-entry.entry-index in
    subst (λ (x : Foreseen). IsSome (after_entry x.machine x.world (get_or others i 0)))
    (sym c.in_ok-copy.ensures)
    (open_before o.machine o.world others _ i (omega (arith, c.loop-entry-test.true))
    (subst (AreOpen o.machine o.world) c.in-Some.ensures.cases.0 c.requires.possible))

pub loop-entry-preserved : goal.loop-entry-preserved
loop-entry-preserved c =
    let o = c.args.outlook in
    let others = c.in-Some.others.now in
    let i = c.loop-entry.entry-index in
    one_next o.machine o.world others i _ c.loop-entry.choices.items c.push.new.self.items
    c.in_ok-choice_by.field-0 (omega (arith, c.loop-entry-test.true)) refl
    (subst (λ (x : Foreseen). next_at x.machine x.world (get_or others i 0)
    ≡ Some (next_from c.in_ok-choice_by.field-0)) c.in_ok-copy.ensures c.in_ok-choice_by.ensures)
    c.in_ok-push.ensures.items c.loop-entry.invariant

pub choice_by-requires-2-clause-possible : goal.choice_by-requires-2-clause-possible
choice_by-requires-2-clause-possible c =
    let o = c.args.outlook in
    open_last o.machine o.world c.in-Some.others.now c.in-Some.last.now
    (subst (AreOpen o.machine o.world) c.in-Some.ensures.cases.0 c.requires.possible)

pub returns : goal.returns
returns c =
    let o = c.args.outlook in
    last_next o.machine o.world c.args.tried.now c.in-Some.others.now c.in-Some.last.now
    c.loop-entry.choices.items c.push-2.new.self.items c.in_ok-choice_by-2.field-0
    c.in-Some.ensures.cases.0 c.in_ok-choice_by-2.ensures c.in_ok-push-2.ensures.items
    (subst (λ xs. map next_from c.loop-entry.choices.items ≡ nexts_at o.machine o.world xs)
    (take_all c.loop-entry.entry-index c.in-Some.others.now
    (omega (arith, c.loop-entry-test.false))) c.loop-entry.invariant)
