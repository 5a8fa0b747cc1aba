use Rattle.std.proofs.Common.{◌≡◌, length, map, subst, sym, ◌∙◌, arith}
use Rattle.std.specs.Prelude.{vec_len}
use Rattle.std.proofs.lemmas.Grind.{common_steps}
use Rattle.l4_explore.specs.Inner.Views.{next_from}
use Rattle.l4_states.specs.Choices.{state_after}
use Rattle.l4_endings.specs.Inner.Posted.{IsClosedIn}
use Rattle.l4_endings.specs.Inner.Tried.{is_of}
use Rattle.l4_endings.proofs.Nexts.{lead_on}
use Rattle.l4_endings.proofs.Persisting.{counted, with_all, with_some}
use Rattle.l4_endings.proofs.memory.choices_behind.Goals as goal

pub returns-then-not-is_empty-clause-leads : goal.returns-then-not-is_empty-clause-leads
returns-then-not-is_empty-clause-leads c =
    let m = c.args.aims.now in
    lead_on (state_after m) (is_of m c.in_ok-set.set) c.args.schedule.now 0 _
    (map next_from c.in_ok-choices.choices.items) c.in_ok-choices.ensures.listed

pub returns-then-not-is_empty-clause-offered : goal.returns-then-not-is_empty-clause-offered
returns-then-not-is_empty-clause-offered c =
    let m = c.args.aims.now in
    let row = c.args.row.now in
    let set = c.in_ok-set.set in
    let choices = c.in_ok-choices.choices in
    let many : vec_len choices ≡ length choices.items = grind (arith, common_steps) in
    with_some m c.cpus.ensures.lawful (omega (arith, c.cpus.ensures.limit, c.cpus.ensures.value))
    c.args.schedule.now c.args.parts.now.parts.items row c.requires.known.parts_are c.requires.row
    c.requires.short set (map next_from choices.items)
    (subst (λ n. IsClosedIn c.args.parts.now.parts.items row n set) c.cpus.ensures.value
    (subst (λ ps. IsClosedIn ps row c.cpus.result set) c.deref.ensures.value c.in_ok-set.ensures))
    c.in_ok-choices.ensures.listed
    (counted choices.items (vec_len choices) many (sym c.is_empty.ensures ∙ c.if-not-is_empty.true))

pub returns-clause-leads : goal.returns-clause-leads
returns-clause-leads c =
    let m = c.args.aims.now in
    lead_on (state_after m) (is_of m c.from-everybody.result) c.args.schedule.now 0 _
    (map next_from c.in_ok-choices-2.choices.items) c.in_ok-choices-2.ensures.listed

pub returns-clause-offered : goal.returns-clause-offered
returns-clause-offered c =
    with_all c.args.aims.now c.cpus.ensures.lawful
    (omega (arith, c.cpus.ensures.limit, c.cpus.ensures.value)) c.args.schedule.now
    c.args.parts.now.parts.items c.args.row.now c.requires.known.parts_are c.requires.row
    c.requires.short c.from-everybody.result (map next_from c.in_ok-choices-2.choices.items)
    c.from-everybody.ensures c.in_ok-choices-2.ensures.listed
