use Rattle.std.proofs.Common.{refl, sym, subst, ◌∙◌, arith}
use Rattle.std.specs.Prelude.{IsSome}
use Rattle.l4_model.proofs.Chains.{some_is}
use Rattle.l4_model.specs.History.{run}
use Rattle.l4_worlds.specs.Told.{when_due}
use Rattle.l4_all_endings.proofs.Leading.{open_on_way}
use Rattle.l4_all_endings.proofs.Telling.{is_one_more, told_on}
use Rattle.l4_all_endings.proofs.traces.trace_of.Goals as goal

pub tell_when_due-requires-clause-clocks : goal.tell_when_due-requires-clause-clocks
tell_when_due-requires-clause-clocks c =
    (is_one_more c.args.machine.now c.args.entries.now c.loop-entry.entry-index _
    c.loop-entry.outlook c.loop-entry.telling c.know_times.ensures c.facts.ensures.limit
    (omega (arith, c.loop-entry-test.true)) refl c.requires.few c.requires.leads
    c.loop-entry.invariant).few

pub tell_when_due-requires-clause-due : goal.tell_when_due-requires-clause-due
tell_when_due-requires-clause-due c =
    let x = is_one_more c.args.machine.now c.args.entries.now c.loop-entry.entry-index _
    c.loop-entry.outlook c.loop-entry.telling c.know_times.ensures c.facts.ensures.limit
    (omega (arith, c.loop-entry-test.true)) refl c.requires.few c.requires.leads
    c.loop-entry.invariant in
    let a = c.loop-entry.telling.auditor.at in
    let same = c.from.ensures ∙ some_is _ x.step (c.in-Some.ensures ∙ x.is) in
    subst (λ s. IsSome (run a.machine a.world (when_due a.machine a.world s))) (sym same)
    (subst IsSome (sym x.leads) refl)

pub take-requires-clause-possible : goal.take-requires-clause-possible
take-requires-clause-possible c =
    open_on_way c.args.machine.now c.args.entries.now c.loop-entry.entry-index c.loop-entry.outlook
    (omega (arith, c.loop-entry-test.true)) c.requires.leads c.loop-entry.invariant.led

pub loop-entry-preserved : goal.loop-entry-preserved
loop-entry-preserved c =
    let x = is_one_more c.args.machine.now c.args.entries.now c.loop-entry.entry-index _
    c.loop-entry.outlook c.loop-entry.telling c.know_times.ensures c.facts.ensures.limit
    (omega (arith, c.loop-entry-test.true)) refl c.requires.few c.requires.leads
    c.loop-entry.invariant in
    let same = c.from.ensures ∙ some_is _ x.step (c.in-Some.ensures ∙ x.is) in
    told_on c.args.machine.now c.args.entries.now c.loop-entry.entry-index _ c.loop-entry.outlook
    c.take.new.self c.loop-entry.telling c.tell_when_due.new.self _
    (omega (arith, c.loop-entry-test.true)) refl c.loop-entry.invariant x same
    c.in_ok-tell_when_due.ensures c.in_ok-take.ensures.ok
