use Rattle.std.proofs.Common.{◌≡◌, ◌-◌, ◌∙◌, List, ap, sym, drop, take, length, arith}
use Rattle.std.specs.Prelude.{filter_map, slice_get}
use Rattle.l4_core_model.specs.Runs.{Event, told}
use Rattle.l4_model.specs.Steps.{Step}
use Rattle.l4_proc.specs.Logs.{events}
use Rattle.l4_machine.specs.Inner.EventsLeft.{left}
use Rattle.l4_machine.specs.Gathers.{events_of}
use Rattle.l4_replay.specs.Inner.Waiting.{count_sought, sought}
use Rattle.l4_machine.specs.Inner.Waiting.{at_end}
use Rattle.l4_machine.proofs.Enough.{at_end_is, next_event}
use Rattle.l4_machine.proofs.InLogs.{log_at}
use Rattle.l4_machine.proofs.searching.missing_after.Goals as goal

pub loop-i-init : goal.loop-i-init
loop-i-init c =
    let ps = c.args.processors.now in
    let u = c.args.log.now in
    let f = sought c.args.search.now in
    let same = log_at ps u.place c.index-processors-log.result c.log-events.result.now c.requires.whole.place c.index-processors-log.is c.log-events.ensures.log in
    let is = at_end_is (events_of (slice_get ps u.place)) u.count u.left c.args.most c.min.result c.requires.whole.count c.requires.whole.few
    (omega (arith, c.requires.whole.few, c.min.ensures)) in
    let counted : count_sought f (drop (u.count - c.min.result) (events c.log-events.result.now)) ≡ count_sought f (at_end c.args.most (left ps u)) =
    ap (λ (es : List Event). count_sought f (drop (u.count - c.min.result) es)) (sym same) ∙ ap (count_sought f) is in
    omega (arith, counted)

pub loop-i-preserved : goal.loop-i-preserved
loop-i-preserved c =
    let f = sought c.args.search.now in
    let es = events c.log-events.result.now in
    let steps = drop c.places-start.result.0 (take c.places-start.result.1 (told es)) in
    let found = ap (λ (h : List Step). length (filter_map f (drop c.places-start.result.0 (take c.places-start.result.1 h)))) c.history.ensures in
    let next = next_event f es c.loop-i.i steps (omega (arith, c.loop-i-test.true, c.len-i-end.ensures)) c.places-start.ensures.steps in
    omega (arith, next, found, c.missing_after-missing.ensures, c.loop-i.invariant)

pub returns : goal.returns
returns c =
    omega (arith, c.loop-i.invariant)
