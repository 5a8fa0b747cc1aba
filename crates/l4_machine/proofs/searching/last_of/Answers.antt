use Rattle.std.proofs.Common.{◌-◌, ◌∙◌, ap, sym, arith, List}
use Rattle.std.specs.Prelude.{slice_get}
use Rattle.std.specs.Option.{option_map}
use Rattle.l4_core_model.specs.Runs.{Event}
use Rattle.l4_machine.specs.Gathers.{events_of}
use Rattle.l4_machine.proofs.Enough.{at_end_is}
use Rattle.l4_machine.proofs.EventsLeft.{stamp_left}
use Rattle.l4_machine.proofs.InLogs.{log_at}
use Rattle.l4_machine.proofs.searching.last_of.Goals as goal

pub returns-clause-whole : goal.returns-clause-whole
returns-clause-whole c =
    let ps = c.args.processors.now in
    let u = c.args.log.now in
    let es = events_of (slice_get ps u.place) in
    let first = u.count - c.min-left.result in
    let same = log_at ps u.place c.index-processors-log.result c.log.result.now c.requires.place c.index-processors-log.is c.log.ensures.log in
    record {
      place = c.requires.place;
      count = c.requires.count;
      few = omega (arith, c.requires.few, c.min-left.ensures);
      stamp = c.stamp_of.ensures ∙ ap (λ (es : List Event). option_map (λ (e : Event). e.stamp) (slice_get es first)) (sym same) ∙ stamp_left es first;
    }

pub returns-clause-left : goal.returns-clause-left
returns-clause-left c =
    let u = c.args.log.now in
    at_end_is (events_of (slice_get c.args.processors.now u.place)) u.count u.left c.args.most c.min-left.result c.requires.count c.requires.few
    (omega (arith, c.requires.few, c.min-left.ensures))
