use Rattle.std.proofs.Common.{◌≡◌, ◌+◌, ◌-◌, ◌∷◌, ◌∙◌, ap, sym, arith, drop, length, refl, List}
use Rattle.std.specs.Prelude.{is_some, slice_get}
use Rattle.std.specs.Option.{option_map}
use Rattle.l4_core_model.specs.Runs.{Event}
use Rattle.l4_proc.specs.Logs.{event_of}
use Rattle.l4_machine.specs.Gathers.{events_of}
use Rattle.l4_replay.proofs.Sought.{one_less}
use Rattle.l4_machine.proofs.EventsLeft.{some_left, stamp_left}
use Rattle.l4_machine.proofs.InLogs.{log_at}
use Rattle.l4_machine.proofs.unmerged.take_first.Goals as goal

pub event-first-requires-clause-within : goal.event-first-requires-clause-within
event-first-requires-clause-within c =
    let ps = c.args.processors.now in
    let u = c.args.log.now in
    let same = log_at ps u.place c.index-processors-log.result c.log-events.result.now c.requires.whole.place c.index-processors-log.is c.log-events.ensures.log in
    let lt = some_left (events_of (slice_get ps u.place)) (u.count - u.left) (ap is_some (sym c.requires.whole.stamp) ∙ c.requires.some) in
    omega (arith, lt, ap length same)

pub returns : goal.returns
returns c =
    let ps = c.args.processors.now in
    let u = c.args.log.now in
    let es = events_of (slice_get ps u.place) in
    let same = log_at ps u.place c.index-processors-log.result c.log-events.result.now c.requires.whole.place c.index-processors-log.is c.log-events.ensures.log in
    let lt = some_left es (u.count - u.left) (ap is_some (sym c.requires.whole.stamp) ∙ c.requires.some) in
    let next : (u.count - u.left) + 1 ≡ u.count - (u.left - 1) = omega (arith, lt, c.requires.whole.few, c.requires.whole.count) in
    record {
      event = event_of c.event-first.result;
      first = one_less es (u.count - u.left) (event_of c.event-first.result) (ap (λ (es : List Event). slice_get es (u.count - u.left)) same ∙ c.event-first.ensures)
          ∙ ap (λ n. event_of c.event-first.result ∷ drop n es) next;
      whole = record {
        place = c.requires.whole.place;
        count = c.requires.whole.count;
        few = omega (arith, c.requires.whole.few);
        stamp = c.stamp_of-log.ensures ∙ ap (λ (es : List Event). option_map (λ (e : Event). e.stamp) (slice_get es (u.count - (u.left - 1)))) (sym same)
            ∙ stamp_left es (u.count - (u.left - 1));
      };
      told = refl;
    }
