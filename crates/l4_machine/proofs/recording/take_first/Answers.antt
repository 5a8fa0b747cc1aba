use Rattle.std.proofs.Common.{◌≡◌, ◌+◌, ◌-◌, ◌∷◌, ◌∙◌, [], ap, sym, arith, drop, get_or, length, List}
use Rattle.std.specs.Prelude.{is_some, slice_get}
use Rattle.std.specs.Option.{option_map}
use Rattle.std.proofs.lemmas.Option.{slice_get-get_or}
use Rattle.l4_core_model.specs.Runs.{Event, Action}
use Rattle.l4_bisimilar.specs.Entries.{entry_of}
use Rattle.l4_proc.specs.Choices.{action_of}
use Rattle.l4_proc.specs.declared.log.Log.{Log}
use Rattle.l4_machine.specs.Gathers.{events_of}
use Rattle.l4_machine.specs.Inner.Recorded.{actions_of}
use Rattle.l4_machine.proofs.EventsLeft.{some_left, stamp_left}
use Rattle.l4_machine.proofs.InLogs.{log_at}
use Rattle.l4_machine.proofs.Recorded.{happened_at, one_less}
use Rattle.l4_machine.proofs.recording.take_first.Goals as goal

pub choice-choice-requires : goal.choice-choice-requires
choice-choice-requires c =
    let ps = c.args.processors.now in
    let u = c.args.log.now in
    let same = log_at ps u.place c.index-processors-log.result c.log-events.result.now c.requires.whole.place c.index-processors-log.is c.log-events.ensures.log in
    let lt = some_left (events_of (slice_get ps u.place)) (u.count - u.left) (ap is_some (sym c.requires.whole.stamp) ∙ c.requires.some) in
    omega (arith, lt, ap length same)

pub returns : goal.returns
returns c =
    let ps = c.args.processors.now in
    let u = c.args.log.now in
    let es = events_of (slice_get ps u.place) in
    let same = log_at ps u.place c.index-processors-log.result c.log-events.result.now c.requires.whole.place c.index-processors-log.is c.log-events.ensures.log in
    let lt = some_left es (u.count - u.left) (ap is_some (sym c.requires.whole.stamp) ∙ c.requires.some) in
    let next : (u.count - u.left) + 1 ≡ u.count - (u.left - 1) = omega (arith, lt, c.requires.whole.few, c.requires.whole.count) in
    let event : Event = get_or es (u.count - u.left) (record { cpu = 0; stamp = 0; steps = [] }) in
    let p = c.index-processors-log.result in
    let own : c.cpu.result ≡ c.log-events.result.now.cpu = c.cpu.ensures ∙ sym p.whole.log_of ∙ sym (ap (λ (log : Log). log.cpu) c.log-events.ensures.log) in
    let action : Action = action_of c.log-events.result.now.cpu c.choice-choice.result in
    record {
      event = event;
      action = action;
      first = one_less es (u.count - u.left) event (slice_get-get_or es (u.count - u.left) _ lt) ∙ ap (λ n. event ∷ drop n es) next;
      happened = one_less (actions_of (slice_get ps u.place)) (u.count - u.left) action
          (happened_at ps u.place p c.log-events.result.now (u.count - u.left) action c.requires.whole.place c.index-processors-log.is c.log-events.ensures.log c.choice-choice.ensures)
          ∙ ap (λ n. action ∷ drop n (actions_of (slice_get ps u.place))) next;
      whole = record {
        place = c.requires.whole.place;
        count = c.requires.whole.count;
        few = omega (arith, c.requires.whole.few);
        stamp = c.stamp_of-log.ensures ∙ ap (λ (es : List Event). option_map (λ (e : Event). e.stamp) (slice_get es (u.count - (u.left - 1)))) (sym same)
            ∙ stamp_left es (u.count - (u.left - 1));
      };
      is = c.entry.ensures ∙ ap (λ cpu. entry_of (action_of cpu c.choice-choice.result)) own;
    }
