use Rattle.std.proofs.Common.{◌≡◌, ◌-◌, ◌≤◌, ◌∙◌, ◌++◌, ℕ, ap, sym, subst, refl, arith, drop, length, take, List}
use Rattle.std.specs.Prelude.{filter_map, is_some, slice_get}
use Rattle.l4_core_model.specs.Runs.{told}
use Rattle.l4_model.specs.Steps.{Step}
use Rattle.l4_proc.specs.Logs.{events}
use Rattle.l4_machine.specs.Inner.EventsLeft.{first_stamp}
use Rattle.l4_machine.specs.Gathers.{events_of}
use Rattle.l4_replay.specs.Inner.Waiting.{sought}
use Rattle.l4_machine.proofs.EventsLeft.{some_left, stamp_left}
use Rattle.l4_machine.proofs.InLogs.{log_at}
use Rattle.l4_machine.proofs.Sought.{found_first}
use Rattle.l4_machine.proofs.searching.find_first.Goals as goal

pub places-start-requires-clause-within : goal.places-start-requires-clause-within
places-start-requires-clause-within c =
    let ps = c.args.processors.now in
    let u = c.args.log.now in
    let same = log_at ps u.place c.index-processors-log.result c.log-events.result.now c.requires.whole.place c.index-processors-log.is c.log-events.ensures.log in
    let lt = some_left (events_of (slice_get ps u.place)) (u.count - u.left) (ap is_some (sym c.requires.whole.stamp) ∙ c.requires.some) in
    omega (arith, lt, ap length same)

pub push_between-requires-clause-within : goal.push_between-requires-clause-within
push_between-requires-clause-within c = subst (λ (h : List Step). c.places-start.result.1 ≤ length h) (sym c.history.ensures) c.places-start.ensures.within

pub next_sought-next-requires-clause-within : goal.next_sought-next-requires-clause-within
next_sought-next-requires-clause-within c =
    let ps = c.args.processors.now in
    let u = c.args.log.now in
    let same = log_at ps u.place c.index-processors-log.result c.log-events.result.now c.requires.whole.place c.index-processors-log.is c.log-events.ensures.log in
    let lt = some_left (events_of (slice_get ps u.place)) (u.count - u.left) (ap is_some (sym c.requires.whole.stamp) ∙ c.requires.some) in
    omega (arith, lt, ap length same)

pub overflow_sub-log : goal.overflow_sub-log
overflow_sub-log c =
    let ps = c.args.processors.now in
    let u = c.args.log.now in
    let same = log_at ps u.place c.index-processors-log.result c.log-events.result.now c.requires.whole.place c.index-processors-log.is c.log-events.ensures.log in
    omega (arith, c.next_sought-next.ensures.within, c.requires.whole.count, ap length same)

pub returns : goal.returns
returns c =
    let ps = c.args.processors.now in
    let u = c.args.log.now in
    let f = sought c.args.search.now in
    let es = events c.log-events.result.now in
    let first = u.count - u.left in
    let next = c.next_sought-next.result in
    let same = log_at ps u.place c.index-processors-log.result c.log-events.result.now c.requires.whole.place c.index-processors-log.is c.log-events.ensures.log in
    let lt = some_left (events_of (slice_get ps u.place)) first (ap is_some (sym c.requires.whole.stamp) ∙ c.requires.some) in
    let count : u.count ≡ length es = c.requires.whole.count ∙ ap length same in
    let back : u.count - (u.count - next) ≡ next = omega (arith, count, c.next_sought-next.ensures.within) in
    let behind = ap (λ (n : ℕ). drop n (events_of (slice_get ps u.place))) back ∙ ap (drop next) same in
    let steps = drop c.places-start.result.0 (take c.places-start.result.1 (told es)) in
    found_first f ps u _ es first next steps _ _ same refl (omega (arith, lt, ap length same)) c.places-start.ensures.steps
    (c.in_ok-push_between.ensures ∙ ap (λ (h : List Step). c.args.sends.now.items ++ filter_map f (drop c.places-start.result.0 (take c.places-start.result.1 h))) c.history.ensures)
    c.next_sought-next.ensures.passed behind (record {
      place = c.requires.whole.place;
      count = c.requires.whole.count;
      few = omega arith;
      stamp = c.stamp_of-log.ensures ∙ stamp_left es next ∙ sym (ap first_stamp behind);
    })
