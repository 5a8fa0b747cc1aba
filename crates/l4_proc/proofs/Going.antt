-- A processor that goes on by itself: at its opening, by a tick, and turn by turn.
use Rattle.std.proofs.Common.{◌≡◌, ℕ, ◌+◌, ◌<◌, ◌^◌, Some, None, List, [], ◌∷◌, ◌++◌, length, refl, ap, sym, ◌∙◌, subst, arith}
use Rattle.std.specs.Prelude.{nat_lt, OnErr, OnOk, Result, Ok, Err}
use Rattle.std.specs.Option.{option_map}
use Rattle.std.proofs.lemmas.List.{length-append, append-nil}
use Rattle.l4_model.specs.Machine.{Machine}
use Rattle.l4_model.proofs.Chains.{guard_then, some_is}
use Rattle.l4_core_model.specs.Local.{Local}
use Rattle.l4_core_model.specs.Acts.{Work}
use Rattle.l4_core_model.specs.Runs.{Event}
use Rattle.l4_core_model.specs.Turns.{advance}
use Rattle.l4_merge.specs.Transitions.{Transition, Ticked, letters_with}
use Rattle.l4_merge.specs.LocalTraces.{AreDeedsBetween, empty_past, Extends, HasTurned}
use Rattle.l4_merge.proofs.Worked.{worked_none, worked_one, worked_trans, turned_none, turned_trans, transitions_of_none, transitions_of_both}
use Rattle.l4_core.specs.Processor.{Processor as Core}
use Rattle.l4_core.specs.Inner.Turning.{work}
use Rattle.l4_mail.specs.Ports.{posted_to, place}
use Rattle.l4_mail.specs.declared.ports.Port.{Port}
use Rattle.l4_proc.specs.Logs.{all_steps, events, actions, IsClosed}
use Rattle.l4_proc.specs.Choices.{action_in}
use Rattle.l4_proc.specs.Whole.{past_with, handled_from, IsFreshPort, IsPortOf, IsWhole}
use Rattle.l4_proc.specs.Working.{past, BeginWithMail, HasGoneOn, HasStayed, HasTaken, HasTakenUpTo, HasTicked, HasTickedTo, IsIdle, IsSameWorker, IsStopped, IsTicking}
use Rattle.l4_proc.specs.declared.stops.Stop.{Stop}
use Rattle.l4_proc.specs.declared.stops.Stop.TheVariants as stop
use Rattle.l4_proc.specs.declared.end_rows.End.{End}
use Rattle.l4_proc.specs.declared.log.Log.{Log}
use Rattle.l4_proc.specs.declared.processor.Processor.{Processor}
use Rattle.l4_proc.specs.declared.worker.Worker.{Worker}
use Rattle.l4_proc.proofs.Logging.{logged, same_closed, same_events, same_actions, IsLogged}

-- The opening

-- A processor without a new event, which has posted and taken nothing, has done nothing.
pub opened_past : (port : Port) (w : Worker) → IsFreshPort port → w.log.ends.items ≡ [] → w.hand ≡ None →
    Extends w.core.machine w.core.cpu (empty_past w.core.local) (past_with port w)
opened_past port w fresh ends hand = record {
  transitions = [];
  are = record {
    lead = refl;
    events = rw (ends) refl;
    actions = rw (ends) refl;
    posted = λ to. fresh.posted to;
    handled = λ from. rw (hand, fresh.taken from) refl;
  };
}

-- A tick

tick_logged : (to : ℕ) (old new : Worker) (before after : Log) (stamp choice : ℕ) → IsClosed old.log → IsTicking to old new before after stamp choice →
    IsLogged old.log new.log stamp choice after.buffer.steps
tick_logged to old new before after stamp choice closed t =
    logged old.log before after new.log stamp choice (after.ticks + 1) closed t.begun t.cpu (ap (λ ends. ends.items) t.ends) t.event.kept t.ended

port_of_same : (port : Port) (old new : Core) → new.machine ≡ old.machine → new.cpu ≡ old.cpu → IsPortOf port old → IsPortOf port new
port_of_same port old new machine cpu is = record { number = rw (cpu) is.number; size = rw (machine) is.size; ways = rw (machine, cpu) is.ways }

-- A processor that is whole is whole behind a tick.
pub tick_whole : (to : ℕ) (port : Port) (old new : Worker) (before after : Log) (stamp choice : ℕ) → IsWhole port old → IsTicking to old new before after stamp choice →
    IsWhole port new
tick_whole to port old new before after stamp choice whole t = record {
  port_of = port_of_same port old.core new.core t.event.machine t.event.cpu whole.port_of;
  log_of = t.ended.cpu ∙ t.cpu ∙ t.begun.cpu ∙ whole.log_of ∙ sym t.event.cpu;
  closed = (tick_logged to old new before after stamp choice whole.closed t).closed;
  hand = rw (t.hand) whole.hand;
}

-- A tick posts nothing.
tick_posts_none : (m : Machine) (cpu to : ℕ) (l : Local) (x : Work) → advance m cpu to l ≡ Some x → x.letters ≡ []
tick_posts_none m cpu to l x is =
    guard_then (nat_lt l.clock to) _ x is λ later is.
    guard_then (nat_lt to (2 ^ 62)) _ x is λ below is.
    sym (ap (λ (x : Work). x.letters) (some_is _ x is))

tick_worked : (to : ℕ) (port : Port) (old new : Worker) (before after : Log) (stamp choice : ℕ) → IsWhole port old → IsTicking to old new before after stamp choice →
    Extends old.core.machine old.core.cpu (past_with port old) (past_with port new)
tick_worked to port old new before after stamp choice whole t =
    let m = old.core.machine in
    let cpu = old.core.cpu in
    let transition : Transition = record { cpu = cpu; event = Ticked to; work = work new.core.local after.buffer } in
    let event : ℕ → ℕ → List Event = λ c s. record { cpu = c; stamp = s; steps = after.buffer.steps } ∷ [] in
    let none = tick_posts_none m cpu to old.core.local _ t.event.is in
    worked_one m cpu (past_with port old) (past_with port new) transition record {
      does = record { own = refl; work = t.event.is };
      events = (tick_logged to old new before after stamp choice whole.closed t).events
          ∙ ap (λ c. events old.log ++ event c stamp) whole.log_of
          ∙ ap (λ s. events old.log ++ event cpu s) t.event.stamped;
      actions = (tick_logged to old new before after stamp choice whole.closed t).actions
          ∙ ap (λ c. actions old.log ++ action_in c choice ∷ []) whole.log_of ∙ ap (λ h. actions old.log ++ h ∷ []) (t.happened cpu);
      posted = λ to. sym (ap (λ ls. posted_to port to ++ letters_with to ls) none ∙ append-nil (posted_to port to));
      handled = λ from. ap (λ hand. handled_from port hand from) t.hand ∙ sym (append-nil (handled_from port old.hand from));
      local = refl;
    }

pub has_ticked : (to : ℕ) (old new : Processor) (before after : Log) (stamp choice : ℕ) → new.port ≡ old.port → IsWhole old.port old.worker →
    IsTicking to old.worker new.worker before after stamp choice → HasTicked to old new
has_ticked to old new before after stamp choice port whole t =
    let l = tick_logged to old.worker new.worker before after stamp choice whole.closed t in
    let worked = tick_worked to old.port old.worker new.worker before after stamp choice whole t in
    let event : ℕ → ℕ → List Event = λ c s. record { cpu = c; stamp = s; steps = after.buffer.steps } ∷ [] in
    let end : End = record { stamp = stamp; place = length (all_steps after.buffer); choice = choice } in
    let items : new.worker.log.ends.items ≡ old.worker.log.ends.items ++ end ∷ [] =
    t.ended.ends ∙ ap (λ (es : List End). es ++ end ∷ []) (ap (λ ends. ends.items) t.ends ∙ t.begun.ends) in
    let longer : length new.worker.log.ends.items ≡ length old.worker.log.ends.items + 1 = ap length items ∙ length-append old.worker.log.ends.items (end ∷ []) in
    let ticks : new.worker.log.ticks ≡ old.worker.log.ticks + 1 = t.ended.ticks ∙ ap (λ n. n + 1) (t.ticks ∙ t.begun.ticks) in
    record {
      on = record {
        machine = t.event.machine;
        cpu = t.event.cpu;
        place = ap place port;
        worked = subst (λ p. Extends old.worker.core.machine old.worker.core.cpu (past old) (past_with p new.worker)) (sym port) worked;
      };
      port = port;
      hand = t.hand;
      past = record {
        work = work new.worker.core.local after.buffer;
        advances = t.event.is;
        events = l.events ∙ ap (λ c. events old.worker.log ++ event c stamp) whole.log_of ∙ ap (λ s. events old.worker.log ++ event old.worker.core.cpu s) t.event.stamped;
        actions = l.actions ∙ ap (λ c. actions old.worker.log ++ action_in c choice ∷ []) whole.log_of
            ∙ ap (λ h. actions old.worker.log ++ h ∷ []) (t.happened old.worker.core.cpu);
        posted = λ to. ap (λ (p : Port). posted_to p to) port;
        handled = λ from. ap (λ (p : Port). handled_from p new.worker.hand from) port
            ∙ ap (λ hand. handled_from old.port hand from) t.hand;
        local = refl;
      };
      advances = ap (option_map (λ (x : Work). x.local)) t.event.is;
      one = ap length l.events ∙ length-append (events old.worker.log) _;
      turns = omega (arith, longer, ticks);
      stop = t.stop;
    }

-- The clock was to go on: it did, or nothing has changed.

pub same_whole : (port : Port) (old new : Worker) → IsSameWorker old new → IsWhole port old → IsWhole port new
same_whole port old new same whole = record {
  port_of = subst (IsPortOf port) (sym same.core) whole.port_of;
  log_of = same.log.cpu ∙ whole.log_of ∙ sym (ap (λ (c : Core). c.cpu) same.core);
  closed = same_closed old.log new.log same.log whole.closed;
  hand = rw (same.hand) whole.hand;
}

pub tried_whole : (to : ℕ) (port : Port) (old new : Worker) {A E : Type 0} (r : Result A E) → OnOk r (HasTickedTo to old new) → OnErr r (IsSameWorker old new) →
    IsWhole port old → IsWhole port new
tried_whole to port old new (Ok x) ticked same whole = tick_whole to port old new ticked.before ticked.after ticked.stamp ticked.choice whole ticked.is
tried_whole to port old new (Err e) ticked same whole = same_whole port old new same whole

pub has_tried : (to : ℕ) (old new : Processor) {A E : Type 0} (r : Result A E) → new.port ≡ old.port → IsWhole old.port old.worker →
    OnOk r (HasTickedTo to old.worker new.worker) → OnOk r (HasTicked to old new)
has_tried to old new (Ok x) port whole ticked = has_ticked to old new ticked.before ticked.after ticked.stamp ticked.choice port whole ticked.is
has_tried to old new (Err e) port whole ticked = ticked

pub has_stayed : (old new : Processor) {A E : Type 0} (r : Result A E) → new.port ≡ old.port → new.worker.stop ≡ old.worker.stop →
    OnErr r (IsSameWorker old.worker new.worker) → OnErr r (HasStayed old new)
has_stayed old new (Ok x) port stopped same = same
has_stayed old new (Err e) port stopped same = record {
  port = port;
  core = same.core;
  hand = same.hand;
  events = same_events old.worker.log new.worker.log same.log;
  actions = same_actions old.worker.log new.worker.log same.log;
  turns = rw (same.log.ends, same.log.ticks) refl;
  stop = stopped;
}

-- Turns

pub gone_trans : (old middle new : Processor) → HasGoneOn old middle → HasGoneOn middle new → HasGoneOn old new
gone_trans old middle new first then =
    let m = old.worker.core.machine in
    let cpu = old.worker.core.cpu in
    let next : Extends m cpu (past middle) (past new) =
    subst (λ m. Extends m cpu (past middle) (past new)) first.machine
    (subst (λ cpu. Extends middle.worker.core.machine cpu (past middle) (past new)) first.cpu then.worked) in
    record {
      machine = then.machine ∙ first.machine;
      cpu = then.cpu ∙ first.cpu;
      place = then.place ∙ first.place;
      worked = worked_trans m cpu (past old) (past middle) (past new) first.worked next;
    }

pub next_turned : (old middle new : Processor) → HasGoneOn old middle →
    HasTurned middle.worker.core.machine middle.worker.core.cpu (past middle) (past new) →
    HasTurned old.worker.core.machine old.worker.core.cpu (past middle) (past new)
next_turned old middle new on then = record {
  worked = record {
    transitions = then.worked.transitions;
    are = subst (λ m. AreDeedsBetween m old.worker.core.cpu (past middle) (past new) then.worked.transitions) on.machine
        (subst (λ cpu. AreDeedsBetween middle.worker.core.machine cpu (past middle) (past new) then.worked.transitions) on.cpu then.worked.are);
  };
  turns = then.turns;
}

pub transitions_of_next : (old middle new : Processor) (on : HasGoneOn old middle)
    (then : HasTurned middle.worker.core.machine middle.worker.core.cpu (past middle) (past new)) →
    (next_turned old middle new on then).worked.transitions ≡ then.worked.transitions
unfolding next_turned
transitions_of_next old middle new on then = refl

-- It has gone on twice by turns: which transitions these are.
pub transitions_of_all : (old middle new : Processor) (on : HasGoneOn old middle)
    (first : HasTurned old.worker.core.machine old.worker.core.cpu (past old) (past middle))
    (then : HasTurned middle.worker.core.machine middle.worker.core.cpu (past middle) (past new)) →
    (turned_trans old.worker.core.machine old.worker.core.cpu (past old) (past middle) (past new) first (next_turned old middle new on then)).worked.transitions
    ≡ first.worked.transitions ++ then.worked.transitions
transitions_of_all old middle new on first then =
    transitions_of_both old.worker.core.machine old.worker.core.cpu (past old) (past middle) (past new) first (next_turned old middle new on then)
    ∙ ap (λ ds. first.worked.transitions ++ ds) (transitions_of_next old middle new on then)

-- Two lists of transitions, the second from where the first has led. Where the first has none, the processor is where it was.
begin_both : (n : ℕ) (old middle : Processor) (ds es : List Transition) → length ds ≡ n → (n ≡ 0 → middle ≡ old) → BeginWithMail old ds →
    BeginWithMail middle es → BeginWithMail old (ds ++ es)
begin_both n old middle [] es many start first then = subst (λ p. BeginWithMail p es) (start (sym many)) then
begin_both n old middle (d ∷ ds) es many start first then = first

-- Before its first turn it has taken none.
pub taken_none : (p : Processor) → HasTaken 0 p p
taken_none p = record {
  on = record { machine = refl; cpu = refl; place = refl; worked = worked_none p.worker.core.machine p.worker.core.cpu (past p) };
  turned = turned_none p.worker.core.machine p.worker.core.cpu (past p);
  turns = omega arith;
  ticks = refl;
  many = ap length (transitions_of_none p.worker.core.machine p.worker.core.cpu (past p));
  first = subst (BeginWithMail p) (sym (transitions_of_none p.worker.core.machine p.worker.core.cpu (past p))) tt;
  hand = λ none x is. is;
}

pub taken_more : (n k : ℕ) (old middle new : Processor) → (n ≡ 0 → middle ≡ old) → HasTaken n old middle → HasTaken k middle new → HasTaken (n + k) old new
taken_more n k old middle new start first then = record {
  on = gone_trans old middle new first.on then.on;
  turned = turned_trans old.worker.core.machine old.worker.core.cpu (past old) (past middle) (past new) first.turned
      (next_turned old middle new first.on then.turned);
  turns = let a = first.turns in let b = then.turns in omega arith;
  ticks = then.ticks ∙ first.ticks;
  many = ap length transitions ∙ length-append first.turned.worked.transitions then.turned.worked.transitions ∙ sum_of _ _ n k first.many then.many;
  first = subst (BeginWithMail old) (sym transitions)
      (begin_both n old middle first.turned.worked.transitions then.turned.worked.transitions first.many start first.first then.first);
  hand = λ none x is. then.hand (omega arith) x (first.hand (omega arith) x is);
}
  where
    transitions : (turned_trans old.worker.core.machine old.worker.core.cpu (past old) (past middle) (past new) first.turned
        (next_turned old middle new first.on then.turned)).worked.transitions ≡ first.turned.worked.transitions ++ then.turned.worked.transitions
    transitions = transitions_of_all old middle new first.on first.turned then.turned

    sum_of : (a b n k : ℕ) → a ≡ n → b ≡ k → a + b ≡ n + k
    sum_of a b n k same also = omega arith

-- So many turns were taken, or it stopped before.

pub all_taken : (turns count : ℕ) (old new : Processor) → count ≡ turns → HasTaken count old new → HasTakenUpTo turns old new stop.Used
all_taken turns count old new all taken = record {
  on = taken.on;
  turned = taken.turned;
  least = let t = taken.turns in omega arith;
  most = let t = taken.turns in omega arith;
  used = (λ is. let t = taken.turns in omega arith, λ is. refl);
  ticks = taken.ticks;
  stopped = tt;
  nothing = λ is. absurd cc;
  first = record { turned = taken.turned; many = let t = taken.turns in let n = taken.many in omega arith; first = taken.first };
  hand = λ same. taken.hand (let t = taken.turns in omega arith);
}

pub some_taken : (turns count : ℕ) (old middle new : Processor) (why : Stop) → count < turns → HasTaken count old middle → HasTaken 0 middle new →
    (why ≡ stop.Used → ⊥) → IsStopped new why → (count ≡ 0 → middle ≡ old) → (why ≡ stop.Idle → IsIdle middle) → HasTakenUpTo turns old new why
some_taken turns count old middle new why below first none unused stopped start nothing =
    let taken = taken_more count 0 old middle new start first none in
    record {
      on = taken.on;
      turned = taken.turned;
      least = let t = taken.turns in omega arith;
      most = let t = taken.turns in omega arith;
      used = (λ is. absurd (unused is), λ is. absurd (let t = taken.turns in omega arith));
      ticks = taken.ticks;
      stopped = stopped;
      nothing = λ is same. subst IsIdle (start (let t = taken.turns in omega arith)) (nothing is);
      first = record { turned = taken.turned; many = let t = taken.turns in let n = taken.many in omega arith; first = taken.first };
      hand = λ same. taken.hand (let t = taken.turns in omega arith);
    }
