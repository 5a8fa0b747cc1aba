-- What a turn of a processor does to its past.
use Rattle.std.proofs.Common.{◌≡◌, ℕ, ◌+◌, ◌-◌, ◌<◌, ◌≤◌, Bool, true, false, Option, Some, None, List, [], ◌∷◌, ◌++◌, length, take, refl, ap, sym, ◌∙◌, subst, arith, inl, inr}
use Rattle.std.specs.Prelude.{◌≢◌, ◌⊎◌, is_some, nat_eq, slice_index_or, OnErr, OnOk, Result, Ok, Err}
use Rattle.std.specs.List.{AllByRecursion}
use Rattle.std.proofs.lemmas.List.{append-nil, take_all, length-append}
use Rattle.l4_model.specs.Machine.{Machine}
use Rattle.l4_core_model.specs.Letters as letters
use Rattle.l4_core_model.specs.Runs.{Event, IsMachine}
use Rattle.l4_core_model.proofs.Lists.{all-map}
use Rattle.l4_merge.specs.Transitions.{Transition, Turned, action_of, is_turn, letter_of as letter_handled, letters_with, work_of}
use Rattle.l4_merge.specs.LocalTraces.{LocalTrace, HasTurned}
use Rattle.l4_merge.proofs.Worked.{IsNext, turned_one, transitions_of_one}
use Rattle.l4_merge.proofs.Destinations.{letters_go_elsewhere, at_most_two_letters}
use Rattle.l4_core_model.specs.Letters.{Letter}
use Rattle.l4_core.specs.Processor as cores
use Rattle.l4_core.specs.Inner.Turning.{work}
use Rattle.l4_mail.specs.Ends.{RingId}
use Rattle.l4_mail.specs.Ports.{posted_to, taken_from, kept_from, room_to, place, only, HasWayTo, IsAsBefore}
use Rattle.l4_mail.specs.declared.ports.Port.{Port}
use Rattle.l4_proc.specs.declared.log.Log.{Log}
use Rattle.l4_proc.specs.declared.worker.Worker.{Worker}
use Rattle.l4_proc.specs.declared.processor.Processor.{Processor}
use Rattle.l4_proc.specs.declared.stops.Stop.{Stop}
use Rattle.l4_proc.specs.declared.stops.Stop.TheVariants as stop
use Rattle.l4_proc.specs.Choices.{action_in}
use Rattle.l4_proc.specs.Inner.Events.{event_in_hand, HasPostedAll, IsRefused}
use Rattle.l4_proc.specs.Logs.{all_steps, events, actions, HasBegun, HasEnded, HasLetters, IsSameLog}
use Rattle.l4_proc.specs.Whole.{hand_from, handled_from, has_way, IsInHand, IsPortOf, IsWhole}
use Rattle.l4_proc.specs.Working.{past, BeginWithMail, HasDone, HasTaken, HasTakenTurn, IsMailFirst, IsReady, IsSameWorker, IsStopped, IsUnready}
use Rattle.l4_proc.proofs.Going.{same_whole}
use Rattle.l4_proc.proofs.Logging.{begun_events, begun_actions, same_events, same_actions, logged}

-- Nothing was done

abbrev turned_nothing : (m : Machine) (cpu : ℕ) (old new : LocalTrace) → new.events ≡ old.events → new.actions ≡ old.actions → ((to : ℕ) → new.posted to ≡ old.posted to) → ((from : ℕ) →
    new.handled from ≡ old.handled from) →
    new.local ≡ old.local → HasTurned m cpu old new
turned_nothing m cpu old new events actions posted handled local = record {
  worked = record {
    transitions = [];
    are = record {
      lead = sym local;
      events = events ∙ sym (append-nil old.events);
      actions = actions ∙ sym (append-nil old.actions);
      posted = λ to. posted to ∙ sym (append-nil (old.posted to));
      handled = λ from. handled from ∙ sym (append-nil (old.handled from));
    };
  };
  turns = tt;
}

unready_events : (old new : Log) → IsSameLog old new ⊎ HasBegun old new → events new ≡ events old
unready_events old new (inl same) = same_events old new same
unready_events old new (inr begun) = begun_events old new begun

unready_actions : (old new : Log) → IsSameLog old new ⊎ HasBegun old new → actions new ≡ actions old
unready_actions old new (inl same) = same_actions old new same
unready_actions old new (inr begun) = begun_actions old new begun

unready_ends : (old new : Log) → IsSameLog old new ⊎ HasBegun old new → (new.ends.items ≡ old.ends.items) × (new.ticks ≡ old.ticks)
unready_ends old new (inl same) = (same.ends, same.ticks)
unready_ends old new (inr begun) = (begun.ends, begun.ticks)

same_turns : (n o t u : ℕ) → n ≡ o → t ≡ u → n - t ≡ o - u + 0
same_turns n o t u same ticks = omega (arith, same, ticks)

pub unready_taken : (old new : Processor) → IsUnready old new → HasTaken 0 old new
unready_taken old new u =
    let w = old.worker in
    let ends = unready_ends w.log new.worker.log u.log in
    let turned = turned_nothing w.core.machine w.core.cpu (past old) (past new) (unready_events w.log new.worker.log u.log)
    (unready_actions w.log new.worker.log u.log)
    (λ to. u.posted to)
    (λ from. rw (u.hand, u.taken from) refl)
    (ap (λ (c : cores.Processor). c.local) u.core) in
    record {
      on = record {
        machine = ap (λ (c : cores.Processor). c.machine) u.core;
        cpu = ap (λ (c : cores.Processor). c.cpu) u.core;
        place = u.place;
        worked = turned.worked;
      };
      turned = turned;
      turns = same_turns _ _ _ _ (ap length ends.0) ends.1;
      ticks = ends.1;
      many = refl;
      first = tt;
      hand = λ none x is. u.hand ∙ is;
    }

pub refused_taken : (old ready new : Processor) → IsReady old ready → new.port ≡ ready.port → IsSameWorker ready.worker new.worker → HasTaken 0 old new
refused_taken old ready new r port s =
    let w = old.worker in
    let core = s.core ∙ r.core in
    let ends = s.log.ends ∙ r.log.ends in
    let ticks = s.log.ticks ∙ r.log.ticks in
    let turned = turned_nothing w.core.machine w.core.cpu (past old) (past new) (same_events ready.worker.log new.worker.log s.log
    ∙ begun_events w.log ready.worker.log r.log)
    (same_actions ready.worker.log new.worker.log s.log ∙ begun_actions w.log ready.worker.log r.log)
    (λ to. ap (λ (p : Port). posted_to p to) port ∙ r.posted to)
    (λ from. rw (port, s.hand) (r.handled from))
    (ap (λ (c : cores.Processor). c.local) core) in
    record {
      on = record {
        machine = ap (λ (c : cores.Processor). c.machine) core;
        cpu = ap (λ (c : cores.Processor). c.cpu) core;
        place = ap place port ∙ r.place;
        worked = turned.worked;
      };
      turned = turned;
      turns = same_turns _ _ _ _ (ap length ends) ticks;
      ticks = ticks;
      many = refl;
      first = tt;
      hand = λ none x is. s.hand ∙ r.hand x is;
    }

pub refused_stopped : (old ready new : Processor) (why : Stop) → IsReady old ready → new.port ≡ ready.port → IsSameWorker ready.worker new.worker →
    IsRefused ready.worker.core ready.worker.hand why → IsStopped new why
refused_stopped old ready new stop.Idle r port s why = record {
  refused = rw (s.core, s.hand) why;
  kept = λ from. ap (λ (p : Port). kept_from p from) port ∙ r.kept why.empty from;
}
refused_stopped old ready new stop.Used r port s why = tt
refused_stopped old ready new stop.NoMemory r port s why = tt
refused_stopped old ready new stop.Mail r port s why = rw (s.core, s.hand) why
refused_stopped old ready new stop.Stamp r port s why = rw (s.core, s.hand) why

-- What it stopped for stays where core, letter in hand and port stay.
pub still_stopped : (old new : Processor) (why : Stop) → new.port ≡ old.port → new.worker.core ≡ old.worker.core → new.worker.hand ≡ old.worker.hand →
    IsStopped old why → IsStopped new why
still_stopped old new stop.Idle port core hand is = record {
  refused = rw (core, hand) is.refused;
  kept = λ from. ap (λ (p : Port). kept_from p from) port ∙ is.kept from;
}
still_stopped old new stop.Used port core hand is = tt
still_stopped old new stop.NoMemory port core hand is = tt
still_stopped old new stop.Mail port core hand is = rw (core, hand) is
still_stopped old new stop.Stamp port core hand is = rw (core, hand) is

-- A turn was taken

-- The port is still that of the processor.
port_stays : (port : Port) (old new : cores.Processor) → IsPortOf port old → new.machine ≡ old.machine → new.cpu ≡ old.cpu → IsPortOf port new
port_stays port old new is machine cpu = record {
  number = is.number ∙ sym cpu;
  size = is.size ∙ ap (λ (m : Machine). m.cpus) (sym machine);
  ways = λ to lt other. is.ways to (subst (λ (m : Machine). to < m.cpus) machine lt) (λ same. other (same ∙ sym cpu));
}

all_taken : (xs : List Letter) → take (length xs - 0) xs ≡ xs
all_taken xs = take_all (length xs - 0) xs (omega arith)

no_hand : (port : Port) → IsInHand port None
no_hand port from = sym (append-nil _ ∙ all_taken (taken_from port from))

done_whole : (old ready : Processor) (middle : Worker) (log : Log) (stamp choice : ℕ) → IsReady old ready → IsWhole old.port old.worker →
    IsWhole ready.port ready.worker → HasDone ready.worker middle stamp →
    HasEnded middle.log log stamp choice middle.log.ticks → IsWhole ready.port (record { core = middle.core; log = log; hand = middle.hand; stop = middle.stop })
done_whole old ready middle log stamp choice r was is d e = record {
  port_of = port_stays ready.port ready.worker.core middle.core is.port_of d.event.machine d.event.cpu;
  log_of = e.cpu ∙ d.cpu ∙ is.log_of ∙ sym d.event.cpu;
  closed = (logged old.worker.log ready.worker.log middle.log log stamp choice middle.log.ticks was.closed r.log d.cpu (ap (λ es. es.items) d.ends) d.event.kept e).closed;
  hand = subst (IsInHand ready.port) (sym d.hand) (no_hand ready.port);
}

-- A turn was tried.
pub tried_turn : (old ready : Processor) (new : Worker) {A E : Type 0} (r : Result A E) → IsReady old ready → IsWhole old.port old.worker →
    IsWhole ready.port ready.worker → OnOk r (HasTakenTurn ready.worker new) → OnErr r (IsSameWorker ready.worker new) → IsWhole ready.port new
tried_turn old ready new (Ok x) r was is taken same =
    subst (IsWhole ready.port) (sym taken.is) (done_whole old ready taken.middle new.log taken.stamp taken.choice r was is taken.done taken.ended)
tried_turn old ready new (Err e) r was is taken same = same_whole ready.port ready.worker new same is

way : (port : Port) (to : ℕ) → has_way port to ≡ true → HasWayTo port to
way port to has = by (slice_index_or (place port).outs to None) refl has
  where
    by : (ring : Option RingId) → slice_index_or (place port).outs to None ≡ ring → is_some ring ≡ true → HasWayTo port to
    by (Some ring) at is = (ring, at)
    by None at is = absurd cc

pub letters_have_ways : (ready : Processor) (middle : Worker) (stamp : ℕ) → IsWhole ready.port ready.worker → IsMachine ready.worker.core.machine →
    ready.worker.core.cpu < ready.worker.core.machine.cpus →
    HasDone ready.worker middle stamp → AllByRecursion (λ p. HasWayTo ready.port p.0) middle.log.buffer.letters
letters_have_ways ready middle stamp is machine lt d =
    let c = ready.worker.core in
    all-map (λ (p : ℕ × letters.Letter). (p.0 < c.machine.cpus) × (p.0 ≢ c.cpu)) (λ (p : ℕ × letters.Letter). HasWayTo ready.port p.0)
    (λ p else. way ready.port p.0 (is.port_of.ways p.0 else.0 else.1)) middle.log.buffer.letters
    (letters_go_elsewhere c.machine c.cpu c.local (event_in_hand ready.worker.hand) (work middle.core.local middle.log.buffer) machine lt d.event.is)

pub letters_have_room : (old ready : Processor) (middle : Worker) (stamp : ℕ) → IsReady old ready → IsMachine ready.worker.core.machine →
    ready.worker.core.cpu < ready.worker.core.machine.cpus →
    HasDone ready.worker middle stamp → (to : ℕ) → HasWayTo ready.port to → length middle.log.buffer.letters ≤ room_to ready.port to
letters_have_room old ready middle stamp r machine lt d to has =
    let c = ready.worker.core in
    let few = at_most_two_letters c.machine c.cpu c.local (event_in_hand ready.worker.hand) (work middle.core.local middle.log.buffer) machine lt d.event.is in
    omega (arith, few, r.room to has)

-- A letter that is handled is a turn, and so is the core's own.
is_a_turn : (hand : Option (ℕ × Letter)) → is_turn (event_in_hand hand) ≡ true
is_a_turn None = refl
is_a_turn (Some p) = refl

-- The letter in hand is the one that is handled.
hand_handled : (hand : Option (ℕ × Letter)) (from : ℕ) → hand_from hand from ≡ letters_with from (letter_handled (event_in_hand hand))
hand_handled None from = refl
hand_handled (Some p) from = by (nat_eq p.0 from) refl
  where
    by : (same : Bool) → nat_eq p.0 from ≡ same → only from p.0 p.1 ≡ letters_with from ((p.0, p.1) ∷ [])
    by true e = rw e refl
    by false e = rw e refl

one_more : (n o t u : ℕ) → n ≡ o + 1 → t ≡ u → u ≤ o → n - t ≡ o - u + 1
one_more n o t u more ticks few = omega (arith, more, ticks, few)

pub same_port : (p : Port) → IsAsBefore p p
same_port p = record { place = refl; posted = λ to. refl; taken = λ from. refl; kept = λ from. refl; room = λ to. omega arith }

-- Where no letter is in hand, none was there and none was kept.
not_turned : (hand : Option (ℕ × Letter)) → (hand ≡ None → ⊥) → event_in_hand hand ≢ Turned
not_turned None some = absurd (some refl)
not_turned (Some p) some = λ is. absurd cc

mail_first : (old ready : Processor) (d : Transition) → d.event ≡ event_in_hand ready.worker.hand → IsReady old ready → IsMailFirst old d
mail_first old ready d event r = record {
  hand = λ x is. event ∙ ap event_in_hand (r.hand x is);
  kept = λ from some is. not_turned ready.worker.hand (λ none. some ((r.had none).kept from)) (sym event ∙ is);
}

pub turn_taken : (old ready posted new : Processor) (middle : Worker) (log : Log) (stamp choice : ℕ) → IsWhole old.port old.worker →
    IsWhole ready.port ready.worker → old.worker.log.ticks ≤ length old.worker.log.ends.items →
    IsReady old ready → HasDone ready.worker middle stamp → ((cpu : ℕ) → action_in cpu choice ≡ action_of cpu (event_in_hand ready.worker.hand)) →
    HasEnded middle.log log stamp choice middle.log.ticks → HasPostedAll ready.port posted.port log.buffer.letters → posted.worker.core ≡ middle.core → posted.worker.hand ≡ middle.hand → HasLetters log posted.worker.log →
    IsAsBefore posted.port new.port → new.worker ≡ posted.worker → HasTaken 1 old new
turn_taken old ready posted new middle log stamp choice was is few r d what e p core hand ls f worker =
    let w = old.worker in
    let rcore = r.core in
    let all = logged w.log ready.worker.log middle.log log stamp choice middle.log.ticks was.closed r.log d.cpu (ap (λ es. es.items) d.ends) d.event.kept e in
    let transition : Transition = record { cpu = w.core.cpu; event = event_in_hand ready.worker.hand; work = work middle.core.local middle.log.buffer } in
    let new_core : new.worker.core ≡ middle.core = ap (λ (x : Worker). x.core) worker ∙ core in
    let new_hand : new.worker.hand ≡ None = ap (λ (x : Worker). x.hand) worker ∙ hand ∙ d.hand in
    let same_log : events new.worker.log ≡ events log = ap (λ (x : Worker). events x.log) worker ∙ rw (ls.cpu, ap (λ es. es.items) ls.ends, ls.buffer) refl in
    let same_happened : actions new.worker.log ≡ actions log =
    ap (λ (x : Worker). actions x.log) worker ∙ rw (ls.cpu, ap (λ es. es.items) ls.ends) refl in
    let ends : new.worker.log.ends.items ≡ w.log.ends.items ++ record { stamp = stamp; place = length (all_steps middle.log.buffer); choice = choice } ∷ [] =
    ap (λ (x : Worker). x.log.ends.items) worker ∙ ap (λ es. es.items) ls.ends ∙ e.ends
    ∙ ap (λ es. es ++ record { stamp = stamp; place = length (all_steps middle.log.buffer); choice = choice } ∷ []) (ap (λ es. es.items) d.ends ∙ r.log.ends) in
    let ticks : new.worker.log.ticks ≡ w.log.ticks = ap (λ (x : Worker). x.log.ticks) worker ∙ ls.ticks ∙ e.ticks ∙ d.ticks ∙ r.log.ticks in
    let next : IsNext w.core.machine w.core.cpu (past old) (past new) transition = record {
      does = record {
        own = refl;
        work = subst (λ (c : cores.Processor). work_of c.machine c.cpu c.local (event_in_hand ready.worker.hand) ≡ Some (work middle.core.local
            middle.log.buffer)) rcore d.event.is;
      };
      events = same_log ∙ all.events ∙ ap (λ (x : Event). events w.log ++ x ∷ []) (rw (was.log_of, d.event.stamped) refl);
      actions = same_happened ∙ all.actions ∙ ap (λ c. actions w.log ++ action_in c choice ∷ []) was.log_of
          ∙ ap (λ h. actions w.log ++ h ∷ []) (what w.core.cpu);
      posted = λ to. (f.posted to) ∙ p.posted to ∙ rw (r.posted to, e.buffer) refl;
      handled = λ from. ap (λ h. handled_from new.port h from) new_hand
          ∙ (all_taken (taken_from new.port from) ∙ f.taken from ∙ p.taken from ∙ is.hand from)
          ∙ rw (r.handled from, hand_handled ready.worker.hand from) refl;
      local = ap (λ (c : cores.Processor). c.local) (sym new_core);
    } in
    let turned = turned_one w.core.machine w.core.cpu (past old) (past new) transition (is_a_turn ready.worker.hand) next in
    let one = transitions_of_one w.core.machine w.core.cpu (past old) (past new) transition (is_a_turn ready.worker.hand) next in
    record {
      on = record {
        machine = ap (λ (c : cores.Processor). c.machine) new_core ∙ d.event.machine ∙ ap (λ (c : cores.Processor). c.machine) rcore;
        cpu = ap (λ (c : cores.Processor). c.cpu) new_core ∙ d.event.cpu ∙ ap (λ (c : cores.Processor). c.cpu) rcore;
        place = f.place ∙ p.place ∙ r.place;
        worked = turned.worked;
      };
      turned = turned;
      turns = one_more _ _ _ _ (ap length ends ∙ length-append w.log.ends.items _) ticks few;
      ticks = ticks;
      many = ap length one;
      first = subst (BeginWithMail old) (sym one) (mail_first old ready transition refl r);
      hand = λ none. absurd (omega arith);
    }
