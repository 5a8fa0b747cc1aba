-- A processor at work.
use Rattle.std.specs.Prelude.{◌≡◌, ◌≢◌, ◌∷◌, ◌⊎◌, ◌↔◌, ℕ, ◌+◌, ◌-◌, ◌≤◌, List, [], Option, Some, None, length, slice_get}
use Rattle.std.specs.Option.{option_map}
use Rattle.l4_core_model.specs.Turns.{advance}
use Rattle.l4_core_model.specs.Runs.{Ticks}
use Rattle.l4_merge.specs.Transitions.{Transition, Handled, Turned, action_of, work_of}
use Rattle.l4_merge.specs.LocalTraces as pasts
use Rattle.l4_merge.specs.LocalTraces.{LocalTrace, Extends, HasTurned}
use Rattle.l4_core.specs.Inner.Turning.{IsEvent}
use Rattle.l4_core_model.specs.Letters.{Letter}
use Rattle.l4_mail.specs.declared.ports.Port.{Port}
use Rattle.l4_mail.specs.Ports.{posted_to, taken_from, kept_from, room_to, place, HasWayTo}
use Rattle.l4_proc.specs.Inner.Events.{event_in_hand, HasPostedAll, IsRefused}
use Rattle.l4_proc.specs.Choices.{action_in}
use Rattle.l4_proc.specs.Logs.{events, actions, HasBegun, HasEnded, HasLetters, IsSameLog}
use Rattle.l4_proc.specs.Whole.{handled_from, past_with}
use Rattle.l4_proc.specs.declared.log.Log.{Log}
use Rattle.l4_proc.specs.declared.processor.Processor.{Processor}
use Rattle.l4_proc.specs.declared.worker.Worker.{Worker}
use Rattle.l4_proc.specs.declared.stops.Stop.{Stop}
use Rattle.l4_proc.specs.declared.stops.Stop.TheVariants as stop

abbrev pub past : Processor → LocalTrace
past p = past_with p.port p.worker

-- How many turns a processor took.
abbrev pub turns_of : Processor → ℕ
turns_of p = length p.worker.log.ends.items - p.worker.log.ticks

-- A processor is where it was, and has gone on by itself from there.
pub record HasGoneOn (old new : Processor) : Type 0 where
  pub machine : new.worker.core.machine ≡ old.worker.core.machine
  pub cpu : new.worker.core.cpu ≡ old.worker.core.cpu
  pub place : place new.port ≡ place old.port
  pub worked : Extends old.worker.core.machine old.worker.core.cpu (past old) (past new)

-- The transition handles the letter that was in hand. If a rest had kept a letter, the transition
-- is not the core's turn.
pub record IsMailFirst (old : Processor) (d : Transition) : Type 0 where
  pub hand : (x : ℕ × Letter) → old.worker.hand ≡ Some x → d.event ≡ Handled x.0 x.1
  pub kept : (from : ℕ) → kept_from old.port from ≢ [] → d.event ≢ Turned

-- The first of these transitions, if any, takes mail first.
abbrev pub BeginWithMail : (old : Processor) → List Transition → Type 0
BeginWithMail old [] = Unit {0}
BeginWithMail old (d ∷ ds) = IsMailFirst old d

-- A processor has gone on by turns alone: mail goes before the core's turn, and a letter in hand
-- before other mail.
pub record HasTurnedMailFirst (old new : Processor) : Type 0 where
  pub turned : HasTurned old.worker.core.machine old.worker.core.cpu (past old) (past new)
  pub many : turns_of new ≡ turns_of old + length turned.worked.transitions
  pub first : BeginWithMail old turned.worked.transitions

-- A letter that was in hand still is.
abbrev pub KeepsHand : (old new : Processor) → Type 0
KeepsHand old new = (x : ℕ × Letter) → old.worker.hand ≡ Some x → new.worker.hand ≡ Some x

-- A processor took `count` turns, and no tick.
pub record HasTaken (count : ℕ) (old new : Processor) : Type 0 where
  pub on : HasGoneOn old new
  pub turned : HasTurned old.worker.core.machine old.worker.core.cpu (past old) (past new)
  pub turns : turns_of new ≡ turns_of old + count
  pub ticks : new.worker.log.ticks ≡ old.worker.log.ticks
  pub many : length turned.worked.transitions ≡ count
  pub first : BeginWithMail old turned.worked.transitions
  pub hand : count ≡ 0 → KeepsHand old new

-- Nothing is to be done: there is no turn, no letter in hand, and none is kept.
pub record IsIdle (p : Processor) : Type 0 where
  pub refused : IsRefused p.worker.core p.worker.hand stop.Idle
  pub kept : (from : ℕ) → kept_from p.port from ≡ []

-- Why a processor stopped.
abbrev pub IsStopped : Processor → Stop → Type 0
IsStopped p stop.Idle = IsIdle p
IsStopped p stop.Used = Unit {0}
IsStopped p stop.NoMemory = Unit {0}
IsStopped p stop.Mail = IsRefused p.worker.core p.worker.hand stop.Mail
IsStopped p stop.Stamp = IsRefused p.worker.core p.worker.hand stop.Stamp

-- A processor took at most this many turns, and no tick, until it stopped.
pub record HasTakenUpTo (turns : ℕ) (old new : Processor) (why : Stop) : Type 0 where
  pub on : HasGoneOn old new
  pub turned : HasTurned old.worker.core.machine old.worker.core.cpu (past old) (past new)
  pub least : turns_of old ≤ turns_of new
  pub most : turns_of new ≤ turns_of old + turns
  pub used : (why ≡ stop.Used) ↔ (turns_of new ≡ turns_of old + turns)
  pub ticks : new.worker.log.ticks ≡ old.worker.log.ticks
  pub stopped : IsStopped new why
  -- it finds nothing, and takes no turn, only if there was nothing to do and no letter was kept
  pub nothing : why ≡ stop.Idle → turns_of new ≡ turns_of old → IsIdle old
  pub first : HasTurnedMailFirst old new
  pub hand : turns_of new ≡ turns_of old → KeepsHand old new

-- A processor took at most this many turns, and remembers why it stopped.
abbrev pub ExtendsOn : (turns : ℕ) → (old new : Processor) → Type 0
ExtendsOn turns old new = HasTakenUpTo turns old new new.worker.stop

-- Each processor took at most this many turns by itself, and remembers why it stopped.
pub record HaveWorkedOn (turns : ℕ) (olds news : List Processor) : Type 0 where
  pub for_each : length news ≡ length olds
  pub each : (i : ℕ) (old new : Processor) → slice_get olds i ≡ Some old →
      slice_get news i ≡ Some new → ExtendsOn turns old new

-- No letter was in hand, and none was kept.
pub record HadNoLetter (port : Port) (was : Option (ℕ × Letter)) : Type 0 where
  pub empty : was ≡ None
  pub kept : (from : ℕ) → kept_from port from ≡ []

-- A processor is ready for a turn: it has room, and a letter in hand if one has come.
pub record IsReady (old new : Processor) : Type 0 where
  pub core : new.worker.core ≡ old.worker.core
  pub place : place new.port ≡ place old.port
  pub posted : (to : ℕ) → posted_to new.port to ≡ posted_to old.port to
  pub handled : (from : ℕ) → handled_from new.port new.worker.hand from ≡
      handled_from old.port old.worker.hand from
  pub log : HasBegun old.worker.log new.worker.log
  pub room : (to : ℕ) → HasWayTo new.port to → 2 ≤ room_to new.port to
  pub kept : new.worker.hand ≡ None → (from : ℕ) → kept_from new.port from ≡ []
  pub had : new.worker.hand ≡ None → HadNoLetter old.port old.worker.hand
  pub hand : KeepsHand old new

-- The processor has not gone on: no letter was posted or taken, and no event has ended.
pub record IsUnready (old new : Processor) : Type 0 where
  pub core : new.worker.core ≡ old.worker.core
  pub place : place new.port ≡ place old.port
  pub posted : (to : ℕ) → posted_to new.port to ≡ posted_to old.port to
  pub taken : (from : ℕ) → taken_from new.port from ≡ taken_from old.port from
  pub hand : new.worker.hand ≡ old.worker.hand
  pub log : IsSameLog old.worker.log new.worker.log ⊎ HasBegun old.worker.log new.worker.log

-- The letter in hand was handled, or the core's turn taken.
pub record HasDone (old new : Worker) (stamp : ℕ) : Type 0 where
  pub event : IsEvent (work_of old.core.machine old.core.cpu old.core.local
      (event_in_hand old.hand)) old.core new.core old.log.buffer new.log.buffer stamp
  pub hand : new.hand ≡ None
  pub cpu : new.log.cpu ≡ old.log.cpu
  pub ends : new.log.ends ≡ old.log.ends
  pub ticks : new.log.ticks ≡ old.log.ticks

-- Nothing has changed.
pub record IsSameWorker (old new : Worker) : Type 0 where
  pub core : new.core ≡ old.core
  pub hand : new.hand ≡ old.hand
  pub log : IsSameLog old.log new.log

-- The letter in hand was handled, or the core's turn taken, and the event has ended.
pub record HasTakenTurn (old new : Worker) : Type 0 where
  pub middle : Worker
  pub stamp : ℕ
  pub choice : ℕ
  pub done : HasDone old middle stamp
  pub happened : (cpu : ℕ) → action_in cpu choice ≡ action_of cpu (event_in_hand old.hand)
  pub ended : HasEnded middle.log new.log stamp choice middle.log.ticks
  pub is : new ≡ record { core = middle.core; log = new.log; hand = middle.hand; stop = middle.stop }

-- An event begins, the clock goes on to a value, and the event ends.
pub record IsTicking (to : ℕ) (old new : Worker) (before after : Log) (stamp choice : ℕ) :
    Type 0 where
  pub begun : HasBegun old.log before
  pub event : IsEvent (advance old.core.machine old.core.cpu to old.core.local) old.core new.core
      before.buffer after.buffer stamp
  pub hand : new.hand ≡ old.hand
  pub stop : new.stop ≡ old.stop
  pub cpu : after.cpu ≡ before.cpu
  pub ends : after.ends ≡ before.ends
  pub ticks : after.ticks ≡ before.ticks
  pub happened : (cpu : ℕ) → action_in cpu choice ≡ Ticks cpu to
  pub ended : HasEnded after new.log stamp choice (after.ticks + 1)

pub record HasTickedTo (to : ℕ) (old new : Worker) : Type 0 where
  pub before : Log
  pub after : Log
  pub stamp : ℕ
  pub choice : ℕ
  pub is : IsTicking to old new before after stamp choice

-- The letters of the event under way were posted.
pub record HasPostedOwn (old new : Processor) : Type 0 where
  pub port : HasPostedAll old.port new.port old.worker.log.buffer.letters
  pub core : new.worker.core ≡ old.worker.core
  pub hand : new.worker.hand ≡ old.worker.hand
  pub log : HasLetters old.worker.log new.worker.log

-- The clock went on: one event more, and no letter was posted or taken.
pub record HasTicked (to : ℕ) (old new : Processor) : Type 0 where
  pub on : HasGoneOn old new
  pub port : new.port ≡ old.port
  pub hand : new.worker.hand ≡ old.worker.hand
  pub past : pasts.HasTicked old.worker.core.machine old.worker.core.cpu to (past old) (past new)
  pub advances : option_map (λ x. x.local) (advance old.worker.core.machine old.worker.core.cpu to
      old.worker.core.local) ≡ Some new.worker.core.local
  pub one : length (events new.worker.log) ≡ length (events old.worker.log) + 1
  pub turns : turns_of new ≡ turns_of old
  pub stop : new.worker.stop ≡ old.worker.stop

-- Nothing has changed but room.
pub record HasStayed (old new : Processor) : Type 0 where
  pub port : new.port ≡ old.port
  pub core : new.worker.core ≡ old.worker.core
  pub hand : new.worker.hand ≡ old.worker.hand
  pub events : events new.worker.log ≡ events old.worker.log
  pub actions : actions new.worker.log ≡ actions old.worker.log
  pub turns : turns_of new ≡ turns_of old
  pub stop : new.worker.stop ≡ old.worker.stop
