-- What an event of the program is in the core run.
use Rattle.std.specs.Prelude.{◌≡◌, ℕ, true, false, Option, Some, None, is_some}
use Rattle.l4_model.specs.Options.{if_some}
use Rattle.l4_model.specs.Machine.{Machine}
use Rattle.l4_model.specs.World.{Message, Send, Ready, receive_now}
use Rattle.l4_model.specs.Rules.{Act, Sends, Receives, received_tag, is_cross}
use Rattle.l4_model.specs.Effects.{begins, waits, fails, receives}
use Rattle.l4_model.specs.Steps as steps
use Rattle.l4_core_model.specs.Plain as plain
use Rattle.l4_core_model.specs.Letters.{Delivered}
use Rattle.l4_core_model.specs.Local.{Local, declared, is_own, last_name, thread, comes_to}
use Rattle.l4_core_model.specs.Acts.{Work, tells, does, decides_send, split_place, ◌▷◌}
use Rattle.l4_core_model.specs.Turns as turns
use Rattle.tcb_arena.specs.Inner.Blocks.{is_ready as is_ready_in}
use Rattle.l4_core.specs.Processor.{Processor}
use Rattle.l4_core.specs.Inner.Settled.{IsOwn, HasSend}
use Rattle.l4_core.specs.EventBuffers.{EventBuffer}

-- An event under way.
abbrev pub work : Local → EventBuffer → Work
work l t = record { local = l; steps = t.steps; letters = t.letters }

-- A piece of an event was done.
pub record Does (piece : Work → Work) (old new : Processor) (before after : EventBuffer) :
    Type 0 where
  pub machine : new.machine ≡ old.machine
  pub cpu : new.cpu ≡ old.cpu
  pub stamp : new.local.stamp ≡ old.local.stamp
  pub kept : after.before ≡ before.before
  pub work : work new.local after ≡ piece (work old.local before)

-- A step is told, and the phase of a thread fails with a code.
abbrev pub fails_with : steps.Step → (code place : ℕ) → Work → Work
fails_with step code place x = x ▷ tells step ▷ does (comes_to place (fails code))

-- A message comes to its receiver, and its send is decided: a delivery but for the retarget that it
-- may leave owed.
abbrev pub hands_message : Machine → (cpu r i : ℕ) → Message → (tag : ℕ) → Work → Work
hands_message m cpu r i message tag x =
    x
    ▷ tells (steps.Deliver (last_name m x.local i) (declared m r).id message.shown message.actual
    tag message.words)
    ▷ does (comes_to r (receives message tag))
    ▷ decides_send m cpu Delivered i

abbrev pub hands_send : Machine → (cpu r i : ℕ) → Option Send → Work → Work
hands_send m cpu r i =
    if_some (λ send. hands_message m cpu r i send.message
    (received_tag (is_cross m (declared m r).id send.message) send.message))

abbrev pub hands_over : Machine → (cpu r i : ℕ) → Work → Work
hands_over m cpu r i x = hands_send m cpu r i (thread x.local i).send x

-- What the phase that an ipc begins makes of the local state.
abbrev pub begun_by : Act → (place : ℕ) → Local → Local
begun_by (Sends send) place l = comes_to place (begins send) l
begun_by (Receives receive) place l = comes_to place (waits receive l.clock) l
begun_by _ place l = l

abbrev pub IsOwnOf : Processor → ℕ → Type 0
IsOwnOf p i = IsOwn p.machine p.cpu i

-- A thread with an undecided send.
abbrev pub IsSender : Processor → ℕ → Type 0
IsSender p i = HasSend p.machine p.cpu p.local i

-- If the thread is of this processor, its send is not split.
abbrev pub IsNotSplit : Processor → ℕ → Type 0
IsNotSplit p i = is_own p.machine p.cpu i ≡ true → split_place p.machine p.cpu p.local i ≡ None

-- A thread with an undecided send that stands in no list.
pub record IsNewSender (p : Processor) (i : ℕ) : Type 0 where
  pub sender : IsSender p i
  pub unqueued : plain.is_queued p.local.lists i ≡ false

-- A thread that stands in no list, but for a deadline.
pub record IsFree (p : Processor) (i : ℕ) : Type 0 where
  pub own : IsOwn p.machine p.cpu i
  pub unready : is_ready_in p.local.lists i ≡ false
  pub unqueued : plain.is_queued p.local.lists i ≡ false

-- A ready thread of this processor that does not stand in the ready list.
pub record IsAtHand (p : Processor) (i : ℕ) : Type 0 where
  pub own : IsOwn p.machine p.cpu i
  pub ready : (thread p.local i).phase ≡ Ready
  pub unready : is_ready_in p.local.lists i ≡ false

pub record IsReceiver (p : Processor) (i : ℕ) : Type 0 where
  pub own : IsOwn p.machine p.cpu i
  pub waits : is_some (receive_now (thread p.local i).phase) ≡ true

-- An event was told behind what was told before, with this stamp.
pub record IsEvent (event : Option Work) (old new : Processor) (before after : EventBuffer)
    (stamp : ℕ) : Type 0 where
  pub machine : new.machine ≡ old.machine
  pub cpu : new.cpu ≡ old.cpu
  pub kept : after.before ≡ before.before
  pub is : event ≡ Some (work new.local after)
  pub stamped : stamp ≡ new.local.stamp

-- There is no such event, and nothing has changed.
pub record IsNoEvent (event : Option Work) (old new : Processor) (before after : EventBuffer) :
    Type 0 where
  pub none : event ≡ None
  pub same : new ≡ old
  pub untold : after ≡ before

abbrev pub IsTurn : (old new : Processor) → (before after : EventBuffer) → Option ℕ → Type 0
IsTurn old new before after (Some stamp) = IsEvent (turns.turn old.machine old.cpu old.local) old
    new before after stamp
IsTurn old new before after None = IsNoEvent (turns.turn old.machine old.cpu old.local) old
    new before after
