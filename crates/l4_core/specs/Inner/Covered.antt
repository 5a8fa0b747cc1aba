-- Sets of places that leave none out: of those of this processor's threads with a duty, and of
-- those where a send of timeout zero waits.
use Rattle.std.specs.Prelude.{◌≡◌, ℕ, ◌<◌, Bool, true, false, if◌then◌else◌, ◌&&◌, ◌||◌, not, Option, Some, None, List, find, slice_index_or}
use Rattle.std.specs.Option.{option_map}
use Rattle.l4_model.specs.Words.{Id, AnyThread}
use Rattle.l4_model.specs.Machine.{Machine}
use Rattle.l4_model.specs.World.{Receive, Send, Thread, Owed, is_deleted, is_ready, is_sending, receive_now}
use Rattle.l4_model.specs.Conditions.{is_zero, is_nobody}
use Rattle.l4_core_model.specs.Plain.{Waiting, list_of, first_taken}
use Rattle.l4_core_model.specs.Local.{Local, thread, held, held_by}
use Rattle.l4_core_model.specs.Acts.{zero_refusable}
use Rattle.l4_core_model.specs.Turns.{Duty, Retargets, DropsOwn, RefusesFirst, TellsGone, CancelsOwn, CancelsReceive, DeliversFirst, ClosesReceive, RefusesZero, next_untold, duty_of}
use Rattle.l4_core.specs.Inner.Places.{has}
use Rattle.l4_core.specs.Processor.{Processor}
use Rattle.l4_core.specs.Inner.Settled.{IsOwn}

abbrev pub duty_at : Machine → (cpu : ℕ) → Local → ℕ → Option Duty
duty_at m cpu l i = duty_of m cpu l (held m l i)

-- A send has timeout zero: it may not wait at all.
abbrev pub is_zero_send : Option Send → Bool
is_zero_send None = false
is_zero_send (Some send) = is_zero send.period

-- The first of these senders whose send has timeout zero.
abbrev pub first_zero : Local → List Waiting → Option Waiting
first_zero l ws = find (λ w. is_zero_send (thread l w.block).send) ws

pub record Covers (duties : List ℕ) (m : Machine) (cpu : ℕ) (l : Local) : Type 0 where
  pub within : (place : ℕ) → has duties place ≡ true → IsOwn m cpu place
  pub others : (place : ℕ) → IsOwn m cpu place → has duties place ≡ false →
      duty_at m cpu l place ≡ None

-- The set leaves no place with a duty out, but maybe this one.
pub record CoversOthers (place : ℕ) (duties : List ℕ) (m : Machine) (cpu : ℕ) (l : Local) :
    Type 0 where
  pub within : (other : ℕ) → has duties other ≡ true → IsOwn m cpu other
  pub others : (other : ℕ) → IsOwn m cpu other → (place ≡ other → ⊥) → has duties other ≡ false →
      duty_at m cpu l other ≡ None

-- The set leaves no place with a duty out, but maybe these two.
pub record CoversBut (one another : ℕ) (duties : List ℕ) (m : Machine) (cpu : ℕ) (l : Local) :
    Type 0 where
  pub within : (other : ℕ) → has duties other ≡ true → IsOwn m cpu other
  pub others : (other : ℕ) → IsOwn m cpu other → (one ≡ other → ⊥) → (another ≡ other → ⊥) →
      has duties other ≡ false → duty_at m cpu l other ≡ None

abbrev pub CoversZeros : (zeros : List ℕ) → Local → Type 0
CoversZeros zeros l = (place : ℕ) → has zeros place ≡ false →
    first_zero l (list_of l.lists place) ≡ None

-- The first place with a duty.
pub record IsFirstDuty (place : ℕ) (duty : Duty) (m : Machine) (cpu : ℕ) (l : Local) : Type 0 where
  pub own : IsOwn m cpu place
  pub has_duty : duty_at m cpu l place ≡ Some duty
  pub first : (other : ℕ) → other < place → IsOwn m cpu other → duty_at m cpu l other ≡ None

abbrev pub HasNoDuty : Machine → (cpu : ℕ) → Local → Type 0
HasNoDuty m cpu l = (place : ℕ) → IsOwn m cpu place → duty_at m cpu l place ≡ None

-- The two sets of a processor leave no place out.
pub record IsCovered (duties zeros : List ℕ) (p : Processor) : Type 0 where
  pub covers : Covers duties p.machine p.cpu p.local
  pub waiting : CoversZeros zeros p.local

-- The two sets leave no place out, but that this place of this processor may have a duty.
pub record IsCoveredBut (place : ℕ) (duties zeros : List ℕ) (p : Processor) : Type 0 where
  pub own : IsOwn p.machine p.cpu place
  pub others : CoversOthers place duties p.machine p.cpu p.local
  pub waiting : CoversZeros zeros p.local

-- The parts of a duty

abbrev pub names_nobody : Machine → Local → Id → Bool
names_nobody m l id = is_nobody id (held_by m l id)

-- The first send of timeout zero that waits at a place and may be refused.
abbrev pub first_refusable : Machine → Local → ℕ → Option Waiting
first_refusable m l i = find (λ w. zero_refusable m (held m l i) (thread l w.block).send)
    (list_of l.lists i)

abbrev pub untold_of : Machine → (cpu : ℕ) → Local → ℕ → Option ℕ
untold_of m cpu l i = next_untold m cpu (slice_index_or l.told i 0)

abbrev pub or_tell : Option ℕ → (untold : Option ℕ) → Option Duty
or_tell None untold = option_map TellsGone untold
or_tell (Some sender) untold = Some (RefusesFirst sender)

-- The duty of a deleted thread: its send is dropped, else the first send that waits at it is
-- refused, else another processor is told.
abbrev pub deleted_duty : (queued : Bool) → List Waiting → (untold : Option ℕ) → Option Duty
deleted_duty queued ws untold = if queued then Some DropsOwn
    else or_tell (first_taken AnyThread ws) untold

abbrev pub or_close : Option ℕ → (nobody : Bool) → Option Duty
or_close None nobody = if nobody then Some ClosesReceive else None
or_close (Some sender) nobody = Some (DeliversFirst sender)

-- The duty of a receive phase: it is cancelled, else it gets the first send that it accepts, else
-- it is closed if nobody has the id that it names.
abbrev pub receive_duty : (nobody : Id → Bool) → (cancelled : Bool) → List Waiting →
    Option Receive → Option Duty
receive_duty nobody cancelled ws None = None
receive_duty nobody cancelled ws (Some receive) = if cancelled then Some CancelsReceive
    else or_close (first_taken receive.from ws) (nobody receive.from)

abbrev pub or_refuse : Option Duty → (zero : Option Waiting) → Option Duty
or_refuse None zero = option_map (λ w. RefusesZero w.block) zero
or_refuse (Some duty) zero = Some duty

-- The duty of a living thread: its waiting send is cancelled, else its receive phase has a duty,
-- else a send of timeout zero that waits at it is refused.
abbrev pub living_duty : (nobody : Id → Bool) → Thread → (queued : Bool) → List Waiting →
    (zero : Option Waiting) → Option Duty
living_duty nobody t queued ws zero =
    if t.cancel_send && queued then Some CancelsOwn
    else or_refuse (receive_duty nobody t.cancel_receive ws (receive_now t.phase)) zero

-- A thread is ready, or in a send phase that is not cancelled: nothing can be its duty but a
-- retarget, and a send of timeout zero that waits at it.
abbrev pub runs_or_sends : Thread → Bool
runs_or_sends t = is_ready t.phase || is_sending t.phase && not t.cancel_send

abbrev pub duty_of_thread : (nobody : Id → Bool) → Thread → (queued : Bool) → List Waiting →
    (untold : Option ℕ) → (zero : Option Waiting) → Option Duty
duty_of_thread nobody t queued ws untold zero =
    if is_deleted t.phase then deleted_duty queued ws untold
    else living_duty nobody t queued ws zero

-- A retarget that is kept beside a thread comes before its other duties.
abbrev pub after_retarget : Option Owed → (other : Option Duty) → Option Duty
after_retarget None other = other
after_retarget (Some owed) other = Some (Retargets owed)
