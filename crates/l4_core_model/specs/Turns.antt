-- The core's turn: the first duty, else the first due timeout, else one instruction of the first
-- ready thread.
use Rattle.l4_model.specs.Rules.{TimeOver, NobodyThere, CancelAsked}
use Rattle.l4_model.specs.Options.{if_some}
use Rattle.std.specs.Prelude.{ℕ, ◌+◌, ◌==◌, max, nat_lt, Bool, if◌then◌else◌, Option, Some, None, is_some, List, [], ◌∷◌, find, slice_index_or, slice_get}
use Rattle.std.specs.Option.{option_map}
use Rattle.l4_model.specs.Words.{clock_limit}
use Rattle.l4_model.specs.Machine.{Machine, place_of}
use Rattle.l4_model.specs.World.{Owed, is_deleted, receive_now, changed}
use Rattle.l4_model.specs.Steps.{Tick}
use Rattle.l4_model.specs.Conditions.{Found, is_nobody, act_of, ◌>>=◌, ◌>>◌}
use Rattle.l4_core_model.specs.Plain as plain
use Rattle.l4_core_model.specs.Letters.{TimedOut, Nobody, Cancelled, Dropped, GoneLetter, ByTimeout}
use Rattle.l4_core_model.specs.Local.{Local, declared, own_places, owed_beside, keeps_beside, thread, held, held_by, relists}
use Rattle.l4_core_model.specs.Acts.{Work, ◌▷◌, does, tells, posts, retargets, refuses, delivers, fails_for, first_acceptable, zero_refusable, withdraws, split_place, acts}

-- Stamps

abbrev pub next_stamp : (letter_stamp : ℕ) → Local → ℕ
next_stamp letter_stamp l = max l.stamp letter_stamp + 1

abbrev pub can_stamp : Local → (letter_stamp : ℕ) → Bool
can_stamp l letter_stamp = nat_lt (next_stamp letter_stamp l) clock_limit

abbrev pub opened : (letter_stamp : ℕ) → Local → Work
opened letter_stamp l = record {
  local = record l { stamp = next_stamp letter_stamp l };
  steps = [];
  letters = [];
}

-- Duties

pub data Duty : Type 0 where
  Retargets : Owed → Duty
  DropsOwn : Duty
  RefusesFirst : (sender : ℕ) → Duty
  TellsGone : (cpu : ℕ) → Duty
  CancelsOwn : Duty
  CancelsReceive : Duty
  DeliversFirst : (sender : ℕ) → Duty
  ClosesReceive : Duty
  RefusesZero : (sender : ℕ) → Duty

-- When each duty of a thread arises

-- A retarget is owed beside it.
abbrev pub duty_retargets : Local → Found → Option Duty
duty_retargets l t = do
  o ← owed_beside l t.at
  Some (Retargets o)

-- It is deleted, and its send waits in a list of this processor.
abbrev pub duty_drops_own : Local → Found → Option Duty
duty_drops_own l t = do
  is_deleted t.now.phase
  plain.is_queued l.lists t.at
  Some DropsOwn

-- It is deleted, and a send waits at it.
abbrev pub duty_refuses_waiting : Local → Found → Option Duty
duty_refuses_waiting l t = do
  is_deleted t.now.phase
  first ← slice_get (plain.list_of l.lists t.at) 0
  Some (RefusesFirst first.block)

-- The next processor but this one that is to be told.
abbrev pub next_untold : Machine → (cpu told : ℕ) → Option ℕ
next_untold m cpu told = within (if told == cpu then told + 1 else told)
  where
    within : ℕ → Option ℕ
    within n = if nat_lt n m.cpus then Some n else None

-- It is deleted, and some other processor is not yet told.
abbrev pub duty_tells_gone : Machine → (cpu : ℕ) → Local → Found → Option Duty
duty_tells_gone m cpu l t = do
  is_deleted t.now.phase
  to ← next_untold m cpu (slice_index_or l.told t.at 0)
  Some (TellsGone to)

-- Its send waits in a list of this processor, and is to be cancelled.
abbrev pub duty_cancels_own : Local → Found → Option Duty
duty_cancels_own l t = do
  plain.is_queued l.lists t.at
  t.now.cancel_send
  Some CancelsOwn

-- It is receiving, and its receive phase is to be cancelled.
abbrev pub duty_cancels_receive : Found → Option Duty
duty_cancels_receive t = do
  is_some (receive_now t.now.phase)
  t.now.cancel_receive
  Some CancelsReceive

-- It is receiving, and a send that it accepts waits at it.
abbrev pub duty_delivers_first : Local → Found → Option Duty
duty_delivers_first l t = do
  first ← first_acceptable l t.at
  Some (DeliversFirst first)

-- It is receiving from a non-existing partner, as far as this processor knows.
abbrev pub duty_closes_receive : Machine → Local → Found → Option Duty
duty_closes_receive m l t = do
  receive ← receive_now t.now.phase
  is_nobody receive.from (held_by m l receive.from)
  Some ClosesReceive

-- A send of timeout zero waits at it, and may be refused as far as this processor knows.
abbrev pub duty_refuses_zero : Machine → Local → Found → Option Duty
duty_refuses_zero m l t = do
  w ← find (λ w. zero_refusable m t (thread l w.block).send) (plain.list_of l.lists t.at)
  Some (RefusesZero w.block)

abbrev pub first_some : {A : Type 0} → List (Option A) → Option A
first_some [] = None
first_some (None ∷ os) = first_some os
first_some (Some x ∷ os) = Some x

abbrev pub duty_of : Machine → (cpu : ℕ) → Local → Found → Option Duty
duty_of m cpu l t =
    first_some (duty_retargets l t ∷ duty_drops_own l t ∷ duty_refuses_waiting l t ∷
    duty_tells_gone m cpu l t ∷ duty_cancels_own l t ∷ duty_cancels_receive t ∷
    duty_delivers_first l t ∷ duty_closes_receive m l t ∷ duty_refuses_zero m l t ∷ [])

-- What the core's turn does: a duty of a thread, a due timeout, or an instruction.
pub data Choice : Type 0 where
  ByDuty : (place : ℕ) → Duty → Choice
  ByDue : (place : ℕ) → Choice
  ByReady : (place : ℕ) → Choice

-- The first duty of these threads.
abbrev pub first_duty : Machine → (cpu : ℕ) → Local → List ℕ → Option Choice
first_duty m cpu l [] = None
first_duty m cpu l (i ∷ is) = first_some (option_map (ByDuty i) (duty_of m cpu l (held m l i)) ∷
    first_duty m cpu l is ∷ [])

abbrev pub choice : Machine → (cpu : ℕ) → Local → Option Choice
choice m cpu l =
    first_some (first_duty m cpu l (own_places m cpu)
    ∷ option_map ByDue (plain.due_block l.clock l.lists.armed)
    ∷ option_map ByReady (slice_get l.lists.ready 0) ∷ [])

abbrev pub has_told : (cpu place : ℕ) → Local → Local
has_told cpu i l = record l { told = changed (λ n. cpu + 1) l.told i }

abbrev pub does_duty : Machine → (cpu i : ℕ) → Duty → Work → Work
does_duty m cpu i (Retargets o) x = x ▷ does (keeps_beside i None)
    ▷ if_some (retargets o) (place_of m o.originator)
does_duty m cpu i DropsOwn x = refuses m cpu Dropped i x
does_duty m cpu i (RefusesFirst sender) x = refuses m cpu Nobody sender x
does_duty m cpu i (TellsGone to) x = x ▷ does (has_told to i)
    ▷ posts to (GoneLetter (declared m i).id)
does_duty m cpu i CancelsOwn x = refuses m cpu Cancelled i x
does_duty m cpu i CancelsReceive x = fails_for m CancelAsked i x
does_duty m cpu i (DeliversFirst sender) x = delivers m cpu i sender x
does_duty m cpu i ClosesReceive x = fails_for m NobodyThere i x
does_duty m cpu i (RefusesZero sender) x = refuses m cpu TimedOut sender x

-- A deadline is past: a receive phase or a send that waits here times out. For a split send a
-- letter asks for its withdrawal.
abbrev pub times_out : Machine → (cpu i : ℕ) → Work → Work
times_out m cpu i x =
    if is_some (receive_now (thread x.local i).phase)
    then fails_for m TimeOver i x
    else if plain.is_queued x.local.lists i then refuses m cpu TimedOut i x
    else withdraws m ByTimeout i (split_place m cpu x.local i) x

abbrev pub does_choice : Machine → (cpu : ℕ) → Choice → Work → Work
does_choice m cpu (ByDuty i duty) x = does_duty m cpu i duty x
does_choice m cpu (ByDue i) x = x ▷ does (relists plain.popped_due) ▷ times_out m cpu i
does_choice m cpu (ByReady i) x = x ▷ does (relists plain.popped)
    ▷ acts m cpu i (act_of m (held m x.local i))

-- The core's turn. None where it is idle.
abbrev pub turn : Machine → (cpu : ℕ) → Local → Option Work
turn m cpu l = option_map (λ c. does_choice m cpu c (opened 0 l)) (choice m cpu l)

abbrev pub is_busy : Machine → (cpu : ℕ) → Local → Bool
is_busy m cpu l = is_some (choice m cpu l)

abbrev pub clock_is : ℕ → Local → Local
clock_is to l = record l { clock = to }

-- The clock goes on. None where it may not.
abbrev pub advance : Machine → (cpu : ℕ) → (to : ℕ) → Local → Option Work
advance m cpu to l = do
  nat_lt l.clock to
  nat_lt to clock_limit
  Some (opened 0 l ▷ tells (Tick cpu to) ▷ does (clock_is to))
