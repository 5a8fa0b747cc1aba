-- The local states that a processor comes to.
use Rattle.std.specs.Prelude.{◌≡◌, ℕ, ◌+◌, ◌<◌, ◌≤◌, ◌^◌, true, Option, Some, None, List, is_some, length, slice_index_or}
use Rattle.std.specs.List.{AllByRecursion}
use Rattle.l4_model.specs.Words.{GlobalId, clock_limit, period_limit}
use Rattle.l4_model.specs.Machine.{Machine}
use Rattle.l4_model.specs.World.{Send, Phase, Ready, Sending, Deleted}
use Rattle.l4_core_model.specs.Plain as plain
use Rattle.l4_core_model.specs.Local.{Local, declared, is_own, thread}
use Rattle.l4_core_model.specs.Acts.{split_place}
use Rattle.l4_core_model.specs.Mail.{is_ordering}
use Rattle.tcb_arena.specs.Inner.Blocks.{is_ready as is_ready_in, is_armed as is_armed_in}

-- A send has its own thread as its sender, and was counted.
abbrev pub IsSent : GlobalId → Option Send → (begun : ℕ) → Type 0
IsSent id None begun = Unit {0}
IsSent id (Some send) begun = (send.message.actual ≡ id) × (0 < begun)

-- A thread of this processor with an undecided send is in its send phase, or was deleted.
abbrev pub MaySend : Phase → Type 0
MaySend Sending = Unit {0}
MaySend Deleted = Unit {0}
MaySend _ = ⊥

-- A thread of this processor.
pub record IsOwn (m : Machine) (cpu i : ℕ) : Type 0 where
  pub within : i < length m.threads
  pub own : is_own m cpu i ≡ true

-- A thread whose send waits in a list, or may.
pub record HasSend (m : Machine) (cpu : ℕ) (l : Local) (i : ℕ) : Type 0 where
  pub within : i < length m.threads
  pub sends : is_some (thread l i).send ≡ true

-- A thread whose send waits in a list here. If the thread is of this processor, so is the receiver.
pub record IsWaiting (m : Machine) (cpu : ℕ) (l : Local) (i : ℕ) : Type 0 where
  pub within : i < length m.threads
  pub sends : is_some (thread l i).send ≡ true
  pub here : is_own m cpu i ≡ true → split_place m cpu l i ≡ None

-- A thread in the ready list.
pub record IsReadied (m : Machine) (cpu : ℕ) (l : Local) (i : ℕ) : Type 0 where
  pub own : IsOwn m cpu i
  pub phase : (thread l i).phase ≡ Ready

-- Each armed deadline is less than 2^42 ticks away, as each period is long.
abbrev pub AreNear : (clock : ℕ) → (armed : List (ℕ × ℕ)) → Type 0
AreNear clock armed = AllByRecursion (λ e. e.0 < clock + period_limit) armed

pub record IsSettled (m : Machine) (cpu : ℕ) (l : Local) : Type 0 where
  pub threads : length l.threads ≡ length m.threads
  pub lists : length l.lists.waiting ≡ length m.threads
  pub told : length l.told ≡ length m.threads
  pub owed : length l.owed ≡ length m.threads
  pub known : (i : ℕ) → slice_index_or l.told i 0 ≤ m.cpus
  pub sent : (i : ℕ) → IsSent (declared m i).id (thread l i).send (thread l i).context.begun
  pub sending : (i : ℕ) → is_own m cpu i ≡ true → is_some (thread l i).send ≡ true →
      MaySend (thread l i).phase
  pub begun : (i : ℕ) → is_own m cpu i ≡ true → (thread l i).context.begun ≤ l.stamp
  pub ordering : (i : ℕ) → is_own m cpu i ≡ true → is_ordering (thread l i).phase ≡ true →
      (thread l i).context.place + 1 < 2 ^ 64
  pub queued : (i : ℕ) → plain.is_queued l.lists i ≡ true → IsWaiting m cpu l i
  pub ready : (i : ℕ) → is_ready_in l.lists i ≡ true → IsReadied m cpu l i
  pub armed : (i : ℕ) → is_armed_in l.lists i ≡ true → IsOwn m cpu i
  pub near : AreNear l.clock l.lists.armed
  pub clock : l.clock < clock_limit
