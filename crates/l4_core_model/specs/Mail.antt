-- What a processor does with a letter.
use Rattle.std.specs.Prelude.{ℕ, ◌==◌, Bool, true, false, not, if◌then◌else◌, ◌&&◌, ◌||◌, Option, Some, is_some, is_none}
use Rattle.l4_model.specs.Words.{GlobalId, same_id}
use Rattle.l4_model.specs.Machine.{Machine, place_of, is_declared}
use Rattle.l4_model.specs.World.{Phase, Ordering, is_deleted}
use Rattle.l4_model.specs.Effects.{obeyed}
use Rattle.l4_model.specs.Conditions.{◌>>=◌, ◌>>◌}
use Rattle.l4_core_model.specs.Plain as plain
use Rattle.l4_core_model.specs.Letters.{Cause, Content, SendLetter, DoneLetter, WithdrawLetter, GoneLetter, OrderLetter, OrderDoneLetter, RetargetLetter, Letter, refusal_of}
use Rattle.l4_core_model.specs.Local.{Local, declared, is_own, thread, changes, comes_to, after_decision, stand_in, stands_in, is_gone_now}
use Rattle.l4_core_model.specs.Acts.{Work, ◌▷◌, does, posts, arrives, retargets, refuses, obeys, split_place}
use Rattle.l4_core_model.specs.Turns.{opened}

-- The place of a declared thread of this processor, and of another.

abbrev pub own_place : Machine → (cpu : ℕ) → GlobalId → Option ℕ
own_place m cpu id = do
  i ← place_of m id
  is_own m cpu i
  Some i

abbrev pub foreign_place : Machine → (cpu : ℕ) → GlobalId → Option ℕ
foreign_place m cpu id = do
  i ← place_of m id
  not (is_own m cpu i)
  Some i

abbrev pub is_ordering : Phase → Bool
is_ordering Ordering = true
is_ordering _ = false

-- A send waits here.
abbrev pub waits_here : Local → (i k : ℕ) → Bool
waits_here l i k = plain.is_queued l.lists i && (thread l i).context.begun == k

abbrev pub withdraws_here : Machine → (cpu i k : ℕ) → Cause → Work → Work
withdraws_here m cpu i k cause x = if waits_here x.local i k
    then refuses m cpu (refusal_of cause) i x else x

-- What each letter does. None where it is not lawful here.
abbrev pub handled : Machine → (cpu : ℕ) → Content → Work → Option Work
handled m cpu (SendLetter s receiver message zero_timeout) x = do
  r ← own_place m cpu receiver
  i ← foreign_place m cpu s.thread
  is_none (thread x.local i).send
  same_id message.actual s.thread
  is_declared m message.shown
  Some (x ▷ does (changes i (stands_in s.k (stand_in receiver message zero_timeout)))
      ▷ arrives m cpu r i)
handled m cpu (DoneLetter s result) x = do
  i ← own_place m cpu s.thread
  is_some (split_place m cpu x.local i)
  (thread x.local i).context.begun == s.k
  Some (x ▷ does (comes_to i (after_decision result x.local.clock)))
handled m cpu (WithdrawLetter s receiver cause) x = do
  r ← own_place m cpu receiver
  i ← foreign_place m cpu s.thread
  Some (withdraws_here m cpu i s.k cause x)
handled m cpu (GoneLetter id) x = do
  i ← foreign_place m cpu id
  Some (x ▷ does (changes i is_gone_now))
handled m cpu (OrderLetter caller target what) x = do
  j ← own_place m cpu target
  i ← foreign_place m cpu caller
  Some (x ▷ obeys m cpu caller what j ▷ posts (declared m i).cpu (OrderDoneLetter caller))
handled m cpu (OrderDoneLetter caller) x = do
  i ← own_place m cpu caller
  is_deleted (thread x.local i).phase || is_ordering (thread x.local i).phase
  Some (x ▷ does (comes_to i obeyed))
handled m cpu (RetargetLetter o) x = do
  m.retargeting
  j ← own_place m cpu o.originator
  is_declared m o.old_partner
  is_some (foreign_place m cpu o.new_partner)
  Some (x ▷ retargets o j)

abbrev pub handle : Machine → (cpu : ℕ) → Local → Letter → Option Work
handle m cpu l letter = handled m cpu letter.content (opened letter.stamp l)
