-- When something can happen to a thread.
use Rattle.std.specs.Prelude.{None, ◌≡◌, ◌+◌, ◌<◌, ◌^◌, Bool, true, false, is_some}
use Rattle.l4_model.specs.World.{Thread, is_deleted}
use Rattle.l4_thread.specs.Inner.Changes.{may_advance}
use Rattle.l4_thread.specs.declared.changes.Change.{Change}
use Rattle.l4_thread.specs.declared.changes.Change.TheVariants.{EndSend, GiveOrder}

abbrev pub is_order : Change → Bool
is_order (GiveOrder order) = true
is_order _ = false

abbrev pub ends_send : Change → Bool
ends_send (EndSend decision) = true
ends_send _ = false

-- A change can happen to a thread. A living thread with an undecided send can only have that send
-- ended. A thread that gives an order lives, and goes on to its next instruction once that is done.
pub record IsFitting (change : Change) (t : Thread) : Type 0 where
  pub living : is_order change ≡ true → is_deleted t.phase ≡ false
  pub idle : ends_send change ≡ false → is_some t.send ≡ true → is_deleted t.phase ≡ true
  pub room : may_advance change ≡ true → t.context.place + 1 < 2 ^ 64
  pub next : is_order change ≡ true → t.context.place + 1 < 2 ^ 64

-- The order of a thread is cleared.
abbrev pub forgets_order : Thread → Thread
forgets_order t = record t { order = None }
