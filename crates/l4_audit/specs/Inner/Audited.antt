-- What an auditor knows: a machine, and its world.
use Rattle.std.specs.Prelude.{ℕ, ◌≡◌, ◌<◌, ◌≤◌, is_some, true, Some, List, map, length, slice_get}
use Rattle.l4_model.specs.Machine.{Machine, Declaration, OrderKind, place_of, most_instructions}
use Rattle.l4_model.specs.World.{World, Thread, PendingOrder}
use Rattle.l4_model.specs.Conditions.{Found}
use Rattle.l4_core_model.specs.Plain.{Waiting}
use Rattle.l4_thread.specs.Inner.Parts.{Block}

pub record Audited : Type 0 where
  pub machine : Machine
  pub world : World

abbrev pub with_world : Audited → World → Audited
with_world a w = record a { world = w }

-- The places of the senders in each list.
abbrev pub senders_of : List (List Waiting) → List (List ℕ)
senders_of lists = map (map (λ w. w.block)) lists

-- The threads are those of the machine, and each has a list.
pub record IsOf (m : Machine) (blocks : List Block) (lists : List (List Waiting)) : Type 0 where
  pub ids : map (λ (b : Block). b.id) blocks ≡ map (λ (d : Declaration). d.id) m.threads
  pub counted : length lists ≡ length m.threads

-- A thread that waits until what it asked for is done stands at an instruction of its script.
abbrev pub IsPlaced : Audited → Type 0
IsPlaced a =
    (i : ℕ) (d : Declaration) (t : Thread) → slice_get a.machine.threads i ≡ Some d →
    slice_get a.world.threads i ≡ Some t →
    is_some t.order ≡ true → t.context.place < length d.script

-- A thread has an undone order that asks this of the thread at a place. Its script is within the
-- limit.
pub record IsAsked (m : Machine) (t : Found) (target : ℕ) (what : OrderKind) : Type 0 where
  pub order : PendingOrder
  pub asked : t.now.order ≡ Some order
  pub place : place_of m order.target ≡ Some target
  pub what_is : order.what ≡ what
  pub limit : length t.declared.script ≤ most_instructions
