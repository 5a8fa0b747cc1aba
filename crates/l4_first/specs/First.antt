-- A thread's own next step alone: which steps may be told first, by the scripts.
use Rattle.std.specs.Prelude.{ℕ, ◌==◌, ◌/◌, ◌%◌, ◌^◌, ◌≡◌, ◌⊎◌, ◌&&◌, not, Bool, true, false, Option, Some, None, List, [], ◌∷◌, ◌++◌, length, find, slice_get, is_some}
use Rattle.std.specs.List.{list_any}
use Rattle.l4_model.specs.Words.{GlobalId, is_id_of, same_id}
use Rattle.l4_model.specs.Machine.{OrderKind, Delete, IdFrom, Fixed, Instr, Tag, Ask, Ipc, Machine}
use Rattle.l4_model.specs.World.{PendingOrder, World, Owed, owed_of, is_in, list_at}
use Rattle.l4_model.specs.Rules.{assigned_by}
use Rattle.l4_model.specs.Conditions.{◌>>=◌, Found, found, Pending, undecided, is_zero}
use Rattle.l4_model.specs.Steps.{Step, Local, Begin, Wait, Order, Obey, SendTimeout, Retarget}
use Rattle.l4_worlds.specs.Late.{next_late, run_late}

-- Some script of another thread asks for it.
abbrev pub is_among_others : Machine → GlobalId → (Instr → Bool) → Bool
is_among_others m id asks =
    list_any (λ d. not (same_id d.id id) && list_any asks d.script) m.threads

-- An instruction may name the thread: `last` and a register may have any id.
abbrev pub may_name : GlobalId → IdFrom → Bool
may_name id (Fixed named) = is_id_of named id
may_name id _ = true

-- It deletes the thread.

abbrev pub is_delete : OrderKind → Bool
is_delete Delete = true
is_delete _ = false

abbrev pub instruction_deletes : GlobalId → Instr → Bool
instruction_deletes id (Ask target what) = may_name id target && is_delete what
instruction_deletes id _ = false

abbrev pub is_deletable : Machine → GlobalId → Bool
is_deletable m id = is_among_others m id (instruction_deletes id)

-- It orders the thread at all.

abbrev pub instruction_concerns : GlobalId → Instr → Bool
instruction_concerns id (Ask target what) = may_name id target
instruction_concerns id _ = false

abbrev pub is_orderable : Machine → GlobalId → Bool
is_orderable m id = is_among_others m id (instruction_concerns id)

-- It sends to the thread with time zero.

abbrev pub instruction_tries : GlobalId → Instr → Bool
instruction_tries id (Ipc to from send_period receive_period) =
    is_zero send_period && may_name id to
instruction_tries id _ = false

abbrev pub is_tried : Machine → GlobalId → Bool
is_tried m id = is_among_others m id (instruction_tries id)

-- Some send may be propagated, and leave a retarget owed: a script writes a tag that asks for it, or
-- MR0 by another instruction.

abbrev pub asks_to_propagate : ℕ → Bool
asks_to_propagate mr0 = (mr0 / 2 ^ 12) % 2 == 1

abbrev pub tag_asks : Instr → Bool
tag_asks (Tag word) = asks_to_propagate word
tag_asks _ = false

abbrev pub may_ask : Instr → Bool
may_ask i = by (assigned_by i)
  where
    by : Option ℕ → Bool
    by (Some a) = a == 0
    by None = tag_asks i

abbrev pub may_turn : Machine → Bool
may_turn m = m.retargeting && list_any (λ d. list_any may_ask d.script) m.threads

-- A step of a thread that nobody can disturb.

abbrev pub is_undisturbed : Machine → GlobalId → Bool
is_undisturbed m id = not (is_orderable m id) && not (is_tried m id) && not (may_turn m)

abbrev pub stands_alone : Machine → Step → Bool
stands_alone m (Local id) = not (is_deletable m id)
stands_alone m (Order caller target what) = not (is_deletable m caller)
stands_alone m (Begin s) = is_undisturbed m s.thread
stands_alone m (Wait id) = is_undisturbed m id
stands_alone m _ = false

-- The first of these steps that stands alone, or else all of them.
abbrev pub chosen : Machine → List Step → List Step
chosen m steps = one_or_all (find (stands_alone m) steps)
  where
    one_or_all : Option Step → List Step
    one_or_all None = steps
    one_or_all (Some own) = own ∷ []

-- It stands among these steps. Told first, it leads to the very same world: `a` is the world behind
-- it.
pub record GoesFirst (m : Machine) (a z : World) (own : Step) (steps : List Step) : Type 0 where
  pub before : List Step
  pub after : List Step
  pub is : steps ≡ before ++ own ∷ after
  pub leads : run_late m a (before ++ after) ≡ Some z

-- It is still possible at the end. Told first, it leads to the very world that it leads to from there.
pub record GoesBeside (m : Machine) (a z : World) (own : Step) (steps : List Step) : Type 0 where
  pub last : World
  pub possible : next_late m z own ≡ Some last
  pub leads : run_late m a steps ≡ Some last

abbrev pub GoesAnyway : Machine → (a z : World) → (own : Step) → List Step → Type 0
GoesAnyway m a z own steps = GoesFirst m a z own steps ⊎ GoesBeside m a z own steps

-- One of the chosen steps is possible, and from there so many more lead to that world.
pub record GoesOn (m : Machine) (w z : World) (listed : List Step) (more : ℕ) : Type 0 where
  pub place : ℕ
  pub step : Step
  pub is_chosen : slice_get (chosen m listed) place ≡ Some step
  pub behind : World
  pub possible : next_late m w step ≡ Some behind
  pub steps : List Step
  pub as_many : length steps ≡ more
  pub leads : run_late m behind steps ≡ Some z

-- A list has exactly the steps that are possible late.
pub record ListsLate (m : Machine) (w : World) (listed : List Step) : Type 0 where
  pub all : (step : Step) (v : World) → next_late m w step ≡ Some v →
      (i : ℕ) × (slice_get listed i ≡ Some step)
  pub only : (i : ℕ) (step : Step) → slice_get listed i ≡ Some step →
      is_some (next_late m w step) ≡ true

-- What the steps of others may do to it.

-- A thread's next step: what its instruction asks for.
abbrev pub is_next_of : GlobalId → Step → Bool
is_next_of id (Local thread) = same_id thread id
is_next_of id (Begin s) = same_id s.thread id
is_next_of id (Wait thread) = same_id thread id
is_next_of id (Order caller target what) = same_id caller id
is_next_of id _ = false

-- It is the step by which it begins a send or a receive phase.
abbrev pub is_own_of : GlobalId → Step → Bool
is_own_of id (Begin s) = same_id s.thread id
is_own_of id (Wait thread) = same_id thread id
is_own_of id _ = false

-- It is a step by which it changes itself alone, or gives an order.
abbrev pub is_quiet_of : GlobalId → Step → Bool
is_quiet_of id (Local thread) = same_id thread id
is_quiet_of id (Order caller target what) = same_id caller id
is_quiet_of id _ = false

abbrev pub order_deletes : GlobalId → Option PendingOrder → Bool
order_deletes id None = false
order_deletes id (Some order) = same_id order.target id && is_delete order.what

abbrev pub order_concerns : GlobalId → Option PendingOrder → Bool
order_concerns id None = false
order_concerns id (Some order) = same_id order.target id

abbrev pub is_zero_send_to : GlobalId → Option Pending → Bool
is_zero_send_to id None = false
is_zero_send_to id (Some p) = is_zero p.send.period && is_id_of p.send.to id

abbrev pub turn_concerns : GlobalId → Option Owed → Bool
turn_concerns id None = false
turn_concerns id (Some o) = same_id o.originator id

-- By it a thread obeys that deletes this one.
abbrev pub deletes_now : Machine → World → GlobalId → Step → Bool
deletes_now m w id (Obey caller) = order_deletes id (found m w caller >>= λ t. t.now.order)
deletes_now m w id _ = false

-- By it somebody obeys who has an order for the thread, a send of time zero to it is refused, or it
-- turns to another partner.
abbrev pub disturbs : Machine → World → GlobalId → Step → Bool
disturbs m w id (Obey caller) = order_concerns id (found m w caller >>= λ t. t.now.order)
disturbs m w id (SendTimeout s) = is_zero_send_to id (undecided m w s)
disturbs m w id (Retarget s) = turn_concerns id (owed_of w.owed s)
disturbs m w id _ = false

-- The thread, where it is there, has no undecided send and no undone order.
abbrev pub HasNothingUndone : Machine → World → GlobalId → Type 0
HasNothingUndone m w id =
    (t : Found) → found m w id ≡ Some t → (t.now.send ≡ None) × (t.now.order ≡ None)

-- It stands in no list.
abbrev pub IsUnlisted : Machine → World → GlobalId → Type 0
IsUnlisted m w id =
    (t : Found) → found m w id ≡ Some t → (j : ℕ) → is_in t.at (list_at w.waiting j) ≡ false

-- They happen in either order, and both ways meet.
pub record AreExchanged (m : Machine) (a b : World) (own s : Step) : Type 0 where
  pub meet : World
  pub step_second : next_late m a s ≡ Some meet
  pub own_second : next_late m b own ≡ Some meet
