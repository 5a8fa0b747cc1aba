-- What a condition of worlds reads, and which steps that stand alone it can see.
use Rattle.std.specs.Prelude.{◌≡◌, ◌&&◌, not, Bool, true, false, Option, None, Some, List, [], ◌∷◌, length, slice_get, ℕ}
use Rattle.std.specs.List.{list_any}
use Rattle.std.specs.Option.{option_map}
use Rattle.l4_model.specs.Words.{GlobalId, Id}
use Rattle.l4_model.specs.Machine.{Own, Assign, AssignTag, AssignVs, GoTo, GoToOnErr, GoToOnLabel, GoToOnWord, GoToOnFrom, Instr, Run, Ipc, Ask, End, Declaration, Machine}
use Rattle.l4_model.specs.World.{Thread, World}
use Rattle.l4_model.specs.Conditions.{Found, found, instruction}
use Rattle.l4_model.specs.Steps.{Step, Local, Begin, Wait, Order}
use Rattle.l4_model.specs.History.{state_of}
use Rattle.l4_first.specs.First.{stands_alone}

-- What is told of a thread: its state, its ErrorCode, the senders in its registers `from` and
-- ActualSender, its message registers, and the undecided send that it has.
pub data Part : Type 0 where
  InState : Part
  InCode : Part
  InSenders : Part
  InRegisters : Part
  InSend : Part

-- Which parts of which threads a condition reads.
abbrev pub Reads : Type 0
Reads = (thread : GlobalId) → Part → Bool

-- What an undecided send is told by: its number, and its destination.
abbrev pub send_told : Thread → Option (ℕ × Id)
send_told t = option_map (λ send. (t.context.begun, send.to)) t.send

-- The parts of a thread that are read are the same.
pub record AreSameIn (is_read : Part → Bool) (t u : Thread) : Type 0 where
  pub state : is_read InState ≡ true → state_of t.phase ≡ state_of u.phase
  pub code : is_read InCode ≡ true → t.context.error ≡ u.context.error
  pub from : is_read InSenders ≡ true → t.context.from ≡ u.context.from
  pub actual : is_read InSenders ≡ true → t.context.actual ≡ u.context.actual
  pub registers : is_read InRegisters ≡ true → t.context.words ≡ u.context.words
  pub send : is_read InSend ≡ true → send_told t ≡ send_told u

-- So it is of each thread of two worlds.
pub record AreReadAlike (m : Machine) (reads : Reads) (w v : World) : Type 0 where
  pub counted : length w.threads ≡ length v.threads
  pub each : (place : ℕ) (d : Declaration) (t u : Thread) → slice_get m.threads place ≡ Some d →
      slice_get w.threads place ≡ Some t → slice_get v.threads place ≡ Some u →
      AreSameIn (reads d.id) t u

-- A condition reads nothing else.
abbrev pub IsReadBy : Machine → Reads → (condition : World → Bool) → Type 0
IsReadBy m reads condition =
    (w v : World) → AreReadAlike m reads w v → condition w ≡ condition v

-- Which parts of its thread an instruction writes that concerns nobody else. An ipc is then one
-- without phases, and an order is refused.

abbrev pub own_written : Own → List Part
own_written (Assign a value) = InRegisters ∷ []
own_written (AssignTag word) = InRegisters ∷ []
own_written (AssignVs from) = InSenders ∷ []
own_written (GoTo place) = []
own_written (GoToOnErr place) = []
own_written (GoToOnLabel label place) = []
own_written (GoToOnWord a word place) = []
own_written (GoToOnFrom id place) = []

abbrev pub written : Instr → List Part
written (Run own) = own_written own
written (Ipc to from send_period receive_period) = InCode ∷ InSenders ∷ InRegisters ∷ []
written (Ask target what) = InCode ∷ []
written End = InState ∷ []

-- A condition reads one of these parts.

abbrev pub reads_any : Reads → GlobalId → List Part → Bool
reads_any reads id parts = list_any (reads id) parts

abbrev pub run_is_visible : Reads → Option Found → Bool
run_is_visible reads None = false
run_is_visible reads (Some t) = reads_any reads t.declared.id (written (instruction t))

-- A step writes a part that the condition reads. Each step that never stands alone counts as one.
abbrev pub is_visible : Machine → Reads → World → Step → Bool
is_visible m reads w (Local id) = run_is_visible reads (found m w id)
is_visible m reads w (Begin s) = reads_any reads s.thread (InState ∷ InSend ∷ [])
is_visible m reads w (Wait id) = reads_any reads id (InState ∷ [])
is_visible m reads w (Order caller target what) = reads_any reads caller (InState ∷ [])
is_visible m reads w step = true

-- A step that nobody can disturb, and that the condition does not see.
abbrev pub goes_unseen : Machine → Reads → World → Step → Bool
goes_unseen m reads w step = stands_alone m step && not (is_visible m reads w step)
