-- To whom a processor may yet post, by what it and the other one know: what a persistent set is
-- closed under.
use Rattle.std.specs.Prelude.{ℕ, zero, suc, ◌+◌, ◌≡◌, ◌&&◌, ◌||◌, not, nat_lt, Bool, true, false, Option, Some, None, is_some, if◌then◌else◌, List, [], ◌∷◌, length, map, slice_get, slice_index_or}
use Rattle.std.specs.List.{list_any}
use Rattle.l4_model.specs.Words.{GlobalId, Id}
use Rattle.l4_model.specs.Machine.{Machine, IdFrom, Fixed, Last, InRegister, Instr, Ipc, Ask, End, Run, GoTo, GoToOnErr, GoToOnLabel, GoToOnWord, GoToOnFrom, instruction_at, place_of}
use Rattle.l4_model.specs.World.{Send, PendingOrder, Thread, is_in, is_alive}
use Rattle.l4_core_model.specs.Local.{Local, declared, destination_place, is_own, own_places, thread}
use Rattle.l4_core_model.specs.Runs.{System, letters}
use Rattle.l4_first.specs.First.{instruction_deletes, may_ask}

-- The place is that of a thread of this processor; an id names such a thread.

abbrev pub is_at : Machine → (cpu : ℕ) → (place : Option ℕ) → Bool
is_at m cpu None = false
is_at m cpu (Some i) = is_own m cpu i

abbrev pub names : Machine → (cpu : ℕ) → Id → Bool
names m cpu id = is_at m cpu (destination_place m id)

-- Whom an instruction sends or gives an order to: a thread of a processor, or whomever the register
-- `from` names.
pub data Aim : Type 0 where
  At : (cpu : ℕ) → Aim
  AtLast : Aim

-- A message register may name any thread.
abbrev pub may_name : Machine → IdFrom → Aim → Bool
may_name m (Fixed id) (At cpu) = names m cpu id
may_name m Last AtLast = true
may_name m (InRegister format a) (At cpu) = true
may_name m from aim = false

abbrev pub has_aim : Machine → Instr → Aim → Bool
has_aim m (Ipc to from send_period receive_period) aim = may_name m to aim
has_aim m (Ask target what) aim = may_name m target aim
has_aim m i aim = false

-- The places where a script may go on behind an instruction.
abbrev pub places_behind : Instr → (place : ℕ) → List ℕ
places_behind (Run (GoTo target)) place = target ∷ []
places_behind (Run (GoToOnErr target)) place = (place + 1) ∷ target ∷ []
places_behind (Run (GoToOnLabel label target)) place = (place + 1) ∷ target ∷ []
places_behind (Run (GoToOnWord a word target)) place = (place + 1) ∷ target ∷ []
places_behind (Run (GoToOnFrom id target)) place = (place + 1) ∷ target ∷ []
places_behind End place = place ∷ []
places_behind i place = (place + 1) ∷ []

-- For each thread and each place of its script whether an instruction from there on has an aim.
abbrev pub Aims : Type 0
Aims = (thread place : ℕ) → Aim → Bool

abbrev pub instruction_of : Machine → (thread place : ℕ) → Instr
instruction_of m i k = instruction_at (declared m i).script k

-- None is left out: of each place its own instruction's, and those of each place behind it.
pub record AreAims (m : Machine) (aims : Aims) : Type 0 where
  pub here : (i k : ℕ) (aim : Aim) → has_aim m (instruction_of m i k) aim ≡ true →
      aims i k aim ≡ true
  pub behind : (i k next : ℕ) (aim : Aim) →
      is_in next (places_behind (instruction_of m i k) k) ≡ true → aims i next aim ≡ true →
      aims i k aim ≡ true

-- They are computed in rounds. A round marks each place that has the aim itself, or behind which a
-- place is marked.

abbrev pub is_marked : List Bool → (place : ℕ) → Bool
is_marked marks k = slice_index_or marks k false

abbrev pub marked_on : Machine → Aim → (all : List Bool) → (place : ℕ) → List Instr → List Bool →
    List Bool
marked_on m aim all k (i ∷ is) (mark ∷ marks) =
    (mark || (has_aim m i aim || list_any (is_marked all) (places_behind i k)))
    ∷ marked_on m aim all (k + 1) is marks
marked_on m aim all k is marks = []

abbrev pub marked_round : Machine → Aim → List Instr → List Bool → List Bool
marked_round m aim script marks = marked_on m aim marks 0 script marks

abbrev pub marked_rounds : Machine → Aim → List Instr → (rounds : ℕ) → List Bool → List Bool
marked_rounds m aim script zero marks = marks
marked_rounds m aim script (suc rounds) marks =
    marked_rounds m aim script rounds (marked_round m aim script marks)

-- As many rounds as there are instructions suffice.
abbrev pub aims_of : Machine → Aims
aims_of m i k aim =
    is_marked (marked_rounds m aim (declared m i).script (length (declared m i).script)
    (map (λ instr. false) (declared m i).script)) k

-- The undecided send, and the undone order, go to a thread of this processor.

abbrev pub sends_to : Machine → (cpu : ℕ) → Option Send → Bool
sends_to m cpu None = false
sends_to m cpu (Some send) = names m cpu send.to

abbrev pub orders_to : Machine → (cpu : ℕ) → Option PendingOrder → Bool
orders_to m cpu None = false
orders_to m cpu (Some order) = is_at m cpu (place_of m order.target)

-- So a thread waits for that processor.
abbrev pub waits_for : Machine → (cpu : ℕ) → Thread → Bool
waits_for m cpu t = sends_to m cpu t.send || orders_to m cpu t.order

-- Where the script of a thread goes on: behind its order, while that is undone.
abbrev pub goes_on_at : Thread → ℕ
goes_on_at t = if is_some t.order then t.context.place + 1 else t.context.place

-- Its script may yet send or give an order to a thread of that processor.
abbrev pub may_aim : Machine → Aims → (cpu place : ℕ) → Thread → Bool
may_aim m aims cpu i t =
    aims i (goes_on_at t) (At cpu) || (aims i (goes_on_at t) AtLast && names m cpu t.context.from)

-- Some script has an instruction.
abbrev pub has_instruction : Machine → (Instr → Bool) → Bool
has_instruction m asks = list_any (λ d. list_any asks d.script) m.threads

-- Some script deletes the thread.
abbrev pub is_deletable : Machine → GlobalId → Bool
is_deletable m id = has_instruction m (instruction_deletes id)

-- Some message may be propagated: it then shows another thread than its sender.
abbrev pub may_propagate : Machine → Bool
may_propagate m = has_instruction m may_ask

-- All processors below this number were told that the thread at a place is deleted.
abbrev pub told_at : Local → (place : ℕ) → ℕ
told_at l i = slice_index_or l.told i 0

-- Some script deletes it, and that processor was not told so.
abbrev pub may_tell : Machine → (to : ℕ) → Local → (place : ℕ) → Bool
may_tell m to l i = is_deletable m (declared m i).id && not (nat_lt to (told_at l i))

-- By its thread at a place a processor may post to that one: its undecided send goes there, and may
-- be withdrawn; it lives, and its script is aimed there; or it may tell of its deletion.
abbrev pub may_post_by : Machine → Aims → (to : ℕ) → Local → (place : ℕ) → Bool
may_post_by m aims to l i =
    sends_to m to (thread l i).send ||
    ((is_alive (thread l i).phase && may_aim m aims to i (thread l i)) || may_tell m to l i)

-- While processor `to` does nothing, `from` may post it a letter: some message may be propagated; a
-- thread of `to` waits for `from`, which may tell that its send is decided or its order done; or a
-- thread of `from` may bring it to.
abbrev pub may_post : Machine → Aims → (from to : ℕ) → (at_from at_to : Local) → Bool
may_post m aims from to at_from at_to =
    may_propagate m || (list_any (λ j. waits_for m from (thread at_to j)) (own_places m to)
    || list_any (may_post_by m aims to at_from) (own_places m from))

-- Nobody outside of the set may post to a processor of it on an empty way.
abbrev pub IsClosed : Machine → Aims → System → (set : ℕ → Bool) → Type 0
IsClosed m aims g set =
    (from to : ℕ) (l k : Local) → set from ≡ false → set to ≡ true →
    slice_get g.locals from ≡ Some l → slice_get g.locals to ≡ Some k →
    letters g.mail from to ≡ [] → may_post m aims from to l k ≡ false
