-- What the two ends of a way have carried: the outlet of the poster, and the inlet of the receiver.
use Rattle.std.specs.Prelude.{◌≡◌, ℕ, ◌-◌, ◌≤◌, List, [], ◌++◌, map, Bool, not, Option, Some, None, slice_index_or}
use Rattle.std.specs.VecDeque.{deque_len, deque_capacity}
use Rattle.std.specs.declared.alloc.Global.{Global}
use denote.RawPtr.{Ptr}
use Rattle.rtrb.specs.Shared.{Names}
use Rattle.rtrb.specs.Ring.{sent, known_free, producer_capacity, known_items, consumer_capacity}
use Rattle.l4_core_model.specs.Runs.{is_empty}
use Rattle.l4_core_model.specs.Letters.{Letter}
use Rattle.l4_mail.specs.declared.outlets.Outlet.{Outlet}
use Rattle.l4_mail.specs.declared.inlets.Inlet.{Inlet}
use Rattle.l4_mail.specs.Ways.{given}

-- Which ring an end is of, and for how many letters it has room.
pub record RingId : Type 0 where
  pub words : Ptr
  pub slots : Ptr
  pub names : Names
  pub heap : Global
  pub capacity : ℕ

abbrev pub outlet_ring : Outlet → RingId
outlet_ring o = record {
  words = o.ring.end.words;
  slots = o.ring.end.slots;
  names = o.ring.end.names;
  heap = o.ring.end.heap;
  capacity = producer_capacity o.ring;
}

abbrev pub inlet_ring : Inlet → RingId
inlet_ring i = record {
  words = i.ring.end.words;
  slots = i.ring.end.slots;
  names = i.ring.end.names;
  heap = i.ring.end.heap;
  capacity = consumer_capacity i.ring;
}

-- Every letter that was posted here, in order: those that went into the ring, and those that wait
-- for a place there.
abbrev pub outlet_posted : Outlet → List Letter
outlet_posted o = sent o.ring ++ o.outbox.items

-- The letters that wait for a place in the ring.
abbrev pub outlet_waiting : Outlet → List Letter
outlet_waiting o = o.outbox.items

-- How many places of the ring were free when the outlet last looked, less those filled since.
abbrev pub outlet_free : Outlet → ℕ
outlet_free o = known_free o.ring

-- How many letters more the outbox has room for.
abbrev pub outlet_room : Outlet → ℕ
outlet_room o = deque_capacity o.outbox - deque_len o.outbox

-- Every letter that was taken here, in order.
abbrev pub inlet_taken : Inlet → List Letter
inlet_taken i = given i.ring i.kept.items

-- The letters that a rest popped and that are kept for the next takes.
abbrev pub inlet_kept : Inlet → List Letter
inlet_kept i = i.kept.items

-- The letters that are here as far as the inlet has looked: those kept, then those that it has seen
-- in the ring.
abbrev pub inlet_here : Inlet → List Letter
inlet_here i = i.kept.items ++ known_items i.ring

-- As above, for a slot that may hold no end.
abbrev pub ring_out : Option Outlet → Option RingId
ring_out None = None
ring_out (Some o) = Some (outlet_ring o)

abbrev pub posted : Option Outlet → List Letter
posted None = []
posted (Some o) = outlet_posted o

abbrev pub room : Option Outlet → ℕ
room None = 0
room (Some o) = outlet_room o

abbrev pub ring_in : Option Inlet → Option RingId
ring_in None = None
ring_in (Some i) = Some (inlet_ring i)

abbrev pub taken : Option Inlet → List Letter
taken None = []
taken (Some i) = inlet_taken i

abbrev pub kept : Option Inlet → List Letter
kept None = []
kept (Some i) = inlet_kept i

abbrev pub waiting : Option Outlet → List Letter
waiting None = []
waiting (Some o) = outlet_waiting o

abbrev pub free : Option Outlet → ℕ
free None = 0
free (Some o) = outlet_free o

abbrev pub here : Option Inlet → List Letter
here None = []
here (Some i) = inlet_here i

-- Whether a letter is kept here.
abbrev pub keeps : Option Inlet → Bool
keeps end = not (is_empty (kept end))

-- Whether a letter waits here for a place in the ring.
abbrev pub waits : Option Outlet → Bool
waits end = not (is_empty (waiting end))

-- Each outbox is empty, and has room for two letters where a ring begins.
pub record AreReady (outlets : List (Option Outlet)) : Type 0 where
  pub reserved : (to : ℕ) → (ring : RingId) ×
      (slice_index_or (map ring_out outlets) to None ≡ Some ring) →
      2 ≤ slice_index_or (map room outlets) to 0
  pub empty : (to : ℕ) → slice_index_or (map waiting outlets) to [] ≡ []

-- There is no ring to or from any processor.
pub record HasNoWay (outs ins : List (Option RingId)) : Type 0 where
  pub out : (to : ℕ) → slice_index_or outs to None ≡ None
  pub in_ : (from : ℕ) → slice_index_or ins from None ≡ None
