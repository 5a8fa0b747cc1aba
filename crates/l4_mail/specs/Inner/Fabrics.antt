-- A fabric, and one that is being made.
use Rattle.std.specs.Prelude.{◌≡◌, ◌≢◌, ◌<◌, ◌≤◌, ◌+◌, ℕ, List, [], ◌∷◌, ◌++◌, length, map, slice_get, slice_index_or, Option, Some, None}
use Rattle.l4_mail.specs.declared.ports.Port.{Port}
use Rattle.l4_mail.specs.Ends.{RingId, ring_out, posted, ring_in, taken, kept}
use Rattle.l4_mail.specs.Ports.{place, posted_to, taken_from, kept_from, fabric_size, HasWayTo, IsApart, IsWay, AreOneFabric}

-- A ring between two processors has room for at most so many letters (own).
abbrev pub most_room : ℕ
most_room = 65536

-- Each ring of a row has room for so many letters.
abbrev pub HaveRooms : (room : ℕ) → List (Option RingId) → Type 0
HaveRooms room rings = (k : ℕ) (ring : RingId) → slice_index_or rings k None ≡ Some ring →
    ring.capacity ≡ room

-- The ports of all processors of a new fabric, in the order of their numbers, of which none has
-- carried a letter. Each of its rings has room for so many.
pub record AreFresh (room n : ℕ) (ports : List Port) : Type 0 where
  pub count : length ports ≡ n
  pub one : AreOneFabric ports
  pub cpu : (i : ℕ) (p : Port) → slice_get ports i ≡ Some p → p.cpu ≡ i
  pub size : (i : ℕ) (p : Port) → slice_get ports i ≡ Some p → fabric_size p ≡ n
  pub ways : (i : ℕ) (p : Port) → slice_get ports i ≡ Some p → (to : ℕ) → to < n → to ≢ i →
      HasWayTo p to
  pub apart : (i : ℕ) (p : Port) → slice_get ports i ≡ Some p → IsApart (place p)
  pub rooms : (i : ℕ) (p : Port) → slice_get ports i ≡ Some p → HaveRooms room (place p).outs
  pub posted : (i : ℕ) (p : Port) → slice_get ports i ≡ Some p → (to : ℕ) → posted_to p to ≡ []
  pub taken : (i : ℕ) (p : Port) → slice_get ports i ≡ Some p → (from : ℕ) → taken_from p from ≡ []
  pub kept : (i : ℕ) (p : Port) → slice_get ports i ≡ Some p → (from : ℕ) → kept_from p from ≡ []

-- The port has got one outlet more, by which nothing was posted.
pub record GainsOutlet (old new : Port) (ring : Option RingId) : Type 0 where
  pub cpu : new.cpu ≡ old.cpu
  pub rings : map ring_out new.outlets.items ≡ map ring_out old.outlets.items ++ ring ∷ []
  pub posted : map posted new.outlets.items ≡ map posted old.outlets.items ++ [] ∷ []
  pub inlets : new.inlets ≡ old.inlets

-- The port has got one inlet more, by which nothing was taken.
pub record GainsInlet (old new : Port) (ring : Option RingId) : Type 0 where
  pub cpu : new.cpu ≡ old.cpu
  pub rings : map ring_in new.inlets.items ≡ map ring_in old.inlets.items ++ ring ∷ []
  pub taken : map taken new.inlets.items ≡ map taken old.inlets.items ++ [] ∷ []
  pub kept : map kept new.inlets.items ≡ map kept old.inlets.items ++ [] ∷ []
  pub outlets : new.outlets ≡ old.outlets

-- The port of processor `i` that has so many ends of each kind, and has carried no letter.
pub record IsMember (room n i : ℕ) (p : Port) : Type 0 where
  pub cpu : p.cpu ≡ i
  pub outlets : length p.outlets.items ≡ n
  pub inlets : length p.inlets.items ≡ n
  pub rooms : HaveRooms room (map ring_out p.outlets.items)
  pub out : slice_index_or (map ring_out p.outlets.items) i None ≡ None
  pub in_ : slice_index_or (map ring_in p.inlets.items) i None ≡ None
  pub posted : (to : ℕ) → posted_to p to ≡ []
  pub taken : (from : ℕ) → taken_from p from ≡ []
  pub kept : (from : ℕ) → kept_from p from ≡ []

abbrev pub AreWays : List Port → Type 0
AreWays ports = (i j : ℕ) (p q : Port) → slice_get ports i ≡ Some p → slice_get ports j ≡ Some q →
    i ≢ j → IsWay (place p) (place q)

-- The ports of the first processors.
pub record AreMembers (room n : ℕ) (ports : List Port) : Type 0 where
  pub count : length ports ≡ n
  pub each : (i : ℕ) (p : Port) → slice_get ports i ≡ Some p → IsMember room n i p
  pub ways : AreWays ports

-- The same, while the next port gets its ways to them and back.
pub record AreJoined (room n k : ℕ) (ports : List Port) (q : Port) : Type 0 where
  pub count : length ports ≡ n
  pub next : IsMember room k n q
  pub joined : (i : ℕ) (p : Port) → slice_get ports i ≡ Some p → i < k →
      IsMember room (n + 1) i p × IsWay (place p) (place q) × IsWay (place q) (place p)
  pub later : (i : ℕ) (p : Port) → slice_get ports i ≡ Some p → k ≤ i → IsMember room n i p
  pub ways : AreWays ports
