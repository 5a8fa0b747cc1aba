-- What a port has carried, and what each of its calls does to that.
use Rattle.std.specs.Prelude.{◌≡◌, ◌≢◌, ◌⊎◌, ℕ, ◌+◌, ◌≤◌, List, [], ◌∷◌, ◌++◌, length, map, nat_eq, slice_get, slice_index_or, Option, Some, None, if◌then◌else◌}
use Rattle.l4_core_model.specs.Letters.{Letter}
use Rattle.l4_mail.specs.declared.ports.Port.{Port}
use Rattle.l4_mail.specs.Ends.{RingId, ring_out, posted, waiting, free, room, ring_in, taken, kept, here}

-- Every letter that was given to `post` for a processor, in order.
abbrev pub posted_to : Port → (to : ℕ) → List Letter
posted_to p to = slice_index_or (map posted p.outlets.items) to []

-- Every letter of a processor that `take` gave, in order.
abbrev pub taken_from : Port → (from : ℕ) → List Letter
taken_from p from = slice_index_or (map taken p.inlets.items) from []

-- The letters of a processor that are kept here: a rest popped them, and `take` has not given them
-- since.
abbrev pub kept_from : Port → (from : ℕ) → List Letter
kept_from p from = slice_index_or (map kept p.inlets.items) from []

-- The letters of a processor that are here as far as the port has looked: those kept, then those
-- seen in the ring.
abbrev pub here_from : Port → (from : ℕ) → List Letter
here_from p from = slice_index_or (map here p.inlets.items) from []

-- The letters to a processor that wait for a place in the ring.
abbrev pub waiting_to : Port → (to : ℕ) → List Letter
waiting_to p to = slice_index_or (map waiting p.outlets.items) to []

-- How many places of the ring to a processor were free when the port last looked, less those filled
-- since.
abbrev pub free_to : Port → (to : ℕ) → ℕ
free_to p to = slice_index_or (map free p.outlets.items) to 0

-- For how many letters more to a processor room is reserved.
abbrev pub room_to : Port → (to : ℕ) → ℕ
room_to p to = slice_index_or (map room p.outlets.items) to 0

-- How many processors the port's fabric has.
abbrev pub fabric_size : Port → ℕ
fabric_size p = length p.outlets.items

-- Where a port stands in its fabric: its number, and the rings that it posts to and takes from, by
-- the other processor.
pub record Place : Type 0 where
  pub cpu : ℕ
  pub outs : List (Option RingId)
  pub ins : List (Option RingId)

abbrev pub place : Port → Place
place p = record {
  cpu = p.cpu;
  outs = map ring_out p.outlets.items;
  ins = map ring_in p.inlets.items;
}

-- It has no ring to or from itself, and as many inlets as outlets.
pub record IsApart (p : Place) : Type 0 where
  pub out : slice_index_or p.outs p.cpu None ≡ None
  pub in_ : slice_index_or p.ins p.cpu None ≡ None
  pub size : length p.ins ≡ length p.outs

-- There is a way to the processor.
abbrev pub HasWayTo : Port → (to : ℕ) → Type 0
HasWayTo p to = (ring : RingId) × (slice_index_or (place p).outs to None ≡ Some ring)

-- What is posted at the one is taken at the other.
abbrev pub IsWay : (from to : Place) → Type 0
IsWay from to = (ring : RingId) × (slice_index_or from.outs to.cpu None ≡ Some ring) ×
    (slice_index_or to.ins from.cpu None ≡ Some ring)

-- Any two of them are different processors, with a way from the one to the other.
abbrev pub AreLinked : List Place → Type 0
AreLinked places = (i j : ℕ) (from to : Place) → slice_get places i ≡ Some from →
    slice_get places j ≡ Some to
    → i ≢ j → (from.cpu ≢ to.cpu) × IsWay from to

-- Ports of one fabric, in any order.
abbrev pub AreOneFabric : List Port → Type 0
AreOneFabric ports = AreLinked (map place ports)

-- What a port has carried, with where it stands: what no refusal and no rest may change.
pub record Account : Type 0 where
  pub place : Place
  pub posted : (to : ℕ) → List Letter
  pub taken : (from : ℕ) → List Letter

abbrev pub account : Port → Account
account p = record { place = place p; posted = posted_to p; taken = taken_from p }

-- The same with what it keeps.
pub record Carried : Type 0 where
  pub account : Account
  pub kept : (from : ℕ) → List Letter

abbrev pub carried : Port → Carried
carried p = record { account = account p; kept = kept_from p }

-- All that was posted at the one for the other was taken there or is kept there.
abbrev pub IsWhole : (from to : Carried) → Type 0
IsWhole from to = from.account.posted to.account.place.cpu ≡
    to.account.taken from.account.place.cpu ++ to.kept from.account.place.cpu

abbrev pub IsWholeAt : List Carried → (i j : ℕ) → Type 0
IsWholeAt ports i j = i ≢ j → (from to : Carried) → slice_get ports i ≡ Some from →
    slice_get ports j ≡ Some to → IsWhole from to

-- Nothing that was posted is missing, for each pair of different ports.
abbrev pub AreWhole : List Port → Type 0
AreWhole ports = (i j : ℕ) → IsWholeAt (map carried ports) i j

-- Of a letter of the processor `at`: the letter if `at` is `cpu`, else nothing.
abbrev pub only : (cpu at : ℕ) → Letter → List Letter
only cpu at letter = if nat_eq at cpu then letter ∷ [] else []

-- The port has carried what it had carried, and has room for as many letters at least.
pub record IsAsBefore (old new : Port) : Type 0 where
  pub place : place new ≡ place old
  pub posted : (to : ℕ) → posted_to new to ≡ posted_to old to
  pub taken : (from : ℕ) → taken_from new from ≡ taken_from old from
  pub kept : (from : ℕ) → kept_from new from ≡ kept_from old from
  pub room : (to : ℕ) → room_to old to ≤ room_to new to

-- One letter more was posted, in room that was reserved.
pub record HasPosted (old new : Port) (to : ℕ) (letter : Letter) : Type 0 where
  pub place : place new ≡ place old
  pub posted : (k : ℕ) → posted_to new k ≡ posted_to old k ++ only k to letter
  pub taken : (from : ℕ) → taken_from new from ≡ taken_from old from
  pub kept : (from : ℕ) → kept_from new from ≡ kept_from old from
  pub room : (k : ℕ) → k ≢ to → room_to new k ≡ room_to old k
  pub used : room_to new to + 1 ≡ room_to old to

-- Either nothing was kept, or the letter was the first one kept from its poster.
abbrev pub HasLeft : (old new : Port) (from : ℕ) (letter : Letter) → Type 0
HasLeft old new from letter = ((k : ℕ) → kept_from old k ≡ only k from letter ++ kept_from new k) ⊎
    ((k : ℕ) → (kept_from old k ≡ []) × (kept_from new k ≡ []))

-- One letter more was taken.
pub record HasTaken (old new : Port) (from : ℕ) (letter : Letter) : Type 0 where
  pub place : place new ≡ place old
  pub posted : (to : ℕ) → posted_to new to ≡ posted_to old to
  pub taken : (k : ℕ) → taken_from new k ≡ taken_from old k ++ only k from letter
  pub kept : HasLeft old new from letter
  pub room : (to : ℕ) → room_to new to ≡ room_to old to
