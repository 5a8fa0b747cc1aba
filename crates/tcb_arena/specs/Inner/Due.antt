-- What a contract sees of a `Wheel`: the rings of the armed blocks, and the plain list that these
-- rings make. And the invariant of its fields.
use Rattle.std.specs.Prelude.{◌≡◌, ℕ, ◌+◌, ◌<◌, ◌≤◌, ◌%◌, ◌==◌, nat_le, Bool, not, List, [], ◌∷◌, ◌++◌, length, slice_index, slice_index_or, slice_set, slice_get, Some, None, Option, is_some, map, drop, replicate, if◌then◌else◌, refl}
use Rattle.std.specs.Option.{option_map}
use Rattle.std.specs.List.{list_all}
use Rattle.std.specs.Coded.{Coded, code_by, coded×, coded_ℕ, coded_list}
use Rattle.l4_core_model.specs.Plain.{Plain, put_entry, without_block, due_block}
use Rattle.tcb_arena.specs.Inner.Rings.{Lists, list_at}

-- How many rings there are.
abbrev pub ring_count : ℕ
ring_count = 64

-- How many blocks there are, and the armed blocks of each ring with their deadlines, in order of
-- arming.
pub record Due : Type 0 where
  pub blocks : ℕ
  pub rings : List (List (ℕ × ℕ))

abbrev pub due_code : Coded Due
due_code =
    code_by (ℕ × List (List (ℕ × ℕ))) (coded× coded_ℕ
    (coded_list (coded_list (coded× coded_ℕ coded_ℕ)))) (λ s. (s.blocks, s.rings)) (λ p.
    record { blocks = p.0; rings = p.1 }) (λ _. refl)

abbrev pub none_armed : (blocks : ℕ) → Due
none_armed blocks = record { blocks = blocks; rings = replicate ring_count [] }

abbrev pub ring_at : List (List (ℕ × ℕ)) → ℕ → List (ℕ × ℕ)
ring_at rings ring = slice_index_or rings ring []

-- The rings after one more block was armed, at the end of the ring of its deadline's remainder. And
-- the rings after a block was taken out.
abbrev pub with_entry : (deadline block : ℕ) → Due → Due
with_entry deadline block s =
    let ring = deadline % ring_count in record s {
      rings =
          slice_set s.rings ring (ring_at s.rings ring ++ (deadline, block) ∷ []);
    }

abbrev pub without_entry : ℕ → Due → Due
without_entry block s = record s { rings = map (without_block block) s.rings }

-- The rings without the block that was found, if any.
abbrev pub without_found : Option ℕ → Due → Due
without_found None s = s
without_found (Some block) s = without_entry block s

-- The first block of a ring.
abbrev pub first_of_ring : List (List (ℕ × ℕ)) → (ring : ℕ) → Option ℕ
first_of_ring rings ring = option_map (λ e. e.1) (slice_get (ring_at rings ring) 0)

-- The plain list

-- Arms these entries in order, beside those armed before.
abbrev pub put_all : List (ℕ × ℕ) → List (ℕ × ℕ) → List (ℕ × ℕ)
put_all acc [] = acc
put_all acc (e ∷ es) = put_all (put_entry e acc) es

abbrev pub put_rings : List (ℕ × ℕ) → List (List (ℕ × ℕ)) → List (ℕ × ℕ)
put_rings acc [] = acc
put_rings acc (l ∷ ls) = put_rings (put_all acc l) ls

-- The armed blocks by rising deadline. Blocks of equal deadlines stand in one ring, so their order
-- of arming is kept.
abbrev pub armed_of : Due → List (ℕ × ℕ)
armed_of s = put_rings [] s.rings

-- The plain list without its first entry, if the deadline of that entry is not after `now`.
abbrev pub without_first_due : (now : ℕ) → List (ℕ × ℕ) → List (ℕ × ℕ)
without_first_due now es = if is_some (due_block now es) then drop 1 es else es

-- Each entry stands in the ring of its deadline's remainder, and these rings make that plain list.
pub record AreRings (rings : List (List (ℕ × ℕ))) (armed : List (ℕ × ℕ)) : Type 0 where
  pub count : length rings ≡ ring_count
  pub placed : (ring k : ℕ) (e : ℕ × ℕ) → slice_get (ring_at rings ring) k ≡ Some e →
      e.0 % ring_count ≡ ring
  pub plain : put_rings [] rings ≡ armed

-- An arena with these plain lists has its armed blocks in such rings, and `first` is the first
-- block of ring `ring`.
pub record IsFirstOfRing (s : Plain) (ring : ℕ) (first : Option ℕ) : Type 0 where
  pub rings : List (List (ℕ × ℕ))
  pub are : AreRings rings s.armed
  pub is : first ≡ first_of_ring rings ring

-- How often a block is armed.
abbrev pub times_armed : ℕ → List (ℕ × ℕ) → ℕ
times_armed block [] = 0
times_armed block (e ∷ es) = (if block == e.1 then 1 else 0) + times_armed block es

-- Each block is armed at most once.
pub record AreOnce (s : Due) : Type 0 where
  pub once : (block : ℕ) → times_armed block (armed_of s) ≤ 1

-- No deadline is before this one.
abbrev pub are_from : (deadline : ℕ) → List (ℕ × ℕ) → Bool
are_from deadline es = list_all (λ e. nat_le deadline e.0) es

-- The names in the rings, with their deadlines

-- A block with its deadline.
abbrev pub entry : List ℕ → ℕ → ℕ × ℕ
entry deadlines block = (slice_index deadlines block, block)

abbrev pub entries_in : List ℕ → List (List ℕ) → List (List (ℕ × ℕ))
entries_in deadlines lists = map (map (entry deadlines)) lists

abbrev pub armed_in : List ℕ → List (List ℕ) → List (ℕ × ℕ)
armed_in deadlines lists = put_rings [] (entries_in deadlines lists)

abbrev pub shown_due : List ℕ → Lists → Due
shown_due deadlines s = record { blocks = length deadlines; rings = entries_in deadlines s.lists }

-- Each block is one of those that have a deadline, and stands in the ring of its deadline's
-- remainder.
pub record ArePlaced (heads : ℕ) (deadlines : List ℕ) (s : Lists) : Type 0 where
  pub names : s.names ≡ length deadlines
  pub heads_len : length s.lists ≡ heads
  pub within : (head k x : ℕ) → slice_get (list_at s head) k ≡ Some x → x < length deadlines
  pub placed : (head k x : ℕ) → slice_get (list_at s head) k ≡ Some x →
      slice_index deadlines x % heads ≡ head

-- The deadlines of these names rise.
pub record AreRising (deadlines names : List ℕ) : Type 0 where
  pub rising : (k j x y : ℕ) → k ≤ j → slice_get names k ≡ Some x →
      slice_get names j ≡ Some y → slice_index deadlines x ≤ slice_index deadlines y

-- One list has the armed blocks in the order of the plain list that the rings make.
pub record AreOrdered (deadlines : List ℕ) (rings order : Lists) : Type 0 where
  pub names : order.names ≡ length deadlines
  pub one : length order.lists ≡ 1
  pub entries : map (entry deadlines) (list_at order 0) ≡ armed_in deadlines rings.lists

-- No deadline is before this one.
pub record IsFloor (floor : ℕ) (deadlines : List ℕ) (lists : List (List ℕ)) : Type 0 where
  pub below : (ring k block : ℕ) → slice_get (slice_index_or lists ring []) k ≡ Some block →
      floor ≤ slice_index deadlines block

-- The invariant of a wheel's fields.
pub record IsWheel (deadlines : List ℕ) (rings order : Lists) (latest : List ℕ) (floor : ℕ) :
    Type 0 where
  pub placed : ArePlaced ring_count deadlines rings
  pub ordered : AreOrdered deadlines rings order
  pub spans : length latest ≡ length deadlines
  pub whole_floor : IsFloor floor deadlines rings.lists

-- Whether a block is armed for a later deadline than this one.
abbrev pub is_later : List ℕ → (deadline block : ℕ) → Bool
is_later deadlines deadline block = not (nat_le (slice_index deadlines block) deadline)
