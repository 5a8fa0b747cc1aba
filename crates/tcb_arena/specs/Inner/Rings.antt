-- What a contract sees of a `Rings`: for each head the plain list of the names that stand there.
use Rattle.std.specs.Prelude.{◌≡◌, ℕ, ◌-◌, ◌<◌, ◌≤◌, ◌==◌, Bool, true, not, List, [], ◌∷◌, ◌++◌, length, if◌then◌else◌, slice_index, slice_index_or, slice_set, slice_get, Some, drop, replicate, map, filter, refl, zero, suc}
use Rattle.std.specs.List.{list_any, range_with_len, IsDistinct}
use Rattle.l4_model.specs.World.{is_in}
use Rattle.std.specs.Coded.{Coded, code_by, coded×, coded_ℕ, coded_list}

-- How many names there are, and the names of each head, in order.
pub record Lists : Type 0 where
  pub names : ℕ
  pub lists : List (List ℕ)

abbrev pub lists_code : Coded Lists
lists_code =
    code_by (ℕ × List (List ℕ)) (coded× coded_ℕ (coded_list (coded_list coded_ℕ))) (λ s.
    (s.names, s.lists)) (λ p. record { names = p.0; lists = p.1 }) (λ _. refl)

-- How many heads there are.
abbrev pub head_count : Lists → ℕ
head_count s = length s.lists

-- The names of a head.
abbrev pub list_at : Lists → ℕ → List ℕ
list_at s head = slice_index_or s.lists head []

-- Whether a name stands in one of several lists.
abbrev pub is_in_any : ℕ → List (List ℕ) → Bool
is_in_any name = list_any (is_in name)

abbrev pub is_linked : Lists → ℕ → Bool
is_linked s name = is_in_any name s.lists

-- A list with this name removed.
abbrev pub without : ℕ → List ℕ → List ℕ
without name = filter (λ y. not (name == y))

-- A list with a name put before another one, if that stands there.
abbrev pub with_before : (other name : ℕ) → List ℕ → List ℕ
with_before other name [] = []
with_before other name (x ∷ xs) =
    if other == x then name ∷ x ∷ xs else x ∷ with_before other name xs

-- The lists after a name was put at the end of one or before another name, and after it was taken
-- out.
abbrev pub put_last : Lists → ℕ → ℕ → Lists
put_last s head name = record s { lists = slice_set s.lists head (list_at s head ++ name ∷ []) }

abbrev pub put_before : Lists → (other name : ℕ) → Lists
put_before s other name = record s { lists = map (with_before other name) s.lists }

abbrev pub taken_out : Lists → ℕ → Lists
taken_out s name = record s { lists = map (without name) s.lists }

abbrev pub without_first : Lists → ℕ → Lists
without_first s head = record s { lists = slice_set s.lists head (drop 1 (list_at s head)) }

-- Each list has names below the count alone, and no name stands in two places.
pub record AreSound (s : Lists) : Type 0 where
  pub below : (head k x : ℕ) → slice_get (list_at s head) k ≡ Some x → x < s.names
  pub apart : (head other k j x : ℕ) → slice_get (list_at s head) k ≡ Some x →
      slice_get (list_at s other) j ≡ Some x → (head ≡ other) × (k ≡ j)
  pub short : (head : ℕ) → length (list_at s head) ≤ s.names

-- Empty lists.
abbrev pub no_names : ℕ → ℕ → Lists
no_names names heads = record { names = names; lists = replicate heads [] }

-- The links

-- The names from a place on to the node of a head, up to a limit.
unfoldable pub walk : ℕ → List ℕ → ℕ → ℕ → List ℕ
walk zero next head at = []
walk (suc fuel) next head at =
    if at == head then [] else at ∷ walk fuel next head (slice_index next at)

-- The names in the ring of a head's node.
unfoldable pub ring : ℕ → List ℕ → ℕ → List ℕ
ring names next head = walk names next head (slice_index next head)

-- The rings of all heads, whose nodes come behind those of the names.
unfoldable pub rings : ℕ → List ℕ → List (List ℕ)
rings names next = map (ring names next) (range_with_len names (length next - names))

-- From this place the links lead through these names, and then to the head's node.
abbrev pub Leads : ℕ → List ℕ → ℕ → ℕ → List ℕ → Type 0
Leads names next head at [] = at ≡ head
Leads names next head at (x ∷ xs) = (at ≡ x) × (x < names) ×
    Leads names next head (slice_index next x) xs

-- Each of the two lists of links is the other's inverse.
pub record AreInverse (next prev : List ℕ) : Type 0 where
  pub lengths : length prev ≡ length next
  pub next_in : (i : ℕ) → i < length next → slice_index next i < length next
  pub prev_in : (i : ℕ) → i < length next → slice_index prev i < length next
  pub prev_next : (i : ℕ) → i < length next → slice_index prev (slice_index next i) ≡ i
  pub next_prev : (i : ℕ) → i < length next → slice_index next (slice_index prev i) ≡ i

-- The links of each head are one ring of names, each once, and a name in no ring is linked to
-- itself.
pub record AreRings (names : ℕ) (next prev : List ℕ) : Type 0 where
  pub room : names ≤ length next
  pub inverse : AreInverse next prev
  pub leads : (head : ℕ) → names ≤ head → head < length next →
      Leads names next head (slice_index next head) (ring names next head)
  pub distinct : (head : ℕ) → names ≤ head → head < length next →
      IsDistinct (λ x y. x == y) (ring names next head)
  pub found : (x : ℕ) → x < names → (slice_index next x ≡ x → ⊥) →
      is_in_any x (rings names next) ≡ true
