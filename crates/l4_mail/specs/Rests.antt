-- What a rest tells of ports in any order.
use Rattle.std.specs.Prelude.{ℕ, zero, suc, Bool, true, false, ◌&&◌, ◌||◌, nat_eq, nat_lt, if◌then◌else◌, List, [], ◌∷◌, ◌++◌, length, map}
use Rattle.l4_core_model.specs.Letters.{Letter}
use Rattle.l4_mail.specs.declared.ports.Port.{Port}
use Rattle.l4_mail.specs.Ports.{kept_from, fabric_size, carried, IsWholeAt}

abbrev pub has_number : (cpu : ℕ) → List Port → Bool
has_number cpu [] = false
has_number cpu (p ∷ ports) = nat_eq p.cpu cpu || has_number cpu ports

abbrev pub have_numbers : (below : ℕ) → List Port → Bool
have_numbers zero ports = true
have_numbers (suc n) ports = have_numbers n ports && has_number n ports

abbrev pub have_size : ℕ → List Port → Bool
have_size n [] = true
have_size n (p ∷ ports) = nat_eq (fabric_size p) n && have_size n ports

-- The ports are those of all processors of their fabric, each once: as many as it has processors,
-- and each number is among them.
abbrev pub are_all : List Port → Bool
are_all ports = nat_lt 0 (length ports) && (have_size (length ports) ports &&
    have_numbers (length ports) ports)

-- Whole pairs stay whole, and this pair becomes whole. Ports are named by their places in the list.
pub record IsRested (old new : List Port) (from to : ℕ) : Type 0 where
  pub whole : IsWholeAt (map carried new) from to
  pub stays : (i j : ℕ) → IsWholeAt (map carried old) i j → IsWholeAt (map carried new) i j

-- Whole pairs stay whole, and each pair to this port becomes whole.
pub record IsRestedTo (old new : List Port) (to : ℕ) : Type 0 where
  pub whole : (from : ℕ) → IsWholeAt (map carried new) from to
  pub stays : (i j : ℕ) → IsWholeAt (map carried old) i j → IsWholeAt (map carried new) i j

-- The letters of one processor that the port of another keeps.
abbrev pub kept_between : (from to : ℕ) → List Port → List Letter
kept_between from to [] = []
kept_between from to (p ∷ ports) = if nat_eq p.cpu to then kept_from p from
    else kept_between from to ports

-- What is under way from one processor to those below a number, itself left out, rising.
abbrev pub under_way_from : List Port → (from below : ℕ) → List (ℕ × ℕ × List Letter)
under_way_from ports from zero = []
under_way_from ports from (suc to) = under_way_from ports from to ++
    (if nat_eq from to then [] else (from, to, kept_between from to ports) ∷ [])

-- The same from all processors below a number.
abbrev pub under_way_below : List Port → (below : ℕ) → List (ℕ × ℕ × List Letter)
under_way_below ports zero = []
under_way_below ports (suc from) = under_way_below ports from ++
    under_way_from ports from (length ports)

-- For each pair of different processors, rising by the poster and then by the receiver: these two,
-- and what the receiver's port keeps of it.
abbrev pub under_way : List Port → List (ℕ × ℕ × List Letter)
under_way ports = under_way_below ports (length ports)
