-- Two counters that go up to 2, each by itself.
use Rattle.std.specs.Prelude.{ℕ, zero, suc, ◌+◌, ◌≡◌, ◌==◌, ◌&&◌, nat_lt, if◌then◌else◌, Option, None, Some, List, [], ◌∷◌, length}
use Rattle.l4_explore.specs.Tries.{State}

abbrev pub at : (left right : ℕ) → State
at left right = record { code = left ∷ right ∷ []; is_end = (left == 2) && (right == 2) }

-- By entry 0 the left one goes up, by entry 1 the right one.
abbrev pub after : (left right : ℕ) → List ℕ → Option State
after left right [] = Some (at left right)
after left right (zero ∷ s) = if nat_lt left 2 then after (left + 1) right s else None
after left right (suc zero ∷ s) = if nat_lt right 2 then after left (right + 1) s else None
after left right (suc (suc e) ∷ s) = None

abbrev pub state_after : List ℕ → Option State
state_after s = after 0 0 s

-- So many entries, in whatever order, lead from this state to the end.
pub record EndsIn (state : State) (more : ℕ) (end : State) : Type 0 where
  pub left : ℕ
  pub right : ℕ
  pub here : state ≡ at left right
  pub schedule : List ℕ
  pub leads : after left right schedule ≡ Some end
  pub rest : end ≡ at 2 2
  pub long : length schedule ≡ more
