-- Which events may change their order, and which may come first: independent events, and persistent
-- sets of processors.
use Rattle.std.specs.Prelude.{ℕ, suc, ◌≡◌, Bool, true, false, Some, List, [], ◌∷◌, length}
use Rattle.l4_model.specs.Machine.{Machine}
use Rattle.l4_core_model.specs.Runs.{System, Action, Handles, Turns, Ticks, Happened, happens, letters}
use Rattle.l4_states.specs.Choices.{IsLeastTick}

abbrev pub cpu_of : Action → ℕ
cpu_of (Handles cpu from) = cpu
cpu_of (Turns cpu) = cpu
cpu_of (Ticks cpu clock) = cpu

-- Where it handles a letter, some letter of that pair is under way.
abbrev pub IsThere : System → Action → Type 0
IsThere g (Handles cpu from) = letters g.mail from cpu ≡ [] → ⊥
IsThere g (Turns cpu) = Unit {0}
IsThere g (Ticks cpu clock) = Unit {0}

-- The same local states, and of each pair the same letters under way.
pub record AreSame (g h : System) : Type 0 where
  pub locals : g.locals ≡ h.locals
  pub mail : (from to : ℕ) → letters g.mail from to ≡ letters h.mail from to

-- They happen in the other order, are told alike, and lead to the same.
pub record AreSwapped (m : Machine) (g : System) (a b : Action) (h k : Happened) : Type 0 where
  pub first : Happened
  pub second : Happened
  pub goes : happens m g b ≡ Some first
  pub goes_on : happens m first.system a ≡ Some second
  pub told_first : first.event ≡ k.event
  pub told_second : second.event ≡ h.event
  pub same : AreSame k.system second.system

-- Runs

-- An event happens. A tick goes to the least deadline of its processor.
pub record Goes (m : Machine) (g : System) (a : Action) (h : Happened) : Type 0 where
  pub happens : happens m g a ≡ Some h
  pub least : IsLeastTick g a

-- These events lead, one after the other, from one state to another.
pub data Leads (m : Machine) : System → List Action → System → Type 0 where
  Done : {g : System} → Leads m g [] g
  Then : {g end : System} {a : Action} {es : List Action} (h : Happened) → Goes m g a h →
      Leads m h.system es end → Leads m g (a ∷ es) end

-- Events of processors outside of a set.
abbrev pub AreOutside : (set : ℕ → Bool) → List Action → Type 0
AreOutside set [] = Unit {0}
AreOutside set (a ∷ es) = (set (cpu_of a) ≡ false) × AreOutside set es

-- While the processors of the set do nothing, no letter comes to them on an empty way. So whatever
-- the others do is independent of what these can do.
abbrev pub IsPersistent : Machine → System → (set : ℕ → Bool) → Type 0
IsPersistent m g set =
    (es : List Action) (h : System) → AreOutside set es → Leads m g es h → (from to : ℕ) →
    set to ≡ true → letters g.mail from to ≡ [] → letters h.mail from to ≡ []

-- No processor of the set can do anything.
abbrev pub AreIdle : Machine → System → (set : ℕ → Bool) → Type 0
AreIdle m h set = (b : Action) (x : Happened) → set (cpu_of b) ≡ true → Goes m h b x → ⊥

-- As many events, of which the first is of the set, lead to the same end.
pub record BeginsInside (m : Machine) (g : System) (set : ℕ → Bool) (es : List Action)
    (end : System) : Type 0 where
  pub first : Action
  pub inside : set (cpu_of first) ≡ true
  pub after : Happened
  pub goes : Goes m g first after
  pub rest : List Action
  pub last : System
  pub leads : Leads m after.system rest last
  pub same : AreSame end last
  pub long : length es ≡ suc (length rest)
