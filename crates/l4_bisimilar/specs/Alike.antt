-- States of a core run that differ in stamps, and in the order of letters of different pairs.
use Rattle.std.specs.Prelude.{ℕ, ◌≡◌, Option, None, Some, List, map}
use Rattle.l4_core_model.specs.Letters.{Letter, Content}
use Rattle.l4_core_model.specs.Local.{Local}
use Rattle.l4_core_model.specs.Runs.{System, letters, Happened}

abbrev pub unstamped : Local → Local
unstamped l = record l { stamp = 0 }

abbrev pub contents : List Letter → List Content
contents = map (λ letter. letter.content)

-- The processors know the same, and of each pair the same letters are under way.
pub record IsAlike (g h : System) : Type 0 where
  pub locals : map unstamped g.locals ≡ map unstamped h.locals
  pub mail : (from to : ℕ) → contents (letters g.mail from to) ≡ contents (letters h.mail from to)

-- What happens is told by the same steps of the same processor, and leads to alike states.
pub record HappenAlike (a b : Happened) : Type 0 where
  pub cpu : a.event.cpu ≡ b.event.cpu
  pub steps : a.event.steps ≡ b.event.steps
  pub system : IsAlike a.system b.system

-- Either both can happen, alike, or neither can.
abbrev pub AreAlike : Option Happened → Option Happened → Type 0
AreAlike None None = Unit {0}
AreAlike (Some a) (Some b) = HappenAlike a b
AreAlike None (Some b) = ⊥
AreAlike (Some a) None = ⊥
