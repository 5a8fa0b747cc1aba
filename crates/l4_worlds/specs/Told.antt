-- The history of steps that are possible late: before a timeout that is not due yet the clock of
-- its thread's processor goes on until it is.
use Rattle.std.specs.Prelude.{ℕ, ◌+◌, ◌*◌, ◌≤◌, ◌≡◌, nat_lt, if◌then◌else◌, Option, Some, None, List, [], ◌∷◌, ◌++◌, length}
use Rattle.std.specs.List.{AllByRecursion}
use Rattle.l4_model.specs.Words.{Period, period_limit}
use Rattle.l4_model.specs.Machine.{Machine}
use Rattle.l4_model.specs.World.{World, Phase, Receiving, opening}
use Rattle.l4_model.specs.Conditions.{Found, found, Pending, undecided}
use Rattle.l4_model.specs.Steps.{Step, SendTimeout, ReceiveTimeout, Tick}
use Rattle.l4_model.specs.History.{run, reached}
use Rattle.l4_worlds.specs.Timeless.{timeless}
use Rattle.l4_worlds.specs.Late.{no_ticks}

-- The tick by which a period of a thread is over, where it is not yet.
abbrev pub until_over : Found → Period → (since : ℕ) → List Step
until_over t None since = []
until_over t (Some n) since =
    if nat_lt t.clock (since + n) then Tick t.declared.cpu (since + n) ∷ [] else []

abbrev pub until_send_over : Option Pending → List Step
until_send_over None = []
until_send_over (Some p) = until_over p.sender p.send.period p.send.since

abbrev pub until_phase_over : Found → Phase → List Step
until_phase_over t (Receiving receive since) = until_over t receive.period since
until_phase_over t _ = []

abbrev pub until_receive_over : Option Found → List Step
until_receive_over None = []
until_receive_over (Some t) = until_phase_over t t.now.phase

abbrev pub until_due : Machine → World → Step → List Step
until_due m w (SendTimeout s) = until_send_over (undecided m w s)
until_due m w (ReceiveTimeout id) = until_receive_over (found m w id)
until_due m w _ = []

-- A step with what comes before it.
abbrev pub when_due : Machine → World → Step → List Step
when_due m w step = until_due m w step ++ step ∷ []

abbrev pub told_behind : Option World → (World → List Step) → List Step
told_behind None rest = []
told_behind (Some v) rest = rest v

abbrev pub told : Machine → World → List Step → List Step
told m w [] = []
told m w (step ∷ steps) = when_due m w step ++ told_behind (run m w (when_due m w step)) (λ v. told m v steps)

-- It is a history of these steps, but for ticks, that reaches a world alike to this one. No clock of
-- its world is later than one longest period for each of them.
pub record IsTold (m : Machine) (steps : List Step) (u : World) : Type 0 where
  pub w : World
  pub steps_are : no_ticks (told m (opening m) steps) ≡ steps
  pub reaches : reached m (told m (opening m) steps) ≡ Some w
  pub is_alike : timeless w ≡ u
  pub no_later : AllByRecursion (λ clock. clock ≤ length steps * period_limit) w.clocks
