-- One event of a processor at work.
use Rattle.std.specs.Prelude.{◌≡◌, ℕ, ◌++◌, false, IsSome, Option, Some, None, List}
use Rattle.l4_core_model.specs.Letters as letters
use Rattle.l4_core_model.specs.Mail.{handle}
use Rattle.l4_core_model.specs.Turns.{turn, can_stamp}
use Rattle.l4_merge.specs.Transitions.{LocalEvent, Handled, Turned, letters_with, work_of}
use Rattle.l4_core_model.specs.Letters.{Letter}
use Rattle.l4_core.specs.Processor.{Processor}
use Rattle.l4_mail.specs.Ports.{posted_to, taken_from, kept_from, place}
use Rattle.l4_mail.specs.declared.ports.Port.{Port}
use Rattle.l4_proc.specs.declared.stops.Stop.{Stop}
use Rattle.l4_proc.specs.declared.stops.Stop.TheVariants as stop

-- What comes next: the letter in hand is handled, else it is the core's turn.
abbrev pub event_in_hand : Option (ℕ × Letter) → LocalEvent
event_in_hand None = Turned
event_in_hand (Some p) = Handled p.0 p.1

-- The stamp of the letter in hand, 0 if there is none.
abbrev pub stamp_in_hand : Option (ℕ × Letter) → ℕ
stamp_in_hand None = 0
stamp_in_hand (Some p) = p.1.stamp

-- There is no turn, and no letter in hand.
pub record HasNone (p : Processor) (hand : Option (ℕ × Letter)) : Type 0 where
  pub empty : hand ≡ None
  pub none : turn p.machine p.cpu p.local ≡ None

-- The letter in hand is not lawful here.
pub record HasUnlawful (p : Processor) (hand : Option (ℕ × Letter)) : Type 0 where
  pub letter : ℕ × Letter
  pub here : hand ≡ Some letter
  pub unlawful : handle p.machine p.cpu p.local letter.1 ≡ None

-- The letter in hand is lawful here, or there is none and the core has a turn. But the next stamp
-- is not below its limit.
pub record HasNoStamp (p : Processor) (hand : Option (ℕ × Letter)) : Type 0 where
  pub due : IsSome (work_of p.machine p.cpu p.local (event_in_hand hand))
  pub full : can_stamp p.local (stamp_in_hand hand) ≡ false

-- Why a processor does not go on by itself.
abbrev pub IsRefused : Processor → (hand : Option (ℕ × Letter)) → Stop → Type 0
IsRefused p hand stop.Idle = HasNone p hand
IsRefused p hand stop.Mail = HasUnlawful p hand
IsRefused p hand stop.Stamp = HasNoStamp p hand
IsRefused p hand stop.Used = ⊥
IsRefused p hand stop.NoMemory = ⊥

-- Letters were posted, each to its processor.
pub record HasPostedAll (old new : Port) (ls : List (ℕ × letters.Letter)) : Type 0 where
  pub place : place new ≡ place old
  pub posted : (to : ℕ) → posted_to new to ≡ posted_to old to ++
      letters_with to ls
  pub taken : (from : ℕ) → taken_from new from ≡ taken_from old from
  pub kept : (from : ℕ) → kept_from new from ≡ kept_from old from
