-- A processor with the letters that have come to it.
use Rattle.std.specs.Prelude.{◌≡◌, ℕ, false, true, Option, None, Some, is_some, List, [], ◌∷◌, ◌++◌, drop, slice_get, slice_index_or}
use Rattle.std.specs.Option.{option_map}
use Rattle.l4_model.specs.World.{changed}
use Rattle.l4_core_model.specs.Letters.{Letter}
use Rattle.l4_core_model.specs.Mail.{handle}
use Rattle.l4_core_model.specs.Turns.{can_stamp, is_busy}
use Rattle.l4_core.specs.Processor.{Processor}
use Rattle.l4_replay.specs.Inner.Posters.{AreEmpty, IsFirstFilled}

-- A processor, and for each processor the letters that came from it and are not handled yet, of
-- which the first is handled first.
pub record Station : Type 0 where
  pub core : Processor
  pub inbox : List (List Letter)

-- The letters of one poster.
abbrev pub letters_from : (from : ℕ) → Station → List Letter
letters_from from s = slice_index_or s.inbox from []

-- A letter has come.
abbrev pub with_letter : (from : ℕ) → Letter → Station → Station
with_letter from letter s = record s {
  inbox =
      changed (λ letters. letters ++ letter ∷ []) s.inbox from;
}

-- The first letter of one poster is taken out.
abbrev pub without_letter : (from : ℕ) → Station → Station
without_letter from s = record s { inbox = changed (drop 1) s.inbox from }

abbrev pub HasNoMail : Station → Type 0
HasNoMail s = AreEmpty s.inbox

-- The lowest processor that letters have come from.
abbrev pub IsFirstPoster : Station → (from : ℕ) → Type 0
IsFirstPoster s from = IsFirstFilled s.inbox from

-- A letter can be handled here, and the event can have a stamp.
pub record CanHandle (p : Processor) (letter : Letter) : Type 0 where
  pub lawful : is_some (handle p.machine p.cpu p.local letter) ≡ true
  pub stamp : can_stamp p.local letter.stamp ≡ true

-- Each letter that is the first of its poster can be handled, and the core's turn can have a stamp.
pub record CanGoOn (s : Station) : Type 0 where
  pub own : can_stamp s.core.local 0 ≡ true
  pub letters : (from : ℕ) (letter : Letter) → slice_get (letters_from from s) 0 ≡ Some letter →
      CanHandle s.core letter

-- The least deadline that a thread is armed for.
abbrev pub deadline_of : Station → Option ℕ
deadline_of s = option_map (λ e. e.0) (slice_get s.core.local.lists.armed 0)

-- Nothing is to be done, armed or to be handled.
pub record IsResting (s : Station) : Type 0 where
  pub idle : is_busy s.core.machine s.core.cpu s.core.local ≡ false
  pub unarmed : deadline_of s ≡ None
  pub no_mail : HasNoMail s
