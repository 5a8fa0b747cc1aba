-- The entries of a walk of placed threads to an ending that is asked for.
use Rattle.std.specs.Prelude.{true, ◌≡◌, ℕ, Vec}
use Rattle.std.proofs.Common.{Global}
use Rattle.l4_model.specs.Machine.{Machine}
use Rattle.l4_endings.specs.Inner.Tried.{entries_from}
use Rattle.l4_replay.specs.declared.entries.Entry.{Entry}
use Rattle.l4_walks.specs.Inner.Placed.{LeadsToRest}
use Rattle.l4_questions.specs.Asked.{is_asked}
use Rattle.l4_questions.specs.Inner.Found.{placed_by}
use Rattle.l4_questions.specs.PlacedWalked.{IsPlacedWalked}
use Rattle.l4_questions.specs.declared.question.Question.{Question}

pub record LeadsToAsked (m : Machine) (q : Question) (most : ℕ) (entries : Vec Entry Global) :
    Type 0 where
  pub leads : LeadsToRest m most (entries_from entries.items)
  pub asked : is_asked q (placed_by m entries) ≡ true

abbrev pub IsWalkedBy : Machine → Question → Vec Entry Global → Type 0
IsWalkedBy m q entries = IsPlacedWalked m q (entries_from entries.items)
