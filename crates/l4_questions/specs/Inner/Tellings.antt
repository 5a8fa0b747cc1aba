-- What becomes of a listener that tells, by hearing of ends.
use Rattle.std.specs.Prelude.{◌≡◌, Bool, false, List, map}
use Rattle.std.specs.Option.{option_copied}
use Rattle.l4_model.specs.Machine.{Machine}
use Rattle.l4_explore.specs.Search.{Seen}
use Rattle.l4_questions.specs.Beside.{shown_as}
use Rattle.l4_questions.specs.Endings.{Ending}
use Rattle.l4_questions.specs.Inner.Telling.{AreTold}
use Rattle.l4_questions.specs.Told.{Takes}
use Rattle.l4_questions.specs.declared.telling.Telling.{Telling}

-- It still tells the same teller, of the same question.
pub record IsSameTelling {S T : Type 0} (old new : Telling S T) : Type 0 where
  pub teller : new.teller.ghost_name ≡ old.teller.ghost_name
  pub told : new.told.ghost_name ≡ old.told.ghost_name
  pub asking : new.asking.now ≡ old.asking.now

-- It has told these endings, if all was taken before.
abbrev pub HasTold : {S T : Type 0} → (takes : (old new : T) → Takes) → (old new : Telling S T) →
    List Ending → (more : Bool) → Type 0
HasTold takes old new endings more =
    old.told.now.is_refused ≡ false →
    AreTold (takes old.teller.now new.teller.now) old.asking.now.question.now
    (shown_as old.asking.now.beside.shown) (option_copied old.asking.now.beside.expected) old.told.now
    new.told.now endings more

abbrev pub Tells : {S T : Type 0} → (ending : Machine → Seen → Ending) →
    (takes : (old new : T) → Takes) → (old new : Telling S T) → List Seen → (more : Bool) → Type 0
Tells ending takes old new ends more =
    IsSameTelling old new × HasTold takes old new (map (ending old.asking.now.machine.now) ends) more
