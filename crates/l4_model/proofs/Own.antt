-- What an instruction that concerns its thread alone does to the registers.
use Rattle.std.proofs.Common.{ℕ, List}
use Rattle.std.specs.Prelude.{slice_set}
use Rattle.l4_model.specs.Machine.{Own, Assign, AssignTag, AssignVs, GoTo, GoToOnErr, GoToOnLabel, GoToOnWord, GoToOnFrom}
use Rattle.l4_model.specs.World.{Context}
use Rattle.l4_model.specs.Rules.{assigned, words_after}

-- It writes one of them at most.
pub own_sets : (P : List ℕ → Type 0) (own : Own) (c : Context) → P c.words → ((a word : ℕ) → P (slice_set c.words a word)) → P (words_after c own)
own_sets P (Assign a value) c stays set = set a (assigned c a value)
own_sets P (AssignTag word) c stays set = set 0 word
own_sets P (AssignVs from) c stays set = stays
own_sets P (GoTo place) c stays set = stays
own_sets P (GoToOnErr place) c stays set = stays
own_sets P (GoToOnLabel label place) c stays set = stays
own_sets P (GoToOnWord a word place) c stays set = stays
own_sets P (GoToOnFrom id place) c stays set = stays
