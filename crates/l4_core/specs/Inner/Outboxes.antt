-- The letters of an event.
use Rattle.std.specs.Prelude.{◌≡◌, ℕ, ◌+◌, ◌*◌, ◌≤◌, List, drop, length}
use Rattle.l4_core_model.specs.Letters.{Letter}
use Rattle.l4_types.specs.declared.letters.LetterHead.{LetterHead}
use Rattle.l4_types.specs.Inner.LetterHeads.{words_by}

-- Letters with the processors that they go to, and how many more have room.
pub record Outbox : Type 0 where
  pub letters : List (ℕ × Letter)
  pub slots : ℕ

-- The words of the letters that are left are those that are not gone.
pub record IsOutbox (heads : List (ℕ × LetterHead)) (words taken gone : ℕ) : Type 0 where
  pub some : taken ≤ length heads
  pub whole : gone + words_by (λ p. p.1) (drop taken heads) ≡ words
  pub few : words ≤ 63 * length heads
