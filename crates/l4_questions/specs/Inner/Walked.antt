-- The entries of a walk to an ending that is asked for.
use Rattle.std.specs.Prelude.{true, ◌≡◌, ℕ, Vec}
use Rattle.std.proofs.Common.{Global}
use Rattle.l4_model.specs.Machine.{Machine}
use Rattle.l4_futures.specs.Traces.{trace_along}
use Rattle.l4_walks.specs.Inner.Walked.{LeadsToEnding}
use Rattle.l4_questions.specs.Asked.{is_asked}
use Rattle.l4_questions.specs.Inner.Found.{led_ending, IsLed}
use Rattle.l4_questions.specs.Walked.{IsWalked}
use Rattle.l4_questions.specs.declared.question.Question.{Question}

pub record LeadsToAsked (m : Machine) (q : Question) (most : ℕ) (entries : Vec ℕ Global) :
    Type 0 where
  pub leads : LeadsToEnding m most entries.items
  pub asked : is_asked q (led_ending m entries) ≡ true

pub record IsWalkedBy (m : Machine) (q : Question) (entries : Vec ℕ Global) : Type 0 where
  pub led : IsLed m entries
  pub walked : IsWalked m q (trace_along m entries.items)
