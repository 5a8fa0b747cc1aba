-- The object of a step of a history: its line in a trace, and what more the world tells.
use Rattle.std.specs.Prelude.{ℕ, Option, Some, None, unwrap_or, List, [], ◌∷◌, ◌++◌, codes, decimal, option_map, slice_get}
use Rattle.std.specs.List.{join_with_byte}
use Rattle.l4_model.specs.Conditions.{◌>>=◌, found, undecided}
use Rattle.l4_model.specs.Machine.{Machine}
use Rattle.l4_model.specs.Steps.{Step, Local, Begin, Queue, Wait, Order, next}
use Rattle.l4_model.specs.Words.{GlobalId, Id}
use Rattle.l4_model.specs.World.{Name, World}
use Rattle.l4_trace.specs.Lines.{words_of}
use Rattle.l4_words.specs.Threads.{id_word}
use Rattle.l4_json.specs.Lines.{text_of}

-- Where an undecided send goes to.
abbrev pub destination : Machine → World → Name → Option Id
destination m w s = option_map (λ p. p.send.to) (undecided m w s)

-- Where the send goes to that a step begins or appends to a list, in the world behind the step.
abbrev pub step_destination : Machine → (behind : World) → Step → Option Id
step_destination m behind (Begin s) = destination m behind s
step_destination m behind (Queue s) = destination m behind s
step_destination m behind _ = None

-- The thread that runs an instruction by a step.
abbrev pub runner : Step → Option GlobalId
runner (Local t) = Some t
runner (Begin s) = Some s.thread
runner (Wait t) = Some t
runner (Order caller target what) = Some caller
runner _ = None

-- The line of the instruction that is run by a step, in the world before the step. `lines` has for
-- each thread the lines of its instructions. None has the `end` behind the last of them.
abbrev pub step_line : Machine → (lines : List (List ℕ)) → (before : World) → Step → Option ℕ
step_line m lines before step = do
  id ← runner step
  t ← found m before id
  script ← slice_get lines t.at
  slice_get script t.now.context.place

abbrev pub told_under : (key : List ℕ) → Option (List ℕ) → List (List ℕ × List ℕ)
told_under key None = []
told_under key (Some word) = (key, word) ∷ []

-- What more is told of a step.
abbrev pub known : Machine → (lines : List (List ℕ)) → (before behind : World) → Step →
    List (List ℕ × List ℕ)
known m lines before behind step =
    told_under (codes "to") (option_map id_word (step_destination m behind step))
    ++ told_under (codes "line") (option_map decimal (step_line m lines before step))

abbrev pub step_text : Machine → (lines : List (List ℕ)) → (before behind : World) → Step → List ℕ
step_text m lines before behind step =
    text_of (join_with_byte 32 (words_of step)) (known m lines before behind step) ++ codes "\n"

-- The world behind a step that is possible.
abbrev pub behind : Machine → World → Step → World
behind m w step = unwrap_or (next m w step) w

-- The objects of the steps of a history, from a world on.
abbrev pub steps_text : Machine → (lines : List (List ℕ)) → World → List Step → List ℕ
steps_text m lines w [] = []
steps_text m lines w (step ∷ steps) =
    step_text m lines w (behind m w step) step ++ steps_text m lines (behind m w step) steps
