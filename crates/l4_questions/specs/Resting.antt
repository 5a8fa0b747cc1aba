-- Which threads are stuck in a world, and which of them may rest so.
use Rattle.std.specs.Prelude.{ℕ, Bool, false, not, ◌==◌, if◌then◌else◌, Option, None, Some, List, [], ◌∷◌, flat_map, map, zip}
use Rattle.std.specs.List.{list_any, slice_split}
use Rattle.std.specs.Option.{option_copied}
use Rattle.l4_model.specs.Words.{GlobalId, same_id}
use Rattle.l4_model.specs.Machine.{Declaration, Machine}
use Rattle.l4_model.specs.World.{Thread, World}
use Rattle.l4_futures.specs.Stuck.{is_stuck_thread}
use Rattle.l4_words.specs.Threads.{thread_of}
use Rattle.l4_questions.specs.declared.question.Question.{Question}

-- The threads that are stuck there, in order of declaration.

abbrev pub stuck_one : GlobalId → Thread → List GlobalId
stuck_one id t = if is_stuck_thread t then id ∷ [] else []

abbrev pub ids_in : Machine → List GlobalId
ids_in m = map (λ (d : Declaration). d.id) m.threads

abbrev pub stuck_in : Machine → World → List GlobalId
stuck_in m w = flat_map (λ p. stuck_one p.0 p.1) (zip (ids_in m) w.threads)

-- A list of ids, with commas, byte 44, between them, has this thread.

abbrev pub is_named : GlobalId → Option GlobalId → Bool
is_named id None = false
is_named id (Some t) = same_id t id

abbrev pub names : GlobalId → (item : List ℕ) → Bool
names id item = is_named id (thread_of item)

abbrev pub may_rest : (rests : Option (List ℕ)) → GlobalId → Bool
may_rest None id = false
may_rest (Some list) id = list_any (names id) (slice_split (λ byte. byte == 44) list)

-- Whether the question counts this thread where it is stuck.
abbrev pub counts : Question → GlobalId → Bool
counts q id = not (may_rest (option_copied q.rests) id)
