-- The lines that tell who waits for whom.
use Rattle.std.specs.Prelude.{ℕ, Bool, true, false, Option, Some, None, List, [], ◌∷◌, ◌++◌, map}
use Rattle.std.specs.Prelude.{flat_map, length, slice_index_or, codes}
use Rattle.std.specs.List.{range_with_len}
use Rattle.l4_model.specs.Words.{GlobalId, global_id, Id}
use Rattle.l4_model.specs.Machine.{Machine}
use Rattle.l4_model.specs.World.{Name, World}
use Rattle.l4_model.specs.Steps.{Step}
use Rattle.l4_model.specs.Still.{late}
use Rattle.l4_words.specs.Lines.{line_of_words}
use Rattle.l4_words.specs.Names.{name_word}
use Rattle.l4_words.specs.Threads.{id_word, thread_word}
use Rattle.l4_audit.specs.Possible.{possible}
use Rattle.l4_audit.specs.Waits.{waits_in}
use Rattle.l4_audit.specs.declared.waits.Wait.{Wait}
use Rattle.l4_audit.specs.declared.waits.Wait.TheVariants.{Send, Arrival, Receive}
use Rattle.l4_waits.specs.Circles.{nexts_of, circle_at}
use Rattle.l4_waits.specs.Deadlocks.{are_stuck}
use Rattle.l4_waits.specs.Held.{held_sends}

-- The id that a thread sends to or receives from, and which of the two.
abbrev pub whom : Wait → Id
whom (Send to) = to
whom (Arrival to) = to
whom (Receive from) = from

abbrev pub how_word : Wait → List ℕ
how_word (Send to) = codes "send"
how_word (Arrival to) = codes "send"
how_word (Receive from) = codes "receive"

abbrev pub wait_line : GlobalId × Wait → List ℕ
wait_line w =
    line_of_words (codes "waits" ∷ thread_word w.0 ∷ id_word (whom w.1) ∷ how_word w.1 ∷ [])

-- The threads at these places among those that wait.
abbrev pub id_at : List (GlobalId × Wait) → ℕ → GlobalId
id_at waits i = slice_index_or (map (λ w. w.0) waits) i (global_id 0 1)

abbrev pub ids_at : List (GlobalId × Wait) → List ℕ → List GlobalId
ids_at waits places = map (id_at waits) places

-- A circle is a deadlock where its threads are stuck.
abbrev pub circle_word : (stuck : Bool) → List ℕ
circle_word true = codes "deadlock"
circle_word false = codes "circle"

abbrev pub ids_line : List Step → List GlobalId → List ℕ
ids_line steps ids = line_of_words (circle_word (are_stuck steps ids) ∷ map thread_word ids)

abbrev pub circle_line : List (GlobalId × Wait) → List Step → Option (List ℕ) → List ℕ
circle_line waits steps None = []
circle_line waits steps (Some places) = ids_line steps (ids_at waits places)

abbrev pub circle_lines : List (GlobalId × Wait) → List Step → (nexts : List (Option ℕ)) → List ℕ
circle_lines waits steps nexts =
    flat_map (λ first. circle_line waits steps (circle_at nexts first))
    (range_with_len 0 (length nexts))

-- The lines for threads that wait and for circles, by the steps that are possible with late clocks.
abbrev pub text_of : List (GlobalId × Wait) → List Step → List ℕ
text_of waits steps = flat_map wait_line waits ++ circle_lines waits steps (nexts_of waits)

-- Those for sends that are held.

abbrev pub held_line : Name → List ℕ
held_line s = line_of_words (codes "held" ∷ name_word s ∷ [])

abbrev pub held_lines : List Name → List ℕ
held_lines sends = flat_map held_line sends

-- Those for circles and held sends alone.
abbrev pub circles_text : Machine → World → List ℕ
circles_text m w =
    circle_lines (waits_in m w) (possible m (late w)) (nexts_of (waits_in m w))
    ++ held_lines (held_sends m w)

abbrev pub waits_text : Machine → World → List ℕ
waits_text m w =
    text_of (waits_in m w) (possible m (late w)) ++ held_lines (held_sends m w)
