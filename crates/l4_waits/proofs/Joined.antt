-- The lines, put together piece by piece.
use Rattle.std.proofs.Common.{◌≡◌, ℕ, List, [], ◌∷◌, ◌++◌, map, sym, ap, append-nil, append_assoc}
use Rattle.std.specs.Prelude.{codes, flat_map}
use Rattle.std.specs.List.{join_with_byte}
use Rattle.l4_model.specs.Words.{GlobalId}
use Rattle.l4_words.specs.Lines.{line_of_words}
use Rattle.l4_words.specs.Threads.{thread_word}

pub wait_line_joined : (s id whom how : List ℕ) →
    s ++ codes "waits" ++ codes " " ++ id ++ codes " " ++ whom ++ codes " " ++ how ++ codes "\n" ≡ s ++ line_of_words (codes "waits" ∷ id ∷ whom ∷ how ∷ [])
wait_line_joined s id whom how = simp append_assoc

pub held_line_joined : (s name : List ℕ) → s ++ codes "held" ++ codes " " ++ name ++ codes "\n" ≡ s ++ line_of_words (codes "held" ∷ name ∷ [])
held_line_joined s name = simp append_assoc

join_threads : (first : List ℕ) (ids : List GlobalId) → join_with_byte 32 (first ∷ map thread_word ids) ≡ first ++ flat_map (λ id. codes " " ++ thread_word id) ids
join_threads first [] = sym (append-nil first)
join_threads first (id ∷ ids) = ap (λ rest. first ++ (32 ∷ rest)) (join_threads (thread_word id) ids)

pub ids_line_joined : (s word : List ℕ) (ids : List GlobalId) →
    s ++ word ++ flat_map (λ id. codes " " ++ thread_word id) ids ++ codes "\n" ≡ s ++ line_of_words (word ∷ map thread_word ids)
ids_line_joined s word ids = simp (join_threads, append_assoc)
