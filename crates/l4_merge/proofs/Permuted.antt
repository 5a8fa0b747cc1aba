-- The events of a run are those of all logs in another order.
use Rattle.std.proofs.Common.{◌≡◌, ℕ, suc, ◌+◌, Bool, true, false, cond, List, [], ◌∷◌, ◌++◌, Some, map, length, drop, refl, ap, sym, ◌∙◌, subst, append_assoc, arith}
use Rattle.std.specs.Prelude.{slice_get}
use Rattle.std.specs.List.Sorted.{IsPermutation}
use Rattle.std.proofs.lemmas.List.Prefix.{front_rest}
use Rattle.std.proofs.lemmas.List.Sorted.{IsPermutation-refl, IsPermutation-sym, IsPermutation-trans, IsPermutation-cons, IsPermutation-middle, IsPermutation-append, IsPermutation-append_comm, IsPermutation-append_left, IsPermutation-append_right}
use Rattle.l4_model.specs.Machine.{Machine}
use Rattle.l4_core_model.specs.Runs.{Event, is_earlier, put_event, merged}
use Rattle.l4_merge.specs.Transitions.{told_by}
use Rattle.l4_merge.specs.LocalTraces.{LocalTrace, Extends, HaveWorked, all_events, added_events}

put_moves : (e : Event) (xs : List Event) → IsPermutation (e ∷ xs) (put_event e xs)
put_moves e [] = IsPermutation-refl (e ∷ [])
put_moves e (x ∷ xs) = by (is_earlier e x) (put_moves e xs)
  where
    by : (b : Bool) → IsPermutation (e ∷ xs) (put_event e xs) → IsPermutation (e ∷ x ∷ xs) (cond b (e ∷ x ∷ xs) (x ∷ put_event e xs))
    by true rest = IsPermutation-refl (e ∷ x ∷ xs)
    by false rest =
        IsPermutation-trans (e ∷ x ∷ xs) (x ∷ e ∷ xs) (x ∷ put_event e xs)
        (IsPermutation-sym (x ∷ e ∷ xs) (e ∷ x ∷ xs) (IsPermutation-middle (x ∷ []) e xs)) (IsPermutation-cons x (e ∷ xs) (put_event e xs) rest)

pub merged_moves : (es : List Event) → IsPermutation es (merged es)
merged_moves [] = IsPermutation-refl []
merged_moves (e ∷ es) =
    IsPermutation-trans (e ∷ es) (e ∷ merged es) (put_event e (merged es)) (IsPermutation-cons e es (merged es) (merged_moves es)) (put_moves e (merged es))

-- Two lists that each go on, one behind the other.
pub both_move : {A : Type 0} (a b c d : List A) → IsPermutation ((a ++ c) ++ (b ++ d)) ((a ++ b) ++ (c ++ d))
both_move a b c d =
    let inner = IsPermutation-trans (c ++ (b ++ d)) ((c ++ b) ++ d) ((b ++ c) ++ d)
    (subst (IsPermutation (c ++ (b ++ d))) (sym (append_assoc c b d)) (IsPermutation-refl (c ++ (b ++ d))))
    (IsPermutation-append_left d (c ++ b) (b ++ c) (IsPermutation-append_comm c b)) in
    let whole = IsPermutation-append_right a (c ++ (b ++ d)) ((b ++ c) ++ d) inner in
    let left : (a ++ c) ++ (b ++ d) ≡ a ++ (c ++ (b ++ d)) = append_assoc a c (b ++ d) in
    let right : a ++ ((b ++ c) ++ d) ≡ (a ++ b) ++ (c ++ d) = ap (λ xs. a ++ xs) (append_assoc b c d) ∙ sym (append_assoc a b (c ++ d)) in
    subst (λ xs. IsPermutation xs ((a ++ b) ++ (c ++ d))) (sym left) (subst (IsPermutation (a ++ (c ++ (b ++ d)))) right whole)

-- To the events of earlier pasts come those that were added.
added : (m : Machine) (from : ℕ) (olds news : List LocalTrace) → length news ≡ length olds →
    ((i cpu : ℕ) (old new : LocalTrace) → from + i ≡ cpu → slice_get olds i ≡ Some old → slice_get news i ≡ Some new → Extends m cpu old new) →
    IsPermutation (all_events olds ++ added_events olds news) (all_events news)
added m from [] [] size work = IsPermutation-refl []
added m from [] (new ∷ news) size work = absurd (omega arith)
added m from (old ∷ olds) [] size work = absurd (omega arith)
added m from (old ∷ olds) (new ∷ news) size work =
    let first = work 0 from old new (omega arith) refl refl in
    let more = map told_by first.transitions in
    let is : old.events ++ drop (length old.events) new.events ≡ new.events =
    ap (λ es. old.events ++ es) (front_rest new.events old.events more first.are.events) ∙ sym first.are.events in
    let rest = added m (from + 1) olds news (omega arith) (λ i cpu old new e was now. work (suc i) cpu old new (omega arith) was now) in
    IsPermutation-trans _ _ _ (both_move old.events (drop (length old.events) new.events) (all_events olds) (added_events olds news))
    (IsPermutation-append (old.events ++ drop (length old.events) new.events) new.events (all_events olds ++ added_events olds news) (all_events news)
    (subst (IsPermutation (old.events ++ drop (length old.events) new.events)) is (IsPermutation-refl (old.events ++ drop (length old.events) new.events))) rest)

pub permuted : (m : Machine) (olds news : List LocalTrace) → HaveWorked m olds news →
    IsPermutation (all_events olds ++ merged (added_events olds news)) (all_events news)
permuted m olds news w =
    IsPermutation-trans _ _ _
    (IsPermutation-append_right (all_events olds) (merged (added_events olds news)) (added_events olds news)
    (IsPermutation-sym (added_events olds news) (merged (added_events olds news)) (merged_moves (added_events olds news))))
    (added m 0 olds news w.for_each (λ i cpu old new e was now.
    w.each cpu old new (subst (λ i. slice_get olds i ≡ Some old) (omega arith) was) (subst (λ i. slice_get news i ≡ Some new) (omega arith) now)))
