-- The lists of a world without what no step reads of deleted threads.
use Rattle.std.proofs.Common.{◌≡◌, ℕ, zero, suc, ◌<◌, Bool, true, false, cond, Some, List, [], ◌∷◌, length, refl, ap, sym, ◌∙◌, arith}
use Rattle.std.specs.Prelude.{slice_get}
use Rattle.std.specs.Option.{option_map}
use Rattle.l4_model.specs.World.{Thread, World, list_at, is_deleted}
use Rattle.l4_worlds.specs.Bare.{bare, bare_lists, deleted_ones, in_order}

list_length : (n : ℕ) (marks : List Bool) (lists : List (List ℕ)) → length marks ≡ length lists → length (bare_lists n marks lists) ≡ length lists
list_length n [] lists same = refl
list_length n (mark ∷ marks) [] same = refl
list_length n (mark ∷ marks) (xs ∷ lists) same = ap suc (list_length n marks lists (omega arith))

marks_length : (threads : List Thread) → length (deleted_ones threads) ≡ length threads
marks_length [] = refl
marks_length (t ∷ threads) = ap suc (marks_length threads)

pub lists_counted : (w : World) (n : ℕ) → length w.threads ≡ n → length w.waiting ≡ n → length (bare w).waiting ≡ n
lists_counted w n threads lists = list_length (length w.threads) (deleted_ones w.threads) w.waiting (marks_length w.threads ∙ threads ∙ sym lists) ∙ lists

list_there : (n place : ℕ) (marks : List Bool) (lists : List (List ℕ)) (mark : Bool) → slice_get marks place ≡ Some mark → place < length lists →
    list_at (bare_lists n marks lists) place ≡ cond mark (in_order n (list_at lists place)) (list_at lists place)
list_there n place [] lists mark at lt = cc
list_there n zero (x ∷ marks) [] mark at lt = absurd (omega arith)
list_there n (suc place) (x ∷ marks) [] mark at lt = absurd (omega arith)
list_there n zero (x ∷ marks) (xs ∷ lists) mark at lt = let same : x ≡ mark = cc in ap (λ b. cond b (in_order n xs) xs) same
list_there n (suc place) (x ∷ marks) (xs ∷ lists) mark at lt = list_there n place marks lists mark at (omega arith)

mark_there : (threads : List Thread) (place : ℕ) → slice_get (deleted_ones threads) place ≡ option_map (λ (t : Thread). is_deleted t.phase) (slice_get threads place)
mark_there [] place = refl
mark_there (t ∷ threads) zero = refl
mark_there (t ∷ threads) (suc place) = mark_there threads place

pub list_falls : (w : World) (place : ℕ) → place < length w.waiting → option_map (λ (t : Thread). is_deleted t.phase) (slice_get w.threads place) ≡ Some true →
    list_at (bare w).waiting place ≡ in_order (length w.threads) (list_at w.waiting place)
list_falls w place lt deleted = list_there (length w.threads) place (deleted_ones w.threads) w.waiting true (mark_there w.threads place ∙ deleted) lt

pub list_stays : (w : World) (place : ℕ) → place < length w.waiting → option_map (λ (t : Thread). is_deleted t.phase) (slice_get w.threads place) ≡ Some false →
    list_at (bare w).waiting place ≡ list_at w.waiting place
list_stays w place lt deleted = list_there (length w.threads) place (deleted_ones w.threads) w.waiting false (mark_there w.threads place ∙ deleted) lt
