-- Worlds of equal codes are as good as each other, and such worlds have equal codes.
use Rattle.std.proofs.Common.{◌≡◌, ℕ, Option, Some, None, List, [], ◌∷◌, map, length, refl, ap, sym, ◌∙◌, arith}
use Rattle.std.proofs.lemmas.List.{length-map}
use Rattle.std.specs.Prelude.{◌↔◌}
use Rattle.std.specs.Option.{option_map}
use Rattle.l4_model.specs.Machine.{Machine}
use Rattle.l4_model.specs.World.{World, Thread, Send, Owed, Phase, Ready, Sending, Receiving, Ordering, Ended, Deleted, is_deleted}
use Rattle.l4_bisimilar.specs.Similar.{numberless_owed}
use Rattle.l4_bisimilar.specs.Shifted.{relative_thread, timeless_phase, timeless_send}
use Rattle.l4_states.specs.Inner.Codes.{number_code, flag_code, optional, each, chained, sized, length_code, asked_code, context_code, phase_code, send_code, thread_code, owed_code}
use Rattle.l4_worlds.specs.Timeless.{timeless_thread, timeless}
use Rattle.l4_worlds.specs.Numberless.{numberless_thread, numberless_owed as numberless}
use Rattle.l4_worlds.specs.Bare.{bare_thread, deleted_ones, bare_lists, bare, AreAsGood}
use Rattle.l4_futures.specs.Inner.Codes.{code_of}
use Rattle.l4_futures.proofs.Apart.{number_apart, chained_apart, sized_apart, chained_image, sized_image, thread_apart, owed_apart}

-- What is left out of a bare world, and of one without time and numbers that is made bare

thread_same : (t : Thread) → numberless_thread (bare_thread (timeless_thread t)) ≡ relative_thread (bare_thread t)
thread_same t = by t.phase
  where
    by : (p : Phase) → numberless_thread (bare_thread (timeless_thread (record t { phase = p }))) ≡ relative_thread (bare_thread (record t { phase = p }))
    by Ready = refl
    by Sending = refl
    by (Receiving receive since) = refl
    by Ordering = refl
    by Ended = refl
    by Deleted = refl

threads_same : (ts : List Thread) → map numberless_thread (map bare_thread (map timeless_thread ts)) ≡ map relative_thread (map bare_thread ts)
threads_same [] = refl
threads_same (t ∷ ts) = ap (λ x. x ∷ map numberless_thread (map bare_thread (map timeless_thread ts))) (thread_same t) ∙ ap (λ xs. relative_thread (bare_thread t) ∷ xs) (threads_same ts)

mark_same : (p : Phase) (t : Thread) → is_deleted (timeless_thread (record t { phase = p })).phase ≡ is_deleted p
mark_same Ready t = refl
mark_same Sending t = refl
mark_same (Receiving receive since) t = refl
mark_same Ordering t = refl
mark_same Ended t = refl
mark_same Deleted t = refl

marks_same : (ts : List Thread) → deleted_ones (map timeless_thread ts) ≡ deleted_ones ts
marks_same [] = refl
marks_same (t ∷ ts) = ap (λ b. b ∷ deleted_ones (map timeless_thread ts)) (mark_same t.phase t) ∙ ap (λ bs. is_deleted t.phase ∷ bs) (marks_same ts)

lists_same : (w : World) → (bare (timeless w)).waiting ≡ (bare w).waiting
lists_same w =
    ap (λ n. bare_lists n (deleted_ones (map timeless_thread w.threads)) w.waiting) (length-map w.threads timeless_thread)
    ∙ ap (λ bs. bare_lists (length w.threads) bs w.waiting) (marks_same w.threads)

owed_same : (os : List Owed) → map numberless os ≡ map numberless_owed os
owed_same [] = refl
owed_same (o ∷ os) = ap (λ xs. numberless o ∷ xs) (owed_same os)

zeros_same : (xs ys : List ℕ) → length xs ≡ length ys → map {B = ℕ} (λ clock. 0) xs ≡ map (λ clock. 0) ys
zeros_same [] [] e = refl
zeros_same [] (y ∷ ys) e = absurd (omega arith)
zeros_same (x ∷ xs) [] e = absurd (omega arith)
zeros_same (x ∷ xs) (y ∷ ys) e = ap (λ zs. 0 ∷ zs) (zeros_same xs ys (omega arith))

-- Parts that are equal make worlds as good as each other, and such worlds have equal parts.
record SameParts (w v : World) : Type 0 where
  threads : map relative_thread (bare w).threads ≡ map relative_thread (bare v).threads
  lists : (bare w).waiting ≡ (bare v).waiting
  owed : map numberless_owed w.owed ≡ map numberless_owed v.owed

as_good : (w v : World) → length w.clocks ≡ length v.clocks → SameParts w v → AreAsGood w v
as_good w v long s =
    let threads = threads_same w.threads ∙ s.threads ∙ sym (threads_same v.threads) in
    let lists = lists_same w ∙ s.lists ∙ sym (lists_same v) in
    let owed = owed_same w.owed ∙ s.owed ∙ sym (owed_same v.owed) in
    let clocks = zeros_same w.clocks v.clocks long in
    λ i. record { threads = threads i; waiting = lists i; clocks = clocks i; owed = owed i }

same_parts : (w v : World) → AreAsGood w v → SameParts w v
same_parts w v e = record {
  threads = sym (threads_same w.threads) ∙ ap (λ (x : World). x.threads) e ∙ threads_same v.threads;
  lists = sym (lists_same w) ∙ ap (λ (x : World). x.waiting) e ∙ lists_same v;
  owed = sym (owed_same w.owed) ∙ ap (λ (x : World). x.owed) e ∙ owed_same v.owed;
}

-- From codes

from_code : (m : Machine) (w v : World) → code_of m w ≡ code_of m v → SameParts w v
from_code m w v e =
    let n = length m.threads in
    let threads = sized_image Thread Thread relative_thread thread_code thread_apart n (bare w).threads (bare v).threads _ _ e in
    let lists = sized_apart (List ℕ) (chained number_code) (chained_apart ℕ number_code number_apart) n (bare w).waiting (bare v).waiting _ _ threads.1 in
    let owed = chained_image Owed Owed numberless_owed owed_code owed_apart w.owed v.owed [] [] lists.1 in
    record { threads = threads.0; lists = lists.0; owed = owed.0 }

-- To codes: they read no number of a send, nor when something began.

phase_bare : (p : Phase) (x : List ℕ) → phase_code p x ≡ phase_code (timeless_phase p) x
phase_bare Ready x = refl
phase_bare Sending x = refl
phase_bare (Receiving receive since) x = refl
phase_bare Ordering x = refl
phase_bare Ended x = refl
phase_bare Deleted x = refl

send_bare : (o : Option Send) (x : List ℕ) → optional send_code o x ≡ optional send_code (option_map timeless_send o) x
send_bare None x = refl
send_bare (Some send) x = refl

thread_bare : (t : Thread) (x : List ℕ) → thread_code t x ≡ thread_code (relative_thread t) x
thread_bare t x =
    ap (context_code t.context) (phase_bare t.phase _
    ∙ ap (phase_code (timeless_phase t.phase)) (send_bare t.send (optional asked_code t.order
    (flag_code t.cancel_send (flag_code t.cancel_receive x)))))

threads_bare : (ts : List Thread) (x : List ℕ) → each thread_code ts x ≡ each thread_code (map relative_thread ts) x
threads_bare [] x = refl
threads_bare (t ∷ ts) x = ap (thread_code t) (threads_bare ts x) ∙ thread_bare t (each thread_code (map relative_thread ts) x)

sized_bare : (n : ℕ) (ts : List Thread) (x : List ℕ) → sized n thread_code ts x ≡ sized n thread_code (map relative_thread ts) x
sized_bare n ts x = ap (λ k. length_code n k ∷ each thread_code ts x) (sym (length-map ts relative_thread)) ∙ ap (λ xs. length_code n (length (map relative_thread ts)) ∷ xs) (threads_bare ts x)

owed_bare : (os : List Owed) (x : List ℕ) → chained owed_code os x ≡ chained owed_code (map numberless_owed os) x
owed_bare [] x = refl
owed_bare (o ∷ os) x = ap (λ xs. 1 ∷ owed_code o xs) (owed_bare os x)

to_code : (m : Machine) (w v : World) → SameParts w v → code_of m w ≡ code_of m v
to_code m w v s =
    let n = length m.threads in
    let tail : (u : World) → List ℕ = λ u. sized n (chained number_code) (bare u).waiting (chained owed_code u.owed []) in
    let owed : chained owed_code w.owed [] ≡ chained owed_code v.owed [] = owed_bare w.owed [] ∙ ap (λ os. chained owed_code os []) s.owed ∙ sym (owed_bare v.owed []) in
    let tails : tail w ≡ tail v = ap (λ xs. sized n (chained number_code) (bare w).waiting xs) owed ∙ ap (λ ls. sized n (chained number_code) ls (chained owed_code v.owed [])) s.lists in
    ap (sized n thread_code (bare w).threads) tails
    ∙ sized_bare n (bare w).threads (tail v)
    ∙ ap (λ ts. sized n thread_code ts (tail v)) s.threads
    ∙ sym (sized_bare n (bare v).threads (tail v))

pub coded : (m : Machine) (w v : World) → length w.clocks ≡ length v.clocks → (code_of m w ≡ code_of m v) ↔ AreAsGood w v
coded m w v long = (λ e. as_good w v long (from_code m w v e), λ e. to_code m w v (same_parts w v e))
