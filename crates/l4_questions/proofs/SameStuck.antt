-- Worlds whose threads are stuck alike have the same stuck threads, and so have worlds as good as each
-- other.
use Rattle.std.proofs.Common.{◌≡◌, Bool, cond, Option, Some, None, List, [], ◌∷◌, ◌++◌, map, refl, ap, ap₂, sym, ◌∙◌}
use Rattle.std.specs.Prelude.{flat_map, zip}
use Rattle.l4_model.specs.Words.{GlobalId}
use Rattle.l4_model.specs.Machine.{Machine}
use Rattle.l4_model.specs.World.{Thread, Send, Phase, Ready, Sending, Receiving, Ordering, Ended, Deleted, World}
use Rattle.l4_worlds.specs.Timeless.{timeless_thread}
use Rattle.l4_worlds.specs.Numberless.{numberless_thread}
use Rattle.l4_worlds.specs.Bare.{bare_thread, AreAsGood}
use Rattle.l4_futures.specs.Stuck.{is_stuck_thread}
use Rattle.l4_questions.specs.Resting.{ids_in, stuck_in, stuck_one}

abbrev pub stuck_of_all : List GlobalId → List Thread → List GlobalId
stuck_of_all ids ts = flat_map (λ p. stuck_one p.0 p.1) (zip ids ts)

abbrev if_marked : GlobalId → Bool → List GlobalId
if_marked id b = cond b (id ∷ []) []

by_marks : (ids : List GlobalId) (ts us : List Thread) → map is_stuck_thread ts ≡ map is_stuck_thread us →
    stuck_of_all ids ts ≡ stuck_of_all ids us
by_marks [] ts us same = refl
by_marks (id ∷ ids) [] [] same = refl
by_marks (id ∷ ids) [] (u ∷ us) same = cc
by_marks (id ∷ ids) (t ∷ ts) [] same = cc
by_marks (id ∷ ids) (t ∷ ts) (u ∷ us) same =
    let first : is_stuck_thread t ≡ is_stuck_thread u = cc in
    let others : map is_stuck_thread ts ≡ map is_stuck_thread us = cc in
    ap₂ (λ (b : Bool) (rest : List GlobalId). if_marked id b ++ rest) first (by_marks ids ts us others)

pub stuck_by_marks : (m : Machine) (w v : World) → map is_stuck_thread w.threads ≡ map is_stuck_thread v.threads →
    stuck_in m w ≡ stuck_in m v
stuck_by_marks m w v same = by_marks (ids_in m) w.threads v.threads same

-- When it began to wait, and how many sends it began, does not count.

thread_same : (t : Thread) → is_stuck_thread (numberless_thread (bare_thread (timeless_thread t))) ≡ is_stuck_thread t
thread_same t = by t.phase t.send
  where
    by : (p : Phase) (s : Option Send) → is_stuck_thread (numberless_thread (bare_thread (timeless_thread (record t { phase = p; send = s })))) ≡ is_stuck_thread (record t { phase = p; send = s })
    by Ready None = refl
    by Ready (Some send) = refl
    by Sending None = refl
    by Sending (Some send) = refl
    by (Receiving receive since) None = refl
    by (Receiving receive since) (Some send) = refl
    by Ordering None = refl
    by Ordering (Some send) = refl
    by Ended None = refl
    by Ended (Some send) = refl
    by Deleted None = refl
    by Deleted (Some send) = refl

threads_same : (ts : List Thread) → map is_stuck_thread (map numberless_thread (map bare_thread (map timeless_thread ts))) ≡ map is_stuck_thread ts
threads_same [] = refl
threads_same (t ∷ ts) = ap₂ (λ (b : Bool) (rest : List Bool). b ∷ rest) (thread_same t) (threads_same ts)

pub stuck_as_good : (m : Machine) (w v : World) → AreAsGood w v → stuck_in m w ≡ stuck_in m v
stuck_as_good m w v good =
    stuck_by_marks m w v
    (sym (threads_same w.threads) ∙ ap (λ (x : World). map is_stuck_thread x.threads) good ∙ threads_same v.threads)
