-- Worlds as good as each other are stuck alike.
use Rattle.std.proofs.Common.{◌≡◌, Option, Some, None, List, [], ◌∷◌, map, refl, ap, sym, ◌∙◌}
use Rattle.std.specs.Prelude.{◌||◌}
use Rattle.std.specs.List.{list_any}
use Rattle.l4_model.specs.World.{Thread, Send, Phase, Ready, Sending, Receiving, Ordering, Ended, Deleted}
use Rattle.l4_worlds.specs.Timeless.{timeless_thread}
use Rattle.l4_worlds.specs.Numberless.{numberless_thread}
use Rattle.l4_worlds.specs.Bare.{bare_thread}
use Rattle.l4_futures.specs.Inner.Asked.{TellsNoneApart}
use Rattle.l4_futures.specs.Stuck.{is_stuck_thread, is_stuck_world}

thread_same : (t : Thread) → is_stuck_thread (numberless_thread (bare_thread (timeless_thread t))) ≡ is_stuck_thread t
thread_same t = by t.phase t.send
  where
    by : (p : Phase) (s : Option Send) → is_stuck_thread (numberless_thread (bare_thread (timeless_thread (record t { phase = p; send = s })))) ≡ is_stuck_thread (record t { phase = p; send = s })
    by Ready None = refl
    by Ready (Some send) = refl
    by Sending None = refl
    by Sending (Some send) = refl
    by (Receiving receive since) None = refl
    by (Receiving receive since) (Some send) = refl
    by Ordering None = refl
    by Ordering (Some send) = refl
    by Ended None = refl
    by Ended (Some send) = refl
    by Deleted None = refl
    by Deleted (Some send) = refl

threads_same : (ts : List Thread) → list_any is_stuck_thread (map numberless_thread (map bare_thread (map timeless_thread ts))) ≡ list_any is_stuck_thread ts
threads_same [] = refl
threads_same (t ∷ ts) =
    ap (λ b. b || list_any is_stuck_thread (map numberless_thread (map bare_thread (map timeless_thread ts)))) (thread_same t)
    ∙ ap (λ b. is_stuck_thread t || b) (threads_same ts)

pub stuck_same : TellsNoneApart is_stuck_world
stuck_same w v good =
    sym (threads_same w.threads) ∙ ap is_stuck_world good ∙ threads_same v.threads
