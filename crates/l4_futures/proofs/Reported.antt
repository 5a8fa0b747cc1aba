-- Worlds as good as each other are reported alike.
use Rattle.std.proofs.Common.{◌≡◌, Option, Some, None, List, [], ◌∷◌, map, refl, ap, sym, ◌∙◌}
use Rattle.std.specs.List.{zip}
use Rattle.std.specs.Option.{option_map}
use Rattle.l4_model.specs.Words.{GlobalId, Id}
use Rattle.l4_model.specs.Machine.{Machine}
use Rattle.l4_model.specs.World.{World, Thread, Send, Phase, Ready, Sending, Receiving, Ordering, Ended, Deleted}
use Rattle.l4_model.specs.History.{Report, report_of, view}
use Rattle.l4_worlds.specs.Timeless.{timeless_thread}
use Rattle.l4_worlds.specs.Numberless.{numberless_thread}
use Rattle.l4_worlds.specs.Bare.{bare_thread, AreAsGood}
use Rattle.l4_futures.specs.Inner.Reported.{destinations, AreReportedAlike}

-- A thread without time, numbers and, where it is deleted, registers
abbrev left : Thread → Thread
left t = numberless_thread (bare_thread (timeless_thread t))

report_same : (id : GlobalId) (t : Thread) → report_of id (left t) ≡ report_of id (bare_thread t)
report_same id t = by t.phase
  where
    by : (p : Phase) → report_of id (left (record t { phase = p })) ≡ report_of id (bare_thread (record t { phase = p }))
    by Ready = refl
    by Sending = refl
    by (Receiving receive since) = refl
    by Ordering = refl
    by Ended = refl
    by Deleted = refl

abbrev told : List GlobalId → List Thread → List Report
told ids ts = map (λ p. report_of p.0 p.1) (zip ids ts)

reports_same : (ids : List GlobalId) (ts : List Thread) → told ids (map numberless_thread (map bare_thread (map timeless_thread ts))) ≡ told ids (map bare_thread ts)
reports_same [] ts = refl
reports_same (id ∷ ids) [] = refl
reports_same (id ∷ ids) (t ∷ ts) =
    ap (λ r. r ∷ told ids (map numberless_thread (map bare_thread (map timeless_thread ts)))) (report_same id t)
    ∙ ap (λ rs. report_of id (bare_thread t) ∷ rs) (reports_same ids ts)

abbrev destination : Thread → Option Id
destination t = option_map (λ send. send.to) t.send

destination_same : (t : Thread) → destination (left t) ≡ destination t
destination_same t = by t.phase t.send
  where
    by : (p : Phase) (s : Option Send) → destination (left (record t { phase = p; send = s })) ≡ destination (record t { phase = p; send = s })
    by Ready None = refl
    by Ready (Some send) = refl
    by Sending None = refl
    by Sending (Some send) = refl
    by (Receiving receive since) None = refl
    by (Receiving receive since) (Some send) = refl
    by Ordering None = refl
    by Ordering (Some send) = refl
    by Ended None = refl
    by Ended (Some send) = refl
    by Deleted None = refl
    by Deleted (Some send) = refl

destinations_same : (ts : List Thread) → map destination (map numberless_thread (map bare_thread (map timeless_thread ts))) ≡ map destination ts
destinations_same [] = refl
destinations_same (t ∷ ts) =
    ap (λ d. d ∷ map destination (map numberless_thread (map bare_thread (map timeless_thread ts)))) (destination_same t)
    ∙ ap (λ ds. destination t ∷ ds) (destinations_same ts)

pub reported_alike : (m : Machine) (w v : World) → AreAsGood w v → AreReportedAlike m w v
reported_alike m w v good = record {
  threads = sym (reports_same (map (λ d. d.id) m.threads) w.threads) ∙ ap (view m) good ∙ reports_same (map (λ d. d.id) m.threads) v.threads;
  sends = sym (destinations_same w.threads) ∙ ap destinations good ∙ destinations_same v.threads;
}
