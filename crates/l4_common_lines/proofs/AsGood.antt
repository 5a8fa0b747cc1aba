-- Worlds as good as each other have in common what is told of threads.
use Rattle.std.proofs.Common.{◌≡◌, ◌⊎◌, inl, inr, ℕ, zero, suc, List, [], ◌∷◌, map, refl, ap, sym, ◌∙◌}
use Rattle.std.specs.Prelude.{slice_index_or}
use Rattle.std.specs.Option.{option_map}
use Rattle.l4_model.specs.Words.{GlobalId}
use Rattle.l4_model.specs.Machine.{Machine}
use Rattle.l4_model.specs.World.{Phase, Ready, Sending, Receiving, Ordering, Ended, Deleted, Thread, World, opening_thread}
use Rattle.l4_model.specs.History.{report_of}
use Rattle.l4_worlds.specs.Timeless.{timeless_phase, timeless_send, timeless_thread}
use Rattle.l4_worlds.specs.Numberless.{numberless_thread}
use Rattle.l4_worlds.specs.Bare.{AreAsGood, bare_thread}
use Rattle.l4_bisimilar.specs.InCommon.{AreDeleted, AreToldAlike, HaveInCommon, thread_at}

-- What is left of a thread without time, numbers and, where it is deleted, registers.

abbrev left : Thread → Thread
left t = numberless_thread (bare_thread (timeless_thread t))

phase_left : (t : Thread) → (left t).phase ≡ timeless_phase t.phase
phase_left t = by t.phase
  where
    by : (p : Phase) → (left (record t { phase = p })).phase ≡ timeless_phase p
    by Ready = refl
    by Sending = refl
    by (Receiving receive since) = refl
    by Ordering = refl
    by Ended = refl
    by Deleted = refl

send_left : (t : Thread) → (left t).send ≡ option_map timeless_send t.send
send_left t = by t.phase
  where
    by : (p : Phase) → (left (record t { phase = p })).send ≡ option_map timeless_send t.send
    by Ready = refl
    by Sending = refl
    by (Receiving receive since) = refl
    by Ordering = refl
    by Ended = refl
    by Deleted = refl

told_left : (t : Thread) →
    (t.phase ≡ Deleted) ⊎ ((id : GlobalId) → report_of id (left t) ≡ report_of id t)
told_left t = by t.phase
  where
    by : (p : Phase) → (p ≡ Deleted) ⊎ ((id : GlobalId) →
        report_of id (left (record t { phase = p })) ≡ report_of id (record t { phase = p }))
    by Ready = inr (λ id. refl)
    by Sending = inr (λ id. refl)
    by (Receiving receive since) = inr (λ id. refl)
    by Ordering = inr (λ id. refl)
    by Ended = inr (λ id. refl)
    by Deleted = inl refl

is_deleted : (p : Phase) → timeless_phase p ≡ Deleted → p ≡ Deleted
is_deleted Ready is = cc
is_deleted Sending is = cc
is_deleted (Receiving receive since) is = cc
is_deleted Ordering is = cc
is_deleted Ended is = cc
is_deleted Deleted is = refl

deleted_too : (t u : Thread) → left t ≡ left u → t.phase ≡ Deleted → u.phase ≡ Deleted
deleted_too t u same is =
    is_deleted u.phase
    (sym (phase_left u) ∙ sym (ap (λ (x : Thread). x.phase) same) ∙ phase_left t
    ∙ ap timeless_phase is)

told_alike : (t u : Thread) → left t ≡ left u → AreToldAlike t u
told_alike t u same = record {
  report = by (told_left t) (told_left u);
  send = sym (send_left t) ∙ ap (λ (x : Thread). x.send) same ∙ send_left u;
}
  where
    by : (t.phase ≡ Deleted) ⊎ ((id : GlobalId) → report_of id (left t) ≡ report_of id t) →
        (u.phase ≡ Deleted) ⊎ ((id : GlobalId) → report_of id (left u) ≡ report_of id u) →
        ((id : GlobalId) → report_of id t ≡ report_of id u) ⊎ AreDeleted t u
    by (inl gone) other = inr (gone, deleted_too t u same gone)
    by (inr one) (inl gone) = inr (deleted_too u t (sym same) gone, gone)
    by (inr one) (inr other) = inl (λ id. sym (one id) ∙ ap (report_of id) same ∙ other id)

-- Thread by thread

abbrev all_left : List Thread → List Thread
all_left ts = map numberless_thread (map bare_thread (map timeless_thread ts))

left_alike : (ts us : List Thread) → all_left ts ≡ all_left us → (i : ℕ) →
    left (slice_index_or ts i opening_thread) ≡ left (slice_index_or us i opening_thread)
left_alike [] [] e i = refl
left_alike [] (u ∷ us) e i = cc
left_alike (t ∷ ts) [] e i = cc
left_alike (t ∷ ts) (u ∷ us) e zero = cc
left_alike (t ∷ ts) (u ∷ us) e (suc i) =
    let others : all_left ts ≡ all_left us = cc in left_alike ts us others i

pub in_common : (m : Machine) (w v : World) → AreAsGood w v → HaveInCommon m w v
in_common m w v good place inside =
    told_alike (thread_at w place) (thread_at v place)
    (left_alike w.threads v.threads (ap (λ (x : World). x.threads) good) place)
