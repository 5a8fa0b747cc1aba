-- Waiting sends by their entries and by their blocks alone.
use Rattle.std.proofs.Common.{◌≡◌, ℕ, List, [], ◌∷◌, map, filter, refl}
use Rattle.std.specs.Prelude.{◌==◌, not}
use Rattle.std.specs.List.{list_any}
use Rattle.l4_model.specs.World.{is_queued}
use Rattle.l4_core_model.specs.Plain as plain
use Rattle.l4_core_model.proofs.Changed.{blocks, filter-blocks}

any-map : (i : ℕ) (es : List plain.Waiting) → list_any (λ x. i == x) (blocks es) ≡ list_any (λ (e : plain.Waiting). i == e.block) es
any-map i [] = refl
any-map i (e ∷ es) =
    let tail = any-map i es in
    rw tail

pub queued_same : (i : ℕ) (ess : List (List plain.Waiting)) → is_queued (map blocks ess) i ≡ list_any (list_any (λ (e : plain.Waiting). i == e.block)) ess
queued_same i [] = refl
queued_same i (es ∷ ess) =
    let head = any-map i es in
    let tail = queued_same i ess in
    rw (head, tail)

pub unqueued_same : (i : ℕ) (ess : List (List plain.Waiting)) → map (filter (λ x. not (i == x))) (map blocks ess) ≡ map blocks (map (filter (λ e. not (i == e.block))) ess)
unqueued_same i [] = refl
unqueued_same i (es ∷ ess) =
    let head = filter-blocks (λ x. not (i == x)) es in
    let tail = unqueued_same i ess in
    cc
