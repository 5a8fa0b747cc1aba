-- The logs of all processors, by their numbers.
use Rattle.std.proofs.Common.{◌≡◌, ℕ, zero, suc, ◌+◌, ◌<◌, true, cond, Option, Some, None, List, [], ◌∷◌, ◌++◌, map, length, get_or, drop, refl, ap, sym, ◌∙◌, subst, arith}
use Rattle.std.specs.Prelude.{slice_get, ◌==◌}
use Rattle.std.specs.List.{flat_map}
use Rattle.std.proofs.lemmas.Option.{slice_get-get_or}
use Rattle.l4_model.specs.Machine.{Machine}
use Rattle.l4_merge.specs.LocalTraces.{all_events}
use Rattle.l4_proc.specs.Logs.{events}
use Rattle.l4_proc.specs.declared.log.Log.{Log}
use Rattle.l4_proc.specs.declared.processor.Processor.{Processor}
use Rattle.l4_machine.specs.Gathers.{with_number, events_of, past_of}

-- A search from some place on

pub from_place : (ps : List Processor) (place : ℕ) (d : Processor) → place < length ps → drop place ps ≡ get_or ps place d ∷ drop (place + 1) ps
from_place [] place d lt = absurd (omega arith)
from_place (p ∷ ps) zero d lt = refl
from_place (p ∷ ps) (suc place) d lt =
    let next : suc (place + 1) ≡ suc place + 1 = omega arith in
    from_place ps place d (omega arith) ∙ ap (λ n. get_or ps place d ∷ drop n (p ∷ ps)) next

-- The events of all

events_past : (m : Machine) (cpu : ℕ) (o : Option Processor) → (past_of m cpu o).events ≡ events_of o
events_past m cpu None = refl
events_past m cpu (Some p) = refl

pub all_events_are : (m : Machine) (ps : List Processor) (cpus : List ℕ) →
    all_events (map (λ cpu. past_of m cpu (with_number cpu ps)) cpus) ≡ flat_map (λ cpu. events_of (with_number cpu ps)) cpus
all_events_are m ps [] = refl
all_events_are m ps (cpu ∷ cpus) =
    ap (λ es. es ++ all_events (map (λ cpu. past_of m cpu (with_number cpu ps)) cpus)) (events_past m cpu (with_number cpu ps))
    ∙ ap (λ es. events_of (with_number cpu ps) ++ es) (all_events_are m ps cpus)

-- A processor that is found

pub found_here : (cpu : ℕ) (ps : List Processor) (place : ℕ) (p : Processor) → place < length ps → p ≡ get_or ps place p → (p.worker.core.cpu == cpu) ≡ true →
    with_number cpu ps ≡ with_number cpu (drop place ps) → slice_get ps place ≡ with_number cpu ps
found_here cpu ps place p lt is same from =
    let here : (get_or ps place p).worker.core.cpu == cpu ≡ true = subst (λ (q : Processor). (q.worker.core.cpu == cpu) ≡ true) is same in
    slice_get-get_or ps place p lt
    ∙ sym (from ∙ ap (with_number cpu) (from_place ps place p lt)
    ∙ ap (λ b. cond b (Some (get_or ps place p)) (with_number cpu (drop (place + 1) ps))) here)

-- The log of the processor at a place.
pub log_at : (ps : List Processor) (place : ℕ) (p : Processor) (log : Log) → place < length ps → p ≡ get_or ps place p → log ≡ p.worker.log →
    events_of (slice_get ps place) ≡ events log
log_at ps place p log lt is same =
    ap events_of (slice_get-get_or ps place p lt) ∙ ap (λ (q : Processor). events q.worker.log) (sym is) ∙ ap events (sym same)
