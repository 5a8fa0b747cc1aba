-- The processors of a machine in one hand, in any order, and what they come to together.
use Rattle.std.specs.Prelude.{◌≡◌, ℕ, ◌==◌, ◌<◌, true, Option, Some, None, is_some, List, [], map, find, slice_get}
use Rattle.std.specs.List.Sorted.{IsPermutation}
use Rattle.l4_model.specs.Machine.{Machine}
use Rattle.l4_model.specs.Steps.{Step}
use Rattle.l4_core_model.specs.Local.{opening_local}
use Rattle.l4_core_model.specs.Runs.{Event, processors, merged, told}
use Rattle.l4_merge.specs.LocalTraces.{LocalTrace, empty_past, Extends, all_events}
use Rattle.l4_merge.specs.Merges.{is_at_rest, SortAsMerged}
use Rattle.l4_mail.specs.Ports.{place, AreOneFabric, IsApart}
use Rattle.l4_core.specs.Processor.{Processor as Core}
use Rattle.l4_proc.specs.Logs.{events}
use Rattle.l4_proc.specs.Rests.{HaveHandledAll}
use Rattle.l4_proc.specs.Working.{past}
use Rattle.l4_proc.specs.declared.processor.Processor.{Processor}

-- The processor of this number among these.
abbrev pub with_number : (cpu : ℕ) → List Processor → Option Processor
with_number cpu ps = find (λ p. p.worker.core.cpu == cpu) ps

abbrev pub core_of : Processor → Core
core_of p = p.worker.core

-- The events of the processor of this number.
abbrev pub events_of : Option Processor → List Event
events_of None = []
events_of (Some p) = events p.worker.log

-- What the processor of this number has done.
abbrev pub past_of : Machine → (cpu : ℕ) → Option Processor → LocalTrace
past_of m cpu None = empty_past (opening_local m cpu)
past_of m cpu (Some p) = past p

-- What each has done, in the order of their numbers.
abbrev pub pasts_of : Machine → List Processor → List LocalTrace
pasts_of m ps = map (λ cpu. past_of m cpu (with_number cpu ps)) (processors m)

-- A processor of a machine that has done all its work by itself.
pub record IsOneOf (m : Machine) (p : Processor) : Type 0 where
  pub machine : p.worker.core.machine ≡ m
  pub number : p.worker.core.cpu < m.cpus
  pub apart : IsApart (place p.port)
  pub worked : Extends m p.worker.core.cpu (empty_past
      (opening_local m p.worker.core.cpu)) (past p)

-- Processors of one assembly of a machine, in any order.
pub record AreOfOne (m : Machine) (ps : List Processor) : Type 0 where
  pub each : (i : ℕ) (p : Processor) → slice_get ps i ≡ Some p → IsOneOf m p
  pub one : AreOneFabric (map (λ p. p.port) ps)

-- There is a processor of each number below this.
abbrev pub HaveNumbers : (below : ℕ) → List Processor → Type 0
HaveNumbers below ps = (cpu : ℕ) → cpu < below → is_some (with_number cpu ps) ≡ true

-- A history of the events of all processors in order of stamp and processor, however the events are
-- listed.
abbrev pub IsMerge : Machine → List Processor → List Step → Type 0
IsMerge m ps steps = (es : List Event) → SortAsMerged es →
    IsPermutation es (all_events (pasts_of m ps)) → steps ≡ told (merged es)

-- The steps of all events, in order of stamp and processor.
abbrev pub merged_steps : Machine → List Processor → List Step
merged_steps m ps = told (merged (all_events (pasts_of m ps)))

-- Nothing is to be done, armed or under way.
pub record AreResting (ps : List Processor) : Type 0 where
  pub each : (i : ℕ) (p : Processor) → slice_get ps i ≡ Some p →
      is_at_rest p.worker.core.machine p.worker.core.cpu p.worker.core.local ≡ true
  pub handled : HaveHandledAll ps
