-- The logs of all processors of a machine, in which stamps rise.
use Rattle.std.specs.Prelude.{◌≡◌, ℕ, ◌+◌, ◌<◌, List, [], ◌∷◌, map}
use Rattle.std.specs.Coded.{×_prop, Unit-prop, le_prop}
use Rattle.std.specs.List.{AllByRecursion, AllByRecursion-prop, range_with_len}
use Rattle.std.proofs.Math.Nat.{ℕ_set}
use Rattle.l4_model.specs.Machine.{Machine}
use Rattle.l4_core_model.specs.Runs.{Event}
use Rattle.l4_proc.specs.declared.processor.Processor.{Processor}
use Rattle.l4_machine.specs.Gathers.{events_of, with_number}

-- Events of one processor, each with a higher stamp than those before it.
abbrev pub AreRising : (cpu : ℕ) → List Event → Type 0
AreRising cpu [] = Unit {0}
AreRising cpu (e ∷ es) = (e.cpu ≡ cpu) × (AllByRecursion (λ x. e.stamp < x.stamp) es ×
    AreRising cpu es)

-- The events of the processors from this one on, in order of their numbers. Stamps rise in each
-- log.
abbrev pub RiseFrom : (cpu : ℕ) → List (List Event) → Type 0
RiseFrom cpu [] = Unit {0}
RiseFrom cpu (es ∷ rest) = AreRising cpu es × RiseFrom (cpu + 1) rest

-- The events of all processors of a machine.
abbrev pub HaveRisingLogs : Machine → List Processor → Type 0
HaveRisingLogs m ps = RiseFrom 0 (map (λ cpu.
    events_of (with_number cpu ps)) (range_with_len 0 m.cpus))

-- These are facts.

AreRising-prop : (cpu : ℕ) (es : List Event) → IsProp (AreRising cpu es)
AreRising-prop cpu [] = Unit-prop
AreRising-prop cpu (e ∷ es) = ×_prop (ℕ_set e.cpu cpu)
    (×_prop (AllByRecursion-prop (λ (x : Event). e.stamp < x.stamp) (λ x. le_prop) es)
    (AreRising-prop cpu es))

RiseFrom-prop : (cpu : ℕ) (ls : List (List Event)) → IsProp (RiseFrom cpu ls)
RiseFrom-prop cpu [] = Unit-prop
RiseFrom-prop cpu (es ∷ ls) = ×_prop (AreRising-prop cpu es) (RiseFrom-prop (cpu + 1) ls)

pub HaveRisingLogs-prop : (m : Machine) (ps : List Processor) → IsProp (HaveRisingLogs m ps)
HaveRisingLogs-prop m ps = RiseFrom-prop 0 (map (λ cpu.
    events_of (with_number cpu ps)) (range_with_len 0 m.cpus))
