-- What happened to all processors, from what each of them knows of it.
use Rattle.std.specs.Prelude.{ℕ, ◌≡◌, Some, List, [], ◌∷◌, drop, map, slice_index_or}
use Rattle.l4_model.specs.Machine.{Machine}
use Rattle.l4_model.specs.World.{changed}
use Rattle.l4_core_model.specs.Runs.{Action, Run, core_run, opening_run, merged}
use Rattle.l4_merge.specs.LocalTraces.{LocalTrace, all_events}

-- What happened first to a processor happens before others.
abbrev pub then_others : (first others : List Action) → List Action
then_others [] others = others
then_others (h ∷ hs) others = h ∷ others

-- What happened, in an order that names the processor of each event. To one processor it happened
-- in the order of its own list.
abbrev pub actions_in : (order : List ℕ) → (each : List (List Action)) → List Action
actions_in [] each = []
actions_in (cpu ∷ cpus) each = then_others (slice_index_or each cpu [])
    (actions_in cpus (changed (drop 1) each cpu))

-- The processors of the events of all logs, in order of stamp, and of equal ones by processor.
abbrev pub merged_order : List LocalTrace → List ℕ
merged_order pasts = map (λ e. e.cpu) (merged (all_events pasts))

-- What happened to all of them, in that order.
abbrev pub recorded : List LocalTrace → List Action
recorded pasts = actions_in (merged_order pasts) (map (λ past. past.actions) pasts)

-- A run from the opening on in which just that happened.
abbrev pub IsRecorded : Machine → List LocalTrace → Run → Type 0
IsRecorded m pasts r = core_run m (opening_run m) (recorded pasts) ≡ Some r
