-- The ends of events, and the events between them.
use Rattle.std.specs.Prelude.{ℕ, zero, suc, ◌==◌, ◌&&◌, Bool, nat_le, List, [], ◌∷◌, take, drop}
use Rattle.l4_model.specs.Steps.{Step}
use Rattle.l4_core_model.specs.Runs.{Event}
use Rattle.l4_proc.specs.declared.end_rows.End.{End}

-- The events that end at these places. The first begins at `start`.
abbrev pub events_between : (cpu start : ℕ) → List End → List Step → List Event
events_between cpu start [] steps = []
events_between cpu start (end ∷ ends) steps =
    record { cpu = cpu; stamp = end.stamp; steps = drop start (take end.place steps) } ∷
    events_between cpu end.place ends steps

-- The places of these ends are in order, from `first` to `last`.
abbrev pub are_ends : (first : ℕ) → List End → (last : ℕ) → Bool
are_ends first [] last = first == last
are_ends first (end ∷ ends) last = nat_le first end.place && are_ends end.place ends last

-- Where the i-th of the events with these ends begins, counted from 0. The first begins at `first`.
abbrev pub start_of : (first : ℕ) → List End → (i : ℕ) → ℕ
start_of first ends zero = first
start_of first [] (suc i) = first
start_of first (end ∷ ends) (suc i) = start_of end.place ends i
