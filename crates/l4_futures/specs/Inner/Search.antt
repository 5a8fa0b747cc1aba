-- What a search of all worlds knows of a machine: states, choices, and which ends are near.
use Rattle.std.specs.Prelude.{ℕ, ◌≡◌, true, Option, Some, List, map, filter_map}
use Rattle.std.specs.Option.{option_map}
use Rattle.l4_model.specs.Machine.{Machine}
use Rattle.l4_model.specs.World.{World}
use Rattle.l4_model.specs.Steps.{Step}
use Rattle.l4_explore.specs.Tries.{State, Next}
use Rattle.l4_explore.specs.Search.{Seen}
use Rattle.l4_states.specs.Inner.Bytes.{bytes_of}
pub use Rattle.l4_states.specs.Endings.{ends_of}
use Rattle.l4_futures.specs.Inner.Codes.{code_of}
use Rattle.l4_futures.specs.Choices.{Choice, tried, after_entry, world_after}
use Rattle.l4_futures.specs.Inner.Ends.{is_end, EndsIn}
use Rattle.l4_futures.specs.Traces.{trace_along}

abbrev pub state_in : Machine → World → State
state_in m w = record { code = bytes_of (code_of m w); is_end = is_end m w }

abbrev pub state_after : Machine → List ℕ → Option State
state_after m entries = option_map (state_in m) (world_after m entries)

-- What a search goes on by from a world: the choices that are tried there, each with the state that
-- it leads to.

abbrev pub next_by : Machine → World → Choice → Option Next
next_by m w c =
    option_map (λ v. record { entry = c.entry; state = state_in m v }) (after_entry m w c.entry)

abbrev pub nexts : Machine → World → List Next
nexts m w = filter_map (next_by m w) (tried m w)

-- The schedule of a found state leads to a world of that state, and the choices are those that are
-- tried there.
pub record AreTried (m : Machine) (before : List Seen) (seen : Seen)
    (choices : List Next) : Type 0 where
  pub world : World
  pub leads : world_after m seen.schedule ≡ Some world
  pub is : state_in m world ≡ seen.state
  pub are : choices ≡ nexts m world

-- From a world of this state so many more steps may lead to this end.
pub record MayEnd (m : Machine) (state : State) (more : ℕ) (end : State) : Type 0 where
  pub entries : List ℕ
  pub world : World
  pub leads : world_after m entries ≡ Some world
  pub is : state_in m world ≡ state
  pub code : List ℕ
  pub ends : EndsIn m world more code
  pub coded : end.code ≡ bytes_of code
  pub is_end : end.is_end ≡ true

-- The histories of what was found, and of the ends among it.

abbrev pub schedules_of : List Seen → List (List ℕ)
schedules_of found = map (λ s. s.schedule) found

abbrev pub traces_of : Machine → List Seen → List (List Step)
traces_of m found = map (trace_along m) (schedules_of found)

abbrev pub end_traces_of : Machine → List Seen → List (List Step)
end_traces_of m found = map (trace_along m) (ends_of found)
