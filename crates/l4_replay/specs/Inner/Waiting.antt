-- The undecided sends of a history.
use Rattle.std.specs.Prelude.{◌≡◌, ◌≤◌, ℕ, Option, List, filter_map, length}
use Rattle.std.specs.List.{AllByRecursion}
use Rattle.l4_model.specs.Words.{Id}
use Rattle.l4_model.specs.Steps.{Step}
use Rattle.l4_model.specs.World.{Name}
use Rattle.l4_model.specs.Laws.{begins_of}
use Rattle.l4_core_model.specs.Runs.{Event, told}
use Rattle.l4_replay.specs.Inner.Homes.{sent_waiting, IsNotBelow}
use Rattle.l4_replay.specs.declared.homes.LastSend.{LastSend}
use Rattle.l4_replay.specs.declared.waiting.Search.{Search}

-- What is sought: a begun send that is undecided, with its destination.
abbrev pub sought : Search → Step → Option (Name × Id)
sought s = sent_waiting s.machine.now s.at_home.now.sends.items

-- How many of these last sends are undecided.
abbrev pub count_undecided : List LastSend → ℕ
count_undecided sends = length (filter_map (λ send. send.to) sends)

-- What a search knows of the last sends.
abbrev pub IsSearch : Search → Type 0
IsSearch s = AllByRecursion (IsNotBelow s.least) s.at_home.now.sends.items ×
    (s.count ≡ count_undecided s.at_home.now.sends.items)

-- No send is begun twice.
abbrev pub AreBegunOnce : List Step → Type 0
AreBegunOnce h = (s : Name) → begins_of s h ≤ 1

-- How many steps of these events are what is sought.
abbrev pub count_sought : {A : Type 0} → (Step → Option A) → List Event → ℕ
count_sought f es = length (filter_map f (told es))
