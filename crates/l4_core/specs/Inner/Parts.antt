-- What a processor is made of, and what is kept of it.
use Rattle.std.specs.Prelude.{◌≡◌, ℕ, ◌<◌, ◌≤◌, if◌then◌else◌, Option, None, List, map, length}
use Rattle.std.specs.Option.{option_map}
use Rattle.l4_model.specs.Words.{GlobalId}
use Rattle.l4_model.specs.Machine.{Machine, most_threads}
use Rattle.l4_model.specs.World as world
use Rattle.l4_model.specs.World.{Thread}
use Rattle.l4_model.specs.Effects.{receives}
use Rattle.l4_core_model.specs.Plain.{Plain}
use Rattle.l4_core_model.specs.Local.{Local}
use Rattle.l4_core_model.specs.Runs.{IsMachine}
use Rattle.l4_thread.specs.Inner.Messages.{outgoing}
use Rattle.l4_thread.specs.Inner.Parts.{Block}
use Rattle.l4_types.specs.declared.owed.Owed.{Owed}
use Rattle.l4_types.specs.Inner.OwedView.{owed_of}
use Rattle.l4_core.specs.Processor.{Processor}
use Rattle.l4_core.specs.Inner.Settled.{IsSettled}

abbrev pub threads_of : List Block → List Thread
threads_of blocks = map (λ b. b.thread) blocks

abbrev pub ids_of : List Block → List GlobalId
ids_of blocks = map (λ b. b.id) blocks

-- The retarget that is kept beside each thread, if any. A machine of profile 1 keeps none, and has
-- no place for it.
abbrev pub kept_of : Machine → List (Option Owed) → List (Option world.Owed)
kept_of m owed = if m.retargeting then map (option_map owed_of) owed else map (λ d. None) m.threads

-- A local state of these parts. `told` has for each thread the first processor that may not yet
-- know of its deletion, `owed` the retarget that is kept beside it.
abbrev pub local_of : List Block → Plain → (told : List ℕ) → (owed : List (Option world.Owed)) →
    (clock stamp : ℕ) → Local
local_of blocks lists told owed clock stamp =
    record {
      threads = threads_of blocks;
      lists = lists;
      told = told;
      owed = owed;
      clock = clock;
      stamp = stamp;
    }

-- What the message of one block makes of another block, which receives it with this tag.
abbrev pub passed : (tag : ℕ) → (sender receiver : Block) → Block
passed tag sender receiver = record receiver {
  thread =
      receives (outgoing sender.id sender.thread) tag receiver.thread;
}

-- A processor of a machine, in a settled state.
pub record IsCore (m : Machine) (cpu : ℕ) (l : Local) : Type 0 where
  pub machine : IsMachine m
  pub processor : cpu < m.cpus
  pub few : length m.threads ≤ most_threads
  pub settled : IsSettled m cpu l

abbrev pub AreCore : Processor → Type 0
AreCore p = IsCore p.machine p.cpu p.local

-- The parts of a processor in a settled state. Each block has the id of its thread.
pub record IsKept (m : Machine) (cpu : ℕ) (blocks : List Block) (lists : Plain) (told : List ℕ)
    (owed : List (Option world.Owed)) (clock stamp : ℕ) : Type 0 where
  pub core : IsCore m cpu (local_of blocks lists told owed clock stamp)
  pub ids : ids_of blocks ≡ map (λ d. d.id) m.threads
