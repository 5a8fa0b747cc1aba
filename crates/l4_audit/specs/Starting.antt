-- When a thread can begin the first phase of its Ipc.
use Rattle.std.specs.Prelude.{ℕ, ◌≡◌, ◌+◌, ◌^◌, ◌<◌, ◌&&◌, Bool, true, false, IsSomeAnd, slice_get, slice_index_or, map}
use Rattle.l4_model.specs.Words.{GlobalId, global_id}
use Rattle.l4_model.specs.Machine.{Machine, Declaration, Instr}
use Rattle.l4_model.specs.World.{Thread, World, change}
use Rattle.l4_model.specs.Rules.{act}
use Rattle.l4_thread.specs.Inner.Ipcs.{may_show, starts}
use Rattle.l4_thread.specs.Inner.Requests.{asks_to_send, is_end, propagates}
use Rattle.l4_audit.specs.Inner.Audited.{Audited}

abbrev pub starts_at : Machine → (id : GlobalId) → (now : ℕ) → Instr → Thread → Thread
starts_at m id now i t = starts (act m id now t.context i) now t

-- There is room for the thread's next place and next send. `permitted` is whether it asks to show
-- its originator, and may.
pub record IsStarting (m : Machine) (id : GlobalId) (i : Instr) (permitted : Bool) (t : Thread) :
    Type 0 where
  pub room : is_end i ≡ false → t.context.place + 1 < 2 ^ 64
  pub count : asks_to_send t.context i ≡ true → t.context.begun + 1 < 2 ^ 64
  pub shows : permitted ≡ (propagates t.context && may_show m id t.context.actual)

-- The id of the thread at a place. Past the end it is 0.1, nobody's.
abbrev pub id_at : Machine → ℕ → GlobalId
id_at m place = slice_index_or (map (λ (d : Declaration). d.id) m.threads) place (global_id 0 1)

abbrev pub CanStart : Audited → (place : ℕ) → Instr → (permitted : Bool) → Type 0
CanStart a place i permitted = IsSomeAnd (slice_get a.world.threads place)
    (IsStarting a.machine (id_at a.machine place) i permitted)

abbrev pub starting : Audited → (place now : ℕ) → Instr → World
starting a place now i = change a.world place (starts_at a.machine (id_at a.machine place) now i)
