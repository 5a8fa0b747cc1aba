-- What does a processor's work, with the port that is its own, and what the two have done so far.
use Rattle.std.specs.Prelude.{◌≡◌, ◌≢◌, ℕ, ◌-◌, ◌<◌, ◌++◌, [], Bool, true, is_some, slice_index_or, Option, Some, None, List, length, take}
use Rattle.l4_merge.specs.LocalTraces.{LocalTrace}
use Rattle.l4_core_model.specs.Letters.{Letter}
use Rattle.l4_core.specs.Processor.{Processor}
use Rattle.l4_mail.specs.Ports.{posted_to, taken_from, fabric_size, only, place}
use Rattle.l4_mail.specs.declared.ports.Port.{Port}
use Rattle.l4_proc.specs.Logs.{events, actions, IsClosed}
use Rattle.l4_proc.specs.declared.worker.Worker.{Worker}

-- The letter in hand, if it came from this processor.
abbrev pub hand_from : Option (ℕ × Letter) → (from : ℕ) → List Letter
hand_from None from = []
hand_from (Some p) from = only from p.0 p.1

-- The letters of a processor that were handled: those taken, but for the one in hand.
abbrev pub handled_from : Port → Option (ℕ × Letter) → (from : ℕ) → List Letter
handled_from port hand from = take (length (taken_from port from) - length (hand_from hand from))
    (taken_from port from)

-- What a processor with this port has done so far.
abbrev pub past_with : Port → Worker → LocalTrace
past_with port w = record {
  events = events w.log;
  actions = actions w.log;
  posted = λ to. posted_to port to;
  handled = λ from. handled_from port w.hand from;
  local = w.core.local;
}

-- Whether the port has a way to a processor.
abbrev pub has_way : Port → (to : ℕ) → Bool
has_way port to = is_some (slice_index_or (place port).outs to None)

-- The port is that of the processor, with a way to each other one.
pub record IsPortOf (port : Port) (core : Processor) : Type 0 where
  pub number : port.cpu ≡ core.cpu
  pub size : fabric_size port ≡ core.machine.cpus
  pub ways : (to : ℕ) → to < core.machine.cpus → to ≢ core.cpu → has_way port to ≡ true

-- The port has carried no letter.
pub record IsFreshPort (port : Port) : Type 0 where
  pub posted : (to : ℕ) → posted_to port to ≡ []
  pub taken : (from : ℕ) → taken_from port from ≡ []

-- The letter in hand is the last that was taken.
abbrev pub IsInHand : Port → Option (ℕ × Letter) → Type 0
IsInHand port hand = (from : ℕ) → taken_from port from ≡ handled_from port hand from ++
    hand_from hand from

-- A processor that is put together.
pub record IsWhole (port : Port) (w : Worker) : Type 0 where
  pub port_of : IsPortOf port w.core
  pub log_of : w.log.cpu ≡ w.core.cpu
  pub closed : IsClosed w.log
  pub hand : IsInHand port w.hand
