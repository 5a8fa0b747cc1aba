-- The processors of a machine where nothing has happened.
use Rattle.std.specs.Prelude.{◌≡◌, ℕ, Some, None, List, [], length, map, slice_get}
use Rattle.l4_model.specs.Machine.{Machine}
use Rattle.l4_core_model.specs.Local.{opening_local}
use Rattle.l4_merge.specs.LocalTraces.{empty_past, Extends}
use Rattle.l4_mail.specs.Inner.Fabrics.{HaveRooms}
use Rattle.l4_mail.specs.Ports.{place, posted_to, taken_from, kept_from, AreOneFabric, IsApart}
use Rattle.l4_proc.specs.Logs.{events}
use Rattle.l4_proc.specs.declared.processor.Processor.{Processor}
use Rattle.l4_proc.specs.Working.{past, turns_of}
use Rattle.l4_proc.specs.declared.stops.Stop.TheVariants as stop

-- A processor that has done nothing, and that no letter has come to.
pub record IsOpening (m : Machine) (cpu : ℕ) (p : Processor) : Type 0 where
  pub machine : p.worker.core.machine ≡ m
  pub number : p.worker.core.cpu ≡ cpu
  pub worked : Extends m cpu (empty_past (opening_local m cpu)) (past p)
  pub local : p.worker.core.local ≡ opening_local m cpu
  pub events : events p.worker.log ≡ []
  pub posted : (to : ℕ) → posted_to p.port to ≡ []
  pub taken : (from : ℕ) → taken_from p.port from ≡ []
  pub kept : (from : ℕ) → kept_from p.port from ≡ []
  pub hand : p.worker.hand ≡ None
  pub turns : turns_of p ≡ 0
  pub stop : p.worker.stop ≡ stop.Used
  pub apart : IsApart (place p.port)

-- All of a machine, in the order of their numbers, with the ports of one fabric, whose rings have
-- room for `room` letters each.
pub record AreAssembled (room : ℕ) (m : Machine) (ps : List Processor) : Type 0 where
  pub count : length ps ≡ m.cpus
  pub rooms : (cpu : ℕ) (p : Processor) → slice_get ps cpu ≡ Some p →
      HaveRooms room (place p.port).outs
  pub each : (cpu : ℕ) (p : Processor) → slice_get ps cpu ≡ Some p → IsOpening m cpu p
  pub one : AreOneFabric (map (λ p. p.port) ps)
