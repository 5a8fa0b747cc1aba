-- What a thread is about, as a phase of the machine.
use Rattle.std.specs.Prelude.{ℕ, Option, Some, None}
use Rattle.l4_model.specs.World as world
use Rattle.l4_thread.specs.declared.phases.Phase.{Phase}
use Rattle.l4_thread.specs.declared.phases.Phase.TheVariants.{Ready, Sending, Receiving, Ordering, Ended, Deleted}

abbrev pub phase_of : Phase → world.Phase
phase_of Ready = world.Ready
phase_of Sending = world.Sending
phase_of (Receiving receive since) = world.Receiving receive since
phase_of Ordering = world.Ordering
phase_of Ended = world.Ended
phase_of Deleted = world.Deleted

-- The clock at which the receive phase began that a thread is in.
abbrev pub since_of : world.Phase → Option ℕ
since_of (world.Receiving receive since) = Some since
since_of _ = None
