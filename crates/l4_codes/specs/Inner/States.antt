-- What of a thread a code has besides its registers and its place.
use Rattle.std.specs.Prelude.{ℕ, List}
use Rattle.l4_model.specs.World.{Thread}
use Rattle.l4_states.specs.Inner.Codes.{asked_code, flag_code, optional, phase_code, send_code}
use Rattle.l4_types.specs.declared.reports.State.{State}
use Rattle.l4_types.specs.declared.reports.State.TheVariants.{Ready, Sending, Receiving, Ordering, Ended, Deleted}

-- The number that stands for its phase.
abbrev pub state_number : State → ℕ
state_number Ready = 0
state_number Sending = 1
state_number Receiving = 2
state_number Ordering = 3
state_number Ended = 4
state_number Deleted = 5

-- Its phase, its send, its order and its wishes: `thread_code` behind the code of its context.
abbrev pub standing_code : Thread → List ℕ → List ℕ
standing_code t rest =
    phase_code t.phase (optional send_code t.send
    (optional asked_code t.order (flag_code t.cancel_send (flag_code t.cancel_receive rest))))
